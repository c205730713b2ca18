-- Demand 1 of the outside boundary, where a code crosses as a run of bytes: what is wrong with the run comes before the core's reasons.
--   NoCode run                 the run is not as long as a code: 36 bytes
--   run_words run               the reason of a call with a code run
--   run_total run t             those of a call with a code run and a stripe total t: of two faults the smaller number is told
--   Crosses own ons ..         demand 1 of a call: the run's own reasons, with their numbers ons, then the core's;
--                              and what it leaves in its output
--   outside_help c h f s o      the core's reasons of a helper whose symbol goes into the output o
--   Demand1-out-judge, Demand1-out-encode, Demand1-out-help, Demand1-out-rebuild, Demand1-out-collect, Demand1-out-batch, Demand1-out-file,
--   Demand1-out-cut            demand 1 of each call with a code run
-- Assumes nothing.
use Rattle.std.specs.Prelude.{◌≡◌, ◌⊎◌, ◌≢◌, List, [], ◌∷◌, ◌++◌, ℕ, ◌*◌, ◌≤◌, length}
use Rattle.codes.specs.Told.{Told}
use Rattle.codes.specs.Body.{code_at}
use Rattle.codes.specs.Rules.{Sized}
use Rattle.codes.specs.Sizes.{alpha}
use Rattle.codes.specs.Share.{share, symbol_for}
use Rattle.codes.specs.Rebuild.{rebuilt}
use Rattle.codes.specs.Collect.{collected}
use Rattle.codes.specs.declared.Code.{Code}
use Rattle.shares.specs.Fields.{code_record, node_record, stripe_at}
use Rattle.shares.specs.Afresh.{afresh}
use Rattle.batches.specs.Batch.{count_at, stripe_named, rebuilt_record}
use Rattle.batches.specs.Whole.{records_from}
use Rattle.demands.specs.Words.{Word, ◌because◌}
use Rattle.demands.specs.Inputs.{LengthsOff, Outside, Common}
use Rattle.demands.specs.Judge.{code_words, judge_words}
use Rattle.demands.specs.Answer.{Tells, Leaves}
use Rattle.demands.specs.Stripes.{encode_words, rebuild_words, collect_words}
use Rattle.demands.specs.Files.{TotalOff, cut_words}
use Rattle.demands.specs.Batches.{fault_words, turns_from}

abbrev pub NoCode : List ℕ → Type 0
NoCode run = length run ≢ 36

abbrev pub run_words : List ℕ → List Word
run_words run = (5 because NoCode run) ∷ []

abbrev pub run_total : List ℕ → ℕ → List Word
run_total run t = (3 because (NoCode run × TotalOff t)) ∷ (5 because NoCode run) ∷ []

pub record Crosses (own : List Word) (ons : List ℕ) (c : Code) (ws : List Word) (ns : List ℕ) (Val : ℕ → Type 0) (before whole : List ℕ)
    (t : Told) (after : List ℕ) : Type 0 where
  pub answer : Tells c (own ++ ws) (ons ++ ns) Val t
  pub output : Leaves t.number before whole after

-- ---- a code run alone

abbrev pub Demand1-out-judge : (List ℕ → Told) → Type 0
Demand1-out-judge tells = (run : List ℕ) → Tells (code_at run 0) (run_words run ++ judge_words (code_at run 0)) (5 ∷ 2 ∷ 3 ∷ 4 ∷ []) (λ x. x ≡ 0) (tells run)

abbrev pub Demand1-out-encode : (List ℕ → ℕ → List ℕ → List ℕ → Told) → (List ℕ → ℕ → List ℕ → List ℕ → List ℕ) → Type 0
Demand1-out-encode tells leaves =
    (run : List ℕ) (v : ℕ) (m o : List ℕ)
    → Crosses (run_words run) (5 ∷ []) (code_at run 0)
    (judge_words (code_at run 0) ++ encode_words (code_at run 0) v m o)
    (2 ∷ 3 ∷ 4 ∷ 5 ∷ 6 ∷ []) (λ x. x ≡ 0)
    o (share (code_at run 0) v m) (tells run v m o) (leaves run v m o)

abbrev pub outside_help : Code → ℕ → ℕ → List ℕ → List ℕ → List Word
outside_help c h f s o =
    (5 because LengthsOff ((length o, 1) ∷ (length s, alpha c) ∷ []))
    ∷ (6 because (Outside c h ⊎ Outside c f))
    ∷ (7 because (h ≡ f))
    ∷ []

abbrev pub Demand1-out-help : (List ℕ → ℕ → ℕ → List ℕ → List ℕ → Told) → (List ℕ → ℕ → ℕ → List ℕ → List ℕ → List ℕ) → Type 0
Demand1-out-help tells leaves =
    (run : List ℕ) (h f : ℕ) (s o : List ℕ)
    → Crosses (run_words run) (5 ∷ []) (code_at run 0)
    (judge_words (code_at run 0) ++ outside_help (code_at run 0) h f s o)
    (2 ∷ 3 ∷ 4 ∷ 5 ∷ 6 ∷ 7 ∷ []) (λ x. x ≡ 0)
    o ((symbol_for (code_at run 0) f s).val ∷ []) (tells run h f s o) (leaves run h f s o)

abbrev pub Demand1-out-rebuild : (List ℕ → ℕ → List ℕ → List ℕ → List ℕ → List ℕ → Told)
    → (List ℕ → ℕ → List ℕ → List ℕ → List ℕ → List ℕ → List ℕ) → Type 0
Demand1-out-rebuild tells leaves =
    (run : List ℕ) (f : ℕ) (hs ys ns o : List ℕ)
    → Crosses (run_words run) (5 ∷ []) (code_at run 0)
    (judge_words (code_at run 0) ++ rebuild_words (code_at run 0) f hs ys ns o)
    (2 ∷ 3 ∷ 4 ∷ 5 ∷ 6 ∷ 7 ∷ 8 ∷ []) (Common ns)
    o (rebuilt (code_at run 0) f hs ys) (tells run f hs ys ns o) (leaves run f hs ys ns o)

abbrev pub Demand1-out-collect : (List ℕ → List ℕ → List ℕ → List ℕ → List ℕ → Told) → (List ℕ → List ℕ → List ℕ → List ℕ → List ℕ → List ℕ) → Type 0
Demand1-out-collect tells leaves =
    (run vs ns s o : List ℕ)
    → Crosses (run_words run) (5 ∷ []) (code_at run 0)
    (judge_words (code_at run 0) ++ collect_words (code_at run 0) vs ns s o)
    (2 ∷ 3 ∷ 4 ∷ 5 ∷ 6 ∷ 7 ∷ 8 ∷ []) (Common ns)
    o (collected (code_at run 0) vs s) (tells run vs ns s o) (leaves run vs ns s o)

abbrev pub Demand1-out-batch : (List ℕ → ℕ → List ℕ → List ℕ → Told) → (List ℕ → ℕ → List ℕ → List ℕ → List ℕ) → Type 0
Demand1-out-batch tells leaves =
    (run : List ℕ) (a : ℕ) (b o : List ℕ)
    → Crosses (run_words run) (5 ∷ []) (code_at run 0)
    (judge_words (code_at run 0)
    ++ ((5 because LengthsOff ((length b, (code_at run 0).d * 10) ∷ (length o, 34) ∷ [])) ∷ fault_words (code_at run 0) a b ⊥ (1024 ≤ stripe_named b 0)))
    (2 ∷ 3 ∷ 4 ∷ 5 ∷ 1 ∷ 6 ∷ 7 ∷ 8 ∷ 10 ∷ []) (λ x. x ≡ count_at b 0)
    o (rebuilt_record (code_at run 0) a b) (tells run a b o) (leaves run a b o)

-- ---- a code run and a stripe total

abbrev pub Demand1-out-file : (List ℕ → ℕ → ℕ → List ℕ → List ℕ → Told) → (List ℕ → ℕ → ℕ → List ℕ → List ℕ → List ℕ) → Type 0
Demand1-out-file tells leaves =
    (run : List ℕ) (a t : ℕ) (bs o : List ℕ)
    → Crosses (run_total run t) (3 ∷ 5 ∷ []) (code_at run 0)
    (code_words (code_at run 0) ((Sized (code_at run 0) → ⊥) ⊎ TotalOff t)
    ++ ((5 because LengthsOff ((length bs, t * ((code_at run 0).d * 10)) ∷ (length o, stripe_at t) ∷ [])) ∷ turns_from (code_at run 0) a bs 0 t))
    (2 ∷ 3 ∷ 4 ∷ 5 ∷ 1 ∷ 6 ∷ 7 ∷ 8 ∷ 10 ∷ []) (λ x. x ≡ count_at bs 0)
    o (code_record (code_at run 0) ++ (node_record a t (count_at bs 0) ++ records_from (code_at run 0) a bs 0 t)) (tells run a t bs o) (leaves run a t bs o)

abbrev pub Demand1-out-cut : (List ℕ → ℕ → ℕ → List ℕ → List ℕ → Told) → (List ℕ → ℕ → ℕ → List ℕ → List ℕ → List ℕ) → Type 0
Demand1-out-cut tells leaves =
    (run : List ℕ) (v t : ℕ) (book o : List ℕ)
    → Crosses (run_total run t) (3 ∷ 5 ∷ []) (code_at run 0)
    (code_words (code_at run 0) ((Sized (code_at run 0) → ⊥) ⊎ TotalOff t) ++ cut_words (code_at run 0) v t book o) (2 ∷ 3 ∷ 4 ∷ 5 ∷ 6 ∷ []) (λ x. x ≡ 0)
    o (afresh (code_at run 0) v t 0 book) (tells run v t book o) (leaves run v t book o)
