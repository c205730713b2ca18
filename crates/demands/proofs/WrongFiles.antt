-- Wrong programs on share files, written out, and what they fail by.
--   late, late-fails      a slip is taken where its number is at most count + 1, and not only where it is count + 1: it does not meet demand 3
--   node-zero             a judge of share files that names the node 0 for every file does not meet demand 1
-- Assumes nothing.
use mathlib.Core.Path.{◌≡◌, ◌∙◌, refl, sym, ap}
use mathlib.Core.Logic.{inl}
use mathlib.Core.Bool.{true, not, ◌&&◌}
use mathlib.Core.List.{List, [], ◌∷◌, ◌++◌}
use Prim.Native.Nat.{ℕ, ◌+◌, ◌<◌, ◌≤◌}
use native.Mathlib.Omega.{arith}
use lib.Dec.{eqb, leb, ltb}
use lib.ListN.{length, get_or}
use borrow.Author.Tests.{eq-eqb, le-leb, lt-ltb}
use Rattle.codes.specs.Told.{Told, Reason, ◌when◌, answered}
use Rattle.codes.specs.Reasons.{Clear, numbered}
use Rattle.codes.specs.Judge.{judge_reasons, pair_in}
use Rattle.codes.specs.Sizes.{bytes}
use Rattle.codes.proofs.Bools.{both}
use Rattle.codes.proofs.Rules.{rules}
use Rattle.codes.proofs.Told.{refusal-exact, answered-number, clear-done}
use Rattle.shares.specs.Fields.{code_in, stripes_in, count_in}
use Rattle.shares.specs.File.{node_reasons, file_reasons, file_told}
use Rattle.shares.specs.Slip.{slip_number, slip_stripe, slip_index, left_by, taken_in}
use Rattle.shares.specs.Afresh.{afresh}
use Rattle.shares.proofs.Accepted.{clear-append, judged-afresh}
use Rattle.shares.proofs.Fresh.{afresh-node}
use Rattle.batches.specs.Whole.{whole_told, whole_leaves}
use Rattle.demands.specs.Files.{Demand1-judge-file}
use Rattle.demands.specs.History.{Operations, Demand3}
use Rattle.demands.proofs.FixedFiles.{judge-file-fixed}
use Rattle.demands.proofs.Wrong.{smallest, good, taken-again}

-- ---- a slip taken late

-- a slip's faults, with `at most` where `is` belongs
abbrev late_faults : List ℕ → List ℕ → List Reason
late_faults s p =
    (1 when not (eqb (length p) 10 && eqb (get_or p 0 0) 0x50))
    ∷ (9 when not (leb (slip_number p) (count_in s + 1))) ∷ (10 when not (ltb (slip_stripe p) (stripes_in s) && ltb (slip_index p) (bytes (code_in s))))
    ∷ []

abbrev pub late : Operations
late = record {
  slip_tells = λ s p. answered (file_reasons s ++ late_faults s p) (pair_in (code_in s)) (count_in s + 1);
  slip_gives = λ s p. left_by (file_reasons s ++ late_faults s p) (taken_in s p) s;
  whole_tells = whole_told;
  whole_gives = whole_leaves;
}

file-numbered : (s : List ℕ) → numbered (file_reasons s) ≡ true
unfolding file_reasons judge_reasons node_reasons
file-numbered s = refl

accepted-clear : (s : List ℕ) → (file_told s).number ≡ 0 → Clear (file_reasons s)
unfolding file_told
accepted-clear s e = (refusal-exact (file_reasons s) (file-numbered s)).none.0 (sym (answered-number (file_reasons s) (pair_in (code_in s)) (count_in s)) ∙ e)

late-takes : (s p : List ℕ) → (file_told s).number ≡ 0 → length p ≡ 10 → get_or p 0 0 ≡ 0x50 → slip_number p ≤ count_in s
    → slip_stripe p < stripes_in s → slip_index p < bytes (code_in s) → (late.slip_tells s p).number ≡ 0
late-takes s p f l k n i j =
    ap (λ (t : Told). t.number)
    (clear-done (file_reasons s ++ late_faults s p) (pair_in (code_in s)) (count_in s + 1)
    (clear-append (file_reasons s) (late_faults s p) (accepted-clear s f) (
      ap not (both _ _ (eq-eqb (length p) 10 l) (eq-eqb (get_or p 0 0) 0x50 k)),
      (
        ap not (le-leb (slip_number p) (count_in s + 1) (omega arith)),
        (ap not (both _ _ (lt-ltb (slip_stripe p) (stripes_in s) i) (lt-ltb (slip_index p) (bytes (code_in s)) j)), tt),
      ),
    )))

pub late-fails : Demand3 late → ⊥
late-fails D = taken-again late D (λ s p f l k _ n i j. inl (late-takes s p f l k n i j))

-- ---- a judge that names no node

module _ (tells : List ℕ → Told) (node stripes : List ℕ → ℕ) (D : Demand1-judge-file tells node stripes) where
  pub node-zero : ((s : List ℕ) → node s ≡ 0) → ⊥
  node-zero z =
      let s = afresh smallest 1 1 0 (9 ∷ []) in
      let told = judged-afresh smallest (rules smallest good) refl 1 1 0 (9 ∷ []) (omega arith) (omega arith) (omega arith) (omega arith) (omega arith) in
      let e = (D.noded s).accepted (ap (λ (t : Told). t.number) ((judge-file-fixed tells node stripes D s).0 ∙ told)) in
      omega (arith, z s, e, afresh-node smallest 1 1 0 (9 ∷ []) refl)
