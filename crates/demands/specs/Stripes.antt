-- Demand 1 of the four operations on a stripe, each a predicate on what the operation tells and leaves in its output.
--   encode_words c v m o           the own reasons of encoding, for the code c, the node v, the message m and the output o
--   help_words c h f s             those of a helper h for the failed node f, with its share s
--   rebuild_words c f hs ys ns o   those of a rebuild of f, for the helpers' nodes hs, symbols ys and counts ns, and the output o
--   collect_words c vs ns s o      those of a collection, for the nodes vs and counts ns of the shares, their run s and the output o
--   Demand1-encode, Demand1-help, Demand1-rebuild, Demand1-collect      demand 1 of each
-- Assumes nothing.
use Rattle.std.specs.Prelude.{◌≡◌, ◌⊎◌, List, [], ◌∷◌, ℕ, ◌*◌, length}
use Rattle.codes.specs.Told.{Told}
use Rattle.codes.specs.Sizes.{alpha, bytes}
use Rattle.codes.specs.Share.{share, symbol_for}
use Rattle.codes.specs.Rebuild.{rebuilt}
use Rattle.codes.specs.Collect.{collected}
use Rattle.codes.specs.declared.Code.{Code}
use Rattle.demands.specs.Words.{Word, ◌because◌}
use Rattle.demands.specs.Inputs.{Among, LengthsOff, Outside, Twice, Differing, Common}
use Rattle.demands.specs.Answer.{Answers, Leaves}

abbrev pub encode_words : Code → ℕ → List ℕ → List ℕ → List Word
encode_words c v m o =
    (5 because LengthsOff ((length m, bytes c) ∷ (length o, alpha c) ∷ []))
    ∷ (6 because Outside c v)
    ∷ []

abbrev pub help_words : Code → ℕ → ℕ → List ℕ → List Word
help_words c h f s =
    (5 because LengthsOff ((length s, alpha c) ∷ []))
    ∷ (6 because (Outside c h ⊎ Outside c f))
    ∷ (7 because (h ≡ f))
    ∷ []

abbrev pub rebuild_words : Code → ℕ → List ℕ → List ℕ → List ℕ → List ℕ → List Word
rebuild_words c f hs ys ns o =
    (5 because LengthsOff ((length hs, c.d) ∷ (length ys, c.d) ∷ (length ns, c.d) ∷ (length o, alpha c) ∷ []))
    ∷ (6 because (Outside c f ⊎ Among (Outside c) hs))
    ∷ (7 because (Among (λ h. f ≡ h) hs ⊎ Twice hs))
    ∷ (8 because Differing ns)
    ∷ []

abbrev pub collect_words : Code → List ℕ → List ℕ → List ℕ → List ℕ → List Word
collect_words c vs ns s o =
    (5 because LengthsOff ((length vs, c.k) ∷ (length ns, c.k) ∷ (length s, c.k * alpha c) ∷ (length o, bytes c) ∷ []))
    ∷ (6 because Among (Outside c) vs)
    ∷ (7 because Twice vs)
    ∷ (8 because Differing ns)
    ∷ []

pub record Demand1-encode (tells : Code → ℕ → List ℕ → List ℕ → Told) (leaves : Code → ℕ → List ℕ → List ℕ → List ℕ) : Type 0 where
  pub answer : (c : Code) (v : ℕ) (m o : List ℕ) → Answers c (encode_words c v m o) (5 ∷ 6 ∷ []) (λ x. x ≡ 0) (tells c v m o)
  pub output : (c : Code) (v : ℕ) (m o : List ℕ) → Leaves (tells c v m o).number o (share c v m) (leaves c v m o)

pub record Demand1-help (tells : Code → ℕ → ℕ → List ℕ → Told) : Type 0 where
  pub answer : (c : Code) (h f : ℕ) (s : List ℕ)
      → Answers c (help_words c h f s) (5 ∷ 6 ∷ 7 ∷ []) (λ x. x ≡ (symbol_for c f s).val) (tells c h f s)

pub record Demand1-rebuild
    (tells : Code → ℕ → List ℕ → List ℕ → List ℕ → List ℕ → Told)
    (leaves : Code → ℕ → List ℕ → List ℕ → List ℕ → List ℕ → List ℕ) : Type 0 where
  pub answer : (c : Code) (f : ℕ) (hs ys ns o : List ℕ)
      → Answers c (rebuild_words c f hs ys ns o) (5 ∷ 6 ∷ 7 ∷ 8 ∷ []) (Common ns) (tells c f hs ys ns o)
  pub output : (c : Code) (f : ℕ) (hs ys ns o : List ℕ)
      → Leaves (tells c f hs ys ns o).number o (rebuilt c f hs ys) (leaves c f hs ys ns o)

pub record Demand1-collect
    (tells : Code → List ℕ → List ℕ → List ℕ → List ℕ → Told)
    (leaves : Code → List ℕ → List ℕ → List ℕ → List ℕ → List ℕ) : Type 0 where
  pub answer : (c : Code) (vs ns s o : List ℕ)
      → Answers c (collect_words c vs ns s o) (5 ∷ 6 ∷ 7 ∷ 8 ∷ []) (Common ns) (tells c vs ns s o)
  pub output : (c : Code) (vs ns s o : List ℕ) → Leaves (tells c vs ns s o).number o (collected c vs s) (leaves c vs ns s o)
