-- What the steps of a slip rest on.
--   other_number, next_number     the slip's number is not, or is, the one after the count, where that number is tried
--   ready-stays                   the code and the node of a file are also those of the file after a slip
-- Assumes nothing.
use mathlib.Core.Path.{◌≡◌, ◌∙◌, sym, ap}
use mathlib.Core.Bool.{true, false, not}
use mathlib.Core.List.{List}
use Prim.Native.Nat.{ℕ, ◌+◌, ◌<◌}
use native.Mathlib.Omega.{arith}
use borrow.Author.Tests.{eqb-true, eqb-false, not-true, not-false}
use lib.Dec.{eqb}
use lib.ListN.{get_or}
use Rattle.std.specs.Prelude.{Option, None, Some, SomeIff}
use Rattle.std.specs.Option.{option_eq}
use Rattle.codes.specs.declared.Code.{Code}
use Rattle.shares.specs.Slip.{judged_leaves}
use Rattle.shares.proofs.Kept.{same_code}
use Rattle.streams.specs.Ready.{Ready}
use Rattle.streams.proofs.Alone.{head-stays}

pub other_number : (a : Option ℕ) (m n : ℕ) → SomeIff a (m + 1 < 4294967296) (m + 1) → n < 4294967296
    → not (option_eq eqb a (Some n)) ≡ true → n ≡ m + 1 → ⊥
other_number None m n h k t e = h (omega arith)
other_number (Some x) m n h k t e = eqb-false x n (not-true _ t) (h.1 ∙ sym e)

pub next_number : (a : Option ℕ) (m n : ℕ) → SomeIff a (m + 1 < 4294967296) (m + 1) → not (option_eq eqb a (Some n)) ≡ false → n ≡ m + 1
next_number None m n h t = absurd (cc)
next_number (Some x) m n h t = sym (eqb-true x n (not-false _ t)) ∙ h.1

pub ready-stays : (s p u : List ℕ) (c : Code) (v : ℕ) → u ≡ judged_leaves s p → Ready s c v → Ready u c v
ready-stays s p u c v e r =
    let h : (i : ℕ) → i < 41 → get_or u i 0 ≡ get_or s i 0 = λ i l. ap (λ (k : List ℕ). get_or k i 0) e ∙ head-stays s p i l in
    record { code = r.code ∙ sym (same_code s u h); node = r.node ∙ sym (h 38 (omega arith)) }
