-- The symbol 0, and the powers of a point: what a turn of a loop that goes on to the next one leaves.
--   symbol-zero              the symbol of the number 0
--   pow-none, pow-next       the powers of a point in an accumulator
-- Assumes nothing.
use mathlib.Core.Path.{◌≡◌, ◌∙◌, refl, sym, ap}
use Prim.Native.Nat.{ℕ, ◌+◌}
use native.Mathlib.Numerals.{add-one}
use Rattle.field.specs.Field.{mul}
use Rattle.algebra.specs.Symbol.{F, symbol, ◌⊗◌, 𝟘, 𝟙, pow}
use Rattle.algebra.proofs.Ring.{F-path, symbol-val, mul_val, pow-suc}

pub symbol-zero : symbol 0 ≡ 𝟘
unfolding symbol 𝟘
symbol-zero = F-path refl

pub pow-none : (x : F) → 1 ≡ (pow x 0).val
unfolding pow 𝟙
pow-none x = refl

pub pow-next : (x p i : ℕ) → p ≡ (pow (symbol x) i).val → mul x p ≡ (pow (symbol x) (i + 1)).val
pow-next x p i e =
    mul_val x p ∙ ap (λ (q : F). (symbol x ⊗ q).val) (ap symbol e ∙ symbol-val (pow (symbol x) i)) ∙ ap (λ (q : F). q.val) (pow-suc (symbol x) i)
    ∙ ap (λ (n : ℕ). (pow (symbol x) n).val) (sym (add-one i))
