-- Rebuilding in one way for both kinds: lambda times the last entries of the solution, where there are any, is added to its first.
-- Assumes nothing.
use mathlib.Core.Path.{◌≡◌, ◌∙◌, sym, ap}
use mathlib.Core.Logic.{inl, inr}
use Prim.Native.Nat.{ℕ, ◌+◌, ◌-◌, ◌<◌}
use native.Mathlib.Omega.{arith}
use borrow.Author.Tests.{eq-eqb, ne_eqb}
use Rattle.algebra.specs.Symbol.{F, ◌⊕◌, ◌⊗◌, 𝟘}
use Rattle.algebra.specs.Sums.{Vec, pick}
use Rattle.algebra.proofs.Ring.{add_none}
use Rattle.algebra.proofs.Sums.{pick-lt, pick-ge}
use Rattle.codes.specs.Sizes.{alpha, lambda}
use Rattle.codes.specs.Rules.{Rules}
use Rattle.codes.specs.Rebuild.{rebuilt_at}
use Rattle.codes.specs.declared.Code.{Code}
use Rattle.codes.proofs.Sizes.{alpha-one, alpha-two}

rebuilt-one : (c : Code) (f : ℕ) (v : Vec) (j : ℕ) → c.kind ≡ 1 → rebuilt_at c f v j ≡ v j
unfolding rebuilt_at
rebuilt-one c f v j e = rw (eq-eqb c.kind 1 e)

rebuilt-two : (c : Code) (f : ℕ) (v : Vec) (j : ℕ) → (c.kind ≡ 1 → ⊥) → rebuilt_at c f v j ≡ v j ⊕ lambda c f ⊗ v (alpha c + j)
unfolding rebuilt_at
rebuilt-two c f v j n = rw (ne_eqb c.kind 1 n)

pub rebuilt-either : {c : Code} → Rules c → (f : ℕ) (v : Vec) (j : ℕ) → j < alpha c
    → rebuilt_at c f v j ≡ v j ⊕ pick j (c.d - alpha c) (lambda c f ⊗ v (alpha c + j)) 𝟘
rebuilt-either {c} R f v j a = elim R.kinds [
  | inl e ↦ rebuilt-one c f v j e ∙ sym (add_none (v j) (pick-ge j (c.d - alpha c) (lambda c f ⊗ v (alpha c + j)) 𝟘 (omega (arith, alpha-one c e))))
  | inr e ↦ rebuilt-two c f v j (omega arith)
      ∙ ap (λ (x : F). v j ⊕ x) (sym (pick-lt j (c.d - alpha c) (lambda c f ⊗ v (alpha c + j)) 𝟘 (omega (arith, alpha-two c (λ o. omega arith), (R.second e).1))))
]
