-- The numbers of a code whose kind and sizes keep their rule, whatever its points are.
-- Assumes nothing.
use mathlib.Core.Path.{◌≡◌}
use mathlib.Core.Logic.{⊎_elim}
use Prim.Native.Nat.{ℕ, ◌+◌, ◌*◌, ◌≤◌}
use native.Mathlib.Omega.{arith}
use Rattle.codes.specs.Rules.{Known, Sized}
use Rattle.codes.specs.Sizes.{alpha}
use Rattle.codes.specs.declared.Code.{Code}
use Rattle.codes.specs.Places.{start}
use Rattle.codes.proofs.Sizes.{alpha-one, alpha-two, small, start-whole}

module _ (c : Code) (s : Sized c) where
  pub d-most : c.d ≤ 31
  d-most = omega (arith, s.under, s.most)

  pub k-most : c.kind ≡ 2 → c.k ≤ 16
  k-most h = omega (arith, s.second h, d-most)

  pub alpha-most : Known c.kind → alpha c ≤ 31
  alpha-most k = ⊎_elim (λ e. omega (arith, alpha-one c e, d-most)) (λ e. omega (arith, alpha-two c (λ f. omega arith), k-most e)) k

pub kind-two : (c : Code) → Known c.kind → (c.kind ≡ 1 → ⊥) → c.kind ≡ 2
kind-two c k h = ⊎_elim (λ e. absurd (h e)) (λ e. e) k

-- a triangle of k rows and the block beside it, and two triangles, fit in the work room
pub block-high : (k e : ℕ) → k + e ≤ 31 → start k k + k * e ≤ 496
block-high k e h = omega (arith, start-whole k, small (k + e) (k + e + 1) 31 32 (omega arith) (omega arith))

pub pair-high : (w : ℕ) → w ≤ 15 → start w w + start w w ≤ 240
pair-high w h = omega (arith, start-whole w, small w (w + 1) 15 16 (omega arith) (omega arith))
