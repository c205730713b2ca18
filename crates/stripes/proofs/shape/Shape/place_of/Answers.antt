-- The kind decides, in the code as in the definition.
use mathlib.Core.Path.{◌≡◌}
use Prim.Native.Nat.{ℕ}
use native.Mathlib.Omega.{arith}
use borrow.Author.Tests.{eq-eqb, ne_eqb}
use Rattle.std.specs.Prelude.{Option, Some, None}
use Rattle.codes.specs.Matrix.{mbr, msr, matrix}
use Rattle.codes.specs.declared.Code.{Code}
use Rattle.codes.proofs.Sizes.{alpha-one, alpha-two}
use Rattle.stripes.specs.Arrays.{Placed}
use Rattle.stripes.proofs.Shapes.{d-most, k-most, kind-two}
use Rattle.stripes.proofs.shape.Shape.place_of.Goals as goal

module _ (c : Code) (i j : ℕ) where
  one : (r : Option ℕ) → c.kind ≡ 1 → Placed (λ f. mbr c.k c.d f i j) r → Placed (λ f. matrix c f i j) r
  unfolding matrix
  one (Some r) h p = (p.0, λ f. simp (eq-eqb _ _ h) (p.1 f))
  one None h p = λ f. simp (eq-eqb _ _ h) (p f)

  two : (r : ℕ) → (c.kind ≡ 1 → ⊥) → Placed (λ f. msr c.k f i j) (Some r) → Placed (λ f. matrix c f i j) (Some r)
  unfolding matrix
  two r h p = (p.0, λ f. simp (ne_eqb _ _ h) (p.1 f))

pub mbr_place-requires : goal.mbr_place-requires
mbr_place-requires c =
    let s = c.args.self.now in
    (s.sized.order, d-most _ s.sized, omega arith, omega (arith, alpha-one s.code c.if-self-eq-MBR.true))

pub returns-then-self-eq-MBR : goal.returns-then-self-eq-MBR
returns-then-self-eq-MBR c = one _ _ _ _ c.if-self-eq-MBR.true c.mbr_place.ensures

pub msr_place-requires : goal.msr_place-requires
msr_place-requires c =
    let s = c.args.self.now in
    let h = c.if-self-eq-MBR.false in
    let e = kind-two s.code s.known h in
    let t = s.sized.second e in
    (t.0, k-most s.code s.sized e, omega (arith, t.1), omega (arith, alpha-two s.code h))

pub returns-else-self-eq-MBR : goal.returns-else-self-eq-MBR
returns-else-self-eq-MBR c = two _ _ _ _ c.if-self-eq-MBR.false c.msr_place.ensures
