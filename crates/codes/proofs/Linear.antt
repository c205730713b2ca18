-- A message's matrix and its shares are linear in the message, for every code and every message.
-- Assumes nothing.
use mathlib.Core.Path.{◌≡◌, ◌∙◌, refl, sym, ap, ap₂, fun_ext}
use mathlib.Core.Bool.{Bool, true, false, cond}
use Prim.Native.Nat.{ℕ, ◌-◌}
use lib.Dec.{eqb, ltb}
use Rattle.algebra.specs.Symbol.{F, ◌⊕◌, ◌⊗◌, 𝟘, 𝟙}
use Rattle.algebra.specs.Sums.{Vec, ◌⊞◌}
use Rattle.algebra.proofs.Ring.{ring, one-mul}
use Rattle.algebra.proofs.Sums.{dot-same, dot-add, dot-mul}
use Rattle.codes.specs.Sizes.{row}
use Rattle.codes.specs.Matrix.{mbr, msr, matrix}
use Rattle.codes.specs.Share.{share_at}
use Rattle.codes.specs.declared.Code.{Code}

none : (a : F) → 𝟘 ≡ 𝟘 ⊕ a ⊗ 𝟘
none a = simp ring

one_of_two : (a : F) (t : Bool) (x x' y y' : F) → cond t (x ⊕ a ⊗ x') (y ⊕ a ⊗ y') ≡ cond t x y ⊕ a ⊗ cond t x' y'
one_of_two a true x x' y y' = refl
one_of_two a false x x' y y' = refl

one-of-four : (a : F) (s t : Bool) (x x' y y' z z' : F)
    → cond s (cond t (x ⊕ a ⊗ x') (y ⊕ a ⊗ y')) (cond t (z ⊕ a ⊗ z') 𝟘) ≡ cond s (cond t x y) (cond t z 𝟘) ⊕ a ⊗ cond s (cond t x' y') (cond t z' 𝟘)
one-of-four a true true x x' y y' z z' = refl
one-of-four a true false x x' y y' z z' = refl
one-of-four a false true x x' y y' z z' = refl
one-of-four a false false x x' y y' z z' = none a

mbr-linear : (k d : ℕ) (a : F) (m m' : Vec) (i j : ℕ) → mbr k d (λ n. m n ⊕ a ⊗ m' n) i j ≡ mbr k d m i j ⊕ a ⊗ mbr k d m' i j
unfolding mbr
mbr-linear k d a m m' i j = one-of-four a (ltb i k) (ltb j k) _ _ _ _ _ _

msr-linear : (k : ℕ) (a : F) (m m' : Vec) (i j : ℕ) → msr k (λ n. m n ⊕ a ⊗ m' n) i j ≡ msr k m i j ⊕ a ⊗ msr k m' i j
unfolding msr
msr-linear k a m m' i j = one_of_two a (ltb i (k - 1)) _ _ _ _

pub matrix-linear : (c : Code) (a : F) (m m' : Vec) (i j : ℕ) → matrix c (λ n. m n ⊕ a ⊗ m' n) i j ≡ matrix c m i j ⊕ a ⊗ matrix c m' i j
unfolding matrix
matrix-linear c a m m' i j =
    ap₂ (cond (eqb c.kind 1)) (mbr-linear c.k c.d a m m' i j) (msr-linear c.k a m m' i j)
    ∙ one_of_two a (eqb c.kind 1) _ _ _ _

pub share-linear : (c : Code) (v : ℕ) (a : F) (m m' : Vec) (j : ℕ) → share_at c v (λ n. m n ⊕ a ⊗ m' n) j ≡ share_at c v m j ⊕ a ⊗ share_at c v m' j
share-linear c v a m m' j =
    dot-same c.d (λ r x. refl) (λ r x. matrix-linear c a m m' r j)
    ∙ dot-add c.d (row c v) (λ r. matrix c m r j) (λ r. a ⊗ matrix c m' r j)
    ∙ ap (λ (x : F). share_at c v m j ⊕ x) (dot-mul c.d a (row c v) (λ r. matrix c m' r j))

pub share-add : (c : Code) (v : ℕ) (m m' : Vec) (j : ℕ) → share_at c v (m ⊞ m') j ≡ share_at c v m j ⊕ share_at c v m' j
share-add c v m m' j =
    ap (λ (x : Vec). share_at c v x j) (fun_ext (λ n. ap (λ (x : F). m n ⊕ x) (sym (one-mul (m' n)))))
    ∙ share-linear c v 𝟙 m m' j ∙ ap (λ (x : F). share_at c v m j ⊕ x) (one-mul (share_at c v m' j))
