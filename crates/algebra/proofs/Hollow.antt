-- HOLLOW and CORE: from h + 1 rows, of which any h are a frame, exactly one symmetric grid has given values off the diagonal,
-- and exactly one pair of symmetric grids gives any h + 1 vectors.
use mathlib.Core.Path.{◌≡◌, ◌∙◌, refl, sym, ap, ap₂}
use mathlib.Core.Logic.{◌≢◌, by_cases}
use Prim.Native.Nat.{ℕ, suc, ◌<◌}
use native.Mathlib.Decide.{ℕ_discrete}
use native.Mathlib.Omega.{arith}
use Rattle.algebra.specs.Symbol.{F, ◌⊕◌, ◌⊗◌, 𝟘, inv}
use Rattle.algebra.specs.Sums.{Vec, Grid, Same, dot, Symmetric, ◌⊞◌, flip, left, form}
use Rattle.algebra.specs.Poly.{Distinct}
use Rattle.algebra.specs.Frame.{Frame, Off}
use Rattle.algebra.specs.Hollow.{hollow, cross, second, first, core₁, core₂}
use Rattle.algebra.proofs.Ring.{ring, equal, vanish, add_twice, mul-over, mul-cancel, add_comm, add_none, mul-none}
use Rattle.algebra.proofs.Sums.{dot-same, dot-comm, dot-add, dot-mul, dot-zero, assoc, form-flip, form-add, swap}
use Rattle.algebra.proofs.Frame.{unique, form-only}

-- two values r, q off the diagonal, and the part w that the λ's tell apart
part_same : (r q a b w : F) → (a ⊕ b) ⊗ w ≡ r ⊕ q → r ⊕ a ⊗ w ≡ q ⊕ b ⊗ w
part_same r q a b w e = equal (go ∙ vanish e)
  where
    go : r ⊕ a ⊗ w ⊕ (q ⊕ b ⊗ w) ≡ (a ⊕ b) ⊗ w ⊕ (r ⊕ q)
    go = simp ring

part-zero : (p a b w : F) → p ⊕ a ⊗ w ≡ 𝟘 → p ⊕ b ⊗ w ≡ 𝟘 → (a ⊕ b) ⊗ w ≡ 𝟘
part-zero p a b w d e = go ∙ vanish (d ∙ sym e)
  where
    go : (a ⊕ b) ⊗ w ≡ p ⊕ a ⊗ w ⊕ (p ⊕ b ⊗ w)
    go = simp ring

-- ---- HOLLOW

module _ {h : ℕ} {φ : Grid} {without : ℕ → Vec → Vec} (G : (t : ℕ) → t < suc h → Frame h (Off h t) φ (without t)) where
  -- a row of a grid times another, both ways of bracketing
  inner : (t s : ℕ) (S : Grid) → dot h (φ s) (left h (φ t) S) ≡ form h h (φ t) S (φ s)
  inner t s S = dot-comm h (φ s) (left h (φ t) S) ∙ assoc h h (φ t) S (φ s)

  -- at the rows but the last
  hollow_row : (P : Grid) (t s : ℕ) → Off h h t → Off h t s → form h h (φ t) (hollow h without P) (φ s) ≡ P t s
  unfolding hollow
  hollow_row P t s p o =
      sym (inner t s (hollow h without P))
      ∙ dot-same h (λ j k. refl) (λ j k. (G h (omega arith)).solves (λ u. without u (P u) j) t p)
      ∙ (G t p.0).solves (P t) s o

  pub hollow-symmetric : (P : Grid) → Symmetric (suc h) P → Symmetric h (hollow h without P)
  hollow-symmetric P e i j k l =
      equal (form-only (G h (omega arith)) (λ i. S i ⊞ flip S i)
      (λ a b p q. form-add h h (φ a) S (flip S) (φ b) ∙ vanish (by_cases (ℕ_discrete b a) (same a b) (other a b p q) ∙ form-flip h h (φ b) S (φ a))) i j k l)
    where
      S : Grid
      S = hollow h without P

      same : (a b : ℕ) → b ≡ a → form h h (φ a) S (φ b) ≡ form h h (φ b) S (φ a)
      same a b d = rw d refl

      other : (a b : ℕ) → Off h h a → Off h h b → b ≢ a → form h h (φ a) S (φ b) ≡ form h h (φ b) S (φ a)
      other a b p q n = hollow_row P a b p (q.0, n) ∙ e a b p.0 q.0 ∙ sym (hollow_row P b a q (p.0, λ d. n (sym d)))

  -- the grid has the given values off the diagonal
  pub hollow-solves : (P : Grid) → Symmetric (suc h) P → (t s : ℕ) → t < suc h → Off h t s → form h h (φ t) (hollow h without P) (φ s) ≡ P t s
  hollow-solves P e t s k o = by_cases (ℕ_discrete t h) last (λ n. hollow_row P t s (k, n) o)
    where
      last : t ≡ h → form h h (φ t) (hollow h without P) (φ s) ≡ P t s
      last d =
          swap h (φ t) (hollow h without P) (φ s) (hollow-symmetric P e)
          ∙ hollow_row P s t (o.0, λ c. o.1 (c ∙ sym d)) (k, λ c. o.1 (sym c)) ∙ e s t o.0 k

  -- a grid that has 𝟘 there is 𝟘
  pub hollow-only : (S : Grid) → ((t s : ℕ) → t < suc h → Off h t s → form h h (φ t) S (φ s) ≡ 𝟘) → (i j : ℕ) → i < h → j < h → S i j ≡ 𝟘
  hollow-only S e i j k l =
      (G h (omega arith)).only (λ i. S i j) (λ t p. (G t p.0).only (left h (φ t) S) (λ s o. inner t s S ∙ e t s p.0 o) j l) i k

  -- ---- CORE

  module _ {l : Vec} (d : Distinct (suc h) l) where
    apart : (t s : ℕ) → t < suc h → Off h t s → l t ⊕ l s ≢ 𝟘
    apart t s k o e = d t s k o.0 (λ c. o.1 (sym c)) (equal e)

    second-symmetric : (R : Grid) → Symmetric (suc h) (second l R)
    unfolding second
    second-symmetric R i j k m = ap₂ (λ (x y : F). x ⊗ inv y) (add_comm (R i j) (R j i)) (add_comm (l i) (l j))

    first-symmetric : (R : Grid) → Symmetric (suc h) (first l R)
    unfolding first second
    first-symmetric R i j k m = by_cases (ℕ_discrete j i) (λ c. rw c refl) other
      where
        other : j ≢ i → first l R i j ≡ first l R j i
        other n =
            part_same (R i j) (R j i) (l i) (l j) (second l R i j) (mul-over (R i j ⊕ R j i) (apart i j k (m, n)))
            ∙ ap (λ (x : F). R j i ⊕ l j ⊗ x) (second-symmetric R i j k m)

    -- the two grids together, against a row
    both : (t s : ℕ) (S T : Grid) → dot h (φ s) (λ j. left h (φ t) S j ⊕ l t ⊗ left h (φ t) T j) ≡ form h h (φ t) S (φ s) ⊕ l t ⊗ form h h (φ t) T (φ s)
    both t s S T =
        dot-add h (φ s) (left h (φ t) S) (λ j. l t ⊗ left h (φ t) T j)
        ∙ ap₂ ◌⊕◌ (inner t s S) (dot-mul h (l t) (φ s) (left h (φ t) T) ∙ ap (λ (x : F). l t ⊗ x) (inner t s T))

    pub core-symmetric : (c : Grid) → Symmetric h (core₁ h φ without l c) × Symmetric h (core₂ h φ without l c)
    unfolding core₁ core₂
    core-symmetric c =
        (hollow-symmetric (first l (cross h φ c)) (first-symmetric (cross h φ c)), hollow-symmetric (second l (cross h φ c)) (second-symmetric (cross h φ c)))

    -- the pair gives the vector c t with each row
    pub core-solves : (c : Grid) (t : ℕ) → t < suc h
        → Same h (λ j. left h (φ t) (core₁ h φ without l c) j ⊕ l t ⊗ left h (φ t) (core₂ h φ without l c) j) (c t)
    unfolding core₁ core₂ cross first
    core-solves c t k =
        unique (G t k) (λ j. left h (φ t) (core₁ h φ without l c) j ⊕ l t ⊗ left h (φ t) (core₂ h φ without l c) j) (c t)
        (λ s o. both t s (core₁ h φ without l c) (core₂ h φ without l c)
        ∙ ap₂ (λ (x y : F). x ⊕ l t ⊗ y)
        (hollow-solves (first l (cross h φ c)) (first-symmetric (cross h φ c)) t s k o) (hollow-solves (second l (cross h φ c)) (second-symmetric (cross h φ c)) t s k o)
        ∙ add_twice _ _ ∙ dot-comm h (c t) (φ s))

    -- a symmetric pair that gives 𝟘 with each row is 𝟘
    pub core-only : (S T : Grid) → Symmetric h S → Symmetric h T
        → ((t : ℕ) → t < suc h → Same h (λ j. left h (φ t) S j ⊕ l t ⊗ left h (φ t) T j) (λ j. 𝟘))
        → (i j : ℕ) → i < h → j < h → (S i j ≡ 𝟘) × (T i j ≡ 𝟘)
    core-only S T p q e i j m n = (hollow-only S zero₁ i j m n, hollow-only T zero₂ i j m n)
      where
        at : (t s : ℕ) → t < suc h → form h h (φ t) S (φ s) ⊕ l t ⊗ form h h (φ t) T (φ s) ≡ 𝟘
        at t s k = sym (both t s S T) ∙ dot-zero h (φ s) (e t k)

        zero₂ : (t s : ℕ) → t < suc h → Off h t s → form h h (φ t) T (φ s) ≡ 𝟘
        zero₂ t s k o =
            mul-cancel (apart t s k o) (part-zero (form h h (φ t) S (φ s)) (l t) (l s) (form h h (φ t) T (φ s)) (at t s k)
            (ap₂ (λ (x y : F). x ⊕ l s ⊗ y) (swap h (φ t) S (φ s) p) (swap h (φ t) T (φ s) q) ∙ at s t o.0))

        zero₁ : (t s : ℕ) → t < suc h → Off h t s → form h h (φ t) S (φ s) ≡ 𝟘
        zero₁ t s k o =
            sym (add_none _ (mul-none (l t) (zero₂ t s k o))) ∙ at t s k
