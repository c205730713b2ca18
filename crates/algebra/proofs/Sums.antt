-- The laws of finite sums, of dot products, and of rows and columns times grids.
-- A law's name lists its parts: sum-swap exchanges two sums, dot-add adds in a dot product.
use mathlib.Core.Path.{◌≡◌, ◌∙◌, refl, sym, ap, ap₂}
use mathlib.Core.Logic.{◌≢◌}
use Prim.Native.Nat.{ℕ, zero, suc, ◌+◌, ◌<◌, ◌≤◌}
use native.Mathlib.Nat.{add-suc, not-suc-le-zero, le_of_suc-le-suc}
use native.Mathlib.Omega.{arith}
use Rattle.algebra.specs.Symbol.{F, ◌⊕◌, ◌⊗◌, 𝟘, 𝟙}
use Rattle.algebra.specs.Sums.{Vec, Grid, Same, SameGrid, Symmetric, ◌⊞◌, pick, sum, dot, unit, flip, right, left, form}
use Rattle.algebra.proofs.Ring.{ring, mul-add, mul_comm, mul_left_comm, add_assoc, add-zero, zero-add, mul-zero, mul-none, zero-mul, one-mul}

-- ---- a choice by a bound

pub pick-lt : (a b : ℕ) (x y : F) → a < b → pick a b x y ≡ x
unfolding pick
pick-lt a zero x y h = absurd (not-suc-le-zero h)
pick-lt zero (suc b) x y h = refl
pick-lt (suc a) (suc b) x y h = pick-lt a b x y (le_of_suc-le-suc h)

pub pick-ge : (a b : ℕ) (x y : F) → b ≤ a → pick a b x y ≡ y
unfolding pick
pick-ge a zero x y h = refl
pick-ge zero (suc b) x y h = absurd (not-suc-le-zero h)
pick-ge (suc a) (suc b) x y h = pick-ge a b x y (le_of_suc-le-suc h)

-- ---- sums

pub sum_same : (n : ℕ) {f g : Vec} → Same n f g → sum n f ≡ sum n g
unfolding sum
sum_same zero e = refl
sum_same (suc n) e = ap₂ ◌⊕◌ (sum_same n (λ i h. e i (omega arith))) (e n (omega arith))

pub sum-zero : (n : ℕ) {f : Vec} → Same n f (λ i. 𝟘) → sum n f ≡ 𝟘
unfolding sum
sum-zero zero e = refl
sum-zero (suc n) e = ap₂ ◌⊕◌ (sum-zero n (λ i h. e i (omega arith))) (e n (omega arith)) ∙ add-zero 𝟘

pub sum-add : (n : ℕ) (f g : Vec) → sum n (f ⊞ g) ≡ sum n f ⊕ sum n g
unfolding sum
sum-add zero f g = sym (add-zero 𝟘)
sum-add (suc n) f g = ap (λ (x : F). x ⊕ (f n ⊕ g n)) (sum-add n f g) ∙ simp ring

pub sum-mul : (n : ℕ) (a : F) (f : Vec) → sum n (λ i. a ⊗ f i) ≡ a ⊗ sum n f
unfolding sum
sum-mul zero a f = sym (mul-zero a)
sum-mul (suc n) a f = ap (λ (x : F). x ⊕ a ⊗ f n) (sum-mul n a f) ∙ sym (mul-add a (sum n f) (f n))

pub sum-swap : (m n : ℕ) (M : Grid) → sum m (λ i. sum n (M i)) ≡ sum n (λ j. sum m (λ i. M i j))
unfolding sum
sum-swap zero n M = sym (sum-zero n (λ i h. refl))
sum-swap (suc m) n M = ap (λ (x : F). x ⊕ sum n (M m)) (sum-swap m n M) ∙ sym (sum-add n (λ j. sum m (λ i. M i j)) (M m))

pub sum-split : (a b : ℕ) (f : Vec) → sum (a + b) f ≡ sum a f ⊕ sum b (λ i. f (a + i))
unfolding sum
sum-split a zero f = ap (λ (n : ℕ). sum n f) (native.Mathlib.Nat.add-zero a) ∙ sym (add-zero (sum a f))
sum-split a (suc b) f =
    ap (λ (n : ℕ). sum n f) (add-suc a b) ∙ ap (λ (x : F). x ⊕ f (a + b)) (sum-split a b f)
    ∙ add_assoc (sum a f) (sum b (λ i. f (a + i))) (f (a + b))

pub sum_head : (n : ℕ) (f : Vec) → sum (suc n) f ≡ f 0 ⊕ sum n (λ i. f (suc i))
unfolding sum
sum_head zero f = simp ring
sum_head (suc n) f = ap (λ (x : F). x ⊕ f (suc n)) (sum_head n f) ∙ add_assoc (f 0) (sum n (λ i. f (suc i))) (f (suc n))

-- ---- unit vectors

pub unit-self : (t : ℕ) → unit t t ≡ 𝟙
unfolding unit
unit-self zero = refl
unit-self (suc t) = unit-self t

pub unit-other : (t i : ℕ) → t ≢ i → unit t i ≡ 𝟘
unfolding unit
unit-other zero zero n = absurd (n refl)
unit-other zero (suc i) n = refl
unit-other (suc t) zero n = refl
unit-other (suc t) (suc i) n = unit-other t i (λ e. n (ap suc e))

pub unit-comm : (t i : ℕ) → unit t i ≡ unit i t
unfolding unit
unit-comm zero zero = refl
unit-comm zero (suc i) = refl
unit-comm (suc t) zero = refl
unit-comm (suc t) (suc i) = unit-comm t i

pub sum-unit : (n t : ℕ) (f : Vec) → t < n → dot n (unit t) f ≡ f t
unfolding unit
sum-unit zero t f h = absurd (not-suc-le-zero h)
sum-unit (suc n) zero f h =
    sum_head n (λ i. unit 0 i ⊗ f i) ∙ ap₂ ◌⊕◌ (one-mul (f 0)) (sum-zero n (λ i k. zero-mul (f (suc i)))) ∙ add-zero (f 0)
sum-unit (suc n) (suc t) f h =
    sum_head n (λ i. unit (suc t) i ⊗ f i) ∙ ap₂ ◌⊕◌ (zero-mul (f 0)) (sum-unit n t (λ i. f (suc i)) (le_of_suc-le-suc h)) ∙ zero-add (f (suc t))

-- ---- dot products

pub dot-same : (n : ℕ) {u u' v v' : Vec} → Same n u u' → Same n v v' → dot n u v ≡ dot n u' v'
dot-same n e d = sum_same n (λ i h. ap₂ ◌⊗◌ (e i h) (d i h))

pub dot-comm : (n : ℕ) (u v : Vec) → dot n u v ≡ dot n v u
dot-comm n u v = sum_same n (λ i h. mul_comm (u i) (v i))

pub dot-add : (n : ℕ) (u v w : Vec) → dot n u (v ⊞ w) ≡ dot n u v ⊕ dot n u w
dot-add n u v w = sum_same n (λ i h. mul-add (u i) (v i) (w i)) ∙ sum-add n (λ i. u i ⊗ v i) (λ i. u i ⊗ w i)

pub dot-mul : (n : ℕ) (a : F) (u v : Vec) → dot n u (λ i. a ⊗ v i) ≡ a ⊗ dot n u v
dot-mul n a u v = sum_same n (λ i h. mul_left_comm (u i) a (v i)) ∙ sum-mul n a (λ i. u i ⊗ v i)

pub dot-zero : (n : ℕ) (u : Vec) {v : Vec} → Same n v (λ i. 𝟘) → dot n u v ≡ 𝟘
dot-zero n u e = sum-zero n (λ i h. mul-none (u i) (e i h))

-- ---- rows and columns times grids

-- ASSOC: a row times a grid times a column, both ways of bracketing
pub assoc : (m n : ℕ) (u : Vec) (M : Grid) (v : Vec) → dot n (left m u M) v ≡ form m n u M v
assoc m n u M v =
    sum_same n (λ j h. mul_comm (left m u M j) (v j) ∙ sym (sum-mul m (v j) (λ i. u i ⊗ M i j)))
    ∙ sum-swap n m (λ j i. v j ⊗ (u i ⊗ M i j))
    ∙ sum_same m (λ i h. sum_same n (λ j k. simp ring) ∙ sum-mul n (u i) (λ j. M i j ⊗ v j))

pub form-flip : (m n : ℕ) (u : Vec) (M : Grid) (v : Vec) → form m n u M v ≡ form n m v (flip M) u
form-flip m n u M v =
    sym (assoc m n u M v) ∙ dot-comm n (left m u M) v ∙ dot-same n (λ i h. refl) (λ j h. dot-comm m u (λ i. M i j))

pub form-same : (m n : ℕ) (u v : Vec) {M N : Grid} → SameGrid m n M N → form m n u M v ≡ form m n u N v
form-same m n u v e = dot-same m (λ i h. refl) (λ i h. dot-same n (λ j k. e i j h k) (λ j k. refl))

pub form-add : (m n : ℕ) (u : Vec) (M N : Grid) (v : Vec) → form m n u (λ i. M i ⊞ N i) v ≡ form m n u M v ⊕ form m n u N v
form-add m n u M N v =
    dot-same m (λ i h. refl) (λ i h. dot-comm n (M i ⊞ N i) v ∙ dot-add n v (M i) (N i) ∙ ap₂ ◌⊕◌ (dot-comm n v (M i)) (dot-comm n v (N i)))
    ∙ dot-add m u (right n M v) (right n N v)

-- SWAP: across a symmetric grid, row and column change places
pub swap : (n : ℕ) (u : Vec) (M : Grid) (v : Vec) → Symmetric n M → form n n u M v ≡ form n n v M u
swap n u M v s = form-flip n n u M v ∙ form-same n n v u (λ i j h k. s j i k h)

-- SWAP, by rows
pub left-right : (n : ℕ) (u : Vec) (M : Grid) → Symmetric n M → Same n (left n u M) (right n M u)
left-right n u M s = λ j h. dot-comm n u (λ i. M i j) ∙ dot-same n (λ i k. s i j k h) (λ i k. refl)
