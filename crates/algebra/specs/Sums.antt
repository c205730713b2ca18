-- Vectors, grids and finite sums. A vector is a function of a place and a grid one of a row and a column; a size says how far they count.
--
-- Vec, Grid          a vector, a grid
-- Same n f g         f and g are equal below n
-- SameGrid m n M N   M and N are equal in their first m rows and n columns
-- Symmetric n M      M i j is M j i, for i and j below n
-- f ⊞ g              the sum, entry by entry
-- pick a b x y       x where a < b, and else y
-- sum n f            f 0 ⊕ .. ⊕ f (n - 1)
-- dot n u v          the sum of the products of n entries
-- unit t             𝟙 at t, and 𝟘 elsewhere
-- flip M             the transpose of M
-- right n M v        the grid M times the column v of n entries
-- left m u M         the row u of m entries times the grid M
-- form m n u M v     the row u times the grid M times the column v
use Rattle.std.specs.Prelude.{◌≡◌, ℕ, zero, suc, ◌<◌}
use Rattle.algebra.specs.Symbol.{F, ◌⊕◌, ◌⊗◌, 𝟘, 𝟙}

abbrev pub Vec : Type 0
Vec = ℕ → F

abbrev pub Grid : Type 0
Grid = ℕ → ℕ → F

abbrev pub Same : ℕ → Vec → Vec → Type 0
Same n f g = (i : ℕ) → i < n → f i ≡ g i

abbrev pub SameGrid : ℕ → ℕ → Grid → Grid → Type 0
SameGrid m n M N = (i j : ℕ) → i < m → j < n → M i j ≡ N i j

abbrev pub Symmetric : ℕ → Grid → Type 0
Symmetric n M = (i j : ℕ) → i < n → j < n → M i j ≡ M j i

infixl 65 ◌⊞◌
abbrev pub ◌⊞◌ : Vec → Vec → Vec
f ⊞ g = λ i. f i ⊕ g i

unfoldable pub pick : ℕ → ℕ → F → F → F
pick a zero x y = y
pick zero (suc b) x y = x
pick (suc a) (suc b) x y = pick a b x y

unfoldable pub sum : ℕ → Vec → F
sum zero f = 𝟘
sum (suc n) f = sum n f ⊕ f n

abbrev pub dot : ℕ → Vec → Vec → F
dot n u v = sum n (λ i. u i ⊗ v i)

unfoldable pub unit : ℕ → Vec
unit zero zero = 𝟙
unit zero (suc i) = 𝟘
unit (suc t) zero = 𝟘
unit (suc t) (suc i) = unit t i

abbrev pub flip : Grid → Grid
flip M = λ i j. M j i

abbrev pub right : ℕ → Grid → Vec → Vec
right n M v = λ i. dot n (M i) v

abbrev pub left : ℕ → Vec → Grid → Vec
left m u M = λ j. dot m u (λ i. M i j)

abbrev pub form : ℕ → ℕ → Vec → Grid → Vec → F
form m n u M v = dot m u (right n M v)
