-- Polynomials by their coefficients, the lowest first: a vector of which the first s entries count. Interpolation is Newton's.
--
-- tail p           all entries of p but the first
-- ev s p x         the value at x of the polynomial p of s coefficients
-- newton y x q     y + (X + x) q
-- quo s p x        the quotient of p, of s + 1 coefficients, by X + x; it has s
-- slopes xs ys     at each point but the first, the difference of the values divided by that of the points
-- interp s xs ys   the polynomial of s coefficients whose value at xs t is ys t, for t below s
-- Distinct s xs    the first s entries of xs differ
use Rattle.std.specs.Prelude.{◌≢◌, ℕ, zero, suc, ◌<◌}
use Rattle.algebra.specs.Symbol.{F, ◌⊕◌, ◌⊗◌, 𝟘, inv}
use Rattle.algebra.specs.Sums.{Vec}

abbrev pub tail : Vec → Vec
tail p = λ i. p (suc i)

unfoldable pub ev : ℕ → Vec → F → F
ev zero p x = 𝟘
ev (suc s) p x = p 0 ⊕ x ⊗ ev s (tail p) x

unfoldable pub newton : F → F → Vec → Vec
newton y x q zero = y ⊕ x ⊗ q 0
newton y x q (suc i) = newton (q 0) x (tail q) i

unfoldable pub quo : ℕ → Vec → F → Vec
quo zero p x i = 𝟘
quo (suc s) p x zero = ev (suc s) (tail p) x
quo (suc s) p x (suc i) = quo s (tail p) x i

abbrev pub slopes : Vec → Vec → Vec
slopes xs ys = λ i. (ys (suc i) ⊕ ys 0) ⊗ inv (xs (suc i) ⊕ xs 0)

unfoldable pub interp : ℕ → Vec → Vec → Vec
interp zero xs ys = λ i. 𝟘
interp (suc s) xs ys = newton (ys 0) (xs 0) (interp s (tail xs) (slopes xs ys))

abbrev pub Distinct : ℕ → Vec → Type 0
Distinct s xs = (i j : ℕ) → i < s → j < s → i ≢ j → xs i ≢ xs j
