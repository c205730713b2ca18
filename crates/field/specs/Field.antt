-- The field of 256 elements. A symbol is a number below 256: the coefficients, lowest first, of a polynomial over two elements
-- of degree below 8. The sum is exclusive or. The product is that of polynomials, reduced by x^8 + x^4 + x^3 + x^2 + 1, the number 285.
-- add a b: the sum.   double a: a times x.   shifted n a b: a times the polynomial of the n low digits of b.   mul a b: the product.
-- pow x n: x to the power n.   inverse b: 1 over b.   quotient a b: a over b.
-- Assumes nothing.
use Rattle.std.specs.Prelude.{ℕ, zero, suc, ◌*◌, ◌/◌, ◌%◌}
use Rattle.std.specs.Int.Bits.{bit_xor}

-- the sum, which is the difference too
abbrev pub add : ℕ → ℕ → ℕ
add a b = bit_xor a b

-- a symbol times x: its digits move up by one, and 285 is taken off where the digit at x^7 has moved to x^8
unfoldable pub double : ℕ → ℕ
double a = bit_xor (a * 2) (a / 128 % 2 * 285)

-- the sum, over the n low digits of b, of the symbol a moved up as far as the digit stands
unfoldable pub shifted : ℕ → ℕ → ℕ → ℕ
shifted zero a b = 0
shifted (suc n) a b = bit_xor (b % 2 * a) (shifted n (double a) (b / 2))

-- the product of two symbols; of any number only its eight low digits count
unfoldable pub mul : ℕ → ℕ → ℕ
mul a b = shifted 8 (a % 256) (b % 256)

-- the power 0 is 1, also that of 0
unfoldable pub pow : ℕ → ℕ → ℕ
pow x zero = 1
pow x (suc n) = mul x (pow x n)

-- the power 255 of each symbol but 0 is 1, so the power 254 is its inverse; for 0 it is 0
unfoldable pub inverse : ℕ → ℕ
inverse b = pow b 254

-- a quotient by 0 is 0
unfoldable pub quotient : ℕ → ℕ → ℕ
quotient a b = mul a (inverse b)
