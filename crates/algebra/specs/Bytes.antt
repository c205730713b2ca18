-- The edge between lists of bytes, which the code handles, and vectors of symbols.
--
-- at l        the vector of the bytes of l; 𝟘 past its end
-- table n f   the list of the numbers of f 0 .. f (n - 1)
use Rattle.std.specs.Prelude.{List, [], ◌∷◌, ℕ, zero, suc, get_or}
use Rattle.algebra.specs.Symbol.{symbol}
use Rattle.algebra.specs.Sums.{Vec}
use Rattle.algebra.specs.Poly.{tail}

abbrev pub at : List ℕ → Vec
at l i = symbol (get_or l i 0)

unfoldable pub table : ℕ → Vec → List ℕ
table zero f = []
table (suc n) f = (f 0).val ∷ table n (tail f)
