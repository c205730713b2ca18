-- The numbers of a code, as document 01's table has them.
--   alpha c       the bytes of a share of one stripe
--   bytes c       the bytes of a message stripe, B
--   point c v     the point of the node v, counted from 1
--   row c v       the encoding row of v: (1, x, .., x^(d-1))
--   lambda c v    the power of v's point by which the second half of its row is the first: x^alpha (kind 2: x^(k-1))
-- Assumes nothing.
use Rattle.std.specs.Prelude.{cond, ℕ, ◌+◌, ◌*◌, ◌-◌, ◌/◌, eqb, get_or}
use Rattle.field.specs.declared.Symbol.{Symbol}
use Rattle.algebra.specs.Symbol.{F, symbol, pow}
use Rattle.algebra.specs.Sums.{Vec}
use Rattle.codes.specs.declared.Code.{Code}

-- the symbol that stands past the end of a list of symbols
abbrev pub none : Symbol
none = record { 0 = 0 }

unfoldable pub alpha : Code → ℕ
alpha c = cond (eqb c.kind 1) c.d (c.k - 1)

unfoldable pub bytes : Code → ℕ
bytes c = cond (eqb c.kind 1) (c.k * (c.k + 1) / 2 + c.k * (c.d - c.k)) (c.k * (c.k - 1))

unfoldable pub point : Code → ℕ → F
point c v = symbol (get_or c.points (v - 1) none).0

abbrev pub row : Code → ℕ → Vec
row c v = pow (point c v)

abbrev pub lambda : Code → ℕ → F
lambda c v = pow (point c v) (alpha c)
