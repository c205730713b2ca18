-- Shares, helpers' symbols and corrected messages, as document 01 says them.
--   share_at c v m       the share of the node v: its row times the message matrix (source 001, equation (9)), as a vector
--   share c v m         the same as alpha bytes
--   symbol_for c f s     what a helper with the share s sends for the failed node f: s times the first alpha entries of f's row
--   symbols_for c f hs m   what the d helpers hs send for the failed node f, from the shares of the message m
--   shares_of c vs m     the shares of the nodes vs, one after the other
--   changed m b δ       the message m with δ added to its symbol b
--   effect c v b j      by how much the byte j of the share of v moves for a change 1 of the message's symbol b
--   nudged s j δ x      the share s with δ times x added to its byte j
--   slipped c v b δ s   the share s of v after a slip: δ is added to the message's symbol b, which moves two bytes, or one on the diagonal
-- Assumes nothing.
use Rattle.std.specs.Prelude.{cond, List, [], ◌∷◌, ◌++◌, ℕ, ◌+◌, ◌*◌, eqb, get_or, set}
use Rattle.std.specs.Int.Bits.{bit_xor}
use Rattle.algebra.specs.Symbol.{F, symbol, ◌⊗◌}
use Rattle.algebra.specs.Sums.{Vec, dot, left}
use Rattle.algebra.specs.Bytes.{at, table}
use Rattle.codes.specs.Sizes.{alpha, row}
use Rattle.codes.specs.Matrix.{matrix, lane, row_of, col_of}
use Rattle.codes.specs.General.{moved}
use Rattle.codes.specs.declared.Code.{Code}

abbrev pub share_at : Code → ℕ → Vec → Vec
share_at c v m = left c.d (row c v) (matrix c m)

unfoldable pub share : Code → ℕ → List ℕ → List ℕ
share c v m = table (alpha c) (share_at c v (at m))

unfoldable pub symbol_for : Code → ℕ → List ℕ → F
symbol_for c f s = dot (alpha c) (at s) (row c f)

abbrev pub symbols_for : Code → ℕ → List ℕ → List ℕ → List ℕ
symbols_for c f hs m = table c.d (λ t. symbol_for c f (share c (get_or hs t 0) m))

unfoldable pub shares_of : Code → List ℕ → List ℕ → List ℕ
shares_of c [] m = []
shares_of c (v ∷ vs) m = share c v m ++ shares_of c vs m

unfoldable pub changed : List ℕ → ℕ → ℕ → List ℕ
changed m b δ = set m b (bit_xor (get_or m b 0) δ)

abbrev pub effect : Code → ℕ → ℕ → Vec
effect c v = moved (alpha c) (lane c) (row_of c) (col_of c) (row c v)

unfoldable pub nudged : List ℕ → ℕ → ℕ → F → List ℕ
nudged s j δ x = set s j (bit_xor (get_or s j 0) (symbol δ ⊗ x).val)

unfoldable pub slipped : Code → ℕ → ℕ → ℕ → List ℕ → List ℕ
slipped c v b δ s = cond (eqb (row_of c b) (col_of c b)) upper (nudged upper (row_of c b) δ (row c v (lane c b * alpha c + col_of c b)))
  where
    upper : List ℕ
    upper = nudged s (col_of c b) δ (row c v (lane c b * alpha c + row_of c b))
