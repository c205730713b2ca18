-- How long a share file is, as far as its first bytes tell.
--   file_length s     the length of the share file that begins with the bytes s: its end is found from the N record. 45 where the N record is not there
--                    yet, and where its stripe total is outside its rule (such a file is refused by its first 45 bytes)
-- Assumes nothing.
use Rattle.std.specs.Prelude.{◌&&◌, cond, List, ℕ, leb, length}
use Rattle.shares.specs.Fields.{stripes_in, stripe_at}
use Rattle.shares.specs.File.{totalled}

unfoldable pub file_length : List ℕ → ℕ
file_length s = cond (leb 45 (length s) && totalled (stripes_in s)) (stripe_at (stripes_in s)) 45
