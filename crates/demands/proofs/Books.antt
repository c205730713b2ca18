-- A book with slips applied one after the other.
--   amended-long      the book's length after a slip
--   amended-more      one slip more
--   amended-all       the length after any slips
-- Assumes nothing.
use mathlib.Core.Path.{◌≡◌, ◌∙◌, refl}
use mathlib.Core.List.{List, [], ◌∷◌, ◌++◌}
use Prim.Native.Nat.{ℕ, ◌+◌, ◌*◌}
use lib.Bits.{bit_xor}
use lib.ListN.{length, get_or, length-set}
use Rattle.codes.specs.Sizes.{bytes}
use Rattle.codes.specs.Share.{changed}
use Rattle.codes.specs.declared.Code.{Code}
use Rattle.shares.specs.Afresh.{Slip, amended, amended_by}

pub amended-long : (c : Code) (book : List ℕ) (s : Slip) → length (amended c book s) ≡ length book
unfolding amended changed
amended-long c book s =
    length-set book (s.stripe * bytes c + s.index) (bit_xor (get_or book (s.stripe * bytes c + s.index) 0) s.change)

pub amended-more : (c : Code) (book : List ℕ) (ss : List Slip) (s : Slip) → amended_by c book (ss ++ (s ∷ [])) ≡ amended c (amended_by c book ss) s
unfolding amended_by
amended-more c book [] s = refl
amended-more c book (x ∷ ss) s = amended-more c (amended c book x) ss s

pub amended-all : (c : Code) (book : List ℕ) (ss : List Slip) → length (amended_by c book ss) ≡ length book
unfolding amended_by
amended-all c book [] = refl
amended-all c book (s ∷ ss) = amended-all c (amended c book s) ss ∙ amended-long c book s
