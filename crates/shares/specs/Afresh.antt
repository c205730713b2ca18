-- The share file of a book, encoded afresh: what every share file held must be.
--   stripe_of c book i       the message of the stripe i: the bytes i B to (i + 1) B of the book
--   stripes_from c v book i n    the D records of n stripes from the stripe i on
--   afresh c v t m book     the share file of the node v, with t stripes and the slip count m
--   Slip                    a slip: a stripe, an index and a change;   slip_record n s    its P record, with the number n
--   amended c book s        the book with the change of the slip s added at its place;   amended_by c book ss    with a list of slips, one after the other
-- Assumes nothing.
use Rattle.std.specs.Prelude.{List, [], ◌∷◌, ◌++◌, ℕ, zero, suc, ◌+◌, ◌*◌, take, drop}
use Rattle.records.specs.Numbers.{digits}
use Rattle.codes.specs.Sizes.{bytes}
use Rattle.codes.specs.Share.{share, changed}
use Rattle.codes.specs.declared.Code.{Code}
use Rattle.shares.specs.Fields.{code_record, node_record, stripe_record}

abbrev pub stripe_of : Code → List ℕ → ℕ → List ℕ
stripe_of c book i = take (bytes c) (drop (i * bytes c) book)

unfoldable pub stripes_from : Code → ℕ → List ℕ → ℕ → ℕ → List ℕ
stripes_from c v book i zero = []
stripes_from c v book i (suc n) = stripe_record i (share c v (stripe_of c book i)) ++ stripes_from c v book (suc i) n

unfoldable pub afresh : Code → ℕ → ℕ → ℕ → List ℕ → List ℕ
afresh c v t m book = code_record c ++ (node_record v t m ++ stripes_from c v book 0 t)

pub record Slip : Type 0 where
  pub stripe : ℕ
  pub index : ℕ
  pub change : ℕ

unfoldable pub slip_record : ℕ → Slip → List ℕ
slip_record n s = 0x50 ∷ (digits 4 n ++ (digits 2 s.stripe ++ (digits 2 s.index ++ (s.change ∷ []))))

unfoldable pub amended : Code → List ℕ → Slip → List ℕ
amended c book s = changed book (s.stripe * bytes c + s.index) s.change

unfoldable pub amended_by : Code → List ℕ → List Slip → List ℕ
amended_by c book [] = book
amended_by c book (s ∷ ss) = amended_by c (amended c book s) ss
