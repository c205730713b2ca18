-- The records of a share file, written, and the numbers in one, read. A share file is C, N, then one D for each stripe.
--   number_of x               the byte of a symbol
--   code_record c             C: the code's kind, n, k, d and 32 points
--   node_record v t m         N: the node v, the stripe total t and the slip count m
--   stripe_record i s         D: the stripe i and its share s, zeros past it up to 31 symbols
--   help_record f h m i y     H: the failed node f, the helper h, the count m, the stripe i and the symbol y
--   code_in, node_in, stripes_in, count_in     what C and N say in a file, a byte past its end counting 0
--   stripe_at i               where the D record i begins
--   part s at n              the n bytes of s from the place at on, or those that are there
--   share_in c s i            the share in the D record i of the file s
-- Assumes nothing.
use Rattle.std.specs.Prelude.{List, [], ◌∷◌, ◌++◌, map, ℕ, ◌+◌, ◌*◌, ◌-◌, length, get_or, take, drop, replicate}
use Rattle.field.specs.declared.Symbol.{Symbol}
use Rattle.records.specs.Numbers.{number_at, digits}
use Rattle.codes.specs.Sizes.{alpha}
use Rattle.codes.specs.Body.{code_at}
use Rattle.codes.specs.declared.Code.{Code}

abbrev pub number_of : Symbol → ℕ
number_of x = x.0

unfoldable pub code_record : Code → List ℕ
code_record c = 0x43 ∷ c.kind ∷ c.n ∷ c.k ∷ c.d ∷ map number_of c.points

unfoldable pub node_record : ℕ → ℕ → ℕ → List ℕ
node_record v t m = 0x4E ∷ v ∷ (digits 2 t ++ digits 4 m)

unfoldable pub stripe_record : ℕ → List ℕ → List ℕ
stripe_record i s = 0x44 ∷ (digits 2 i ++ (s ++ replicate (31 - length s) 0))

unfoldable pub help_record : ℕ → ℕ → ℕ → ℕ → ℕ → List ℕ
help_record f h m i y = 0x48 ∷ f ∷ h ∷ (digits 4 m ++ (digits 2 i ++ (y ∷ [])))

abbrev pub code_in : List ℕ → Code
code_in s = code_at s 1

abbrev pub node_in : List ℕ → ℕ
node_in s = get_or s 38 0

abbrev pub stripes_in : List ℕ → ℕ
stripes_in s = number_at 2 s 39

abbrev pub count_in : List ℕ → ℕ
count_in s = number_at 4 s 41

abbrev pub stripe_at : ℕ → ℕ
stripe_at i = 45 + 34 * i

abbrev pub part : List ℕ → ℕ → ℕ → List ℕ
part s at n = take n (drop at s)

abbrev pub share_in : Code → List ℕ → ℕ → List ℕ
share_in c s i = part s (stripe_at i + 3) (alpha c)
