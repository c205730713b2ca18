-- What the judge says of a code, as document 01 says it.
--   known kind                   the kind is 1 or 2
--   sized c                      n, k and d are within the kind's rule
--   mark c x                     what must differ between any two points: kind 1 the point, kind 2 its power k - 1;   marks c    all of them
--   pair_first, pair_second        the first offending pair of places, from 0: the smallest first, then the smallest second; n where there is none
--   unused_at                     the first place from n on whose point is not zero, from 0; 32 where there is none
--   pointed                      no pair offends, and each unused point is zero
--   judge_reasons c               the reasons for refusing c, in order;   pair_of, pair_in c    the pair that refusal 4 names, from 1
--   judged c                     what the judge tells of c;   say_judged   what its answer says
-- Assumes nothing.
use Rattle.std.specs.Prelude.{Bool, not, ◌&&◌, ◌||◌, cond, List, [], ◌∷◌, map, ℕ, ◌+◌, ◌*◌, ◌-◌, ◌%◌, eqb, ltb, leb, get_or, Result}
use Rattle.field.specs.Field.{pow}
use Rattle.field.specs.declared.Symbol.{Symbol}
use Rattle.codes.specs.First.{first}
use Rattle.codes.specs.Sizes.{none}
use Rattle.codes.specs.Told.{Told, Reason, ◌when◌, say, answered}
use Rattle.codes.specs.declared.Code.{Code}
use Rattle.codes.specs.declared.Refusal.{Refusal}

unfoldable pub known : ℕ → Bool
known kind = eqb kind 1 || eqb kind 2

unfoldable pub sized : Code → Bool
sized c =
    leb 2 c.n && leb c.n 32 && leb 1 c.k && leb c.k c.d && leb c.d (c.n - 1)
    && (not (eqb c.kind 2) || (leb 2 c.k && eqb c.d (2 * c.k - 2)))

unfoldable pub mark : Code → ℕ → ℕ
mark c x = cond (eqb c.kind 1) (x % 256) (pow x (c.k - 1))

unfoldable pub marks : Code → List ℕ
marks c = map (λ (x : Symbol). mark c x.0) c.points

-- the place j has the mark of the place i
abbrev pub alike : List ℕ → ℕ → ℕ → Bool
alike ms i j = eqb (get_or ms i 0) (get_or ms j 0)

unfoldable pub pair_second : List ℕ → ℕ → ℕ → ℕ
pair_second ms n i = first (n - (i + 1)) (i + 1) (alike ms i)

-- the mark of the place i stands again after it, below n
abbrev pub again : List ℕ → ℕ → ℕ → Bool
again ms n i = ltb (pair_second ms n i) n

unfoldable pub pair_first : List ℕ → ℕ → ℕ
pair_first ms n = first n 0 (again ms n)

abbrev pub filled : List Symbol → ℕ → Bool
filled ps i = not (eqb (get_or ps i none).0 0)

unfoldable pub unused_at : List Symbol → ℕ → ℕ
unused_at ps n = first (32 - n) n (filled ps)

unfoldable pub pointed : List ℕ → List Symbol → ℕ → Bool
pointed ms ps n = not (ltb (pair_first ms n) n) && not (ltb (unused_at ps n) 32)

unfoldable pub pair_of : List ℕ → List Symbol → ℕ → ℕ × ℕ
pair_of ms ps n =
    cond (ltb (pair_first ms n) n) (pair_first ms n + 1, pair_second ms n (pair_first ms n) + 1) (unused_at ps n + 1, unused_at ps n + 1)

abbrev pub pair_in : Code → ℕ × ℕ
pair_in c = pair_of (marks c) c.points c.n

unfoldable pub judge_reasons : Code → List Reason
judge_reasons c =
    (2 when not (known c.kind))
    ∷ (3 when not (sized c))
    ∷ (4 when not (pointed (marks c) c.points c.n))
    ∷ []

unfoldable pub judged : Code → Told
judged c = answered (judge_reasons c) (pair_in c) 0

abbrev pub say_judged : {A : Type 0} → Result A Refusal → Told
say_judged r = say (λ _. 0) r
