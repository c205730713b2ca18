-- Why a code is refused, in document 01's words, and what refusal 4 names. Places are counted from 1.
--   point_at c i          the point at the place i
--   Offends c i j        the nodes i and j, i before j, break the point rule
--   Spoils c i           the place i is unused, and its point is not zero
--   Faulty c             a pair offends, or an unused point is not zero
--   FirstPair c i j      of the offending pairs (i, j) has the smallest first node, and then the smallest second
--   FirstSpoilt c i      no pair offends, and i is the first unused place whose point is not zero
--   Names c i j          refusal 4 names i and j: the first pair, or the first unused place twice
--   code_words c P        the reasons for refusing the code c, in order, where P says that a size is outside its rule
--   judge_words c         those of the judge
-- Assumes nothing.
use Rattle.std.specs.Prelude.{◌≡◌, ◌⊎◌, ◌≢◌, List, [], ◌∷◌, ℕ, ◌-◌, ◌<◌, ◌≤◌, get_or}
use Rattle.codes.specs.Sizes.{none}
use Rattle.codes.specs.Judge.{mark}
use Rattle.codes.specs.Rules.{Known, Sized}
use Rattle.codes.specs.declared.Code.{Code}
use Rattle.demands.specs.Words.{Word, ◌because◌}

abbrev pub point_at : Code → ℕ → ℕ
point_at c i = (get_or c.points (i - 1) none).0

pub record Offends (c : Code) (i j : ℕ) : Type 0 where
  pub from : 1 ≤ i
  pub order : i < j
  pub to : j ≤ c.n
  pub equal : mark c (point_at c i) ≡ mark c (point_at c j)

pub record Spoils (c : Code) (i : ℕ) : Type 0 where
  pub past : c.n < i
  pub to : i ≤ 32
  pub nonzero : point_at c i ≢ 0

abbrev pub Faulty : Code → Type 0
Faulty c = ((i : ℕ) × (j : ℕ) × Offends c i j) ⊎ ((i : ℕ) × Spoils c i)

pub record FirstPair (c : Code) (i j : ℕ) : Type 0 where
  pub offends : Offends c i j
  pub smallest : (a b : ℕ) → Offends c a b → i ≤ a
  pub nearest : (b : ℕ) → Offends c i b → j ≤ b

pub record FirstSpoilt (c : Code) (i : ℕ) : Type 0 where
  pub alone : (a b : ℕ) → Offends c a b → ⊥
  pub spoils : Spoils c i
  pub smallest : (a : ℕ) → Spoils c a → i ≤ a

abbrev pub Names : Code → ℕ → ℕ → Type 0
Names c i j = FirstPair c i j ⊎ (FirstSpoilt c i × (j ≡ i))

abbrev pub code_words : Code → Type 0 → List Word
code_words c P =
    (2 because (Known c.kind → ⊥))
    ∷ (3 because P)
    ∷ (4 because Faulty c)
    ∷ []

abbrev pub judge_words : Code → List Word
judge_words c = code_words c (Sized c → ⊥)
