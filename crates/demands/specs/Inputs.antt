-- What can be wrong with an operation's inputs, in document 01's words.
--   Among P xs        one of xs is P
--   Two R xs          two places of xs, one before the other, are related by R
--   LengthsOff ps     of the runs ps, each with its length and the needed one, one isn't of exactly the needed length
--   Outside c v       the node v is outside 1..n
--   Twice vs          a node stands twice in vs
--   Differing ns      the counts ns differ
--   Common ns n       there are counts ns, and each of them is n
-- Assumes nothing.
use Rattle.std.specs.Prelude.{◌≡◌, ◌⊎◌, ◌≢◌, List, [], ◌∷◌, ℕ, ◌<◌, length, get_or}
use Rattle.codes.specs.declared.Code.{Code}

pub record Among (P : ℕ → Type 0) (xs : List ℕ) : Type 0 where
  pub place : ℕ
  pub within : place < length xs
  pub is : P (get_or xs place 0)

pub record Two (R : ℕ → ℕ → Type 0) (xs : List ℕ) : Type 0 where
  pub first : ℕ
  pub second : ℕ
  pub order : first < second
  pub within : second < length xs
  pub are : R (get_or xs first 0) (get_or xs second 0)

abbrev pub LengthsOff : List (ℕ × ℕ) → Type 0
LengthsOff [] = ⊥
LengthsOff (p ∷ ps) = (p.0 ≢ p.1) ⊎ LengthsOff ps

abbrev pub Outside : Code → ℕ → Type 0
Outside c v = (v < 1) ⊎ (c.n < v)

abbrev pub Twice : List ℕ → Type 0
Twice vs = Two (λ a b. a ≡ b) vs

abbrev pub Differing : List ℕ → Type 0
Differing ns = Two (λ a b. a ≢ b) ns

pub record Common (ns : List ℕ) (n : ℕ) : Type 0 where
  pub some : 0 < length ns
  pub all : (i : ℕ) → i < length ns → get_or ns i 0 ≡ n
