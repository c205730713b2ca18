-- Tests over lists of nodes and of counts.
--   every p xs      each of xs passes the test p
--   has v xs        v is one of xs
--   repeats xs      one of xs stands there twice
--   differ xs       the numbers xs are not all equal
--   within c v      v is a node of the code c: from 1 to n
-- Assumes nothing.
use Rattle.std.specs.Prelude.{Bool, true, false, not, ◌&&◌, ◌||◌, List, [], ◌∷◌, ℕ, eqb, leb}
use Rattle.codes.specs.declared.Code.{Code}

unfoldable pub every : (ℕ → Bool) → List ℕ → Bool
every p [] = true
every p (x ∷ xs) = p x && every p xs

unfoldable pub has : ℕ → List ℕ → Bool
has v [] = false
has v (x ∷ xs) = eqb v x || has v xs

unfoldable pub repeats : List ℕ → Bool
repeats [] = false
repeats (x ∷ xs) = has x xs || repeats xs

unfoldable pub differ : List ℕ → Bool
differ [] = false
differ (x ∷ xs) = not (every (eqb x) xs)

abbrev pub within : Code → ℕ → Bool
within c v = leb 1 v && leb v c.n
