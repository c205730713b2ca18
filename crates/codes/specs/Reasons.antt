-- Which of an operation's reasons decides, said without computing: demand 1 speaks in these words of every operation.
--   Raised rs n     a reason of rs with the number n holds, and none before it does
--   Clear rs        no reason of rs holds
--   numbered rs     no reason of rs has the number 0, which is that of done
-- Assumes nothing.
use Rattle.std.specs.Prelude.{◌≡◌, ◌⊎◌, Bool, true, false, not, ◌&&◌, List, [], ◌∷◌, ℕ, eqb}
use Rattle.codes.specs.Told.{Reason}

abbrev pub Raised : List Reason → ℕ → Type 0
Raised [] n = ⊥
Raised (r ∷ rs) n = ((r.holds ≡ true) × (r.number ≡ n)) ⊎ ((r.holds ≡ false) × Raised rs n)

abbrev pub Clear : List Reason → Type 0
Clear [] = Unit {0}
Clear (r ∷ rs) = (r.holds ≡ false) × Clear rs

abbrev pub numbered : List Reason → Bool
numbered [] = true
numbered (r ∷ rs) = not (eqb r.number 0) && numbered rs
