-- An operation's reasons for refusing, in words: which of them decides.
--   Word              a reason: its number in document 01, and what holds exactly when there is reason to refuse
--   n because P       the reason n, which is P
--   First ws n        a reason of ws with the number n holds, and none before it does
--   None ws           no reason of ws holds
--   Decided ws n      n is the number that the reasons ws decide, in their order; 0 where none holds
-- Assumes nothing.
use Rattle.std.specs.Prelude.{◌≡◌, ◌⊎◌, ◌↔◌, ◌≢◌, List, [], ◌∷◌, ℕ}

pub record Word : Type 1 where
  pub number : ℕ
  pub holds : Type 0

infix 5 ◌because◌
abbrev pub ◌because◌ : ℕ → Type 0 → Word
n because P = record { number = n; holds = P }

abbrev pub First : List Word → ℕ → Type 0
First [] n = ⊥
First (w ∷ ws) n = (w.holds × (w.number ≡ n)) ⊎ ((w.holds → ⊥) × First ws n)

abbrev pub None : List Word → Type 0
None [] = Unit {0}
None (w ∷ ws) = (w.holds → ⊥) × None ws

pub record Decided (ws : List Word) (number : ℕ) : Type 0 where
  -- a refusal is given exactly when its reason holds and none before it does
  pub given : (n : ℕ) → n ≢ 0 → (number ≡ n) ↔ First ws n
  -- done is given exactly when no reason holds
  pub done : (number ≡ 0) ↔ None ws
