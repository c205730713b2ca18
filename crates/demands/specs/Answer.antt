-- Demand 1, once for every operation.
--   Tells c ws ns Val t       t is what demand 1 asks to be told, where the operation's reasons are ws, their numbers ns, its code is c,
--                             and Val says what value a done answer carries
--   Answers c ws ns Val t     the same of an operation on a code: the judge's reasons come first, and ws are its own
--   Judges judge              demand 1 of the judge, who has no further reason
--   Leaves n a b o            of a lent run that held a, o is what demand 1 asks to be left by the answer n, where b is what done writes
-- Assumes nothing.
use Rattle.std.specs.Prelude.{◌≡◌, ◌≢◌, List, [], ◌∷◌, ◌++◌, ℕ}
use Rattle.codes.specs.Told.{Told}
use Rattle.codes.specs.declared.Code.{Code}
use Rattle.demands.specs.Words.{Word, Decided}
use Rattle.demands.specs.Inputs.{Among}
use Rattle.demands.specs.Judge.{Names, judge_words}

pub record Tells (c : Code) (ws : List Word) (ns : List ℕ) (Val : ℕ → Type 0) (t : Told) : Type 0 where
  pub decided : Decided ws t.number
  -- no other number is given
  pub only : Among (λ n. t.number ≡ n) (0 ∷ ns)
  -- only refusal 4 names a pair
  pub named : t.number ≡ 4 → Names c t.first t.second
  pub nothing : t.number ≢ 4 → (t.first ≡ 0) × (t.second ≡ 0)
  -- only done carries a value
  pub carried : t.number ≡ 0 → Val t.value
  pub empty : t.number ≢ 0 → t.value ≡ 0

abbrev pub Answers : Code → List Word → List ℕ → (ℕ → Type 0) → Told → Type 0
Answers c ws ns Val t = Tells c (judge_words c ++ ws) (2 ∷ 3 ∷ 4 ∷ ns) Val t

abbrev pub Judges : (Code → Told) → Type 0
Judges judge = (c : Code) → Answers c [] [] (λ v. v ≡ 0) (judge c)

pub record Leaves (number : ℕ) (before whole after : List ℕ) : Type 0 where
  pub kept : number ≢ 0 → after ≡ before
  pub written : number ≡ 0 → after ≡ whole
