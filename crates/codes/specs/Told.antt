-- What an answer says, in document 01's numbers, and which refusal is given where several reasons hold.
--   Told                 a refusal's number (0: done), its pair, and the value that a done answer carries (0 on a refusal)
--   number_of, first_of, second_of      document 01's number and pair of each refusal
--   refused r            what the refusal r says;   done v    what a done answer with the value v says
--   say v r              what an answer says: done with the value v of what it gives, or its refusal
--   n when t             a reason: refusal n holds where the test t does
--   refusal rs           of reasons in their order the first that holds: its number, and 0 where none does
--   tell n p v           what the number n says, with the pair p of refusal 4 and the value v of done
--   answered rs p v      the answer of an operation whose reasons are rs, with the pair p of refusal 4 and the value v of done
-- Assumes nothing.
use Rattle.std.specs.Prelude.{Bool, cond, List, [], ◌∷◌, ℕ, eqb, Result, Ok, Err}
use Rattle.codes.specs.declared.Refusal.{Refusal}
use Rattle.codes.specs.declared.Refusal.TheVariants.{Record, Kind, Size, Points, Length, Node, Repeat, Mixed, Order, Place}

pub record Told : Type 0 where
  pub number : ℕ
  pub first : ℕ
  pub second : ℕ
  pub value : ℕ

abbrev pub number_of : Refusal → ℕ
number_of Record = 1
number_of Kind = 2
number_of Size = 3
number_of (Points i j) = 4
number_of Length = 5
number_of Node = 6
number_of Repeat = 7
number_of Mixed = 8
number_of Order = 9
number_of Place = 10

abbrev pub first_of : Refusal → ℕ
first_of Record = 0
first_of Kind = 0
first_of Size = 0
first_of (Points i j) = i
first_of Length = 0
first_of Node = 0
first_of Repeat = 0
first_of Mixed = 0
first_of Order = 0
first_of Place = 0

abbrev pub second_of : Refusal → ℕ
second_of Record = 0
second_of Kind = 0
second_of Size = 0
second_of (Points i j) = j
second_of Length = 0
second_of Node = 0
second_of Repeat = 0
second_of Mixed = 0
second_of Order = 0
second_of Place = 0

abbrev pub refused : Refusal → Told
refused r = record { number = number_of r; first = first_of r; second = second_of r; value = 0 }

abbrev pub done : ℕ → Told
done v = record { number = 0; first = 0; second = 0; value = v }

abbrev pub say : {A : Type 0} → (A → ℕ) → Result A Refusal → Told
say v (Ok a) = done (v a)
say v (Err r) = refused r

-- a refusal's number, and whether its reason holds
pub record Reason : Type 0 where
  pub number : ℕ
  pub holds : Bool

infix 5 ◌when◌
abbrev pub ◌when◌ : ℕ → Bool → Reason
n when t = record { number = n; holds = t }

unfoldable pub refusal : List Reason → ℕ
refusal [] = 0
refusal (r ∷ rs) = cond r.holds r.number (refusal rs)

-- only refusal 4 has a pair, and only done has a value
unfoldable pub tell : ℕ → ℕ × ℕ → ℕ → Told
tell n p v =
    cond (eqb n 0) (done v)
    (record { number = n; first = cond (eqb n 4) p.0 0; second = cond (eqb n 4) p.1 0; value = 0 })

unfoldable pub answered : List Reason → ℕ × ℕ → ℕ → Told
answered rs p v = tell (refusal rs) p v
