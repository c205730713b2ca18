-- What an answer of the judge says fixes it: two that say the same are equal.
--   judged-only       of any judge whose done carries what has one value
--   accepted-only     of the judge of codes, whose done carries the code that was judged
-- Assumes nothing.
use mathlib.Core.Path.{◌≡◌, ◌∙◌, refl, sym, ap}
use mathlib.Core.HLevel.{is_prop→PathP}
use Rattle.std.proofs.Props.{props}
use Rattle.std.specs.Prelude.{Result, Ok, Err, IfOk}
use Rattle.std.proofs.lemmas.Result.{IfOk-at_ok}
use Rattle.codes.specs.Told.{Told}
use Rattle.codes.specs.Judge.{say_judged}
use Rattle.codes.specs.Known.{known_prop}
use Rattle.codes.specs.Rules.{Rules}
use Rattle.codes.specs.declared.Code.{Code}
use Rattle.codes.specs.declared.Refusal.{Refusal}
use Rattle.codes.specs.declared.accepted.Accepted.{Accepted}
use Rattle.codes.proofs.Told.{number-nonzero, told-only}

-- the values of two that are done are all that is left to compare
only : {A : Type 0} (r s : Result A Refusal) → ((a b : A) → r ≡ Ok a → s ≡ Ok b → a ≡ b) → say_judged r ≡ say_judged s → r ≡ s
only (Ok a) (Ok b) f e = ap Ok (f a b refl refl)
only (Ok a) (Err s) f e = absurd (number-nonzero s (sym (ap (λ (t : Told). t.number) e)))
only (Err r) (Ok b) f e = absurd (number-nonzero r (ap (λ (t : Told). t.number) e))
only (Err r) (Err s) f e = ap Err (told-only r s e)

pub judged-only : {A : Type 0} → IsProp A → (r s : Result A Refusal) → say_judged r ≡ say_judged s → r ≡ s
judged-only one r s e = only r s (λ a b f g. one a b) e

-- an accepted code is its code: that it keeps the rules has one proof
same-code : (a b : Accepted) → a.code ≡ b.code → a ≡ b
same-code a b e =
    let one : ((c : Code) → IsProp (Rules c)) = hlevel (props, known_prop) in
    λ i. record { code = e i; rules = is_prop→PathP (λ j. Rules (e j)) (λ j. one (e j)) a.rules b.rules i }

pub accepted-only : (c : Code) (r s : Result Accepted Refusal) → IfOk r (λ a. a.code ≡ c) → IfOk s (λ a. a.code ≡ c)
    → say_judged r ≡ say_judged s → r ≡ s
accepted-only c r s p q e =
    let Of : Accepted → Type 0 = λ a. a.code ≡ c in
    only r s (λ a b f g. same-code a b (IfOk-at_ok Of f p ∙ sym (IfOk-at_ok Of g q))) e
