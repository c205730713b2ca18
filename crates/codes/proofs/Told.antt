-- The ladder of refusals, once for every operation: which reason decides, and how an answer is handed on to an operation with more reasons.
-- Assumes nothing.
use mathlib.Core.Path.{◌≡◌, ◌∙◌, refl, sym, ap, ap₂}
use mathlib.Core.Logic.{inl, inr, ◌↔◌, ◌≢◌}
use mathlib.Core.Bool.{Bool, true, false, not}
use mathlib.Core.List.{List, [], ◌∷◌, ◌++◌}
use Prim.Native.Nat.{ℕ, zero, suc}
use native.Mathlib.Omega.{arith}
use lib.Dec.{eqb}
use lib.ListN.{get_or}
use borrow.Author.Tests.{ne_eqb, eqb-false, not-true}
use Rattle.std.specs.Prelude.{Result, Ok, Err, IsErrAnd}
use Rattle.codes.specs.Told.{Told, Reason, ◌when◌, number_of, first_of, second_of, refused, done, say, refusal, tell, answered}
use Rattle.codes.specs.Reasons.{Raised, Clear, numbered}
use Rattle.codes.specs.declared.Refusal.{Refusal}
use Rattle.codes.specs.declared.Refusal.TheVariants.{Record, Kind, Size, Points, Length, Node, Repeat, Mixed, Order, Place}
use Rattle.codes.proofs.Bools.{by-test, and_left, and_right}

-- one reason

pub refusal-skip : (n : ℕ) {t : Bool} (rs : List Reason) → t ≡ false → refusal ((n when t) ∷ rs) ≡ refusal rs
unfolding refusal
refusal-skip n rs e = rw (refusal, e)

pub refusal-stop : (n : ℕ) {t : Bool} (rs : List Reason) → t ≡ true → refusal ((n when t) ∷ rs) ≡ n
unfolding refusal
refusal-stop n rs e = rw (refusal, e)

pub refusal-none : refusal [] ≡ 0
unfolding refusal
refusal-none = refl

pub answered-skip : (n : ℕ) {t : Bool} (rs : List Reason) (p : ℕ × ℕ) (v : ℕ) → t ≡ false → answered ((n when t) ∷ rs) p v ≡ answered rs p v
unfolding answered
answered-skip n rs p v e = ap (λ (m : ℕ). tell m p v) (refusal-skip n rs e)

pub answered-stop : (n : ℕ) {t : Bool} (rs : List Reason) (p : ℕ × ℕ) (v : ℕ) → t ≡ true → answered ((n when t) ∷ rs) p v ≡ tell n p v
unfolding answered
answered-stop n rs p v e = ap (λ (m : ℕ). tell m p v) (refusal-stop n rs e)

pub answered-none : (p : ℕ × ℕ) (v : ℕ) → answered [] p v ≡ done v
unfolding answered tell refusal
answered-none p v = refl

-- exactly which reason decides: demand 1, once over the list of reasons

pub raised : (rs : List Reason) (n : ℕ) → Raised rs n → refusal rs ≡ n
raised [] n h = absurd h
raised (r ∷ rs) n (inl h) = refusal-stop r.number rs h.0 ∙ h.1
raised (r ∷ rs) n (inr h) = refusal-skip r.number rs h.0 ∙ raised rs n h.1

pub clear : (rs : List Reason) → Clear rs → refusal rs ≡ 0
clear [] h = refusal-none
clear (r ∷ rs) h = refusal-skip r.number rs h.0 ∙ clear rs h.1

raises : (rs : List Reason) (n : ℕ) → n ≢ 0 → refusal rs ≡ n → Raised rs n
raises [] n z e = absurd (z (sym e ∙ refusal-none))
raises (r ∷ rs) n z e =
    by-test r.holds (λ h. inl (h, sym (refusal-stop r.number rs h) ∙ e))
    (λ h. inr (h, raises rs n z (sym (refusal-skip r.number rs h) ∙ e)))

clears : (rs : List Reason) → numbered rs ≡ true → refusal rs ≡ 0 → Clear rs
clears [] k e = tt
clears (r ∷ rs) k e =
    let z = not (eqb r.number 0) in
    by-test r.holds
    (λ h. absurd (eqb-false r.number 0 (not-true _ (and_left z (numbered rs) k)) (sym (refusal-stop r.number rs h) ∙ e)))
    (λ h. (h, clears rs (and_right z (numbered rs) k) (sym (refusal-skip r.number rs h) ∙ e)))

pub record Exact (rs : List Reason) : Type 0 where
  -- refusal n is given exactly when a reason with that number holds and none before it does
  pub given : (n : ℕ) → n ≢ 0 → (refusal rs ≡ n) ↔ Raised rs n
  -- done is given exactly when no reason holds
  pub none : (refusal rs ≡ 0) ↔ Clear rs

pub refusal-exact : (rs : List Reason) → numbered rs ≡ true → Exact rs
refusal-exact rs k = record {
  given = λ n z. (raises rs n z, raised rs n);
  none = (clears rs k, clear rs);
}

-- more reasons after those that were judged

pub refusal-stays : (rs more : List Reason) → refusal rs ≢ 0 → refusal (rs ++ more) ≡ refusal rs
refusal-stays [] more z = absurd (z refusal-none)
refusal-stays (r ∷ rs) more z =
    by-test r.holds (λ h. refusal-stop r.number (rs ++ more) h ∙ sym (refusal-stop r.number rs h))
    (λ h. refusal-skip r.number (rs ++ more) h ∙ refusal-stays rs more (λ e. z (refusal-skip r.number rs h ∙ e)) ∙ sym (refusal-skip r.number rs h))

pub refusal-goes-on : (rs more : List Reason) → Clear rs → refusal (rs ++ more) ≡ refusal more
refusal-goes-on [] more h = refl
refusal-goes-on (r ∷ rs) more h = refusal-skip r.number (rs ++ more) h.0 ∙ refusal-goes-on rs more h.1

-- what is told

told-number : (n : ℕ) (p : ℕ × ℕ) (v : ℕ) → (tell n p v).number ≡ n
unfolding tell
told-number zero p v = refl
told-number (suc n) p v = simp (ne_eqb (suc n) 0 (λ e. omega arith))

pub answered-number : (rs : List Reason) (p : ℕ × ℕ) (v : ℕ) → (answered rs p v).number ≡ refusal rs
unfolding answered
answered-number rs p v = told-number (refusal rs) p v

-- a refusal carries no value
tell-refusal : (n : ℕ) (p : ℕ × ℕ) (v w : ℕ) → n ≢ 0 → tell n p v ≡ tell n p w
unfolding tell
tell-refusal zero p v w z = absurd (z refl)
tell-refusal (suc n) p v w z = simp (ne_eqb (suc n) 0 z)

-- only refusal 4 has a pair, and no refusal a value
told-pair : (n : ℕ) (p : ℕ × ℕ) (v : ℕ) → n ≢ 4 → ((tell n p v).first ≡ 0) × ((tell n p v).second ≡ 0)
unfolding tell
told-pair zero p v z = (refl, refl)
told-pair (suc n) p v z = let e = ne_eqb (suc n) 0 (λ f. omega arith) in (simp (e, ne_eqb (suc n) 4 z), simp (e, ne_eqb (suc n) 4 z))

told-value : (n : ℕ) (p : ℕ × ℕ) (v : ℕ) → n ≢ 0 → (tell n p v).value ≡ 0
unfolding tell
told-value n p v z = simp (ne_eqb n 0 z)

told-bare : (n : ℕ) (p : ℕ × ℕ) → (tell n p 0).value ≡ 0
unfolding tell
told-bare zero p = refl
told-bare (suc n) p = told-value (suc n) p 0 (λ e. omega arith)

-- an operation whose done carries nothing
pub answered-bare : (rs : List Reason) (p : ℕ × ℕ) → (answered rs p 0).value ≡ 0
unfolding answered
answered-bare rs p = told-bare (refusal rs) p

module _ (rs : List Reason) (p : ℕ × ℕ) (v : ℕ) where
  pub answered-pair : refusal rs ≢ 4 → ((answered rs p v).first ≡ 0) × ((answered rs p v).second ≡ 0)
  unfolding answered
  answered-pair z = told-pair (refusal rs) p v z

  pub answered-value : refusal rs ≢ 0 → (answered rs p v).value ≡ 0
  unfolding answered
  answered-value z = told-value (refusal rs) p v z

  pub answered-four : refusal rs ≡ 4 → ((answered rs p v).first ≡ p.0) × ((answered rs p v).second ≡ p.1)
  unfolding answered tell
  answered-four e = (ap (λ (n : ℕ). (tell n p v).first) e, ap (λ (n : ℕ). (tell n p v).second) e)

pub number-nonzero : (r : Refusal) → number_of r ≢ 0
number-nonzero Record e = omega arith
number-nonzero Kind e = omega arith
number-nonzero Size e = omega arith
number-nonzero (Points i j) e = omega arith
number-nonzero Length e = omega arith
number-nonzero Node e = omega arith
number-nonzero Repeat e = omega arith
number-nonzero Mixed e = omega arith
number-nonzero Order e = omega arith
number-nonzero Place e = omega arith

tell-refused : (r : Refusal) (p : ℕ × ℕ) (v : ℕ) → number_of r ≢ 4 → refused r ≡ tell (number_of r) p v
unfolding tell
tell-refused Record p v z = refl
tell-refused Kind p v z = refl
tell-refused Size p v z = refl
tell-refused (Points i j) p v z = absurd (z refl)
tell-refused Length p v z = refl
tell-refused Node p v z = refl
tell-refused Repeat p v z = refl
tell-refused Mixed p v z = refl
tell-refused Order p v z = refl
tell-refused Place p v z = refl

-- the first reason holds
pub refused-first : (r : Refusal) {t : Bool} (rs : List Reason) (p : ℕ × ℕ) (v : ℕ) → number_of r ≢ 4 → t ≡ true
    → refused r ≡ answered ((number_of r when t) ∷ rs) p v
refused-first r rs p v z e = tell-refused r p v z ∙ sym (answered-stop (number_of r) rs p v e)

pub points-first : {t : Bool} (i j : ℕ) (rs : List Reason) (p : ℕ × ℕ) (v : ℕ) → t ≡ true → i ≡ p.0 → j ≡ p.1
    → refused (Points i j) ≡ answered ((4 when t) ∷ rs) p v
unfolding tell
points-first i j rs p v e f g =
    ap₂ (λ (x y : ℕ). record { number = 4; first = x; second = y; value = 0 }) f g ∙ sym (answered-stop 4 rs p v e)

-- a refusal by the first reasons is the refusal by all of them
pub answered-hand-on : (r : Refusal) (rs more : List Reason) (p : ℕ × ℕ) (v w : ℕ) → refused r ≡ answered rs p v
    → refused r ≡ answered (rs ++ more) p w
unfolding answered
answered-hand-on r rs more p v w e =
    let n : number_of r ≡ refusal rs = ap (λ (t : Told). t.number) e ∙ told-number (refusal rs) p v in
    let z : refusal rs ≢ 0 = λ f. number-nonzero r (n ∙ f) in
    e ∙ tell-refusal (refusal rs) p v w z ∙ ap (λ (m : ℕ). tell m p w) (sym (refusal-stays rs more z))

-- done by the first reasons: none of them holds
pub done-clear : (rs : List Reason) (p : ℕ × ℕ) (u v : ℕ) → numbered rs ≡ true → done u ≡ answered rs p v → Clear rs
done-clear rs p u v k e = clears rs k (sym (answered-number rs p v) ∙ sym (ap (λ (t : Told). t.number) e))

pub clear-done : (rs : List Reason) (p : ℕ × ℕ) (v : ℕ) → Clear rs → answered rs p v ≡ done v
unfolding answered tell
clear-done rs p v h = ap (λ (m : ℕ). tell m p v) (clear rs h)

pub answered-goes-on : (rs more : List Reason) (p : ℕ × ℕ) (v : ℕ) → Clear rs → answered (rs ++ more) p v ≡ answered more p v
unfolding answered
answered-goes-on rs more p v h = ap (λ (m : ℕ). tell m p v) (refusal-goes-on rs more h)

-- two refusals that say the same are equal

named : ℕ → ℕ → ℕ → Refusal
named n i j = get_or (Place ∷ Record ∷ Kind ∷ Size ∷ Points i j ∷ Length ∷ Node ∷ Repeat ∷ Mixed ∷ Order ∷ []) n Place

named_back : (r : Refusal) → named (number_of r) (first_of r) (second_of r) ≡ r
unfolding named
named_back Record = refl
named_back Kind = refl
named_back Size = refl
named_back (Points i j) = refl
named_back Length = refl
named_back Node = refl
named_back Repeat = refl
named_back Mixed = refl
named_back Order = refl
named_back Place = refl

pub told-only : (r s : Refusal) → refused r ≡ refused s → r ≡ s
told-only r s e = sym (named_back r) ∙ ap (λ (t : Told). named t.number t.first t.second) e ∙ named_back s

-- a refusal that a `?` hands on

pub handed-on : {A : Type 0} (v : A → ℕ) (j : Result A Refusal) (r : Refusal) {t : Told} → IsErrAnd j (λ d. d ≡ r) → refused r ≡ t → say v j ≡ t
handed-on v (Ok a) r h e = absurd h
handed-on v (Err d) r h e = ap refused h ∙ e
