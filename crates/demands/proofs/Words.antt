-- From a list of tests to a list of words: the tests decide what the words do. Once for every operation.
--   Matches rs ws     the reasons rs are the words ws: by number, and each test says its words, where no test before it holds
--   decided           the number that the tests rs give is the one that the words ws decide
--   numbers           the tests give the number of one of them, or 0
--   no-four           reasons none of which is numbered 4 do not give 4
--   decided-only      the words decide one number
-- Assumes nothing.
use mathlib.Core.Path.{◌≡◌, ◌∙◌, refl, sym}
use mathlib.Core.Logic.{◌⊎◌, inl, inr, ⊎_elim, ◌≢◌}
use mathlib.Core.Bool.{Bool, true, false, not, ◌&&◌}
use mathlib.Core.List.{List, [], ◌∷◌}
use Prim.Native.Nat.{ℕ}
use native.Mathlib.Omega.{arith}
use lib.Dec.{eqb}
use borrow.Author.Tests.{eqb-true, eqb-false, not-true}
use Rattle.codes.specs.Told.{Reason, refusal}
use Rattle.codes.specs.Reasons.{Raised, Clear, numbered}
use Rattle.codes.proofs.Bools.{apart, by-test, and_left, and_right, fails}
use Rattle.codes.proofs.Told.{Exact, refusal-exact, refusal-none, refusal-skip, refusal-stop}
use Rattle.demands.specs.Words.{Word, First, None, Decided}
use Rattle.demands.specs.Inputs.{Among}
use Rattle.demands.proofs.Says.{Says}
use Rattle.demands.proofs.Inputs.{among-cons}

pub data Matches : List Reason → List Word → Type 1 where
  end : Matches [] []
  step : {r : Reason} {w : Word} {rs : List Reason} {ws : List Word} → r.number ≡ w.number → Says r.holds w.holds
      → (r.holds ≡ false → Matches rs ws) → Matches (r ∷ rs) (w ∷ ws)

-- a test that fails denies its words, and words that are denied fail their test
denies : {t : Bool} {P : Type 0} → Says t P → t ≡ false → P → ⊥
denies s e p = apart _ (s.1 p) e

denied : {t : Bool} {P : Type 0} → Says t P → (P → ⊥) → t ≡ false
denied {t} s h = fails t (λ e. h (s.0 e))

first-when : {rs : List Reason} {ws : List Word} → Matches rs ws → (n : ℕ) → Raised rs n → First ws n
first-when end n h = absurd h
first-when (step e s m) n (inl h) = inl (s.0 h.0, sym e ∙ h.1)
first-when (step e s m) n (inr h) = inr (denies s h.0, first-when (m h.0) n h.1)

raised-when : {rs : List Reason} {ws : List Word} → Matches rs ws → (n : ℕ) → First ws n → Raised rs n
raised-when end n h = absurd h
raised-when (step e s m) n (inl h) = inl (s.1 h.0, e ∙ h.1)
raised-when (step e s m) n (inr h) = let f = denied s h.0 in inr (f, raised-when (m f) n h.1)

none-when : {rs : List Reason} {ws : List Word} → Matches rs ws → Clear rs → None ws
none-when end h = tt
none-when (step e s m) h = (denies s h.0, none-when (m h.0) h.1)

clear-when : {rs : List Reason} {ws : List Word} → Matches rs ws → None ws → Clear rs
clear-when end h = tt
clear-when (step e s m) h = let f = denied s h.0 in (f, clear-when (m f) h.1)

pub decided : {rs : List Reason} {ws : List Word} → numbered rs ≡ true → Matches rs ws → Decided ws (refusal rs)
decided {rs} k m =
    let ex : Exact rs = refusal-exact rs k in
    record {
      given = λ n z. (λ e. first-when m n ((ex.given n z).0 e), λ h. (ex.given n z).1 (raised-when m n h));
      done = (λ e. none-when m (ex.none.0 e), λ h. ex.none.1 (clear-when m h));
    }

-- which numbers are given

abbrev pub numbers_of : List Reason → List ℕ
numbers_of [] = []
numbers_of (r ∷ rs) = r.number ∷ numbers_of rs

pub numbers : (rs : List Reason) → Among (λ n. refusal rs ≡ n) (0 ∷ numbers_of rs)
numbers rs = among-cons (λ n. refusal rs ≡ n) 0 (numbers_of rs) (one rs)
  where
    one : (rs : List Reason) → (refusal rs ≡ 0) ⊎ Among (λ n. refusal rs ≡ n) (numbers_of rs)
    one [] = inl refusal-none
    one (r ∷ rs) =
        by-test r.holds (λ h. inr (among-cons _ _ _ (inl (refusal-stop r.number rs h))))
        (λ h. let e = refusal-skip r.number rs h in
        ⊎_elim (λ z. inl (e ∙ z)) (λ a. inr (among-cons _ _ _ (inr (record { place = a.place; within = a.within; is = e ∙ a.is })))) (one rs))

abbrev pub unpaired : List Reason → Bool
unpaired [] = true
unpaired (r ∷ rs) = not (eqb r.number 4) && unpaired rs

pub no-four : (rs : List Reason) → unpaired rs ≡ true → refusal rs ≢ 4
no-four [] u e = omega (arith, sym refusal-none ∙ e)
no-four (r ∷ rs) u e =
    by-test r.holds
    (λ h. eqb-false r.number 4 (not-true _ (and_left _ (unpaired rs) u)) (sym (refusal-stop r.number rs h) ∙ e))
    (λ h. no-four rs (and_right (not (eqb r.number 4)) (unpaired rs) u) (sym (refusal-skip r.number rs h) ∙ e))

pub decided-only : (ws : List Word) (a b : ℕ) → Decided ws a → Decided ws b → a ≡ b
decided-only ws a b d f =
    by-test (eqb a 0)
    (λ e. let z = eqb-true a 0 e in z ∙ sym (f.done.1 (d.done.0 z)))
    (λ e. let z = eqb-false a 0 e in sym ((f.given a z).1 ((d.given a z).0 refl)))
