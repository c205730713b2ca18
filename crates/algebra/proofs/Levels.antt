-- Interpolation in place: the two passes over one array leave in it the coefficients of `interp`.
-- The laws name numbers as the loops do: the next place is i + 1, and the next round t + 1.
use mathlib.Core.Path.{◌≡◌, ◌∙◌, sym, ap, ap₂}
use mathlib.Core.Logic.{◌≢◌, by_cases}
use Prim.Native.Nat.{ℕ, suc, ◌+◌, ◌-◌, ◌<◌, ◌≤◌}
use native.Mathlib.Decide.{dec_lt, ℕ_discrete}
use native.Mathlib.Numerals.{add-one}
use native.Mathlib.Omega.{arith}
use Rattle.algebra.specs.Symbol.{F, ◌⊕◌, ◌⊗◌, inv}
use Rattle.algebra.specs.Sums.{Vec, Same}
use Rattle.algebra.specs.Poly.{tail, newton, interp}
use Rattle.algebra.specs.Levels.{from, level, ahead, back, Forward, Backward, Midway, ForwardTo, BackwardTo}
use Rattle.algebra.proofs.Ring.{add_none, mul-none}
use Rattle.algebra.proofs.Sums.{pick-lt, pick-ge}
use Rattle.algebra.proofs.Poly.{newton-none, newton-more, interp-past}

-- ---- an array on its way from one state to the next

module _ {s : ℕ} {old new A : Vec} where
  pub midway-open : (i : ℕ) → Same s A old → ((e : ℕ) → e < i → e < s → new e ≡ old e) → Midway s i old new A
  midway-open i a n = record { done = λ e k l. a e l ∙ sym (n e k l); left = λ e k l. a e l }

  pub midway-store : {i : ℕ} → Midway s i old new A → (B : Vec) → B i ≡ new i → ((e : ℕ) → e ≢ i → B e ≡ A e) → Midway s (i + 1) old new B
  midway-store {i} m B n o = record {
    done = λ e k l. by_cases (ℕ_discrete e i) (λ c. ap B c ∙ n ∙ ap new (sym c)) (λ c. o e c ∙ m.done e (omega arith) l);
    left = λ e k l. o e (omega arith) ∙ m.left e (omega arith) l;
  }

  pub midway-close : {i : ℕ} → Midway s i old new A → ((e : ℕ) → i ≤ e → e < s → new e ≡ old e) → Same s A new
  midway-close {i} m n e l =
      by_cases (dec_lt e i) (λ k. m.done e k l) (λ k. m.left e (omega arith) l ∙ sym (n e (omega arith) l))

-- ---- levels

from-none : (xs : Vec) → from 0 xs ≡ xs
from-none xs = λ k i. xs (native.Mathlib.Nat.zero-add i k)

from_tail : (t : ℕ) (xs : Vec) → tail (from t xs) ≡ from (suc t) xs
from_tail t xs = λ k i. xs (shift i k)
  where
    shift : (i : ℕ) → t + suc i ≡ suc t + i
    shift i = omega arith

module _ (xs ys : Vec) where
  -- one level from the one before
  pub level-more : (t j : ℕ) → level (suc t) xs ys j ≡ (level t xs ys (suc j) ⊕ level t xs ys 0) ⊗ inv (xs (t + suc j) ⊕ xs t)
  unfolding level
  level-more t j = ap (λ (n : ℕ). (level t xs ys (suc j) ⊕ level t xs ys 0) ⊗ inv (xs (t + suc j) ⊕ xs n)) (native.Mathlib.Nat.add-zero t)

  -- ---- the states of the forward pass

  ahead-done : (t i : ℕ) → i < t → ahead t xs ys i ≡ level i xs ys 0
  unfolding ahead
  ahead-done t i h = pick-lt i t _ _ h

  ahead-left : (t i j : ℕ) → t + j ≡ i → ahead t xs ys i ≡ level t xs ys j
  unfolding ahead
  ahead-left t i j e = pick-ge i t _ _ (omega arith) ∙ ap (level t xs ys) (omega arith)

  ahead-here : (t : ℕ) → ahead t xs ys t ≡ level t xs ys 0
  ahead-here t = ahead-left t t 0 (omega arith)

  pub ahead_none : (i : ℕ) → ahead 0 xs ys i ≡ ys i
  unfolding level
  ahead_none i = ahead-left 0 i i (omega arith)

  pub ahead-low : (t i : ℕ) → i ≤ t → ahead (t + 1) xs ys i ≡ ahead t xs ys i
  ahead-low t i h =
      ahead-done (t + 1) i (omega arith)
      ∙ sym (by_cases (ℕ_discrete i t) (λ c. rw c (ahead-here t)) (λ n. ahead-done t i (omega arith)))

  pub ahead-high : (t i : ℕ) → t < i → ahead (t + 1) xs ys i ≡ (ahead t xs ys i ⊕ ahead t xs ys t) ⊗ inv (xs i ⊕ xs t)
  ahead-high t i h =
      rw add-one (ahead-left (suc t) i j (omega arith)) ∙ level-more t j
      ∙ ap (λ (n : ℕ). (level t xs ys (suc j) ⊕ level t xs ys 0) ⊗ inv (xs n ⊕ xs t)) up
      ∙ sym (ap₂ (λ (x y : F). (x ⊕ y) ⊗ inv (xs i ⊕ xs t)) (ahead-left t i (suc j) up) (ahead-here t))
    where
      j : ℕ
      j = i - suc t

      up : t + suc j ≡ i
      up = omega arith

  -- ---- the states of the backward pass

  abbrev solved : ℕ → ℕ → Vec
  solved s t = interp (s - t) (from t xs) (level t xs ys)

  back-left : (s t i : ℕ) → i < t → back s t xs ys i ≡ level i xs ys 0
  unfolding back
  back-left s t i h = pick-lt i t _ _ h

  back_done : (s t i j : ℕ) → t + j ≡ i → back s t xs ys i ≡ solved s t j
  unfolding back
  back_done s t i j e = pick-ge i t _ _ (omega arith) ∙ ap (solved s t) (omega arith)

  solved-more : (s t : ℕ) → t < s → solved s t ≡ newton (level t xs ys 0) (xs t) (solved s (suc t))
  unfolding interp level
  solved-more s t h =
      ap (λ (n : ℕ). interp n (from t xs) (level t xs ys)) up
      ∙ ap₂ (λ (n : ℕ) (zs : Vec). newton (level t xs ys 0) (xs n) (interp (s - suc t) zs (level (suc t) xs ys))) (native.Mathlib.Nat.add-zero t) (from_tail t xs)
    where
      up : s - t ≡ suc (s - suc t)
      up = omega arith

  pub back_low : (s t i : ℕ) → i < t → back s t xs ys i ≡ back s (t + 1) xs ys i
  back_low s t i h = back-left s t i h ∙ sym (back-left s (t + 1) i (omega arith))

  pub back-high : (s t i : ℕ) → t < s → t ≤ i → back s t xs ys i ≡ back s (t + 1) xs ys i ⊕ xs t ⊗ back s (t + 1) xs ys (i + 1)
  back-high s t i h k =
      rw (add-one t, add-one i)
      (by_cases (ℕ_discrete i t) first (λ n. other (i - suc t) (omega arith)))
    where
      q : Vec
      q = solved s (suc t)

      first : i ≡ t → back s t xs ys i ≡ back s (suc t) xs ys i ⊕ xs t ⊗ back s (suc t) xs ys (suc i)
      first c =
          back_done s t i 0 (omega arith) ∙ ap (λ (f : Vec). f 0) (solved-more s t h) ∙ newton-none (level t xs ys 0) (xs t) q
          ∙ sym (ap₂ (λ (x y : F). x ⊕ xs t ⊗ y) (back-left s (suc t) i (omega arith) ∙ ap (λ (n : ℕ). level n xs ys 0) c) (back_done s (suc t) (suc i) 0 (omega arith)))

      other : (j : ℕ) → suc t + j ≡ i → back s t xs ys i ≡ back s (suc t) xs ys i ⊕ xs t ⊗ back s (suc t) xs ys (suc i)
      other j e =
          back_done s t i (suc j) (omega arith) ∙ ap (λ (f : Vec). f (suc j)) (solved-more s t h) ∙ newton-more (level t xs ys 0) (xs t) q j
          ∙ sym (ap₂ (λ (x y : F). x ⊕ xs t ⊗ y) (back_done s (suc t) i j e) (back_done s (suc t) (suc i) (suc j) (omega arith)))

  pub back_last : (s t i : ℕ) → t < s → t ≤ i → s ≤ i + 1 → back s t xs ys i ≡ back s (t + 1) xs ys i
  back_last s t i h k l =
      back-high s t i h k
      ∙ add_none _ (mul-none (xs t) (back_done s (t + 1) (i + 1) (i - t) (omega arith) ∙ interp-past (s - (t + 1)) _ _ (i - t) (omega arith)))

  -- ---- IN PLACE: the passes, for a loop to cite

  -- the array of the values is ready for round 0
  pub forward-start : {s : ℕ} {A : Vec} → Same s A ys → Forward s 0 xs ys A
  forward-start a i h = a i h ∙ sym (ahead_none i)

  -- where the forward pass ends the backward pass starts
  pub turn : {s : ℕ} {A : Vec} → Forward s s xs ys A → Backward s s xs ys A
  turn {s} a i h = a i h ∙ ahead-done s i h ∙ sym (back-left s s i h)

  -- where the backward pass ends the array holds the coefficients
  pub in_place : {s : ℕ} {A : Vec} → Backward s 0 xs ys A → Same s A (interp s xs ys)
  unfolding level
  in_place {s} a i h = a i h ∙ back_done s 0 i i (omega arith) ∙ ap₂ (λ (n : ℕ) (zs : Vec). interp n zs ys i) all (from-none xs)
    where
      all : s - 0 ≡ s
      all = omega arith

  module _ (t : ℕ) {s : ℕ} {A : Vec} where
    pub forward-open : Forward s t xs ys A → ForwardTo s t (t + 1) xs ys A
    forward-open a = midway-open (t + 1) a (λ e k l. ahead-low t e (omega arith))

    pub forward-store : {i : ℕ} → ForwardTo s t i xs ys A → t < i → i < s → (B : Vec) → B i ≡ (A i ⊕ A t) ⊗ inv (xs i ⊕ xs t)
        → ((e : ℕ) → e ≢ i → B e ≡ A e) → ForwardTo s t (i + 1) xs ys B
    forward-store {i} m k l B n o =
        midway-store m B
        (n ∙ ap₂ (λ (x y : F). (x ⊕ y) ⊗ inv (xs i ⊕ xs t)) (m.left i (omega arith) l) (m.done t k (omega arith) ∙ ahead-low t t (omega arith)) ∙ sym (ahead-high t i k)) o

    pub forward-close : ForwardTo s t s xs ys A → Forward s (t + 1) xs ys A
    forward-close m = midway-close m (λ e k l. absurd (omega arith))

    -- one round forward, of an array A into B
    pub forward-round : Forward s t xs ys A → t < s → (B : Vec) → ((i : ℕ) → i ≤ t → i < s → B i ≡ A i)
        → ((i : ℕ) → t < i → i < s → B i ≡ (A i ⊕ A t) ⊗ inv (xs i ⊕ xs t)) → Forward s (t + 1) xs ys B
    forward-round a h B low high i l =
        by_cases (dec_lt t i)
        (λ k. high i k l ∙ ap₂ (λ (x y : F). (x ⊕ y) ⊗ inv (xs i ⊕ xs t)) (a i l) (a t h) ∙ sym (ahead-high t i k))
        (λ n. low i (omega arith) l ∙ a i l ∙ sym (ahead-low t i (omega arith)))

    pub backward-open : Backward s (t + 1) xs ys A → BackwardTo s t t xs ys A
    backward-open a = midway-open t a (λ e k l. back_low s t e k)

    pub backward-store : {i : ℕ} → BackwardTo s t i xs ys A → t ≤ i → i + 1 < s → (B : Vec) → B i ≡ A i ⊕ xs t ⊗ A (i + 1)
        → ((e : ℕ) → e ≢ i → B e ≡ A e) → BackwardTo s t (i + 1) xs ys B
    backward-store {i} m k l B n o =
        midway-store m B
        (n ∙ ap₂ (λ (x y : F). x ⊕ xs t ⊗ y) (m.left i (omega arith) (omega arith)) (m.left (i + 1) (omega arith) l) ∙ sym (back-high s t i (omega arith) k)) o

    pub backward-close : {i : ℕ} → BackwardTo s t i xs ys A → t ≤ i → s ≤ i + 1 → t < s → Backward s t xs ys A
    backward-close m k l h = midway-close m (λ e a b. back_last s t e h (omega arith) (omega arith))

    -- one round backward, of an array A into B
    pub backward-round : Backward s (t + 1) xs ys A → t < s → (B : Vec) → ((i : ℕ) → i < t → i < s → B i ≡ A i)
        → ((i : ℕ) → t ≤ i → i + 1 < s → B i ≡ A i ⊕ xs t ⊗ A (i + 1)) → ((i : ℕ) → i + 1 ≡ s → B i ≡ A i) → Backward s t xs ys B
    backward-round a h B low high last i l =
        by_cases (dec_lt i t) (λ k. low i k l ∙ a i l ∙ sym (back_low s t i k))
        (λ n. by_cases (dec_lt (i + 1) s)
        (λ k. high i (omega arith) k ∙ ap₂ (λ (x y : F). x ⊕ xs t ⊗ y) (a i l) (a (i + 1) k) ∙ sym (back-high s t i h (omega arith)))
        (λ m. last i (omega arith) ∙ a i l ∙ sym (back_last s t i h (omega arith) (omega arith))))
