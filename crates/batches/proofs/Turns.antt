-- The batches of a file in turn.
--   turns-none         no batch, no reason
--   turn-stops         a refusal by the batch in turn is the refusal by all from it on
--   turn-goes-on       a batch without a fault leaves the answer to those after it
--   turns-numbered     each reason has a number
-- Assumes nothing.
use mathlib.Core.Path.{◌≡◌, ◌∙◌, refl, sym, ap}
use mathlib.Core.Bool.{Bool, true}
use mathlib.Core.List.{List, ◌++◌}
use Prim.Native.Nat.{ℕ, zero, suc, ◌+◌, ◌-◌, ◌<◌}
use native.Mathlib.Numerals.{add-one}
use native.Mathlib.Omega.{arith}
use Rattle.codes.specs.Told.{Reason, refused, done, answered}
use Rattle.codes.specs.Reasons.{numbered}
use Rattle.codes.specs.Judge.{pair_in}
use Rattle.codes.specs.declared.Code.{Code}
use Rattle.codes.specs.declared.Refusal.{Refusal}
use Rattle.codes.proofs.Told.{answered-hand-on, answered-goes-on, answered-none, done-clear}
use Rattle.batches.specs.Batch.{faults, count_at}
use Rattle.batches.specs.Whole.{batch_of, turn_faults, faults_from}
use Rattle.batches.proofs.Ladder.{numbered-parts}

pub faults-numbered : (c : Code) (a : ℕ) (b : List ℕ) (other placed : Bool) → numbered (faults c a b other placed) ≡ true
unfolding faults
faults-numbered c a b other placed = refl

module _ (c : Code) (a : ℕ) (bs : List ℕ) where
  abbrev turn : ℕ → List Reason
  turn i = turn_faults c a (batch_of c.d bs i) (count_at bs 0) i

  pub turns-none : (i : ℕ) → done 0 ≡ answered (faults_from c a bs i 0) (pair_in c) 0
  unfolding faults_from
  turns-none i = sym (answered-none (pair_in c) 0)

  -- n batches are left, the batch i being the first of them
  module _ (i n : ℕ) (h : 0 < n) where
    left : suc (n - 1) ≡ n
    left = omega arith

    turns : turn i ++ faults_from c a bs (i + 1) (n - 1) ≡ faults_from c a bs i n
    unfolding faults_from
    turns = ap (λ (k : ℕ). turn i ++ faults_from c a bs k (n - 1)) (add-one i) ∙ ap (faults_from c a bs i) left

    pub turn-stops : (r : Refusal) → refused r ≡ answered (turn i) (pair_in c) 0 → refused r ≡ answered (faults_from c a bs i n) (pair_in c) 0
    turn-stops r e =
        answered-hand-on r (turn i) (faults_from c a bs (i + 1) (n - 1)) (pair_in c) 0 0 e ∙ ap (λ (l : List Reason). answered l (pair_in c) 0) turns

    pub turn-goes-on : done 0 ≡ answered (turn i) (pair_in c) 0
        → answered (faults_from c a bs i n) (pair_in c) 0 ≡ answered (faults_from c a bs (i + 1) (n - 1)) (pair_in c) 0
    turn-goes-on e =
        ap (λ (l : List Reason). answered l (pair_in c) 0) (sym turns)
        ∙ answered-goes-on (turn i) (faults_from c a bs (i + 1) (n - 1)) (pair_in c) 0
        (done-clear (turn i) (pair_in c) 0 0 (faults-numbered c a (batch_of c.d bs i) _ _) e)

  pub turns-numbered : (i n : ℕ) → numbered (faults_from c a bs i n) ≡ true
  unfolding faults_from
  turns-numbered i zero = refl
  turns-numbered i (suc n) =
      numbered-parts (turn i) (faults_from c a bs (suc i) n) (faults-numbered c a (batch_of c.d bs i) _ _) (turns-numbered (suc i) n)
