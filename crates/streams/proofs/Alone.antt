-- A run of slips in an accepted share file: the file stays accepted, so the answers and the file are those of taking each slip by itself.
--   accepted           a file that is told 0 has no fault
--   head-stays         a slip leaves the first 41 bytes: the code, the node and the stripe total
--   stays-clear        a slip leaves an accepted file accepted;   after-clear    so does a list of slips (stays-accepted)
--   each-by-itself     the answers, the file and whether the reading has ended are those of taking each slip by itself
-- Assumes nothing.
use mathlib.Core.Path.{◌≡◌, ◌∙◌, refl, sym, ap, ap₂}
use mathlib.Core.Bool.{Bool, true, cond}
use mathlib.Core.List.{List, [], ◌∷◌}
use Prim.Native.Nat.{ℕ, ◌+◌, ◌<◌}
use native.Mathlib.Omega.{arith}
use lib.Dec.{eqb}
use lib.ListN.{get_or}
use Rattle.records.specs.Numbers.{digits}
use Rattle.records.specs.Writing.{put_at}
use Rattle.codes.specs.Told.{Told, refusal}
use Rattle.codes.specs.Reasons.{Clear, numbered}
use Rattle.codes.specs.Judge.{judge_reasons, pair_in}
use Rattle.codes.specs.Share.{slipped}
use Rattle.codes.proofs.Bools.{by-test}
use Rattle.codes.proofs.Told.{refusal-exact, answered-number}
use Rattle.shares.specs.Fields.{code_in, node_in, count_in, stripe_at, share_in}
use Rattle.shares.specs.File.{node_reasons, file_reasons, file_told}
use Rattle.shares.specs.Slip.{slip_stripe, slip_index, slip_change, slip_faults, judged_leaves, left_by, taken_in}
use Rattle.shares.proofs.Kept.{put-before, taken-clear}
use Rattle.shares.proofs.Faults.{slip-told, slip-left}
use Rattle.shares.proofs.Accepted.{accepted-told}
use Rattle.streams.specs.Stream.{judged_before, by_itself, answers_to, file_after, has_ended}
use Rattle.streams.specs.Claims.{StaysAccepted, EachByItself}

-- ---- accepted files

file-numbered : (s : List ℕ) → numbered (file_reasons s) ≡ true
unfolding file_reasons judge_reasons node_reasons
file-numbered s = refl

pub accepted : (s : List ℕ) → (file_told s).number ≡ 0 → Clear (file_reasons s)
unfolding file_told
accepted s e = (refusal-exact (file_reasons s) (file-numbered s)).none.0 (sym (answered-number (file_reasons s) (pair_in (code_in s)) (count_in s)) ∙ e)

module _ (s p : List ℕ) where
  head-taken : (i : ℕ) → i < 41 → get_or (taken_in s p) i 0 ≡ get_or s i 0
  unfolding taken_in
  head-taken i h =
      put-before (put_at s 41 (digits 4 (count_in s + 1))) (stripe_at (slip_stripe p) + 3)
      (slipped (code_in s) (node_in s) (slip_index p) (slip_change p) (share_in (code_in s) s (slip_stripe p))) i (omega arith)
      ∙ put-before s 41 (digits 4 (count_in s + 1)) i h

  pub head-stays : (i : ℕ) → i < 41 → get_or (judged_leaves s p) i 0 ≡ get_or s i 0
  unfolding judged_leaves left_by
  head-stays i h = by-test (eqb (refusal (slip_faults s p)) 0) (λ t. simp t (head-taken i h)) (λ t. simp t)

  pub stays-clear : Clear (file_reasons s) → Clear (file_reasons (judged_leaves s p))
  unfolding judged_leaves left_by
  stays-clear h = by-test (eqb (refusal (slip_faults s p)) 0) (λ t. rw t (taken-clear s p h)) (λ t. rw t h)

pub after-clear : (rs : List (List ℕ)) (s : List ℕ) → Clear (file_reasons s) → Clear (file_reasons (file_after judged_before s rs))
unfolding file_after
after-clear [] s h = h
after-clear (r ∷ rs) s h =
    by-test (eqb (judged_before.told s r).number 1) (λ t. rw t (stays-clear s r h)) (λ t. rw t (after-clear rs (judged_leaves s r) (stays-clear s r h)))

-- ---- each slip by itself

answers-alone : (rs : List (List ℕ)) (s : List ℕ) → Clear (file_reasons s) → answers_to judged_before s rs ≡ answers_to by_itself s rs
unfolding answers_to
answers-alone [] s h = refl
answers-alone (r ∷ rs) s h =
    ap₂ (λ (t : Told) (l : List ℕ). 0x45 ∷ t.number ∷ cond (eqb t.number 1) [] l) (slip-told s r h)
    (answers-alone rs (judged_leaves s r) (stays-clear s r h) ∙ ap (λ (q : List ℕ). answers_to by_itself q rs) (slip-left s r h))

file-alone : (rs : List (List ℕ)) (s : List ℕ) → Clear (file_reasons s) → file_after judged_before s rs ≡ file_after by_itself s rs
unfolding file_after
file-alone [] s h = refl
file-alone (r ∷ rs) s h =
    ap₂ (λ (t : Told) (l : List ℕ). cond (eqb t.number 1) (judged_leaves s r) l) (slip-told s r h)
    (file-alone rs (judged_leaves s r) (stays-clear s r h) ∙ ap (λ (q : List ℕ). file_after by_itself q rs) (slip-left s r h))
    ∙ ap (λ (q : List ℕ). cond (eqb (by_itself.told s r).number 1) q (file_after by_itself (by_itself.leaves s r) rs)) (slip-left s r h)

ended-alone : (rs : List (List ℕ)) (s : List ℕ) → Clear (file_reasons s) → has_ended judged_before s rs ≡ has_ended by_itself s rs
unfolding has_ended
ended-alone [] s h = refl
ended-alone (r ∷ rs) s h =
    ap₂ (λ (t : Told) (b : Bool). cond (eqb t.number 1) true b) (slip-told s r h)
    (ended-alone rs (judged_leaves s r) (stays-clear s r h) ∙ ap (λ (q : List ℕ). has_ended by_itself q rs) (slip-left s r h))

pub stays-accepted : StaysAccepted
stays-accepted s rs e =
    ap (λ (t : Told). t.number) (accepted-told (file_after judged_before s rs) (after-clear rs s (accepted s e)))

pub each-by-itself : EachByItself
each-by-itself s rs e = let h = accepted s e in (answers-alone rs s h, file-alone rs s h, ended-alone rs s h)
