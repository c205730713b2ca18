-- A slip taken on a share file made afresh gives the share file made afresh from the corrected book, and no other slip is taken.
--   slip-long, slip-kind     a slip's P record
--   take_next         the slip count + 1 is taken, and leaves the file made afresh from the corrected book
--   take_put          it puts the new count and the moved share over what stood there
--   take-other        any other number is refused with 9, and the file is left as it was
--   take-misplaced    the number count + 1 with a place outside the book is refused with 10, and the file is left as it was
--   take-only         of any records, only one with the number count + 1 is taken
-- Assumes nothing.
use mathlib.Core.Path.{◌≡◌, ◌∙◌, refl, sym, ap}
use mathlib.Core.Logic.{◌≢◌, ◌⊎◌, ⊎_elim}
use mathlib.Core.Bool.{true}
use mathlib.Core.List.{List, [], ◌∷◌, ◌++◌}
use Prim.Native.Nat.{ℕ, ◌+◌, ◌*◌, ◌<◌, ◌≤◌}
use native.Mathlib.Omega.{arith}
use lib.ListN.{length, get_or}
use Rattle.records.specs.Numbers.{digits}
use Rattle.records.specs.Writing.{put_at}
use Rattle.codes.specs.Told.{Reason, done, refused}
use Rattle.codes.specs.Reasons.{Clear, numbered}
use Rattle.codes.specs.Judge.{judge_reasons, pair_in}
use Rattle.codes.specs.Rules.{Rules}
use Rattle.codes.specs.Sizes.{bytes}
use Rattle.codes.specs.Share.{share, slipped}
use Rattle.codes.specs.declared.Code.{Code}
use Rattle.codes.specs.declared.Refusal.TheVariants.{Order, Place}
use Rattle.codes.proofs.Sizes.{alpha-high, bytes_high}
use Rattle.codes.proofs.Told.{refusal-exact, answered-number}
use Rattle.shares.specs.Fields.{code_in, node_in, count_in, stripe_at, share_in}
use Rattle.shares.specs.File.{node_reasons, file_reasons}
use Rattle.shares.specs.Slip.{slip_number, slip_stripe, slip_index, slip_change, slip_faults, slip_reasons, slip_told, slip_leaves, taken_in}
use Rattle.shares.specs.Afresh.{stripe_of, afresh, Slip, slip_record, amended}
use Rattle.shares.proofs.Fresh.{afresh-code, afresh-node, afresh-total, afresh-count, afresh-share}
use Rattle.shares.proofs.Accepted.{afresh-clear}
use Rattle.shares.proofs.Faults.{wrong-number, wrong-stripe, wrong-index, next-number, no-fault, faultless, judged-refused, judged-stays, judged-taken, judged-leaves, slip-told, slip-left}
use Rattle.shares.proofs.Amended.{slip-number, slip-stripe, slip-index, slip-change, taken-afresh}

-- ---- a slip's record

module _ (n : ℕ) (s : Slip) where
  pub slip-long : length (slip_record n s) ≡ 10
  unfolding slip_record digits
  slip-long = refl

  pub slip-kind : get_or (slip_record n s) 0 0 ≡ 0x50
  unfolding slip_record
  slip-kind = refl

-- ---- a slip that is taken has the number count + 1

later : (rs more : List Reason) → Clear (rs ++ more) → Clear more
later [] more h = h
later (r ∷ rs) more h = later rs more h.1

all-numbered : (s p : List ℕ) → numbered (slip_reasons s p) ≡ true
unfolding slip_reasons file_reasons judge_reasons node_reasons slip_faults
all-numbered s p = refl

pub take-only : (s p : List ℕ) → (slip_told s p).number ≡ 0 → slip_number p ≡ count_in s + 1
unfolding slip_told slip_reasons
take-only s p e =
    next-number s p
    (later (file_reasons s) (slip_faults s p)
    ((refusal-exact (slip_reasons s p) (all-numbered s p)).none.0 (sym (answered-number (slip_reasons s p) (pair_in (code_in s)) (count_in s + 1)) ∙ e)))

-- ---- a slip on a file made afresh

taken_as : (s p : List ℕ) (c : Code) (v i b δ m : ℕ) (u : List ℕ) → code_in s ≡ c → node_in s ≡ v → count_in s ≡ m
    → slip_stripe p ≡ i → slip_index p ≡ b → slip_change p ≡ δ → share_in c s i ≡ u
    → taken_in s p ≡ put_at (put_at s 41 (digits 4 (m + 1))) (stripe_at i + 3) (slipped c v b δ u)
unfolding taken_in
taken_as s p c v i b δ m u e f g h k l n = rw (e, f, g, h, k, l, n)

module _ {c : Code} (R : Rules c) (long : length c.points ≡ 32) (v t m : ℕ) (book : List ℕ) (few : 1 ≤ t) (many : t ≤ 1024) (first : 1 ≤ v) (last : v ≤ c.n) (counted : m < 4294967296) where
  abbrev File : List ℕ
  File = afresh c v t m book

  fine : Clear (file_reasons File)
  fine = afresh-clear c R long v t m book few many first last counted

  pub take-other : (n : ℕ) (s : Slip) → n < 4294967296 → n ≢ m + 1
      → (slip_told File (slip_record n s) ≡ refused Order) × (slip_leaves File (slip_record n s) ≡ File)
  take-other n s h z =
      let p = slip_record n s in
      let e = wrong-number File p (slip-long n s) (slip-kind n s)
      (λ x. z (sym (slip-number n s h) ∙ x ∙ ap (λ (k : ℕ). k + 1) (afresh-count c v t m book long counted))) in
      (sym (judged-refused File p Order e ∙ slip-told File p fine), sym (judged-stays File p Order e ∙ slip-left File p fine))

  -- refused for its place, a slip does not use up its number
  pub take-misplaced : (s : Slip) → m + 1 < 4294967296 → s.stripe < 65536 → s.index < 65536 → (t ≤ s.stripe) ⊎ (bytes c ≤ s.index)
      → (slip_told File (slip_record (m + 1) s) ≡ refused Place) × (slip_leaves File (slip_record (m + 1) s) ≡ File)
  take-misplaced s more h k x =
      let p = slip_record (m + 1) s in
      let n = slip-number (m + 1) s more ∙ ap (λ (k : ℕ). k + 1) (sym (afresh-count c v t m book long counted)) in
      let e = ⊎_elim
      (λ a. wrong-stripe File p (slip-long (m + 1) s) (slip-kind (m + 1) s) n (omega (arith, slip-stripe (m + 1) s h, afresh-total c v t m book long (omega arith))))
      (λ a. wrong-index File p (slip-long (m + 1) s) (slip-kind (m + 1) s) n (omega (arith, slip-index (m + 1) s k, ap bytes (afresh-code c v t m book long)))) x in
      (sym (judged-refused File p Place e ∙ slip-told File p fine), sym (judged-stays File p Place e ∙ slip-left File p fine))

  module _ (s : Slip) (more : m + 1 < 4294967296) (whole : length book ≡ t * bytes c) (stripe : s.stripe < t) (index : s.index < bytes c) where
    abbrev Sent : List ℕ
    Sent = slip_record (m + 1) s

    stripe-said : slip_stripe Sent ≡ s.stripe
    stripe-said = slip-stripe (m + 1) s (omega arith)

    index-said : slip_index Sent ≡ s.index
    index-said = slip-index (m + 1) s (omega (arith, bytes_high c R))

    faultless-next : Clear (slip_faults File Sent)
    faultless-next =
        faultless File Sent
        (no-fault File Sent (slip-long (m + 1) s) (slip-kind (m + 1) s)
        (slip-number (m + 1) s more ∙ ap (λ (k : ℕ). k + 1) (sym (afresh-count c v t m book long counted)))
        (omega (arith, stripe-said, afresh-total c v t m book long (omega arith)))
        (omega (arith, index-said, ap bytes (afresh-code c v t m book long))))

    abbrev pub Put : List ℕ
    Put =
        put_at (put_at File 41 (digits 4 (m + 1))) (stripe_at s.stripe + 3)
        (slipped c v s.index s.change (share c v (stripe_of c book s.stripe)))

    put-file : taken_in File Sent ≡ Put
    put-file =
        taken_as File Sent c v s.stripe s.index s.change m (share c v (stripe_of c book s.stripe))
        (afresh-code c v t m book long) (afresh-node c v t m book long) (afresh-count c v t m book long counted) stripe-said index-said (slip-change (m + 1) s)
        (afresh-share c v t m book long (alpha-high c R) s.stripe stripe)

    next-file : taken_in File Sent ≡ afresh c v t (m + 1) (amended c book s)
    next-file = taken-afresh c R long v t m book s many whole stripe index more

    pub take_next : (slip_told File Sent ≡ done (m + 1)) × (slip_leaves File Sent ≡ afresh c v t (m + 1) (amended c book s))
    take_next = (
      sym (judged-taken File Sent faultless-next (m + 1) (ap (λ (k : ℕ). k + 1) (sym (afresh-count c v t m book long counted))) ∙ slip-told File Sent fine),
      sym (judged-leaves File Sent faultless-next (afresh c v t (m + 1) (amended c book s)) (sym next-file) ∙ slip-left File Sent fine),
    )

    -- the count and the share put over
    pub take_put : slip_leaves File Sent ≡ Put
    take_put = take_next.1 ∙ sym next-file ∙ put-file
