-- What taking a slip tells, and what it leaves in the share file.
--   slip_number, slip_stripe, slip_index, slip_change     what a slip record says
--   slip_faults s p            the slip's own faults, in order: 1, 9, 10
--   slip_reasons s p           the reasons for a refusal: the file's faults, then the slip's
--   slip_told                  what is told: the new count
--   taken_in s p               the file with the count one more and the slip's change added to the share in the D record of its stripe
--   left_by rs after before    what stands in a lent run: what comes after where no reason of rs holds, else what was before
--   slip_leaves                what stands in the file after the call
--   judged_told, judged_leaves  the same where the file was judged before, so that only the slip's faults are looked for
-- Assumes nothing.
use Rattle.std.specs.Prelude.{not, ◌&&◌, cond, List, [], ◌∷◌, ◌++◌, ℕ, ◌+◌, eqb, ltb, length, get_or}
use Rattle.records.specs.Numbers.{number_at, digits}
use Rattle.records.specs.Writing.{put_at}
use Rattle.codes.specs.Told.{Told, Reason, ◌when◌, refusal, answered}
use Rattle.codes.specs.Judge.{pair_in}
use Rattle.codes.specs.Sizes.{bytes}
use Rattle.codes.specs.Share.{slipped}
use Rattle.shares.specs.Fields.{code_in, node_in, stripes_in, count_in, stripe_at, share_in}
use Rattle.shares.specs.File.{file_reasons}

abbrev pub slip_number : List ℕ → ℕ
slip_number p = number_at 4 p 1

abbrev pub slip_stripe : List ℕ → ℕ
slip_stripe p = number_at 2 p 5

abbrev pub slip_index : List ℕ → ℕ
slip_index p = number_at 2 p 7

abbrev pub slip_change : List ℕ → ℕ
slip_change p = get_or p 9 0

unfoldable pub slip_faults : List ℕ → List ℕ → List Reason
slip_faults s p =
    (1 when not (eqb (length p) 10 && eqb (get_or p 0 0) 0x50))
    ∷ (9 when not (eqb (slip_number p) (count_in s + 1))) ∷ (10 when not (ltb (slip_stripe p) (stripes_in s) && ltb (slip_index p) (bytes (code_in s))))
    ∷ []

unfoldable pub slip_reasons : List ℕ → List ℕ → List Reason
slip_reasons s p = file_reasons s ++ slip_faults s p

unfoldable pub slip_told : List ℕ → List ℕ → Told
slip_told s p = answered (slip_reasons s p) (pair_in (code_in s)) (count_in s + 1)

unfoldable pub taken_in : List ℕ → List ℕ → List ℕ
taken_in s p =
    put_at (put_at s 41 (digits 4 (count_in s + 1))) (stripe_at (slip_stripe p) + 3)
    (slipped (code_in s) (node_in s) (slip_index p) (slip_change p) (share_in (code_in s) s (slip_stripe p)))

unfoldable pub left_by : List Reason → List ℕ → List ℕ → List ℕ
left_by rs after before = cond (eqb (refusal rs) 0) after before

unfoldable pub slip_leaves : List ℕ → List ℕ → List ℕ
slip_leaves s p = left_by (slip_reasons s p) (taken_in s p) s

unfoldable pub judged_told : List ℕ → List ℕ → Told
judged_told s p = answered (slip_faults s p) (pair_in (code_in s)) (count_in s + 1)

unfoldable pub judged_leaves : List ℕ → List ℕ → List ℕ
judged_leaves s p = left_by (slip_faults s p) (taken_in s p) s
