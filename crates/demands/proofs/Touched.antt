-- A slip that is taken changes the count and at most two bytes of one share, and nothing else in that file.
--   put-within, put-outside     the bytes of a run with another put over a part of it
--   slipped-else      the bytes of a share that a slip leaves
--   touched           what a slip changes in a file made afresh
-- Assumes nothing.
use mathlib.Core.Path.{◌≡◌, ◌∙◌, sym, ap, ap₂}
use mathlib.Core.Logic.{◌≢◌, ◌⊎◌, inl, inr, ⊎_elim, by_cases}
use mathlib.Core.List.{List, ◌++◌}
use Prim.Native.Nat.{ℕ, ◌+◌, ◌*◌, ◌-◌, ◌<◌, ◌≤◌}
use native.Mathlib.Decide.{dec_lt}
use native.Mathlib.Omega.{arith}
use lib.Bits.{bit_xor, xor_zero_r}
use lib.ListN.{length, get_or, take, drop, get_or-append}
use lib.Seq.{length-take-le, get_or-append-add}
use Rattle.records.specs.Numbers.{digits}
use Rattle.records.specs.Writing.{put_at}
use Rattle.records.proofs.Digits.{length_digits}
use Rattle.records.proofs.Runs.{length-put}
use Rattle.algebra.specs.Symbol.{F, symbol, 𝟘}
use Rattle.algebra.proofs.Ring.{mul-none}
use Rattle.codes.specs.Rules.{Rules}
use Rattle.codes.specs.Sizes.{alpha, bytes, row}
use Rattle.codes.specs.Matrix.{lane, row_of, col_of}
use Rattle.codes.specs.Share.{share, slipped}
use Rattle.codes.specs.declared.Code.{Code}
use Rattle.codes.proofs.Sizes.{alpha-high}
use Rattle.codes.proofs.Matrix.{layout}
use Rattle.codes.proofs.Moved.{moved_none, place-within}
use Rattle.codes.proofs.Slip.{share-length, slipped-length, slipped-byte}
use Rattle.shares.specs.Fields.{count_in, stripe_at}
use Rattle.shares.specs.Slip.{slip_leaves}
use Rattle.shares.specs.Afresh.{stripe_of, afresh, Slip, slip_record, amended}
use Rattle.shares.proofs.Parts.{put_in, part-byte}
use Rattle.shares.proofs.Kept.{put-before, put-after}
use Rattle.shares.proofs.Fresh.{afresh-length, afresh-count, afresh-share}
use Rattle.demands.specs.History.{Touched}
use Rattle.demands.proofs.Taken.{take_next, take_put}

-- ---- a run put over a part

module _ (s : List ℕ) (at : ℕ) (u : List ℕ) (h : at + length u ≤ length s) where
  head-long : length (take at s) ≡ at
  head-long = length-take-le at s (omega arith)

  -- the byte j of what follows the head
  put-from : (j : ℕ) → get_or (put_at s at u) (at + j) 0 ≡ get_or (u ++ drop (at + length u) s) j 0
  put-from j =
      let e : at + j ≡ length (take at s) + j = omega (arith, head-long) in
      ap₂ (λ (k : List ℕ) (a : ℕ). get_or k a 0) (put_in s at u h) e ∙ get_or-append-add (take at s) (u ++ drop (at + length u) s) j 0

  put-within : (j : ℕ) → j < length u → get_or (put_at s at u) (at + j) 0 ≡ get_or u j 0
  put-within j l = put-from j ∙ get_or-append u (drop (at + length u) s) 0 j l

put-outside : (s : List ℕ) (at : ℕ) (u : List ℕ) (q : ℕ) → (q < at) ⊎ (at + length u ≤ q) → get_or (put_at s at u) q 0 ≡ get_or s q 0
put-outside s at u q e = ⊎_elim (put-before s at u q) (put-after s at u q) e

-- ---- a share that a slip moves

slipped-else : (c : Code) (v b δ : ℕ) (s : List ℕ) (j : ℕ) → j < length s → j ≢ col_of c b → j ≢ row_of c b → get_or (slipped c v b δ s) j 0 ≡ get_or s j 0
unfolding 𝟘
slipped-else c v b δ s j h n m =
    slipped-byte c v b δ s j h
    ∙ ap (λ (y : F). bit_xor (get_or s j 0) y.val) (mul-none (symbol δ) (moved_none (alpha c) (lane c) (row_of c) (col_of c) (row c v) b j n m))
    ∙ xor_zero_r (get_or s j 0)

module _ {c : Code} (R : Rules c) (long : length c.points ≡ 32) (v t m : ℕ) (book : List ℕ) (few : 1 ≤ t) (many : t ≤ 1024) (first : 1 ≤ v) (last : v ≤ c.n) (counted : m < 4294967296)
    (s : Slip) (more : m + 1 < 4294967296) (whole : length book ≡ t * bytes c) (stripe : s.stripe < t) (index : s.index < bytes c) where
  abbrev File : List ℕ
  File = afresh c v t m book

  abbrev At : ℕ
  At = stripe_at s.stripe + 3

  abbrev Share : List ℕ
  Share = share c v (stripe_of c book s.stripe)

  abbrev Moved : List ℕ
  Moved = slipped c v s.index s.change Share

  -- the file with its new count
  abbrev Counted : List ℕ
  Counted = put_at File 41 (digits 4 (m + 1))

  file-long : length File ≡ stripe_at t
  file-long = afresh-length c v t m book long (alpha-high c R)

  moved-long : length Moved ≡ alpha c
  moved-long = slipped-length c v s.index s.change Share ∙ share-length c v (stripe_of c book s.stripe)

  fits : At + length Moved ≤ length Counted
  fits = omega (arith, moved-long, alpha-high c R, length-put File 41 (digits 4 (m + 1)), file-long)

  head-kept : (q : ℕ) → (q < 41) ⊎ (45 ≤ q) → get_or Counted q 0 ≡ get_or File q 0
  head-kept q e =
      put-outside File 41 (digits 4 (m + 1)) q
      (⊎_elim inl (λ h. inr (omega (arith, length_digits 4 (m + 1)))) e)

  share-kept : (j : ℕ) → j < alpha c → j ≢ col_of c s.index → j ≢ row_of c s.index → get_or (put_at Counted At Moved) (At + j) 0 ≡ get_or File (At + j) 0
  share-kept j h n o =
      put-within Counted At Moved fits j (omega (arith, moved-long))
      ∙ slipped-else c v s.index s.change Share j (omega (arith, share-length c v (stripe_of c book s.stripe))) n o
      ∙ ap (λ (l : List ℕ). get_or l j 0) (sym (afresh-share c v t m book long (alpha-high c R) s.stripe stripe)) ∙ part-byte File At (alpha c) j h

  all-kept : (q : ℕ) → (q < 41) ⊎ (45 ≤ q) → q ≢ At + col_of c s.index → q ≢ At + row_of c s.index → get_or (put_at Counted At Moved) q 0 ≡ get_or File q 0
  all-kept q e n o =
      by_cases (dec_lt q At) (λ h. put-outside Counted At Moved q (inl h) ∙ head-kept q e)
      (λ h. by_cases (dec_lt q (At + alpha c))
      (λ l. let f : q ≡ At + (q - At) = omega arith in
      ap (λ (a : ℕ). get_or (put_at Counted At Moved) a 0) f
      ∙ share-kept (q - At) (omega arith) (λ z. n (omega arith)) (λ z. o (omega arith)) ∙ ap (λ (a : ℕ). get_or File a 0) (sym f))
      (λ l. put-outside Counted At Moved q (inr (omega (arith, moved-long))) ∙ head-kept q e))

  pub touched : Touched c s.stripe File (slip_leaves File (slip_record (m + 1) s))
  touched =
      let next = (take_next R long v t m book few many first last counted s more whole stripe index).1 in
      let put = take_put R long v t m book few many first last counted s more whole stripe index in
      let near = (place-within (layout R) s.index index).1 in
      record {
        long = ap length next ∙ afresh-length c v t (m + 1) (amended c book s) long (alpha-high c R) ∙ sym file-long;
        counted = ap count_in next ∙ afresh-count c v t (m + 1) (amended c book s) long more ∙ ap (λ (k : ℕ). k + 1) (sym (afresh-count c v t m book long counted));
        one = col_of c s.index;
        two = row_of c s.index;
        one-small = near;
        two-small = omega (arith, near, (layout R).order s.index index);
        kept = λ q e n o. ap (λ (l : List ℕ). get_or l q 0) put ∙ all-kept q e n o;
      }
