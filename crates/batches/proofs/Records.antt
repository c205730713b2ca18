-- The D records of a batch and of all batches, and a plan's use in them.
--   record_is         what a plan of the batch's helpers writes is the batch's record
--   record-length     a record's length;   records-length     that of n of them
--   records-next      one more record;   records-put     the same where they are put
--   file-is           a file put record by record
--   share_back        a share that was written to the front of a run, taken out again
-- Assumes nothing.
use mathlib.Core.Path.{◌≡◌, ◌∙◌, refl, sym, ap, ap₂}
use mathlib.Core.List.{List, [], ◌∷◌, ◌++◌, append_assoc, append-nil}
use Prim.Native.Nat.{ℕ, zero, suc, ◌+◌, ◌*◌, ◌-◌, ◌<◌, ◌≤◌}
use native.Mathlib.Omega.{arith}
use native.Mathlib.Numerals.{add-one}
use lib.ListN.{length, take, drop, replicate, length-append, length-replicate}
use lib.Seq.{take_at, take_all, length-take-le}
use Rattle.field.specs.Tables.{tables}
use Rattle.records.specs.Numbers.{digits}
use Rattle.records.specs.Writing.{put_at}
use Rattle.records.proofs.Digits.{length_digits}
use Rattle.algebra.proofs.Bytes.{table-length}
use Rattle.codes.specs.Sizes.{alpha}
use Rattle.codes.specs.Rebuild.{rebuilt}
use Rattle.codes.specs.declared.Code.{Code}
use Rattle.rebuilds.specs.Plan.{plan_of, applied}
use Rattle.rebuilds.proofs.Weighing.{plan-rebuilds}
use Rattle.shares.specs.Fields.{stripe_record}
use Rattle.shares.proofs.Runs.{put_next, put_all}
use Rattle.batches.specs.Batch.{helpers_in, symbols_in, symbol_in, stripe_named, rebuilt_record}
use Rattle.batches.specs.Whole.{batch_of, records_from}
use Rattle.batches.proofs.Fields.{length-list, list_at}

module _ (c : Code) (a : ℕ) (hd : c.d ≤ 31) (ha : alpha c ≤ 31) where
  pub record_is : (b : List ℕ) → ((t : ℕ) → t < c.d → symbol_in b t < 256)
      → stripe_record (stripe_named b 0) (applied (plan_of c a (helpers_in c.d b)) tables (symbols_in c.d b) (replicate (alpha c) 0)) ≡ rebuilt_record c a b
  record_is b bytes =
      ap (stripe_record (stripe_named b 0))
      (plan-rebuilds c a (helpers_in c.d b) (symbols_in c.d b) (replicate (alpha c) 0) hd ha (length-list c.d (symbol_in b)) (length-replicate {A = ℕ} (alpha c) 0)
      (λ t h. omega (arith, list_at c.d (symbol_in b) t h, bytes t h)))

  pub rebuilt-length : (hs ys : List ℕ) → length (rebuilt c a hs ys) ≡ alpha c
  unfolding rebuilt
  rebuilt-length hs ys = table-length (alpha c) _

  stripe-length : (i : ℕ) (s : List ℕ) → length s ≤ 31 → length (stripe_record i s) ≡ 34
  unfolding stripe_record
  stripe-length i s h =
      omega (arith, length-append (digits 2 i) (s ++ replicate (31 - length s) 0), length_digits 2 i, length-append s (replicate (31 - length s) 0), length-replicate {A = ℕ} (31 - length s) 0)

  pub record-length : (b : List ℕ) → length (rebuilt_record c a b) ≡ 34
  record-length b = stripe-length (stripe_named b 0) _ (omega (arith, rebuilt-length (helpers_in c.d b) (symbols_in c.d b)))

  module _ (bs : List ℕ) where
    abbrev Rec : ℕ → List ℕ
    Rec i = rebuilt_record c a (batch_of c.d bs i)

    pub records-none : (i : ℕ) → records_from c a bs i 0 ≡ []
    unfolding records_from
    records-none i = refl

    records-more : (i n : ℕ) → records_from c a bs i (suc n) ≡ records_from c a bs i n ++ Rec (i + n)
    unfolding records_from
    records-more i zero = let e : i ≡ i + 0 = omega arith in append-nil (Rec i) ∙ ap Rec e
    records-more i (suc n) =
        let e : suc i + n ≡ i + suc n = omega arith in
        ap (λ (l : List ℕ). Rec i ++ l) (records-more (suc i) n ∙ ap (λ (k : ℕ). records_from c a bs (suc i) n ++ Rec k) e)
        ∙ sym (append_assoc (Rec i) (records_from c a bs (suc i) n) (Rec (i + suc n)))

    pub records-next : (n : ℕ) → records_from c a bs 0 (n + 1) ≡ records_from c a bs 0 n ++ Rec n
    records-next n =
        let e : 0 + n ≡ n = omega arith in
        ap (records_from c a bs 0) (add-one n) ∙ records-more 0 n ∙ ap (λ (k : ℕ). records_from c a bs 0 n ++ Rec k) e

    pub records-length : (i n : ℕ) → length (records_from c a bs i n) ≡ 34 * n
    unfolding records_from
    records-length i zero = refl
    records-length i (suc n) =
        omega (arith, length-append (Rec i) (records_from c a bs (suc i) n), record-length (batch_of c.d bs i), records-length (suc i) n)

    module _ (o out w : List ℕ) (i : ℕ) (h : 79 + 34 * i ≤ length o) where
      pub records-put : out ≡ put_at o 45 (records_from c a bs 0 i) → w ≡ Rec i → put_at out (45 + 34 * i) w ≡ put_at o 45 (records_from c a bs 0 (i + 1))
      records-put e f =
          let u = records_from c a bs 0 i in
          let n : 45 + 34 * i ≡ 45 + length u = omega (arith, records-length 0 i) in
          ap₂ (λ (x y : List ℕ). put_at x (45 + 34 * i) y) e f
          ∙ ap (λ (k : ℕ). put_at (put_at o 45 u) k (Rec i)) n
          ∙ put_next o 45 u (Rec i) (omega (arith, records-length 0 i, record-length (batch_of c.d bs i)))
          ∙ ap (put_at o 45) (sym (records-next i))

pub file-is : (o u v w : List ℕ) → length u ≡ 37 → length v ≡ 8 → 45 + length w ≡ length o → put_at (put_at (put_at o 0 u) 37 v) 45 w ≡ u ++ (v ++ w)
file-is o u v w e f g =
    let l : length (u ++ v) ≡ 45 = omega (arith, length-append u v) in
    let m : 0 + length u ≡ 37 = omega arith in
    let n : 0 + length (u ++ v) ≡ 45 = omega arith in
    ap (λ (k : ℕ). put_at (put_at (put_at o 0 u) k v) 45 w) (sym m)
    ∙ ap (λ (x : List ℕ). put_at x 45 w) (put_next o 0 u v (omega arith))
    ∙ ap (λ (k : ℕ). put_at (put_at o 0 (u ++ v)) k w) (sym n)
    ∙ put_next o 0 (u ++ v) w (omega arith)
    ∙ put_all o ((u ++ v) ++ w) (omega (arith, length-append (u ++ v) w))
    ∙ append_assoc u v w

module _ (a : ℕ) (e z : List ℕ) (h : a ≤ 31) (k : length z ≡ 31) (l : length e ≡ length (take a z)) where
  back-length : length e ≡ a
  back-length = l ∙ length-take-le a z (omega arith)

  pub share_back : take 31 (take a (e ++ drop a z)) ≡ e
  share_back = ap (take 31) (take_at e (drop a z) a back-length) ∙ take_all 31 e (omega (arith, back-length))

pub take-zeros : (n m : ℕ) → n ≤ m → take {A = ℕ} n (replicate m 0) ≡ replicate n 0
take-zeros zero m h = refl
take-zeros (suc n) zero h = absurd (omega arith)
take-zeros (suc n) (suc m) h = ap (λ (l : List ℕ). 0 ∷ l) (take-zeros n m (omega arith))
