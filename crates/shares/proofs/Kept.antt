-- A slip that is taken leaves an accepted file accepted, with the same code, node and total, and its count one more.
--   put-before, put-after     a byte outside a run that was put
--   same_number, same_code, same_whole, same-stripe     what is read off two files with equal bytes
--   Kept s t                  what is kept of the accepted file s in the file t
--   taken-good                a taken slip keeps it
-- Assumes nothing.
use mathlib.Core.Path.{◌≡◌, ◌∙◌, refl, sym, ap, ap₂, subst}
use mathlib.Core.Bool.{Bool, not, ◌&&◌, ◌||◌}
use mathlib.Core.List.{List, ◌++◌}
use mathlib.Core.Logic.{◌⊎◌, inl, inr, by_cases}
use Prim.Native.Nat.{ℕ, zero, suc, ◌+◌, ◌*◌, ◌-◌, ◌^◌, ◌<◌, ◌≤◌}
use native.Mathlib.Nat.{mod-eq_of_lt}
use native.Mathlib.Decide.{dec_le, dec_lt}
use native.Mathlib.Omega.{arith}
use borrow.Author.Tests.{lt-ltb, le-leb}
use lib.Dec.{eqb, leb, ltb}
use lib.ListN.{length, get_or, take, drop, get_or-append}
use lib.Seq.{length-take-le, get_or-take, get_or-drop}
use Rattle.records.specs.Kinds.{body_of}
use Rattle.records.specs.Numbers.{number_at, digits}
use Rattle.records.specs.Reading.{whole, whole_as}
use Rattle.records.specs.Writing.{put_at}
use Rattle.records.proofs.Digits.{length_digits, number_digits}
use Rattle.records.proofs.Runs.{length-put, drop-put}
use Rattle.codes.specs.Told.{done}
use Rattle.codes.specs.Reasons.{Clear}
use Rattle.codes.specs.Sizes.{alpha}
use Rattle.codes.specs.Judge.{judge_reasons}
use Rattle.codes.specs.Body.{symbols_at, code_at}
use Rattle.codes.specs.Share.{slipped}
use Rattle.codes.specs.declared.Code.{Code}
use Rattle.codes.proofs.Symbols.{symbols-length, symbols-byte, symbols-are}
use Rattle.codes.proofs.Sizes.{alpha-high}
use Rattle.codes.proofs.Slip.{slipped-length}
use Rattle.stripes.specs.Lists.{within}
use Rattle.shares.specs.Fields.{code_in, node_in, stripes_in, count_in, stripe_at, share_in}
use Rattle.shares.specs.File.{below, zero_past, spare, stripe_good, totalled, node_reasons, file_reasons, file_told}
use Rattle.shares.specs.Slip.{slip_stripe, slip_index, slip_change, taken_in}
use Rattle.shares.proofs.Parts.{put_in, put-past, part_length}
use Rattle.shares.proofs.Below.{below-same}
use Rattle.shares.proofs.Accepted.{clear-append, accepted-told, judge-part, node-part, facts}

-- ---- a byte outside a run that was put

module _ (s : List ℕ) (at : ℕ) (u : List ℕ) (i : ℕ) where
  pub put-before : i < at → get_or (put_at s at u) i 0 ≡ get_or s i 0
  put-before l =
      by_cases (dec_le (at + length u) (length s))
      (λ h. let e = length-take-le at s (omega arith) in
      ap (λ (k : List ℕ). get_or k i 0) (put_in s at u h) ∙ get_or-append (take at s) (u ++ drop (at + length u) s) 0 i (omega arith) ∙ get_or-take at s i 0 l)
      (λ h. ap (λ (k : List ℕ). get_or k i 0) (put-past s at u (omega arith)))

  pub put-after : at + length u ≤ i → get_or (put_at s at u) i 0 ≡ get_or s i 0
  put-after l =
      by_cases (dec_le (at + length u) (length s))
      (λ h. let n = at + length u in
      let e : i ≡ n + (i - n) = omega arith in
      ap (λ (k : ℕ). get_or (put_at s at u) k 0) e ∙ sym (get_or-drop n (put_at s at u) (i - n) 0) ∙ ap (λ (k : List ℕ). get_or k (i - n) 0) (drop-put s at u h)
      ∙ get_or-drop n s (i - n) 0 ∙ ap (λ (k : ℕ). get_or s k 0) (sym e))
      (λ h. ap (λ (k : List ℕ). get_or k i 0) (put-past s at u (omega arith)))

-- the number that was put
put-number : (s : List ℕ) (at width n : ℕ) → at + width ≤ length s → n < 256 ^ width → number_at width (put_at s at (digits width n)) at ≡ n
put-number s at width n h l =
    let d = length_digits width n in
    let f : at + length (digits width n) ≤ length s = omega arith in
    let e : length (take at s) ≡ at = length-take-le at s (omega arith) in
    ap₂ (number_at width) (put_whole f) (sym e) ∙ number_digits width n (take at s) (drop (at + length (digits width n)) s) ∙ mod-eq_of_lt l
  where
    put_whole : at + length (digits width n) ≤ length s → put_at s at (digits width n) ≡ take at s ++ digits width n ++ drop (at + length (digits width n)) s
    put_whole f = simp (le-leb _ _ f)

-- ---- what is read off two files with equal bytes

module _ (s t : List ℕ) where
  pub same_number : (width at : ℕ) → ((j : ℕ) → j < width → get_or t (at + j) 0 ≡ get_or s (at + j) 0) → number_at width t at ≡ number_at width s at
  unfolding number_at
  same_number zero at h = refl
  same_number (suc width) at h =
      ap₂ (λ (a b : ℕ). a * 256 + b) (same_number width at (λ j l. h j (omega arith))) (h width (omega arith))

  same-symbols : (n at : ℕ) → ((j : ℕ) → j < n → get_or t (at + j) 0 ≡ get_or s (at + j) 0) → symbols_at n t at ≡ symbols_at n s at
  same-symbols n at h = symbols-are n s at (symbols_at n t at) (symbols-length n t at) (λ j l. symbols-byte n t at j l ∙ h j l)

  pub same_code : ((i : ℕ) → i < 41 → get_or t i 0 ≡ get_or s i 0) → code_in t ≡ code_in s
  unfolding code_at
  same_code h =
      rw (h 1 (omega arith), h 2 (omega arith), h 3 (omega arith), h 4 (omega arith), same-symbols 32 5 (λ j l. h (5 + j) (omega arith)))

  module _ (l : length t ≡ length s) where
    pub same_whole : (place kind : ℕ) → get_or t place 0 ≡ get_or s place 0 → whole_as t place kind ≡ whole_as s place kind
    unfolding whole
    same_whole place kind e =
        ap₂ (λ (n b : ℕ). ltb place n && not (eqb (body_of b) 0) && leb (place + 1 + body_of b) n && eqb b kind) l e

    same-spare : (a at : ℕ) → ((j : ℕ) → a ≤ j → j < 31 → get_or t (at + j) 0 ≡ get_or s (at + j) 0) → spare a t at ≡ spare a s at
    unfolding spare
    same-spare a at h =
        below-same 31 (zero_past a t at) (zero_past a s at)
        (λ j m. by_cases (dec_lt j a) (λ q. simp (lt-ltb j a q)) (λ q. ap (λ (b : ℕ). ltb j a || eqb b 0) (h j (omega arith) m)))

    pub same-stripe : (a i : ℕ) → ((r : ℕ) → (r < 3) ⊎ (3 + a ≤ r) → r < 34 → get_or t (stripe_at i + r) 0 ≡ get_or s (stripe_at i + r) 0)
        → stripe_good a t i ≡ stripe_good a s i
    unfolding stripe_good
    same-stripe a i h =
        let z : stripe_at i ≡ stripe_at i + 0 = omega arith in
        let k = ap (λ (n : ℕ). get_or t n 0) z ∙ h 0 (inl (omega arith)) (omega arith) ∙ ap (λ (n : ℕ). get_or s n 0) (sym z) in
        let n = same_number 2 (stripe_at i + 1) (λ j m. at_one j ∙ h (1 + j) (inl (omega arith)) (omega arith) ∙ sym (at-one' j)) in
        let q = same-spare a (stripe_at i + 3) (λ j m w. at-three j ∙ h (3 + j) (inr (omega arith)) (omega arith) ∙ sym (at-three' j)) in
        ap₂ (λ (x y : Bool). x && y) (ap₂ (λ (x : Bool) (y : ℕ). x && eqb y i) (same_whole (stripe_at i) 0x44 k) n) q
      where
        at_one : (j : ℕ) → get_or t (stripe_at i + 1 + j) 0 ≡ get_or t (stripe_at i + (1 + j)) 0
        at_one j = let e : stripe_at i + 1 + j ≡ stripe_at i + (1 + j) = omega arith in ap (λ (n : ℕ). get_or t n 0) e

        at-one' : (j : ℕ) → get_or s (stripe_at i + 1 + j) 0 ≡ get_or s (stripe_at i + (1 + j)) 0
        at-one' j = let e : stripe_at i + 1 + j ≡ stripe_at i + (1 + j) = omega arith in ap (λ (n : ℕ). get_or s n 0) e

        at-three : (j : ℕ) → get_or t (stripe_at i + 3 + j) 0 ≡ get_or t (stripe_at i + (3 + j)) 0
        at-three j = let e : stripe_at i + 3 + j ≡ stripe_at i + (3 + j) = omega arith in ap (λ (n : ℕ). get_or t n 0) e

        at-three' : (j : ℕ) → get_or s (stripe_at i + 3 + j) 0 ≡ get_or s (stripe_at i + (3 + j)) 0
        at-three' j = let e : stripe_at i + 3 + j ≡ stripe_at i + (3 + j) = omega arith in ap (λ (n : ℕ). get_or s n 0) e

-- ---- the file after a slip

pub record Kept (s t : List ℕ) : Type 0 where
  pub clear : Clear (file_reasons t)
  pub code : code_in t ≡ code_in s
  pub node : node_in t ≡ node_in s
  pub total : stripes_in t ≡ stripes_in s
  pub count : count_in t ≡ count_in s + 1
  pub told : file_told t ≡ done (count_in s + 1)

module _ (s p : List ℕ) (h : Clear (file_reasons s)) where
  abbrev T : List ℕ
  T = taken_in s p

  abbrev U : List ℕ
  U = put_at s 41 (digits 4 (count_in s + 1))

  abbrev A : ℕ
  A = stripe_at (slip_stripe p) + 3

  abbrev W : List ℕ
  W = slipped (code_in s) (node_in s) (slip_index p) (slip_change p) (share_in (code_in s) s (slip_stripe p))

  narrow : alpha (code_in s) ≤ 31
  narrow = alpha-high (code_in s) (facts s h).rules

  short : length W ≤ alpha (code_in s)
  short = omega (arith, slipped-length (code_in s) (node_in s) (slip_index p) (slip_change p) (share_in (code_in s) s (slip_stripe p)), part_length s A (alpha (code_in s)))

  as_long : length T ≡ length s
  unfolding taken_in
  as_long = length-put U A W ∙ length-put s 41 (digits 4 (count_in s + 1))

  low : (i : ℕ) → i < 41 → get_or T i 0 ≡ get_or s i 0
  unfolding taken_in
  low i l = put-before U A W i (omega arith) ∙ put-before s 41 (digits 4 (count_in s + 1)) i l

  high : (i : ℕ) → 45 ≤ i → (i < A) ⊎ (A + alpha (code_in s) ≤ i) → get_or T i 0 ≡ get_or s i 0
  unfolding taken_in
  high i l (inl m) = put-before U A W i m ∙ put-after s 41 (digits 4 (count_in s + 1)) i (omega (arith, length_digits 4 (count_in s + 1)))
  high i l (inr m) = put-after U A W i (omega (arith, short)) ∙ put-after s 41 (digits 4 (count_in s + 1)) i (omega (arith, length_digits 4 (count_in s + 1)))

  kept : (i r : ℕ) → (r < 3) ⊎ (3 + alpha (code_in s) ≤ r) → r < 34 → get_or T (stripe_at i + r) 0 ≡ get_or s (stripe_at i + r) 0
  kept i r q l =
      by_cases (dec_lt i (slip_stripe p)) (λ m. high (stripe_at i + r) (omega arith) (inl (omega arith)))
      (λ m. by_cases (dec_lt (slip_stripe p) i) (λ n. high (stripe_at i + r) (omega arith) (inr (omega (arith, narrow)))) (λ n. own q))
    where
      own : (r < 3) ⊎ (3 + alpha (code_in s) ≤ r) → get_or T (stripe_at i + r) 0 ≡ get_or s (stripe_at i + r) 0
      own (inl a) = by_cases (dec_lt (stripe_at i + r) A) (λ b. high (stripe_at i + r) (omega arith) (inl b)) (λ b. high (stripe_at i + r) (omega arith) (inr (omega (arith, narrow))))
      own (inr a) = by_cases (dec_lt (stripe_at i + r) A) (λ b. high (stripe_at i + r) (omega arith) (inl b)) (λ b. high (stripe_at i + r) (omega arith) (inr (omega (arith, narrow))))

  code-kept : code_in T ≡ code_in s
  code-kept = same_code s T low

  node_kept : node_in T ≡ node_in s
  node_kept = low 38 (omega arith)

  total_kept : stripes_in T ≡ stripes_in s
  total_kept = same_number s T 2 39 (λ j l. low (39 + j) (omega arith))

  count_next : count_in s + 1 < 4294967296 → 45 ≤ length s → count_in T ≡ count_in s + 1
  unfolding taken_in
  count_next l m =
      same_number U T 4 41 (λ j k. put-before U A W (41 + j) (omega arith))
      ∙ put-number s 41 4 (count_in s + 1) (omega arith) l

  nodes : Clear (node_reasons T)
  unfolding node_reasons
  nodes =
      let n = node-part s h in (
        ap not (same_whole s T as_long 37 0x4E (low 37 (omega arith))) ∙ n.0,
        (
          ap (λ (x : ℕ). not (totalled x)) total_kept ∙ n.1.0,
          (
            ap₂ (λ (x : Code) (y : ℕ). not (within x y)) code-kept node_kept ∙ n.1.1.0,
            (
              ap not (ap₂ (λ (x : ℕ) (y : Code). below x (stripe_good (alpha y) T)) total_kept code-kept
                  ∙ below-same (stripes_in s) (stripe_good (alpha (code_in s)) T) (stripe_good (alpha (code_in s)) s) (λ i l. same-stripe s T as_long (alpha (code_in s)) i (kept i)))
                  ∙ n.1.1.1.0,
              (ap not (ap₂ (λ (x y : ℕ). eqb x (stripe_at y)) as_long total_kept) ∙ n.1.1.1.1.0, tt),
            ),
          ),
        ),
      )

  pub taken-clear : Clear (file_reasons T)
  unfolding file_reasons
  taken-clear = (
    ap not (same_whole s T as_long 0 0x43 (low 0 (omega arith))) ∙ h.0,
    clear-append (judge_reasons (code_in T)) (node_reasons T) (subst (λ (x : Code). Clear (judge_reasons x)) (sym code-kept) (judge-part s h)) nodes,
  )

  pub taken-good : count_in s + 1 < 4294967296 → Kept s T
  taken-good l =
      let c = count_next l (omega (arith, (facts s h).long)) in
      record { clear = taken-clear; code = code-kept; node = node_kept; total = total_kept; count = c; told = accepted-told T taken-clear ∙ ap done c }
