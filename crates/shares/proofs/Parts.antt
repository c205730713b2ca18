-- A part of a run: read, put back, put over.
--   put-own          a part put back where it stood changes nothing
--   set-put          a byte set in a run that was put is set before it is put
--   set-part         a byte set in a file is set in a part that is put back
--   part-put         what was put over a part is the part then
--   put-put          what was put over a part is put over again
--   part-put-before  what is put before a part leaves it
--   part-byte        a byte of a part
-- Assumes nothing.
use mathlib.Core.Path.{◌≡◌, ◌∙◌, refl, sym, ap, ap₂}
use mathlib.Core.List.{List, [], ◌∷◌, ◌++◌, append_assoc}
use mathlib.Core.Logic.{by_cases}
use Prim.Native.Nat.{ℕ, zero, suc, ◌+◌, ◌-◌, ◌<◌, ◌≤◌}
use native.Mathlib.Decide.{dec_le}
use native.Mathlib.Omega.{arith}
use borrow.Author.Tests.{le-leb, lt-leb}
use lib.ListN.{length, get_or, take, drop, set, length-take, length-drop, length-set, take-append-drop, drop_of_length-le}
use lib.Seq.{length-take-le, take_at, drop_at, set-append_left, drop-drop, get_or-take, get_or-drop}
use Rattle.records.specs.Writing.{put_at}
use Rattle.records.proofs.Runs.{length-put, drop-put}
use Rattle.shares.specs.Fields.{part}

-- ---- lists

whole : (n : ℕ) (l : List ℕ) → take n l ++ drop (length (take n l)) l ≡ l
whole zero l = refl
whole (suc n) [] = refl
whole (suc n) (x ∷ l) = ap (λ (k : List ℕ). x ∷ k) (whole n l)

over : (n : ℕ) (l u : List ℕ) → length u ≡ length (take n l) → take n (u ++ drop (length u) l) ≡ u
over zero l [] e = refl
over zero l (x ∷ u) e = absurd (omega (arith, e))
over (suc n) [] [] e = refl
over (suc n) [] (x ∷ u) e = absurd (omega (arith, e))
over (suc n) (y ∷ l) [] e = absurd (omega (arith, e))
over (suc n) (y ∷ l) (x ∷ u) e = ap (λ (k : List ℕ). x ∷ k) (over n l u (omega (arith, e)))

set-append-add : (xs ys : List ℕ) (n a : ℕ) → set (xs ++ ys) (length xs + n) a ≡ xs ++ set ys n a
set-append-add [] ys n a = let e : 0 + n ≡ n = omega arith in ap (λ (k : ℕ). set ys k a) e
set-append-add (x ∷ xs) ys n a =
    let e : suc (length xs) + n ≡ suc (length xs + n) = omega arith in
    ap (λ (k : ℕ). set (x ∷ (xs ++ ys)) k a) e ∙ ap (λ (k : List ℕ). x ∷ k) (set-append-add xs ys n a)

-- ---- what is put at a place

module _ (s : List ℕ) (at : ℕ) where
  pub put_in : (u : List ℕ) → at + length u ≤ length s → put_at s at u ≡ take at s ++ (u ++ drop (at + length u) s)
  put_in u h = simp (le-leb _ _ h) (append_assoc (take at s) u (drop (at + length u) s))

  pub put-past : (u : List ℕ) → length s < at + length u → put_at s at u ≡ s
  put-past u h = simp (lt-leb _ _ h)

  part_room : (n : ℕ) → at ≤ length s → at + length (part s at n) ≤ length s
  part_room n h = omega (arith, length-take n (drop at s), length-drop at s)

  part_none : (n : ℕ) → length s < at → part s at n ≡ []
  part_none zero h = refl
  part_none (suc n) h = ap (take (suc n)) (drop_of_length-le s {i = at} (omega arith))

  pub put-own : (n : ℕ) → put_at s at (part s at n) ≡ s
  put-own n =
      by_cases (dec_le at (length s))
      (λ h. put_in (part s at n) (part_room n h)
      ∙ ap (λ (k : List ℕ). take at s ++ (part s at n ++ k)) (sym (drop-drop (length (part s at n)) at s))
      ∙ ap (λ (k : List ℕ). take at s ++ k) (whole n (drop at s)) ∙ take-append-drop at s)
      (λ h. ap (put_at s at) (part_none n (omega arith)) ∙ put-past [] (omega arith))

  pub set-put : (u : List ℕ) (j v : ℕ) → at + length u ≤ length s → j < length u → set (put_at s at u) (at + j) v ≡ put_at s at (set u j v)
  set-put u j v h l =
      let e : length (take at s) ≡ at = length-take-le at s (omega arith) in
      ap (λ (k : List ℕ). set k (at + j) v) (put_in u h)
      ∙ ap (λ (k : ℕ). set (take at s ++ (u ++ drop (at + length u) s)) (k + j) v) (sym e)
      ∙ set-append-add (take at s) (u ++ drop (at + length u) s) j v
      ∙ ap (λ (k : List ℕ). take at s ++ k) (set-append_left u (drop (at + length u) s) j v l)
      ∙ ap (λ (k : ℕ). take at s ++ (set u j v ++ drop (at + k) s)) (sym (length-set u j v))
      ∙ sym (put_in (set u j v) (omega (arith, length-set u j v)))

  pub set-part : (n j v : ℕ) → j < length (part s at n) → at ≤ length s → set s (at + j) v ≡ put_at s at (set (part s at n) j v)
  set-part n j v l h = ap (λ (k : List ℕ). set k (at + j) v) (sym (put-own n)) ∙ set-put (part s at n) j v (part_room n h) l

  pub part-put : (n : ℕ) (u : List ℕ) → length u ≡ length (part s at n) → part (put_at s at u) at n ≡ u
  part-put n u e =
      by_cases (dec_le at (length s))
      (λ h. let l : length (take at s) ≡ at = length-take-le at s h in
      ap (λ (k : List ℕ). part k at n) (put_in u (omega (arith, part_room n h)))
      ∙ ap (take n) (drop_at (take at s) (u ++ drop (at + length u) s) at l)
      ∙ ap (λ (k : List ℕ). take n (u ++ k)) (sym (drop-drop (length u) at s)) ∙ over n (drop at s) u e)
      (λ h. let l : length s < at = omega arith in
      let z : length u ≡ 0 = e ∙ ap length (part_none n l) in
      ap (λ (k : List ℕ). part k at n) (put-past u (omega arith)) ∙ part_none n l ∙ empty u z)
    where
      empty : (u : List ℕ) → length u ≡ 0 → [] ≡ u
      empty [] z = refl
      empty (x ∷ u) z = absurd (omega (arith, z))

  pub put-put : (u w : List ℕ) → length u ≡ length w → put_at (put_at s at u) at w ≡ put_at s at w
  put-put u w e =
      by_cases (dec_le (at + length u) (length s))
      (λ h. let t = put_at s at u in
      let l : length (take at s) ≡ at = length-take-le at s (omega arith) in
      let f : take at t ≡ take at s = ap (take at) (put_in u h) ∙ take_at (take at s) (u ++ drop (at + length u) s) at l in
      let g : drop (at + length w) t ≡ drop (at + length w) s = ap (λ (k : ℕ). drop (at + k) t) (sym e) ∙ drop-put s at u h ∙ ap (λ (k : ℕ). drop (at + k) s) e in
      again t w (omega (arith, length-put s at u)) ∙ ap₂ (λ (a b : List ℕ). a ++ (w ++ b)) f g ∙ sym (put_in w (omega arith)))
      (λ h. ap (λ (k : List ℕ). put_at k at w) (put-past u (omega arith)))
    where
      again : (t w : List ℕ) → at + length w ≤ length t → put_at t at w ≡ take at t ++ (w ++ drop (at + length w) t)
      again t w h = simp (le-leb _ _ h) (append_assoc (take at t) w (drop (at + length w) t))

  pub part-put-before : (place n : ℕ) (u : List ℕ) → at + length u ≤ place → part (put_at s at u) place n ≡ part s place n
  part-put-before place n u b =
      by_cases (dec_le (at + length u) (length s))
      (λ h. let m = place - (at + length u) in
      let e : at + length u + m ≡ place = omega arith in
      ap (take n) (ap (λ (k : ℕ). drop k (put_at s at u)) (sym e) ∙ sym (drop-drop m (at + length u) (put_at s at u)) ∙ ap (drop m) (drop-put s at u h)
      ∙ drop-drop m (at + length u) s ∙ ap (λ (k : ℕ). drop k s) e))
      (λ h. ap (λ (k : List ℕ). part k place n) (put-past u (omega arith)))

pub part-byte : (s : List ℕ) (at n j : ℕ) → j < n → get_or (part s at n) j 0 ≡ get_or s (at + j) 0
part-byte s at n j h = get_or-take n (drop at s) j 0 h ∙ get_or-drop at s j 0

pub part_length : (s : List ℕ) (at n : ℕ) → length (part s at n) ≤ n
part_length s at n = omega (arith, length-take n (drop at s))

pub part-inside : (s : List ℕ) (at n j : ℕ) → j < n → at + j < length s → j < length (part s at n)
part-inside s at n j h l = omega (arith, length-take n (drop at s), length-drop at s)

pub part-outside : (s : List ℕ) (at n j : ℕ) → length s ≤ at + j → length (part s at n) ≤ j
part-outside s at n j h = omega (arith, length-take n (drop at s), length-drop at s)
