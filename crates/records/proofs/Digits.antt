-- The laws of numbers in records, each over the width in bytes.
--
--     number_small                a number of bytes is below its bound
--     length_digits               a number's bytes are as many as the width
--     number_digits               the number of a number's bytes, wherever they stand, is that number
--     digits_number               the bytes of the number of some bytes are those bytes
use mathlib.Core.List.{List, [], ◌∷◌, ◌++◌, append_assoc}
use mathlib.Core.Path.{◌≡◌, refl, sym, ap, ◌∙◌}
use Prim.Native.Nat.{ℕ, zero, suc, ◌+◌, ◌/◌, ◌%◌, ◌^◌, ◌<◌, ◌≤◌}
use native.Mathlib.Nat.{pow-suc, one-le-pow}
use native.Mathlib.Numerals.{add-one}
use native.Mathlib.Omega.{arith}
use lib.Arith.{digits_lt, digits_div, digits_mod, mod-mul}
use lib.Dec.{lit<}
use lib.ListN.{length, get_or, take, drop, length-append, length-drop}
use lib.Seq.{get_or_at, take-suc, get_or-drop}
use Rattle.records.specs.Numbers.{number_at, digits}

module _ (s : List ℕ) (bytes : (i : ℕ) → get_or s i 0 < 256) where
  pub number_small : (width at : ℕ) → number_at width s at < 256 ^ width
  unfolding number_at
  number_small zero at = lit< tt
  number_small (suc width) at = rw pow-suc (digits_lt (number_small width at) (bytes (at + width)))

  pub digits_number : (width at : ℕ) → at + width ≤ length s → digits width (number_at width s at) ≡ take width (drop at s)
  unfolding number_at digits
  digits_number zero at h = refl
  digits_number (suc width) at h =
      let b = bytes (at + width) in
      simp (digits_div (number_at width s at) b, digits_mod (number_at width s at) b, digits_number width at (omega arith))
      (sym (take-suc (drop at s) width 0 (simp length-drop (omega arith)) ∙ ap (λ (x : ℕ). take width (drop at s) ++ (x ∷ [])) (get_or-drop at s width 0)))

pub length_digits : (width n : ℕ) → length (digits width n) ≡ width
unfolding digits
length_digits zero n = refl
length_digits (suc width) n = length-append (digits width (n / 256)) (n % 256 ∷ []) ∙ ap (λ (k : ℕ). k + 1) (length_digits width (n / 256)) ∙ add-one width

pub number_digits : (width n : ℕ) (before after : List ℕ) → number_at width (before ++ digits width n ++ after) (length before) ≡ n % 256 ^ width
unfolding number_at digits
number_digits zero n before after = omega arith
number_digits (suc width) n before after =
    let rest = n % 256 ∷ [] ++ after in
    let e : before ++ (digits width (n / 256) ++ (n % 256 ∷ [])) ++ after ≡ before ++ digits width (n / 256) ++ rest = simp append_assoc in
    let l : length (before ++ digits width (n / 256)) ≡ length before + width = length-append before (digits width (n / 256)) ∙ ap (λ (k : ℕ). length before + k) (length_digits width (n / 256)) in
    rw (e, number_digits width (n / 256) before rest, get_or_at (before ++ digits width (n / 256)) (n % 256) after 0 (length before + width) l, pow-suc)
    (sym (mod-mul n (one-le-pow width 256 (lit< tt)) (lit< tt)))
