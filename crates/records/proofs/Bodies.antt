-- The bytes of a named body, which are the file's.
--
--     body_is         a body that lies within the file
--     length-body     its length
--     body-byte       its bytes
--     body-number     its numbers
use mathlib.Core.List.{List}
use mathlib.Core.Path.{◌≡◌, refl, ap, ◌∙◌}
use Prim.Native.Nat.{ℕ, zero, suc, ◌+◌, ◌*◌, ◌-◌, ◌<◌, ◌≤◌}
use native.Mathlib.Omega.{arith}
use borrow.Author.Tests.{le-leb}
use lib.ListN.{length, get_or, take, drop, length-drop}
use lib.Seq.{length-take-le, get_or-take, get_or-drop}
use Rattle.records.specs.Numbers.{number_at}
use Rattle.records.specs.Reading.{body_at}

module _ (file : List ℕ) (start end : ℕ) (ordered : start ≤ end) (within : end ≤ length file) where
  pub body_is : body_at file start end ≡ take (end - start) (drop start file)
  body_is = simp (le-leb _ _ ordered, le-leb _ _ within)

  pub length-body : length (body_at file start end) ≡ end - start
  length-body = ap length body_is ∙ length-take-le (end - start) (drop start file) (simp length-drop (omega arith))

  pub body-byte : (i : ℕ) → start + i < end → get_or (body_at file start end) i 0 ≡ get_or file (start + i) 0
  body-byte i h = ap (λ (l : List ℕ). get_or l i 0) body_is ∙ get_or-take (end - start) (drop start file) i 0 (omega arith) ∙ get_or-drop start file i 0

  pub body-number : (width i : ℕ) → start + i + width ≤ end → number_at width (body_at file start end) i ≡ number_at width file (start + i)
  unfolding number_at
  body-number zero i h = refl
  body-number (suc width) i h =
      ap (λ (n : ℕ). n * 256 + get_or (body_at file start end) (i + width) 0) (body-number width i (omega arith))
      ∙ ap (λ (n : ℕ). number_at width file (start + i) * 256 + n) (body-byte (i + width) (omega arith) ∙ ap (λ (k : ℕ). get_or file k 0) (omega arith))
