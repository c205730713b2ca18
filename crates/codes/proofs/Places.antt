-- The upper triangle of a square, read row by row: a place's row and column, and the place of a row and a column, are inverse.
-- Assumes nothing.
use mathlib.Core.Path.{◌≡◌, ◌∙◌, sym, ap, ap₂}
use mathlib.Core.Logic.{by_cases}
use Prim.Native.Nat.{ℕ, zero, suc, ◌+◌, ◌-◌, ◌<◌, ◌≤◌}
use native.Mathlib.Nat.{not-suc-le-zero, le_of_suc-le-suc}
use native.Mathlib.Decide.{dec_le, dec_lt}
use native.Mathlib.Omega.{arith}
use borrow.Author.Tests.{lt-ltb, le-ltb, le-leb, lt-leb}
use Rattle.codes.specs.Places.{start, triangle, up_row, up_col}

-- ---- the place of a row and a column

pub triangle-up : (w i j : ℕ) → i ≤ j → triangle w i j ≡ start w i + (j - i)
unfolding triangle
triangle-up w i j h = rw (le-leb i j h)

triangle-down : (w i j : ℕ) → j < i → triangle w i j ≡ start w j + (i - j)
unfolding triangle
triangle-down w i j h = rw (lt-leb i j h)

pub triangle-comm : (w i j : ℕ) → triangle w i j ≡ triangle w j i
triangle-comm w i j =
    by_cases (dec_lt i j) (λ h. triangle-up w i j (omega arith) ∙ sym (triangle-down w j i h))
    (λ n. by_cases (dec_lt j i) (λ h. triangle-down w i j h ∙ sym (triangle-up w j i (omega arith)))
    (λ m. let e : i ≡ j = omega arith in ap₂ (triangle w) e (sym e)))

-- ---- a triangle without its first row is the next smaller one

start-more : (w i : ℕ) → start (suc w) (suc i) ≡ suc w + start w i
unfolding start
start-more w zero = omega arith
start-more w (suc i) = ap (λ (n : ℕ). n + (suc w - suc i)) (start-more w i) ∙ omega arith

triangle-first : (w j : ℕ) → triangle w 0 j ≡ j
unfolding start
triangle-first w j = triangle-up w 0 j (omega arith) ∙ omega arith

triangle-more : (w i j : ℕ) → i ≤ j → triangle (suc w) (suc i) (suc j) ≡ suc w + triangle w i j
triangle-more w i j h =
    triangle-up (suc w) (suc i) (suc j) (omega arith) ∙ omega (arith, start-more w i, triangle-up w i j h)

-- ---- the two are inverse

pub record Upper (w b i j : ℕ) : Type 0 where
  pub within : b < start w w
  pub row : up_row w b ≡ i
  pub col : up_col w b ≡ j

pub triangle-upper : (w i j : ℕ) → i ≤ j → j < w → Upper w (triangle w i j) i j
unfolding up_row up_col
triangle-upper zero i j h l = absurd (not-suc-le-zero l)
triangle-upper (suc w) zero j h l =
    let e : triangle (suc w) 0 j ≡ j = triangle-first (suc w) j in
    record { within = omega (arith, start-more w w); row = rw (e, lt-ltb j (suc w) l); col = rw (e, lt-ltb j (suc w) l) }
triangle-upper (suc w) (suc i) zero h l = absurd (not-suc-le-zero h)
triangle-upper (suc w) (suc i) (suc j) h l =
    let u : Upper w (triangle w i j) i j = triangle-upper w i j (le_of_suc-le-suc h) (le_of_suc-le-suc l) in
    let e : triangle (suc w) (suc i) (suc j) ≡ suc w + triangle w i j = triangle-more w i j (le_of_suc-le-suc h) in
    let f : suc w + triangle w i j - suc w ≡ triangle w i j = omega arith in
    let t = le-ltb (suc w + triangle w i j) (suc w) (omega arith) in
    record {
      within = omega (arith, start-more w w);
      row = rw (e, t, f) (ap suc u.row);
      col = rw (e, t, f) (ap suc u.col);
    }

pub triangle-within : (w i j : ℕ) → i < w → j < w → triangle w i j < start w w
triangle-within w i j a b =
    by_cases (dec_le i j) (λ h. (triangle-upper w i j h b).within)
    (λ n. omega (arith, triangle-comm w i j, (triangle-upper w j i (omega arith) a).within))

pub record Lies (w b : ℕ) : Type 0 where
  pub order : up_row w b ≤ up_col w b
  pub within : up_col w b < w
  pub back : triangle w (up_row w b) (up_col w b) ≡ b

lies-first : (w b : ℕ) → b < suc w → Lies (suc w) b
unfolding up_row up_col
lies-first w b l =
    let t = lt-ltb b (suc w) l in
    record { order = rw t (omega arith); within = rw t l; back = rw t (triangle-first (suc w) b) }

lies-later : (w b : ℕ) → suc w ≤ b → Lies w (b - suc w) → Lies (suc w) b
unfolding up_row up_col
lies-later w b h u =
    let t = le-ltb b (suc w) h in
    record {
      order = rw t (omega arith);
      within = rw t (omega arith);
      back = rw t (triangle-more w (up_row w (b - suc w)) (up_col w (b - suc w)) u.order ∙ omega arith);
    }

pub upper-triangle : (w b : ℕ) → b < start w w → Lies w b
unfolding start
upper-triangle zero b h = absurd (not-suc-le-zero h)
upper-triangle (suc w) b h =
    by_cases (dec_lt b (suc w)) (lies-first w b)
    (λ n. lies-later w b (omega arith) (upper-triangle w (b - suc w) (omega (arith, start-more w w))))
