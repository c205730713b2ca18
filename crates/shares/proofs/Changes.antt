-- A slip's change of a share, as the code makes it: byte by byte in the file.
--   amount-is                   a change times a power of a point, by the field's functions
--   lane-small, row_small, col-small     the numbers of a cell are small
--   code-small                  the numbers of a code in a file are bytes
--   nudge-past, nudge-out, nudge-in      one byte of a part moved
--   cell-one, cell-two          the share after a slip on the diagonal, and off it
--   taken_is                    the count, then the share
-- Assumes nothing.
use mathlib.Core.Path.{◌≡◌, ◌∙◌, sym, ap, ap₂}
use mathlib.Core.Logic.{◌≢◌}
use mathlib.Core.List.{List}
use Prim.Native.Nat.{ℕ, zero, suc, ◌+◌, ◌*◌, ◌-◌, ◌<◌, ◌≤◌}
use native.Mathlib.Nat.{div-le_self, mod-le}
use native.Mathlib.Omega.{arith}
use borrow.Author.Tests.{eq-eqb, ne_eqb, ltb-true}
use lib.Bits.{bit_xor}
use lib.Dec.{eqb, ltb}
use lib.ListN.{length, get_or, set, length-set}
use lib.Seq.{set_out}
use Rattle.field.specs.Field
use Rattle.algebra.specs.Symbol.{F, symbol, ◌⊗◌, pow}
use Rattle.algebra.proofs.Ring.{mul_val, symbol-pow}
use Rattle.records.specs.Numbers.{digits}
use Rattle.records.specs.Writing.{put_at}
use Rattle.records.proofs.Digits.{length_digits}
use Rattle.codes.specs.Places.{start, up_row, up_col}
use Rattle.codes.specs.Matrix.{lane, row_of, col_of}
use Rattle.codes.specs.Sizes.{none, alpha, point, row}
use Rattle.codes.specs.Body.{code_at}
use Rattle.codes.specs.Share.{nudged, slipped}
use Rattle.codes.specs.declared.Code.{Code}
use Rattle.codes.proofs.Bools.{by-test}
use Rattle.shares.specs.Fields.{code_in, node_in, count_in, part, stripe_at}
use Rattle.shares.specs.Slip.{slip_stripe, slip_index, slip_change, taken_in}
use Rattle.shares.proofs.Parts.{put-own, set-part, part-put, put-put, part-put-before, part-byte, part_length, part-inside, part-outside}

-- ---- products

pub amount-is : (δ x n a p r : ℕ) → a ≡ δ → p ≡ Field.pow x n → r ≡ Field.mul a p → r ≡ (symbol δ ⊗ pow (symbol x) n).val
amount-is δ x n a p r e f g =
    g ∙ ap₂ Field.mul e f ∙ mul_val δ (Field.pow x n) ∙ ap (λ (y : F). (symbol δ ⊗ y).val) (symbol-pow x n)

-- the same with the point of a node
at-point : (c : Code) (v δ n x r : ℕ) → x ≡ (get_or c.points (v - 1) none).0 → r ≡ (symbol δ ⊗ pow (symbol x) n).val → r ≡ (symbol δ ⊗ row c v n).val
unfolding point
at-point c v δ n x r e f = f ∙ ap (λ (y : ℕ). (symbol δ ⊗ pow (symbol y) n).val) e

-- ---- a cell's numbers

up-row-small : (w b : ℕ) → up_row w b ≤ w
unfolding up_row
up-row-small zero b = omega arith
up-row-small (suc w) b = by-test (ltb b (suc w)) (λ t. simp t (omega arith)) (λ t. simp t (omega (arith, up-row-small w (b - suc w))))

up-col-small : (w b : ℕ) → up_col w b ≤ w
unfolding up_col
up-col-small zero b = omega arith
up-col-small (suc w) b =
    by-test (ltb b (suc w)) (λ t. let h = ltb-true b (suc w) t in simp t (omega arith)) (λ t. simp t (omega (arith, up-col-small w (b - suc w))))

module _ (c : Code) (b : ℕ) where
  pub lane-small : lane c b ≤ 1
  unfolding lane
  lane-small =
      by-test (eqb c.kind 1) (λ t. simp t (omega arith))
      (λ t. by-test (ltb b (start (c.k - 1) (c.k - 1))) (λ u. simp (t, u) (omega arith)) (λ u. simp (t, u) (omega arith)))

  pub row_small : row_of c b ≤ c.k + b
  unfolding row_of
  row_small =
      by-test (eqb c.kind 1)
      (λ t. by-test (ltb b (start c.k c.k)) (λ u. simp (t, u) (omega (arith, up-row-small c.k b)))
      (λ u. simp (t, u) (omega (arith, div-le_self (b - start c.k c.k) (c.d - c.k)))))
      (λ t. simp t (omega (arith, up-row-small (c.k - 1) (b - lane c b * start (c.k - 1) (c.k - 1)))))

  pub col-small : col_of c b ≤ c.k + b
  unfolding col_of
  col-small =
      by-test (eqb c.kind 1)
      (λ t. by-test (ltb b (start c.k c.k)) (λ u. simp (t, u) (omega (arith, up-col-small c.k b)))
      (λ u. simp (t, u) (omega (arith, mod-le (b - start c.k c.k) (c.d - c.k)))))
      (λ t. simp t (omega (arith, up-col-small (c.k - 1) (b - lane c b * start (c.k - 1) (c.k - 1)))))

pub alpha-small : (c : Code) → c.k ≤ 255 → c.d ≤ 255 → alpha c ≤ 255
unfolding alpha
alpha-small c h l = by-test (eqb c.kind 1) (λ t. simp t l) (λ t. simp t (omega arith))

-- the numbers of a code in a file are bytes
pub code-small : (s : List ℕ) → ((i : ℕ) → get_or s i 0 ≤ 255) → ((code_in s).k ≤ 255) × ((code_in s).d ≤ 255)
unfolding code_at
code-small s h = (h 3, h 4)

-- lane and alpha are small, so their product is
pub base-small : (l a : ℕ) → l ≤ 1 → a ≤ 255 → l * a ≤ 255
base-small zero a h k = omega arith
base-small (suc zero) a h k = omega arith
base-small (suc (suc l)) a h k = absurd (omega arith)

-- ---- one byte of a part

module _ (s : List ℕ) (at n j v : ℕ) where
  abbrev Nudged : List ℕ
  Nudged = put_at s at (set (part s at n) j (bit_xor (get_or (part s at n) j 0) v))

  stays : length (part s at n) ≤ j → s ≡ Nudged
  stays h = sym (ap (put_at s at) (set_out (part s at n) j (bit_xor (get_or (part s at n) j 0) v) h) ∙ put-own s at n)

  pub nudge-past : n ≤ j → s ≡ Nudged
  nudge-past h = stays (omega (arith, part_length s at n))

  pub nudge-out : length s ≤ at + j → s ≡ Nudged
  nudge-out h = stays (part-outside s at n j h)

  pub nudge-in : j < n → at + j < length s → set s (at + j) (bit_xor (get_or s (at + j) 0) v) ≡ Nudged
  nudge-in h l =
      ap (λ (x : ℕ). set s (at + j) (bit_xor x v)) (sym (part-byte s at n j h))
      ∙ set-part s at n j (bit_xor (get_or (part s at n) j 0) v) (part-inside s at n j h l) (omega arith)

-- ---- the share

module _ (c : Code) (v b δ : ℕ) (s : List ℕ) (at : ℕ) where
  abbrev Upper : List ℕ
  Upper = nudged (part s at (alpha c)) (col_of c b) δ (row c v (lane c b * alpha c + row_of c b))

  upper-length : length Upper ≡ length (part s at (alpha c))
  unfolding nudged
  upper-length = length-set (part s at (alpha c)) (col_of c b) (bit_xor (get_or (part s at (alpha c)) (col_of c b) 0) (symbol δ ⊗ row c v (lane c b * alpha c + row_of c b)).val)

  -- the byte of the column moved by u
  upper_is : (u : ℕ) → u ≡ (symbol δ ⊗ row c v (lane c b * alpha c + row_of c b)).val
      → put_at s at (set (part s at (alpha c)) (col_of c b) (bit_xor (get_or (part s at (alpha c)) (col_of c b) 0) u)) ≡ put_at s at Upper
  unfolding nudged
  upper_is u e = ap (λ (x : ℕ). put_at s at (set (part s at (alpha c)) (col_of c b) (bit_xor (get_or (part s at (alpha c)) (col_of c b) 0) x))) e

  one-moved : (t : List ℕ) (u : ℕ) → row_of c b ≡ col_of c b → u ≡ (symbol δ ⊗ row c v (lane c b * alpha c + row_of c b)).val
      → t ≡ put_at s at (set (part s at (alpha c)) (col_of c b) (bit_xor (get_or (part s at (alpha c)) (col_of c b) 0) u))
      → t ≡ put_at s at (slipped c v b δ (part s at (alpha c)))
  unfolding slipped
  one-moved t u e f g = g ∙ upper_is u f ∙ rw (eq-eqb (row_of c b) (col_of c b) e)

  two-moved : (t w : List ℕ) (u x : ℕ) → row_of c b ≢ col_of c b → u ≡ (symbol δ ⊗ row c v (lane c b * alpha c + row_of c b)).val
      → t ≡ put_at s at (set (part s at (alpha c)) (col_of c b) (bit_xor (get_or (part s at (alpha c)) (col_of c b) 0) u))
      → x ≡ (symbol δ ⊗ row c v (lane c b * alpha c + col_of c b)).val
      → w ≡ put_at t at (set (part t at (alpha c)) (row_of c b) (bit_xor (get_or (part t at (alpha c)) (row_of c b) 0) x))
      → w ≡ put_at s at (slipped c v b δ (part s at (alpha c)))
  unfolding slipped nudged
  two-moved t w u x n f g e h =
      let p : t ≡ put_at s at Upper = g ∙ upper_is u f in
      let q : part t at (alpha c) ≡ Upper = ap (λ (l : List ℕ). part l at (alpha c)) p ∙ part-put s at (alpha c) Upper upper-length in
      let low : List ℕ = set Upper (row_of c b) (bit_xor (get_or Upper (row_of c b) 0) (symbol δ ⊗ row c v (lane c b * alpha c + col_of c b)).val) in
      h
      ∙ ap₂ (λ (l k : List ℕ). put_at l at (set k (row_of c b) (bit_xor (get_or k (row_of c b) 0) x))) p q
      ∙ ap (λ (y : ℕ). put_at (put_at s at Upper) at (set Upper (row_of c b) (bit_xor (get_or Upper (row_of c b) 0) y))) e
      ∙ put-put s at Upper low (sym (length-set Upper (row_of c b) _))
      ∙ rw (ne_eqb (row_of c b) (col_of c b) n)

  -- what the code has in hand: alpha, the point, the cell and the products
  module _ (A X l i j : ℕ) (e_a : A ≡ alpha c) (e_x : X ≡ (get_or c.points (v - 1) none).0) (el : l ≡ lane c b) (ei : i ≡ row_of c b) (ej : j ≡ col_of c b) where
    weighed : (n m u : ℕ) → n ≡ m → u ≡ (symbol δ ⊗ pow (symbol X) (l * A + n)).val → u ≡ (symbol δ ⊗ row c v (lane c b * alpha c + m)).val
    weighed n m u e h =
        at-point c v δ (lane c b * alpha c + m) X u e_x
        (h ∙ ap (λ (k : ℕ). (symbol δ ⊗ pow (symbol X) k).val) (ap₂ (λ (x y : ℕ). x + y) (ap₂ (λ (x y : ℕ). x * y) el e_a) e))

    module _ (u : ℕ) (t : List ℕ) (hu : u ≡ (symbol δ ⊗ pow (symbol X) (l * A + i)).val)
        (ht : t ≡ put_at s at (set (part s at A) j (bit_xor (get_or (part s at A) j 0) u))) where
      column : t ≡ put_at s at (set (part s at (alpha c)) (col_of c b) (bit_xor (get_or (part s at (alpha c)) (col_of c b) 0) u))
      column = ht ∙ ap₂ (λ (n k : ℕ). put_at s at (set (part s at n) k (bit_xor (get_or (part s at n) k 0) u))) e_a ej

      pub cell-one : i ≡ j → t ≡ put_at s at (slipped c v b δ (part s at (alpha c)))
      cell-one d = one-moved t u (sym ei ∙ d ∙ ej) (weighed i (row_of c b) u ei hu) column

      pub cell-two : (x : ℕ) (w : List ℕ) → (i ≡ j → ⊥) → x ≡ (symbol δ ⊗ pow (symbol X) (l * A + j)).val
          → w ≡ put_at t at (set (part t at A) i (bit_xor (get_or (part t at A) i 0) x)) → w ≡ put_at s at (slipped c v b δ (part s at (alpha c)))
      cell-two x w n hx hw =
          two-moved t w u x (λ e. n (ei ∙ e ∙ sym ej)) (weighed i (row_of c b) u ei hu) column (weighed j (col_of c b) x ej hx)
          (hw ∙ ap₂ (λ (n k : ℕ). put_at t at (set (part t at n) k (bit_xor (get_or (part t at n) k 0) x))) e_a ei)

-- ---- the count, then the share

pub taken_is : (s p t w : List ℕ) (c : Code) (v b δ m : ℕ) (at : ℕ) → c ≡ code_in s → v ≡ node_in s → b ≡ slip_index p → δ ≡ slip_change p
    → at ≡ stripe_at (slip_stripe p) + 3 → m ≡ count_in s + 1
    → t ≡ put_at s 41 (digits 4 m) → w ≡ put_at t at (slipped c v b δ (part t at (alpha c))) → w ≡ taken_in s p
unfolding taken_in
taken_is s p t w c v b δ m at e f g h i j k l =
    let q : part t at (alpha c) ≡ part s at (alpha c) =
    ap (λ (x : List ℕ). part x at (alpha c)) k ∙ part-put-before s 41 at (alpha c) (digits 4 m) (omega (arith, length_digits 4 m, i)) in
    l ∙ ap (λ (x : List ℕ). put_at t at (slipped c v b δ x)) q ∙ rw (k, e, f, g, h, i, j)
