-- Kind 1 is of the general form, with h = 0: S fills the first k rows and columns, T the columns from k on and, mirrored, the rows from k on.
-- Assumes nothing.
use mathlib.Core.Path.{◌≡◌, ◌∙◌, sym, ap, ap₂, subst, subst₂}
use mathlib.Core.Logic.{inl, by_cases}
use Prim.Native.Nat.{ℕ, ◌+◌, ◌*◌, ◌-◌, ◌/◌, ◌%◌, ◌<◌, ◌≤◌}
use native.Mathlib.Nat.{add-sub_of_le}
use native.Mathlib.Decide.{dec_lt}
use native.Mathlib.Omega.{arith}
use lib.Dec.{ltb}
use borrow.Author.Tests.{eq-eqb, lt-ltb, le-ltb}
use Rattle.algebra.specs.Symbol.{𝟘}
use Rattle.algebra.specs.Sums.{Vec}
use Rattle.codes.specs.Sizes.{alpha, bytes}
use Rattle.codes.specs.Places.{start, triangle, up_row, up_col}
use Rattle.codes.specs.Matrix.{mbr, matrix, lane, row_of, col_of}
use Rattle.codes.specs.General.{Stands, Layout, filled, mbr_index, idx_of}
use Rattle.codes.specs.Rules.{Rules}
use Rattle.codes.specs.declared.Code.{Code}
use Rattle.codes.proofs.Sizes.{alpha-one, bytes-one-rows}
use Rattle.codes.proofs.Places.{Upper, Lies, triangle-comm, triangle-upper, upper-triangle}
use Rattle.codes.proofs.General.{entry_of, entry_past, symbol-of, within-top}
use Rattle.codes.proofs.Blocks.{Block, block, block_within, block_row, block-col}

module _ (c : Code) (R : Rules c) (one : c.kind ≡ 1) where
  -- ---- which symbol stands at a place

  index-s : (i j : ℕ) → i < c.k → j < c.k → idx_of c i j ≡ triangle c.k i j
  unfolding idx_of mbr_index
  index-s i j a b = rw (eq-eqb c.kind 1 one, lt-ltb i c.k a, lt-ltb j c.k b)

  index-t : (i j : ℕ) → i < c.k → c.k ≤ j → idx_of c i j ≡ start c.k c.k + (i * (c.d - c.k) + (j - c.k))
  unfolding idx_of mbr_index
  index-t i j a b = rw (eq-eqb c.kind 1 one, lt-ltb i c.k a, le-ltb j c.k b)

  index-u : (i j : ℕ) → c.k ≤ i → j < c.k → idx_of c i j ≡ start c.k c.k + (j * (c.d - c.k) + (i - c.k))
  unfolding idx_of mbr_index
  index-u i j a b = rw (eq-eqb c.kind 1 one, le-ltb i c.k a, lt-ltb j c.k b)

  index-none : (i j : ℕ) → c.k ≤ i → c.k ≤ j → idx_of c i j ≡ bytes c
  unfolding idx_of mbr_index
  index-none i j a b = rw (eq-eqb c.kind 1 one, le-ltb i c.k a, le-ltb j c.k b)

  -- ---- where a symbol stands

  lane-none : (b : ℕ) → lane c b ≡ 0
  unfolding lane
  lane-none b = rw (eq-eqb c.kind 1 one)

  row-s : (b : ℕ) → b < start c.k c.k → row_of c b ≡ up_row c.k b
  unfolding row_of
  row-s b a = rw (eq-eqb c.kind 1 one, lt-ltb b (start c.k c.k) a)

  col-s : (b : ℕ) → b < start c.k c.k → col_of c b ≡ up_col c.k b
  unfolding col_of
  col-s b a = rw (eq-eqb c.kind 1 one, lt-ltb b (start c.k c.k) a)

  row-t : (b : ℕ) → start c.k c.k ≤ b → row_of c b ≡ (b - start c.k c.k) / (c.d - c.k)
  unfolding row_of
  row-t b a = rw (eq-eqb c.kind 1 one, le-ltb b (start c.k c.k) a)

  col-t : (b : ℕ) → start c.k c.k ≤ b → col_of c b ≡ c.k + (b - start c.k c.k) % (c.d - c.k)
  unfolding col_of
  col-t b a = rw (eq-eqb c.kind 1 one, le-ltb b (start c.k c.k) a)

  -- ---- the facts of the form

  mirrored : (i j : ℕ) → idx_of c i j ≡ idx_of c j i
  mirrored i j =
      by_cases (dec_lt i c.k)
      (λ a. by_cases (dec_lt j c.k) (λ b. index-s i j a b ∙ triangle-comm c.k i j ∙ sym (index-s j i b a))
      (λ n. index-t i j a (omega arith) ∙ sym (index-u j i (omega arith) a)))
      (λ m. by_cases (dec_lt j c.k) (λ b. index-u i j (omega arith) b ∙ sym (index-t j i b (omega arith)))
      (λ n. index-none i j (omega arith) (omega arith) ∙ sym (index-none j i (omega arith) (omega arith))))

  -- what is to be shown of each symbol
  record Placed (b : ℕ) : Type 0 where
    low : row_of c b < c.k
    high : col_of c b < c.d
    ordered : row_of c b ≤ col_of c b
    returns : idx_of c (row_of c b) (col_of c b) ≡ b

  placed-s : (b : ℕ) → b < start c.k c.k → Placed b
  placed-s b a =
      let u : Lies c.k b = upper-triangle c.k b a in
      let e : row_of c b ≡ up_row c.k b = row-s b a in
      let f : col_of c b ≡ up_col c.k b = col-s b a in
      record {
        low = omega arith;
        high = omega arith;
        ordered = omega arith;
        returns = index-s (row_of c b) (col_of c b) (omega arith) (omega arith) ∙ ap₂ (triangle c.k) e f ∙ u.back;
      }

  placed-t : (b : ℕ) → start c.k c.k ≤ b → b < bytes c → Placed b
  placed-t b a l =
      let u : Block c.k (c.d - c.k) (b - start c.k c.k) = block c.k (c.d - c.k) (b - start c.k c.k) (omega (arith, bytes-one-rows c R one)) in
      let e : row_of c b ≡ (b - start c.k c.k) / (c.d - c.k) = row-t b a in
      let f : col_of c b ≡ c.k + (b - start c.k c.k) % (c.d - c.k) = col-t b a in
      record {
        low = omega arith;
        high = omega arith;
        ordered = omega arith;
        returns =
            index-t (row_of c b) (col_of c b) (omega arith) (omega arith)
            ∙ ap₂ (λ (x y : ℕ). start c.k c.k + (x * (c.d - c.k) + (y - c.k))) e f
            ∙ omega (arith, u.back);
      }

  placed : (b : ℕ) → b < bytes c → Placed b
  placed b l = by_cases (dec_lt b (start c.k c.k)) (placed-s b) (λ n. placed-t b (omega arith) l)

  stands-s : (i j : ℕ) → i ≤ j → j < c.k → Stands (bytes c) (lane c) (row_of c) (col_of c) (triangle c.k i j) 0 i j
  stands-s i j a b =
      let u : Upper c.k (triangle c.k i j) i j = triangle-upper c.k i j a b in
      record {
        within = omega (arith, bytes-one-rows c R one);
        in_lane = lane-none (triangle c.k i j);
        in_row = row-s (triangle c.k i j) u.within ∙ u.row;
        in_col = col-s (triangle c.k i j) u.within ∙ u.col;
      }

  stands-t : (i j : ℕ) → i < c.k → j < c.d - c.k
      → Stands (bytes c) (lane c) (row_of c) (col_of c) (start c.k c.k + (i * (c.d - c.k) + j)) 0 i (c.k + j)
  stands-t i j a b =
      let s = start c.k c.k in
      let e = c.d - c.k in
      let n = i * e + j in
      let f : s + n - s ≡ n = omega arith in
      record {
        within = omega (arith, bytes-one-rows c R one, block_within a b);
        in_lane = lane-none (s + n);
        in_row = row-t (s + n) (omega arith) ∙ ap (λ (x : ℕ). x / e) f ∙ block_row i b;
        in_col = col-t (s + n) (omega arith) ∙ ap (λ (x : ℕ). c.k + x % e) f ∙ ap (λ (x : ℕ). c.k + x) (block-col i b);
      }

  stands_up : (i j : ℕ) → i ≤ j → i < c.k → j < c.d → Stands (bytes c) (lane c) (row_of c) (col_of c) (idx_of c i j) 0 i j
  stands_up i j a b l =
      by_cases (dec_lt j c.k)
      (λ x. subst (λ (n : ℕ). Stands (bytes c) (lane c) (row_of c) (col_of c) n 0 i j) (sym (index-s i j b x)) (stands-s i j a x))
      (λ n. let x : c.k ≤ j = omega arith in
      subst₂ (λ (n y : ℕ). Stands (bytes c) (lane c) (row_of c) (col_of c) n 0 i y) (sym (index-t i j b x)) (add-sub_of_le x)
      (stands-t i (j - c.k) b (omega arith)))

  pub layout-mbr : Layout c.k (alpha c) (c.d - alpha c) (bytes c) (idx_of c) (lane c) (row_of c) (col_of c)
  layout-mbr =
      let a : alpha c ≡ c.d = alpha-one c one in
      record {
        room = omega arith;
        top = λ i j x y. mirrored i j;
        under = λ i j x y. absurd (omega arith);
        corner = λ i j x y z w. omega (arith, index-none i j x z);
        beside = λ i j x y z. absurd (omega arith);
        lies = λ b x. inl (lane-none b, (placed b x).low, omega (arith, (placed b x).high));
        order = λ b x. (placed b x).ordered;
        back = λ b x. ap (λ (q : ℕ). idx_of c (q * alpha c + row_of c b) (col_of c b)) (lane-none b)
            ∙ ap (λ (n : ℕ). idx_of c n (col_of c b)) (omega arith) ∙ (placed b x).returns;
        upper = λ i j x y z. stands_up i j x y (omega arith);
        lower = λ i j x y. absurd (omega arith);
      }

  -- ---- the matrix is filled so

  matrix-row : (m : Vec) (i j : ℕ) → i < c.k → matrix c m i j ≡ m (idx_of c i j)
  unfolding matrix mbr idx_of mbr_index
  matrix-row m i j a = rw (eq-eqb c.kind 1 one, lt-ltb i c.k a) (symbol-of (ltb j c.k) m _ _)

  matrix-col : (m : Vec) (i j : ℕ) → c.k ≤ i → j < c.k → matrix c m i j ≡ m (idx_of c i j)
  unfolding matrix mbr idx_of mbr_index
  matrix-col m i j a b = rw (eq-eqb c.kind 1 one, le-ltb i c.k a, lt-ltb j c.k b)

  matrix-none : (m : Vec) (i j : ℕ) → c.k ≤ i → c.k ≤ j → matrix c m i j ≡ 𝟘
  unfolding matrix mbr
  matrix-none m i j a b = rw (eq-eqb c.kind 1 one, le-ltb i c.k a, le-ltb j c.k b)

  within : (i j : ℕ) → i < c.k → i < c.d → j < c.d → idx_of c i j < bytes c
  within i j a x y = within-top layout-mbr i j a (omega (arith, alpha-one c one)) (omega (arith, alpha-one c one))

  pub matrix-mbr : (m : Vec) (i j : ℕ) → i < c.d → j < c.d → matrix c m i j ≡ filled (bytes c) (idx_of c) m i j
  matrix-mbr m i j x y =
      by_cases (dec_lt i c.k)
      (λ a. entry_of (bytes c) m (matrix-row m i j a) (within i j a x y))
      (λ p. let a : c.k ≤ i = omega arith in
      by_cases (dec_lt j c.k)
      (λ b. entry_of (bytes c) m (matrix-col m i j a b) (omega (arith, mirrored i j, within j i b y x)))
      (λ n. let b : c.k ≤ j = omega arith in matrix-none m i j a b ∙ sym (entry_past (bytes c) m (idx_of c i j) (omega (arith, index-none i j a b)))))
