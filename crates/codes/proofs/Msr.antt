-- Kind 2 is of the general form, with h = alpha = k - 1: S1 fills the first alpha rows, and S2 the others.
-- Assumes nothing.
use mathlib.Core.Path.{◌≡◌, ◌∙◌, sym, ap, ap₂, subst₂}
use mathlib.Core.Logic.{◌⊎◌, inl, inr, by_cases}
use Prim.Native.Nat.{ℕ, ◌+◌, ◌*◌, ◌-◌, ◌<◌, ◌≤◌}
use native.Mathlib.Decide.{dec_lt}
use native.Mathlib.Omega.{arith}
use lib.Dec.{ltb}
use borrow.Author.Tests.{ne_eqb, lt-ltb, le-ltb}
use Rattle.algebra.specs.Sums.{Vec}
use Rattle.codes.specs.Sizes.{alpha, bytes}
use Rattle.codes.specs.Places.{start, triangle, up_row, up_col}
use Rattle.codes.specs.Matrix.{msr, matrix, lane, row_of, col_of}
use Rattle.codes.specs.General.{Stands, Layout, filled, msr_index, idx_of}
use Rattle.codes.specs.Rules.{Rules}
use Rattle.codes.specs.declared.Code.{Code}
use Rattle.codes.proofs.Sizes.{alpha-two, bytes-two-rows}
use Rattle.codes.proofs.Places.{Upper, Lies, triangle-comm, triangle-upper, triangle-within, upper-triangle}
use Rattle.codes.proofs.General.{entry_of, symbol-of}

module _ (c : Code) (R : Rules c) (two : c.kind ≡ 2) where
  other : c.kind ≡ 1 → ⊥
  other e = omega arith

  -- ---- which symbol stands at a place

  index-first : (i j : ℕ) → i < c.k - 1 → idx_of c i j ≡ triangle (c.k - 1) i j
  unfolding idx_of msr_index
  index-first i j a = rw (ne_eqb c.kind 1 other, lt-ltb i (c.k - 1) a)

  index-second : (i j : ℕ) → c.k - 1 ≤ i → idx_of c i j ≡ start (c.k - 1) (c.k - 1) + triangle (c.k - 1) (i - (c.k - 1)) j
  unfolding idx_of msr_index
  index-second i j a = rw (ne_eqb c.kind 1 other, le-ltb i (c.k - 1) a)

  index_below : (i j : ℕ) → idx_of c (c.k - 1 + i) j ≡ start (c.k - 1) (c.k - 1) + triangle (c.k - 1) i j
  index_below i j =
      index-second (c.k - 1 + i) j (omega arith) ∙ ap (λ (n : ℕ). start (c.k - 1) (c.k - 1) + triangle (c.k - 1) n j) (omega arith)

  -- ---- where a symbol stands

  lane_first : (b : ℕ) → b < start (c.k - 1) (c.k - 1) → lane c b ≡ 0
  unfolding lane
  lane_first b a = rw (ne_eqb c.kind 1 other, lt-ltb b (start (c.k - 1) (c.k - 1)) a)

  lane-second : (b : ℕ) → start (c.k - 1) (c.k - 1) ≤ b → lane c b ≡ 1
  unfolding lane
  lane-second b a = rw (ne_eqb c.kind 1 other, le-ltb b (start (c.k - 1) (c.k - 1)) a)

  offset : (b q n : ℕ) → lane c b ≡ q → b ≡ q * start (c.k - 1) (c.k - 1) + n → b - lane c b * start (c.k - 1) (c.k - 1) ≡ n
  offset b q n e f = ap (λ (x : ℕ). b - x * start (c.k - 1) (c.k - 1)) e ∙ omega arith

  row_in : (b q n : ℕ) → lane c b ≡ q → b ≡ q * start (c.k - 1) (c.k - 1) + n → row_of c b ≡ up_row (c.k - 1) n
  unfolding row_of
  row_in b q n e f = rw (ne_eqb c.kind 1 other) (ap (up_row (c.k - 1)) (offset b q n e f))

  col-in : (b q n : ℕ) → lane c b ≡ q → b ≡ q * start (c.k - 1) (c.k - 1) + n → col_of c b ≡ up_col (c.k - 1) n
  unfolding col_of
  col-in b q n e f = rw (ne_eqb c.kind 1 other) (ap (up_col (c.k - 1)) (offset b q n e f))

  -- ---- the facts of the form

  -- what is to be shown of each symbol, in the lane q
  record Placed (q b : ℕ) : Type 0 where
    in_lane : lane c b ≡ q
    high : col_of c b < c.k - 1
    ordered : row_of c b ≤ col_of c b
    returns : q * start (c.k - 1) (c.k - 1) + triangle (c.k - 1) (row_of c b) (col_of c b) ≡ b

  placed : (b q n : ℕ) → lane c b ≡ q → n < start (c.k - 1) (c.k - 1) → b ≡ q * start (c.k - 1) (c.k - 1) + n → Placed q b
  placed b q n e a f =
      let u : Lies (c.k - 1) n = upper-triangle (c.k - 1) n a in
      let g : row_of c b ≡ up_row (c.k - 1) n = row_in b q n e f in
      let h : col_of c b ≡ up_col (c.k - 1) n = col-in b q n e f in
      record {
        in_lane = e;
        high = omega arith;
        ordered = omega arith;
        returns = ap (λ (x : ℕ). q * start (c.k - 1) (c.k - 1) + x) (ap₂ (triangle (c.k - 1)) g h ∙ u.back) ∙ sym f;
      }

  where-it-stands : (b : ℕ) → b < bytes c → Placed 0 b ⊎ Placed 1 b
  where-it-stands b a =
      by_cases (dec_lt b (start (c.k - 1) (c.k - 1))) (λ x. inl (placed b 0 b (lane_first b x) x (omega arith)))
      (λ n. inr (placed b 1 (b - start (c.k - 1) (c.k - 1)) (lane-second b (omega arith)) (omega (arith, bytes-two-rows c R two)) (omega arith)))

  stands : (q b i j : ℕ) → b < bytes c → lane c b ≡ q → b ≡ q * start (c.k - 1) (c.k - 1) + triangle (c.k - 1) i j → i ≤ j → j < c.k - 1
      → Stands (bytes c) (lane c) (row_of c) (col_of c) b q i j
  stands q b i j a e f x y =
      let u : Upper (c.k - 1) (triangle (c.k - 1) i j) i j = triangle-upper (c.k - 1) i j x y in
      record {
        within = a;
        in_lane = e;
        in_row = row_in b q (triangle (c.k - 1) i j) e f ∙ u.row;
        in_col = col-in b q (triangle (c.k - 1) i j) e f ∙ u.col;
      }

  stands-first : (i j : ℕ) → i ≤ j → j < c.k - 1 → Stands (bytes c) (lane c) (row_of c) (col_of c) (idx_of c i j) 0 i j
  stands-first i j x y =
      let u : triangle (c.k - 1) i j < start (c.k - 1) (c.k - 1) = triangle-within (c.k - 1) i j (omega arith) y in
      let e : idx_of c i j ≡ triangle (c.k - 1) i j = index-first i j (omega arith) in
      stands 0 (idx_of c i j) i j (omega (arith, bytes-two-rows c R two)) (lane_first (idx_of c i j) (omega arith)) (omega arith) x y

  stands-second : (i j : ℕ) → i ≤ j → j < c.k - 1 → Stands (bytes c) (lane c) (row_of c) (col_of c) (idx_of c (c.k - 1 + i) j) 1 i j
  stands-second i j x y =
      let u : triangle (c.k - 1) i j < start (c.k - 1) (c.k - 1) = triangle-within (c.k - 1) i j (omega arith) y in
      let e : idx_of c (c.k - 1 + i) j ≡ start (c.k - 1) (c.k - 1) + triangle (c.k - 1) i j = index_below i j in
      stands 1 (idx_of c (c.k - 1 + i) j) i j (omega (arith, bytes-two-rows c R two)) (lane-second (idx_of c (c.k - 1 + i) j) (omega arith)) (omega arith) x y

  back : (b : ℕ) → b < bytes c → idx_of c (lane c b * (c.k - 1) + row_of c b) (col_of c b) ≡ b
  back b a = elim (where-it-stands b a) [
    | inl p ↦ (let e : lane c b * (c.k - 1) + row_of c b ≡ row_of c b = ap (λ (q : ℕ). q * (c.k - 1) + row_of c b) p.in_lane ∙ omega arith in
        ap (λ (r : ℕ). idx_of c r (col_of c b)) e ∙ index-first (row_of c b) (col_of c b) (omega (arith, p.high, p.ordered)) ∙ omega (arith, p.returns))
    | inr p ↦ (let e : lane c b * (c.k - 1) + row_of c b ≡ c.k - 1 + row_of c b = ap (λ (q : ℕ). q * (c.k - 1) + row_of c b) p.in_lane ∙ omega arith in
        ap (λ (r : ℕ). idx_of c r (col_of c b)) e ∙ index_below (row_of c b) (col_of c b) ∙ omega (arith, p.returns))
  ]

  lies : (b : ℕ) → b < bytes c → ((lane c b ≡ 0) × (row_of c b < c.k) × (col_of c b < c.k - 1)) ⊎ ((lane c b ≡ 1) × (col_of c b < c.k - 1))
  lies b a = elim (where-it-stands b a) [
    | inl p ↦ inl (p.in_lane, omega (arith, p.high, p.ordered), p.high)
    | inr p ↦ inr (p.in_lane, p.high)
  ]

  order : (b : ℕ) → b < bytes c → row_of c b ≤ col_of c b
  order b a = elim (where-it-stands b a) [ inl p ↦ p.ordered | inr p ↦ p.ordered ]

  pub layout-msr : Layout c.k (alpha c) (c.d - alpha c) (bytes c) (idx_of c) (lane c) (row_of c) (col_of c)
  layout-msr =
      subst₂ (λ (α h : ℕ). Layout c.k α h (bytes c) (idx_of c) (lane c) (row_of c) (col_of c)) (sym (alpha-two c other)) (omega (arith, alpha-two c other, (R.second two).1))
      (record {
        room = omega arith;
        top = λ i j x y. index-first i j x ∙ triangle-comm (c.k - 1) i j ∙ sym (index-first j i y);
        under = λ i j x y. index_below i j ∙ ap (λ (n : ℕ). start (c.k - 1) (c.k - 1) + n) (triangle-comm (c.k - 1) i j) ∙ sym (index_below j i);
        corner = λ i j x y z w. absurd (omega arith);
        beside = λ i j x y z. absurd (omega arith);
        lies = lies;
        order = order;
        back = back;
        upper = λ i j x y z. stands-first i j x z;
        lower = λ i j x y. stands-second i j x y;
      })

  -- ---- the matrix is filled so

  matrix-all : (m : Vec) (i j : ℕ) → matrix c m i j ≡ m (idx_of c i j)
  unfolding matrix msr idx_of msr_index
  matrix-all m i j = rw (ne_eqb c.kind 1 other) (symbol-of (ltb i (c.k - 1)) m _ _)

  within : (i j : ℕ) → i < c.d → j < c.k - 1 → idx_of c i j < bytes c
  within i j x y =
      by_cases (dec_lt i (c.k - 1)) (λ a. omega (arith, bytes-two-rows c R two, index-first i j a, triangle-within (c.k - 1) i j a y))
      (λ n. omega (arith, bytes-two-rows c R two, index-second i j (omega arith), triangle-within (c.k - 1) (i - (c.k - 1)) j (omega (arith, (R.second two).1)) y))

  pub matrix-msr : (m : Vec) (i j : ℕ) → i < c.d → j < c.k - 1 → matrix c m i j ≡ filled (bytes c) (idx_of c) m i j
  matrix-msr m i j x y = entry_of (bytes c) m (matrix-all m i j) (within i j x y)
