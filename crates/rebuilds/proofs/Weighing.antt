-- A plan rebuilds: applied to any d symbols it gives the rebuilt share. The solutions for the unit vectors give the plan.
-- Assumes nothing.
use mathlib.Core.Path.{◌≡◌, ◌∙◌, refl, sym, ap, ap₂}
use mathlib.Core.Logic.{by_cases}
use mathlib.Core.Bool.{true, false}
use mathlib.Core.List.{List, []}
use Prim.Native.Nat.{ℕ, ◌+◌, ◌<◌, ◌≤◌}
use native.Mathlib.Decide.{dec_lt}
use native.Mathlib.Omega.{arith}
use borrow.Author.Tests.{lt-ltb, le-ltb, le-leb, lt-leb, eq-eqb, ne_eqb}
use lib.Bits.{bit_xor}
use lib.Dec.{eqb}
use lib.ListN.{length, get_or, set, replicate, get_or-eq_default}
use Rattle.field.specs.Field
use Rattle.field.specs.Tables.{tables, by_table}
use Rattle.field.proofs.Laws.{by-tables}
use Rattle.algebra.specs.Symbol.{F, symbol, ◌⊕◌, ◌⊗◌, 𝟘}
use Rattle.algebra.specs.Sums.{Vec, Grid, sum, dot, unit, pick}
use Rattle.algebra.specs.Bytes.{at, table}
use Rattle.algebra.proofs.Ring.{ring, mul_val, pow-val, val-symbol, val-add, symbol-val, symbol-mul, mul_comm}
use Rattle.algebra.proofs.Sums.{pick-lt, pick-ge, sum_same, dot-same, dot-add, dot-mul}
use Rattle.algebra.proofs.Poly.{interp-past}
use Rattle.algebra.proofs.Bytes.{table-length, table_same, at_table, sum-next}
use Rattle.codes.specs.Sizes.{alpha, point, lambda}
use Rattle.codes.specs.Rebuild.{points_of, solution, rebuilt_at, rebuilt}
use Rattle.codes.specs.declared.Code.{Code}
use Rattle.codes.proofs.Bools.{by-test}
use Rattle.solver.specs.Rows.{rows_of, entry}
use Rattle.solver.specs.Basis.{basis_at, basis_of}
use Rattle.solver.proofs.Rows.{rows_row, rows_at, rows_same, rows-zero, rows-store}
use Rattle.solver.proofs.Linear.{interp-units}
use Rattle.solver.proofs.Points.{interp-points}
use Rattle.rebuilds.specs.Plan.{plan_at, plan_of, weighed, applied}
use Rattle.rebuilds.specs.Weights.{point_in, points_in, factor, folded, folded_by, rows_to, folded_rows}

-- ---- reading past the end

pub at-past : (l : List ℕ) (i : ℕ) → length l ≤ i → at l i ≡ 𝟘
unfolding symbol 𝟘
at-past l i h = ap symbol (get_or-eq_default l 0 h) ∙ symbol-val 𝟘

-- ---- points and factors, as the code finds them

pub points-are : (c : Code) (hs : List ℕ) → table 31 (points_in c.points hs) ≡ table 31 (points_of c hs)
unfolding point
points-are c hs = refl

pub factor-none : (c : Code) (f : ℕ) → c.kind ≡ 1 → 0 ≡ (factor c f).val
unfolding factor 𝟘
factor-none c f h = simp (eq-eqb c.kind 1 h)

pub factor-power : (c : Code) (f : ℕ) → (c.kind ≡ 1 → ⊥) → Field.pow (point_in c.points f) (alpha c) ≡ (factor c f).val
unfolding factor point
factor-power c f h = simp (ne_eqb c.kind 1 h) (pow-val (point_in c.points f) (alpha c))

-- ---- the two kinds

module _ (c : Code) (f : ℕ) where
  rebuilt-one : eqb c.kind 1 ≡ true → (v : Vec) (j : ℕ) → rebuilt_at c f v j ≡ v j
  unfolding rebuilt_at
  rebuilt-one e v j = simp e

  rebuilt-two : eqb c.kind 1 ≡ false → (v : Vec) (j : ℕ) → rebuilt_at c f v j ≡ v j ⊕ lambda c f ⊗ v (alpha c + j)
  unfolding rebuilt_at
  rebuilt-two e v j = simp e

  factor-one : eqb c.kind 1 ≡ true → factor c f ≡ 𝟘
  unfolding factor
  factor-one e = simp e

  factor-two : eqb c.kind 1 ≡ false → factor c f ≡ lambda c f
  unfolding factor
  factor-two e = simp e

  -- of both kinds a rebuilt byte is an entry and the factor times another
  pub rebuilt-factor : (v : Vec) (j : ℕ) → rebuilt_at c f v j ≡ v j ⊕ factor c f ⊗ v (alpha c + j)
  rebuilt-factor v j =
      by-test (eqb c.kind 1)
      (λ e. rebuilt-one e v j ∙ sym (ap (λ (l : F). v j ⊕ l ⊗ v (alpha c + j)) (factor-one e) ∙ simp ring))
      (λ e. rebuilt-two e v j ∙ sym (ap (λ (l : F). v j ⊕ l ⊗ v (alpha c + j)) (factor-two e)))

  -- a rebuilt byte is linear in the symbols
  pub rebuilt-units : (hs : List ℕ) (ys : Vec) (j : ℕ)
      → dot c.d ys (λ t. rebuilt_at c f (solution c hs (unit t)) j) ≡ rebuilt_at c f (solution c hs ys) j
  rebuilt-units hs ys j =
      dot-same c.d (λ t h. refl) (λ t h. rebuilt-factor (solution c hs (unit t)) j)
      ∙ dot-add c.d ys (λ t. solution c hs (unit t) j) (λ t. factor c f ⊗ solution c hs (unit t) (alpha c + j))
      ∙ ap₂ ◌⊕◌ (interp-units c.d (points_of c hs) ys j)
      (dot-mul c.d (factor c f) ys (λ t. solution c hs (unit t) (alpha c + j))
      ∙ ap (λ (x : F). factor c f ⊗ x) (interp-units c.d (points_of c hs) ys (alpha c + j)))
      ∙ sym (rebuilt-factor (solution c hs ys) j)

-- ---- the entries of a plan

module _ (c : Code) (f : ℕ) (hs : List ℕ) (t j : ℕ) where
  pub plan-many : 31 < c.d → plan_at c f hs t j ≡ 𝟘
  unfolding plan_at
  plan-many h = simp (lt-leb c.d 31 h)

  plan-past : c.d ≤ 31 → c.d ≤ t → plan_at c f hs t j ≡ 𝟘
  unfolding plan_at
  plan-past h k = simp (le-leb c.d 31 h, le-ltb t c.d k)

  plan-beside : c.d ≤ 31 → t < c.d → alpha c ≤ j → plan_at c f hs t j ≡ 𝟘
  unfolding plan_at
  plan-beside h k l = simp (le-leb c.d 31 h, lt-ltb t c.d k, le-ltb j (alpha c) l)

  pub plan-at : c.d ≤ 31 → t < c.d → j < alpha c → plan_at c f hs t j ≡ rebuilt_at c f (solution c hs (unit t)) j
  unfolding plan_at
  plan-at h k l = simp (le-leb c.d 31 h, lt-ltb t c.d k, lt-ltb j (alpha c) l)

-- ---- the solutions for the unit vectors give the plan

module _ (c : Code) (hs : List ℕ) (h : c.d ≤ 31) (t : ℕ) (k : t < c.d) where
  xs : List ℕ
  xs = table 31 (points_of c hs)

  row : Vec
  row i = pick c.d 32 (basis_at xs c.d c.d t i) 𝟘

  row_is : get_or (basis_of xs c.d) t [] ≡ table 31 row
  unfolding basis_of row
  row_is = rows_row 31 31 (λ u i. pick c.d 32 (basis_at xs c.d c.d u i) 𝟘) t (omega arith)

  entry-is : (i : ℕ) → row i ≡ solution c hs (unit t) i
  unfolding row basis_at xs
  entry-is i =
      pick-lt c.d 32 _ 𝟘 (omega arith) ∙ pick-lt t c.d _ 𝟘 k
      ∙ interp-points c.d (unit t) (λ u l. at_table 31 (points_of c hs) u (omega arith)) i

  pub basis-row : (i : ℕ) → at (get_or (basis_of (table 31 (points_of c hs)) c.d) t []) i ≡ solution c hs (unit t) i
  unfolding xs
  basis-row i =
      ap (λ (l : List ℕ). at l i) row_is
      ∙ by_cases (dec_lt i 31) (λ l. at_table 31 row i l ∙ entry-is i)
      (λ l. at-past (table 31 row) i (omega (arith, table-length 31 row))
      ∙ sym (interp-past c.d (points_of c hs) (unit t) i (omega arith)))

module _ (c : Code) (f : ℕ) (hs : List ℕ) (h : c.d ≤ 31) where
  pub plan-folds : folded_rows c f (basis_of (table 31 (points_of c hs)) c.d) ≡ plan_of c f hs
  unfolding folded_rows plan_of folded
  plan-folds = rows_same 31 31 (λ t j p q. cell t j)
    where
      B : List (List ℕ)
      B = basis_of (table 31 (points_of c hs)) c.d

      cell : (t j : ℕ) → rows_to c.d (folded_by (alpha c) (factor c f) B) t j ≡ plan_at c f hs t j
      cell t j =
          by_cases (dec_lt t c.d)
          (λ k. pick-lt t c.d _ 𝟘 k
          ∙ by_cases (dec_lt j (alpha c))
          (λ l. pick-lt j (alpha c) _ 𝟘 l
          ∙ ap₂ (λ (x y : F). x ⊕ factor c f ⊗ y) (basis-row c hs h t k j) (basis-row c hs h t k (alpha c + j))
          ∙ sym (rebuilt-factor c f (solution c hs (unit t)) j) ∙ sym (plan-at c f hs t j h k l))
          (λ l. pick-ge j (alpha c) _ 𝟘 (omega arith) ∙ sym (plan-beside c f hs t j h k (omega arith))))
          (λ k. pick-ge t c.d _ 𝟘 (omega arith) ∙ sym (plan-past c f hs t j h (omega arith)))

pub plan-none : (c : Code) (f : ℕ) (hs : List ℕ) → 31 < c.d → replicate 31 (replicate 31 0) ≡ plan_of c f hs
unfolding plan_of
plan-none c f hs h = rows-zero 31 31 (λ t j p q. plan-many c f hs t j h)

-- ---- one weight

pub folded-none : (a : ℕ) (l : F) (v : Vec) (j : ℕ) → a ≤ j → 0 ≡ (folded a l v j).val
unfolding folded 𝟘
folded-none a l v j h = sym (ap (λ (x : F). x.val) (pick-ge j a (v j ⊕ l ⊗ v (a + j)) 𝟘 h))

pub folded-at : (a l : ℕ) (row : List ℕ) (j : ℕ) {far : ℕ} → j < a → get_or row j 0 < 256 → far ≡ get_or row (a + j) 0
    → Field.add (get_or row j 0) (Field.mul l far) ≡ (folded a (symbol l) (at row) j).val
unfolding folded
folded-at a l row j {far} h b e =
    let joined = at row j ⊕ symbol l ⊗ at row (a + j) in
    ap (λ (n : ℕ). Field.add (get_or row j 0) (Field.mul l n)) e
    ∙ ap₂ bit_xor (sym (val-symbol b)) (mul_val l (get_or row (a + j) 0))
    ∙ sym (val-add (at row j) (symbol l ⊗ at row (a + j))) ∙ sym (ap (λ (x : F). x.val) (pick-lt j a joined 𝟘 h))

-- rows are stored one by one into a grid of zeros

module _ (G : Grid) where
  pub rows_none : replicate 31 (replicate 31 0) ≡ rows_of 31 31 (rows_to 0 G)
  rows_none = rows-zero 31 31 (λ t j h k. pick-ge t 0 (G t j) 𝟘 (omega arith))

  pub rows_more : (u : ℕ) (l : List ℕ) → u < 31 → l ≡ table 31 (G u) → set (rows_of 31 31 (rows_to u G)) u l ≡ rows_of 31 31 (rows_to (u + 1) G)
  rows_more u l h e =
      ap (set (rows_of 31 31 (rows_to u G)) u) (e ∙ table_same 31 (λ j k. sym (pick-lt u (u + 1) (G u j) 𝟘 (omega arith))))
      ∙ rows-store 31 31 (rows_to u G) (rows_to (u + 1) G) u h
      (λ t n j k. by_cases (dec_lt t u)
      (λ l. pick-lt t u (G t j) 𝟘 l ∙ sym (pick-lt t (u + 1) (G t j) 𝟘 (omega arith)))
      (λ l. pick-ge t u (G t j) 𝟘 (omega arith) ∙ sym (pick-ge t (u + 1) (G t j) 𝟘 (omega arith))))

pub folded-whole : (c : Code) (f : ℕ) (B : List (List ℕ)) (a l u : ℕ) → a ≡ alpha c → l ≡ (factor c f).val → u ≡ c.d
    → rows_of 31 31 (rows_to u (folded_by a (symbol l) B)) ≡ folded_rows c f B
unfolding folded_rows
folded-whole c f B a l u e d g =
    ap₂ (λ (a : ℕ) (x : F). rows_of 31 31 (rows_to u (folded_by a x B))) e (ap symbol d ∙ symbol-val (factor c f))
    ∙ ap (λ (n : ℕ). rows_of 31 31 (rows_to n (folded_by (alpha c) (factor c f) B))) g

-- ---- a plan applied

-- the sum of the first n terms
abbrev pub weighed_to : ℕ → List (List ℕ) → List ℕ → List ℕ → Vec
weighed_to n p w ys j = sum n (λ t. symbol (by_table w (entry p t j) (get_or ys t 0)))

module _ (p : List (List ℕ)) (w ys : List ℕ) (j i : ℕ) where
  pub weighed-next : {acc v : ℕ} → acc ≡ (weighed_to i p w ys j).val → v < 256 → v ≡ by_table w (entry p i j) (get_or ys i 0)
      → bit_xor acc v ≡ (weighed_to (i + 1) p w ys j).val
  weighed-next {acc} e h d =
      ap (bit_xor acc) (sym (val-symbol h) ∙ ap (λ (n : ℕ). (symbol n).val) d)
      ∙ sum-next i (λ t. symbol (by_table w (entry p t j) (get_or ys t 0))) e

  pub weighed-whole : i ≡ length ys → (weighed_to i p w ys j).val ≡ (weighed p w ys j).val
  unfolding weighed
  weighed-whole e = ap (λ (n : ℕ). (weighed_to n p w ys j).val) e

pub applied-is : (p : List (List ℕ)) (w ys o : List ℕ) → length ys ≤ 31 → length o ≤ 31 → applied p w ys o ≡ table (length o) (weighed p w ys)
unfolding applied
applied-is p w ys o h k = simp (le-leb (length ys) 31 h, le-leb (length o) 31 k)

pub applied-many : (p : List (List ℕ)) (w ys o : List ℕ) → 31 < length ys → applied p w ys o ≡ o
unfolding applied
applied-many p w ys o h = simp (lt-leb (length ys) 31 h)

pub applied-wide : (p : List (List ℕ)) (w ys o : List ℕ) → length ys ≤ 31 → 31 < length o → applied p w ys o ≡ o
unfolding applied
applied-wide p w ys o h k = simp (le-leb (length ys) 31 h, lt-leb (length o) 31 k)

module _ (c : Code) (f : ℕ) (hs ys o : List ℕ) (hd : c.d ≤ 31) (ha : alpha c ≤ 31) (ly : length ys ≡ c.d) (lo : length o ≡ alpha c)
    (bytes : (t : ℕ) → t < c.d → get_or ys t 0 < 256) where
  term : (j : ℕ) → j < alpha c → (t : ℕ) → t < c.d
      → symbol (by_table tables (entry (plan_of c f hs) t j) (get_or ys t 0)) ≡ at ys t ⊗ rebuilt_at c f (solution c hs (unit t)) j
  unfolding plan_of
  term j k t h =
      ap (λ (a : ℕ). symbol (by_table tables a (get_or ys t 0))) (rows_at 31 31 (plan_at c f hs) t j (omega arith) (omega arith))
      ∙ ap symbol (by-tables (plan_at c f hs t j).val (get_or ys t 0) (plan_at c f hs t j).small (bytes t h))
      ∙ symbol-mul (plan_at c f hs t j).val (get_or ys t 0)
      ∙ ap (λ (x : F). x ⊗ at ys t) (symbol-val (plan_at c f hs t j) ∙ plan-at c f hs t j hd h k)
      ∙ mul_comm (rebuilt_at c f (solution c hs (unit t)) j) (at ys t)

  byte : (j : ℕ) → j < alpha c → weighed (plan_of c f hs) tables ys j ≡ rebuilt_at c f (solution c hs (at ys)) j
  unfolding weighed
  byte j k =
      ap (λ (n : ℕ). sum n (λ t. symbol (by_table tables (entry (plan_of c f hs) t j) (get_or ys t 0)))) ly
      ∙ sum_same c.d (term j k) ∙ rebuilt-units c f hs (at ys) j

  pub plan-rebuilds : applied (plan_of c f hs) tables ys o ≡ rebuilt c f hs ys
  unfolding rebuilt
  plan-rebuilds =
      applied-is (plan_of c f hs) tables ys o (omega arith) (omega arith)
      ∙ ap (λ (n : ℕ). table n (weighed (plan_of c f hs) tables ys)) lo ∙ table_same (alpha c) byte
