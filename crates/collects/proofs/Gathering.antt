-- The steps of a collection: what each turn of its loops does, and what its parts make together.
--   pow-start, pow_step          the powers of a point in an accumulator
--   low_or_high                  a place below a bound, or not
--   rows_fit                     row u of k rows of a bytes stands within k * a bytes
--   skip-before, skip-after      the place where another is left out, as a number
--   first-at                     an entry of P
--   solved                       the weights of a solver, applied to values
--   half-row                     the solution of the system without one point
--   halves-store                 the rows of P and of Q solved, two a turn
--   joins                        the steps of kind 1 make S beside T
--   stacks                       the steps of kind 2 make S1 above S2
--   gathered-one, gathered-two   they are the matrix of a code of their kind
--   cell_in                      the cells of a message stand in that matrix
--   deep-high, cell_at           the code's numbers for a cell are those meant, and fit a square
--   collects                     what is read off it is the message
-- Assumes nothing.
use mathlib.Core.Path.{◌≡◌, ◌∙◌, refl, sym, ap, ap₂}
use mathlib.Core.Logic.{◌⊎◌, inl, inr, ⊎_elim}
use mathlib.Core.List.{List, []}
use Prim.Native.Nat.{ℕ, zero, suc, ◌+◌, ◌*◌, ◌-◌, ◌<◌, ◌≤◌}
use native.Mathlib.Nat.{zero-add, zero-mul, suc-mul, le_of_suc-le-suc}
use native.Mathlib.Numerals.{add-one}
use native.Mathlib.Omega.{arith}
use borrow.Author.Count.{below_more}
use borrow.Author.Tests.{eq-eqb, ne_eqb, lt-ltb, le-ltb, ltb-true, ltb-false}
use lib.Dec.{ltb}
use lib.ListN.{length, get_or, set, length-set}
use lib.Seq.{get_or-set_same, get_or-set_other}
use Rattle.field.specs.Field.{mul}
use Rattle.algebra.specs.Symbol.{F, symbol, ◌⊕◌, ◌⊗◌, 𝟘, 𝟙, pow, inv}
use Rattle.algebra.specs.Sums.{Vec, Grid, Same, pick, sum, dot, flip}
use Rattle.algebra.specs.Poly.{interp}
use Rattle.algebra.specs.Frame.{skip}
use Rattle.algebra.specs.Hollow.{first, second, cross, hollow}
use Rattle.algebra.specs.Bytes.{at, table}
use Rattle.algebra.proofs.Ring.{F-path, symbol-mul, pow-suc, mul-none, none-add}
use Rattle.algebra.proofs.Sums.{pick-lt, pick-ge, sum_same, sum-zero, sum-split, dot-same, dot-comm}
use Rattle.algebra.proofs.Frame.{skip-lt}
use Rattle.algebra.proofs.Bytes.{table_same, at_table}
use Rattle.codes.specs.Sizes.{alpha, bytes, point}
use Rattle.codes.specs.Matrix.{lane, row_of, col_of}
use Rattle.codes.specs.Rebuild.{points_of}
use Rattle.codes.specs.Collect.{solve_t, solve_s, without, parted_p, parted_q, solve_s1, solve_s2, gathered, shares_in, collected}
use Rattle.codes.specs.Rules.{Rules}
use Rattle.codes.specs.declared.Code.{Code}
use Rattle.collects.proofs.Cells.{cell-in-one, cell-in-two}
use Rattle.codes.proofs.Bools.{by-test}
use Rattle.codes.proofs.Sizes.{small, d-high, alpha-high}
use Rattle.solver.proofs.Linear.{interp-same}
use Rattle.solver.proofs.Points.{interp-points}
use Rattle.collects.specs.Squares.{cells, Holds, Solver, Copied}
use Rattle.collects.specs.Gather.{From, joined, stacked, factors, Halves, deep}
use Rattle.rebuilds.specs.Weights.{points_in}

-- ---- powers

pub pow-start : (x : F) → symbol 1 ≡ pow x 0
unfolding pow symbol 𝟙
pow-start x = F-path refl

pub pow_step : (x p i : ℕ) → symbol p ≡ pow (symbol x) i → symbol (mul x p) ≡ pow (symbol x) (i + 1)
pow_step x p i e =
    symbol-mul x p ∙ ap (λ (q : F). symbol x ⊗ q) e ∙ pow-suc (symbol x) i ∙ ap (pow (symbol x)) (sym (add-one i))

-- ---- places

pub low_or_high : (i w : ℕ) → (i < w) ⊎ (w ≤ i)
low_or_high i w = by-test (ltb i w) (λ e. inl (ltb-true i w e)) (λ e. inr (ltb-false i w e))

pub rows_fit : (u k a : ℕ) → u < k → u * a + a ≤ k * a
rows_fit u k a h = omega (arith, suc-mul u a, small (suc u) a k a h (omega arith))

pub skip-before : (u i : ℕ) → i < u → skip u i ≡ i
unfolding skip
skip-before zero i h = absurd (omega arith)
skip-before (suc u) zero h = refl
skip-before (suc u) (suc i) h = ap suc (skip-before u i (le_of_suc-le-suc h))

pub skip-after : (u i : ℕ) → u ≤ i → skip u i ≡ i + 1
unfolding skip
skip-after zero i h = sym (add-one i)
skip-after (suc u) zero h = absurd (omega arith)
skip-after (suc u) (suc i) h = ap suc (skip-after u i (le_of_suc-le-suc h)) ∙ omega arith

-- ---- P and Q

module _ (l : Vec) (R : Grid) (t s : ℕ) where
  pub first-at : R t s ⊕ l t ⊗ second l R t s ≡ first l R t s
  unfolding first
  first-at = refl

-- ---- solutions

pub solved : (s : ℕ) (xs : List ℕ) {zs : Vec} (f : List (List ℕ)) {ys vs : Vec} → Solver s xs f → Same s (at xs) zs → Same s ys vs → (i : ℕ) → i < s
    → dot s ys (cells f i) ≡ interp s zs vs i
solved s xs {zs} f {ys} {vs} σ e v i h = σ ys i h ∙ interp-points s ys e i ∙ interp-same s zs v i

pub half-row : (w : ℕ) (xs o : List ℕ) (u : ℕ) (f : List (List ℕ)) (y : Vec) (p r : List ℕ) → Solver w o f → Same w (at o) (λ i. at xs (skip u i))
    → Same w (at p) (λ i. y (skip u i)) → Same w (at r) (λ i. dot w (at p) (cells f i)) → Same w (at r) (without w (at xs) u y)
half-row w xs o u f y p r σ e v d i h = d i h ∙ solved w o f σ e v i h

module _ (w : ℕ) (xs l : Vec) (R : Grid) where
  pub halves-store : (u : ℕ) (h : List (List ℕ)) (a b : List ℕ) → u < w → w + u < length h → Halves w xs l R u h → Same w (at a) (without w xs u (first l R u))
      → Same w (at b) (without w xs u (second l R u)) → Halves w xs l R (u + 1) (set (set h u a) (w + u) b)
  halves-store u h a b k m s p q = record {
    upper = below_more (λ e. Same w (cells new e) (without w xs e (first l R e))) u
        (λ e f i g. row i (kept e (λ z. omega arith) (λ z. omega arith)) ∙ s.upper e f i g)
        (λ i g. row i (get_or-set_other (set h u a) (w + u) u b [] (λ z. omega arith) ∙ get_or-set_same h u a [] (omega arith)) ∙ p i g);
    lower = below_more (λ e. Same w (cells new (w + e)) (without w xs e (second l R e))) u
        (λ e f i g. row i (kept (w + e) (λ z. omega arith) (λ z. omega arith)) ∙ s.lower e f i g)
        (λ i g. row i (get_or-set_same (set h u a) (w + u) b [] (simp length-set (omega arith))) ∙ q i g);
  }
    where
      new : List (List ℕ)
      new = set (set h u a) (w + u) b

      row : (i : ℕ) {x y : List ℕ} → x ≡ y → at x i ≡ at y i
      row i e = ap (λ (z : List ℕ). at z i) e

      kept : (e : ℕ) → (e ≡ w + u → ⊥) → (e ≡ u → ⊥) → get_or (set (set h u a) (w + u) b) e [] ≡ get_or h e []
      kept e f g = get_or-set_other (set h u a) (w + u) e b [] f ∙ get_or-set_other h u e a [] g

-- ---- kind 1

module _ (k d : ℕ) (xs : List ℕ) (c f y far rows left near g r : List (List ℕ)) (X : Vec) (C : Grid) (hk : k ≤ d) (hd : d ≤ 31)
    (hx : Same k (at xs) X) (hc : Holds k d c C) (σ : Solver k xs f) (hy : Holds d d y (flip (cells c)))
    (hfar : Holds d k far (λ j i. pick j k 𝟘 (dot k (cells y j) (cells f i))))
    (hrows : Holds k d rows (λ u. pow (at xs u)))
    (hleft : Holds k k left (λ j u. cells y j u ⊕ dot d (cells rows u) (λ l. cells far l j)))
    (hnear : Holds k k near (λ j i. pick j 0 𝟘 (dot k (cells left j) (cells f i))))
    (hg : Copied far 0 near 0 k g) (hr : Holds d d r (flip (cells g)))
  where
    share-at : (t j : ℕ) → t < k → j < d → cells y j t ≡ C t j
    share-at t j h l = hy j (omega arith) t (omega arith) ∙ hc t h j l

    far-t : (j l : ℕ) → j < k → l < d - k → cells far (k + l) j ≡ solve_t k X C j l
    unfolding solve_t
    far-t j l h m =
        hfar (k + l) (omega arith) j h ∙ pick-ge (k + l) k 𝟘 _ (omega arith)
        ∙ solved k xs f σ hx (λ t n. share-at t (k + l) n (omega arith)) j h

    far_none : (j l : ℕ) → j < k → l < k → cells far l j ≡ 𝟘
    far_none j l h m = hfar l (omega arith) j h ∙ pick-lt l k 𝟘 _ m

    known : (u j : ℕ) → u < k → j < k → dot d (cells rows u) (λ l. cells far l j) ≡ sum (d - k) (λ l. pow (X u) (k + l) ⊗ solve_t k X C j l)
    known u j h m =
        let v : Vec = λ l. cells rows u l ⊗ cells far l j in
        ap (λ (n : ℕ). sum n v) (omega arith) ∙ sum-split k (d - k) v
        ∙ none-add _ (sum-zero k (λ l n. mul-none _ (far_none j l m n)))
        ∙ sum_same (d - k)
        (λ l n. ap₂ ◌⊗◌ (hrows u h (k + l) (omega arith) ∙ ap (λ (x : F). pow x (k + l)) (hx u h)) (far-t j l m n))

    near-s : (i j : ℕ) → i < k → j < k → cells near j i ≡ solve_s k d X C i j
    unfolding solve_s
    near-s i j h m =
        hnear j m i h ∙ pick-ge j 0 𝟘 _ (omega arith)
        ∙ solved k xs f σ hx (λ t n. hleft j m t n ∙ ap₂ ◌⊕◌ (share-at t j n (omega arith)) (known t j n m)) i h

    joined-low : (i j : ℕ) → j < k → joined k d X C i j ≡ solve_s k d X C i j
    unfolding joined
    joined-low i j h = simp (lt-ltb j k h)

    joined-high : (i j : ℕ) → k ≤ j → joined k d X C i j ≡ solve_t k X C i (j - k)
    unfolding joined
    joined-high i j h = simp (le-ltb j k h)

    pub joins : Holds k d r (joined k d X C)
    joins i h j m =
        hr i (omega arith) j (omega arith)
        ∙ ⊎_elim
        (λ n. ap (λ (x : List ℕ). at x i) (ap (λ (e : ℕ). get_or g e []) (sym (zero-add j)) ∙ hg.placed j n ∙ ap (λ (e : ℕ). get_or near e []) (zero-add j))
        ∙ near-s i j h n ∙ sym (joined-low i j n))
        (λ n. ap (λ (x : List ℕ). at x i) (hg.after j (omega arith)) ∙ ap (λ (e : ℕ). cells far e i) (omega arith) ∙ far-t i (j - k) h (omega arith)
        ∙ sym (joined-high i j n)) (low_or_high j k)

-- ---- kind 2

module _ (w : ℕ) (xs : List ℕ) (c rows r h f near far g : List (List ℕ)) (X : Vec) (C : Grid) (hw : w ≤ 15)
    (hx : Same (w + 1) (at xs) X) (hc : Holds (w + 1) w c C) (σ : Solver w xs f)
    (hrows : Holds (w + 1) (w + 1) rows (λ u. pow (at xs u)))
    (hr : Holds (w + 1) (w + 1) r (λ u s. pick u 0 𝟘 (dot w (cells c u) (cells rows s))))
    (hh : Halves w (at xs) (factors w rows) (cells r) w h)
  where
    skip-in : (u t : ℕ) → t < w → skip u t < w + 1
    skip-in u t m = rw add-one (skip-lt u t w m)

    crossed : (u s : ℕ) → u < w + 1 → s < w + 1 → cells r u s ≡ cross w (λ t. pow (X t)) C u s
    unfolding cross
    crossed u s m n =
        hr u m s n ∙ pick-ge u 0 𝟘 _ (omega arith)
        ∙ dot-same w (λ i o. hc u m i o) (λ i o. hrows s n i (omega arith) ∙ ap (λ (x : F). pow x i) (hx s n))

    factor-at : (u : ℕ) → u < w + 1 → factors w rows u ≡ pow (X u) w
    factor-at u m = hrows u m w (omega arith) ∙ ap (λ (x : F). pow x w) (hx u m)

    q-at : (u s : ℕ) → u < w + 1 → s < w + 1 → second (factors w rows) (cells r) u s ≡ parted_q w X C u s
    unfolding second parted_q
    q-at u s m n =
        ap₂ (λ (a b : F). a ⊗ inv b) (ap₂ ◌⊕◌ (crossed u s m n) (crossed s u n m)) (ap₂ ◌⊕◌ (factor-at u m) (factor-at s n))

    p-at : (u s : ℕ) → u < w + 1 → s < w + 1 → first (factors w rows) (cells r) u s ≡ parted_p w X C u s
    unfolding first parted_p parted_q
    p-at u s m n = ap₂ ◌⊕◌ (crossed u s m n) (ap₂ ◌⊗◌ (factor-at u m) (q-at u s m n))

    -- the system without one point, at the points and values that are meant
    without_at : (u : ℕ) {y z : Vec} → ((s : ℕ) → s < w + 1 → y s ≡ z s) → (j : ℕ) → without w (at xs) u y j ≡ without w X u z j
    without_at u {y} {z} e j =
        interp-points w (λ t. y (skip u t)) (λ t m. hx (skip u t) (skip-in u t m)) j
        ∙ interp-same w (λ t. X (skip u t)) (λ t m. e (skip u t) (skip-in u t m)) j

    -- a row of the weights times the columns of what the rows of P solve for
    hollow-at : (P : Grid) (s : List (List ℕ)) → ((j t : ℕ) → j < w → t < w → cells s j t ≡ without w X t (P t) j) → (i j : ℕ) → i < w → j < w
        → pick i 0 𝟘 (dot w (cells f i) (cells s j)) ≡ hollow w (without w X) P i j
    unfolding hollow
    hollow-at P s e i j m n =
        pick-ge i 0 𝟘 _ (omega arith) ∙ dot-comm w (cells f i) (cells s j)
        ∙ solved w xs f σ (λ t o. hx t (omega arith) ∙ ap X (sym (skip-before w t o)))
        (λ t o. e j t n o ∙ ap (λ (x : ℕ). without w X x (P x) j) (sym (skip-before w t o))) i m

    upper-at : (t j : ℕ) → t < w → j < w → cells h t j ≡ without w X t (parted_p w X C t) j
    upper-at t j m n = hh.upper t m j n ∙ without_at t (λ s o. p-at t s (omega arith) o) j

    lower-at : (t j : ℕ) → t < w → j < w → cells h (w + t) j ≡ without w X t (parted_q w X C t) j
    lower-at t j m n = hh.lower t m j n ∙ without_at t (λ s o. q-at t s (omega arith) o) j

    stacked-low : (i j : ℕ) → i < w → stacked w X C i j ≡ solve_s1 w X C i j
    unfolding stacked
    stacked-low i j m = simp (lt-ltb i w m)

    stacked-high : (i j : ℕ) → w ≤ i → stacked w X C i j ≡ solve_s2 w X C (i - w) j
    unfolding stacked
    stacked-high i j m = simp (le-ltb i w m)

    module _ (first₀ below second₀ : List (List ℕ)) (zero₀ : List (List ℕ)) (h1 : Holds w w first₀ (flip (cells h)))
        (hnear : Holds w w near (λ i j. pick i 0 𝟘 (dot w (cells f i) (cells first₀ j))))
        (hb : Copied zero₀ 0 h w w below) (h2 : Holds w w second₀ (flip (cells below)))
        (hfar : Holds w w far (λ i j. pick i 0 𝟘 (dot w (cells f i) (cells second₀ j))))
        (hg : Copied near w far 0 w g)
      where
        near-s1 : (i j : ℕ) → i < w → j < w → cells near i j ≡ solve_s1 w X C i j
        unfolding solve_s1
        near-s1 i j m n =
            hnear i m j n
            ∙ hollow-at (parted_p w X C) first₀ (λ e t o q. h1 e (omega arith) t (omega arith) ∙ upper-at t e q o) i j m n

        far-s2 : (i j : ℕ) → i < w → j < w → cells far i j ≡ solve_s2 w X C i j
        unfolding solve_s2
        far-s2 i j m n =
            hfar i m j n
            ∙ hollow-at (parted_q w X C) second₀
            (λ e t o q. h2 e (omega arith) t (omega arith) ∙ ap (λ (x : List ℕ). at x e) (ap (λ (z : ℕ). get_or below z []) (sym (zero-add t)) ∙ hb.placed t q) ∙ lower-at t e q o) i j m n

        pub stacks : Holds (w + w) w g (stacked w X C)
        stacks i m j n =
            ⊎_elim (λ o. ap (λ (x : List ℕ). at x j) (hg.before i o) ∙ near-s1 i j o n ∙ sym (stacked-low i j o))
            (λ o. ap (λ (z : ℕ). cells g z j) (omega arith) ∙ ap (λ (x : List ℕ). at x j) (hg.placed (i - w) (omega arith) ∙ ap (λ (z : ℕ). get_or far z []) (zero-add (i - w)))
            ∙ far-s2 (i - w) j (omega arith) n ∙ sym (stacked-high i j o)) (low_or_high i w)

-- ---- codes

module _ (c : Code) (r : Rules c) (X : Vec) (C : Grid) (g : List (List ℕ)) where
  pub gathered-one : c.kind ≡ 1 → Holds c.k c.d g (joined c.k c.d X C) → Holds (deep c) (alpha c) g (gathered c X C)
  unfolding gathered joined deep alpha
  gathered-one e h i m j n =
      let t = eq-eqb c.kind 1 e in h i (simp t at m) j (simp t at n) ∙ simp t

  pub gathered-two : c.kind ≡ 2 → Holds (c.k - 1 + (c.k - 1)) (c.k - 1) g (stacked (c.k - 1) X C) → Holds (deep c) (alpha c) g (gathered c X C)
  unfolding gathered stacked deep alpha
  gathered-two e h i m j n =
      let t = ne_eqb c.kind 1 (λ f. omega arith) in
      let l : i < c.d = simp t at m in
      h i (omega (arith, r.second e)) j (simp t at n) ∙ simp t

module _ (c : Code) (r : Rules c) (b : ℕ) (h : b < bytes c) where
  pub cell_in : (lane c b * alpha c + row_of c b < deep c) × (col_of c b < alpha c)
  unfolding deep alpha
  cell_in =
      ⊎_elim
      (λ e. let t = eq-eqb c.kind 1 e in
      let u = cell-in-one c r b h e in
      let z : lane c b * c.d ≡ 0 = ap (λ (n : ℕ). n * c.d) u.0 ∙ zero-mul c.d in
      (simp t (omega arith), simp t (omega arith)))
      (λ e. let t = ne_eqb c.kind 1 (λ f. omega arith) in
      let u = cell-in-two c r b h e in (simp t u.0, simp t u.1)) r.kinds

pub deep-high : (c : Code) → Rules c → deep c ≤ 31
unfolding deep
deep-high c r =
    ⊎_elim (λ e. let t = eq-eqb c.kind 1 e in simp t (omega (arith, r.order, d-high c r)))
    (λ e. let t = ne_eqb c.kind 1 (λ f. omega arith) in simp t (d-high c r)) r.kinds

pub record CellAt (c : Code) (b a l x y : ℕ) : Type 0 where
  pub row : l * a + x ≡ lane c b * alpha c + row_of c b
  pub col : y ≡ col_of c b
  pub low : l * a + x < 31
  pub left : y < 31

pub cell_at : {c : Code} {b a l x y : ℕ} → Rules c → a ≡ alpha c → (l ≡ lane c b) × (x ≡ row_of c b) × (y ≡ col_of c b) → b < bytes c → CellAt c b a l x y
cell_at {c} {b} r e f h =
    let u = cell_in c r b h in
    let z = ap₂ ◌*◌ f.0 e in
    record { row = omega (arith, z, f.1); col = f.2; low = omega (arith, z, f.1, u.0, deep-high c r); left = omega (arith, f.2, u.1, alpha-high c r) }

pub collects : (c : Code) (r : Rules c) (vs s xs : List ℕ) (h g : List (List ℕ)) → xs ≡ table 31 (points_in c.points vs)
    → Holds c.k (alpha c) h (λ u j. at s (u * alpha c + j)) → From c.k (alpha c) xs h (λ X C. Holds (deep c) (alpha c) g (gathered c X C))
    → table (bytes c) (λ b. cells g (lane c b * alpha c + row_of c b) (col_of c b)) ≡ collected c vs s
unfolding collected point
collects c r vs s xs h g e m q =
    table_same (bytes c)
    (λ b n. let u = cell_in c r b n in
    q (points_of c vs) (shares_in c s) (λ t o. ap (λ (l : List ℕ). at l t) e ∙ at_table 31 (points_in c.points vs) t (omega (arith, r.order, r.under, r.most))) m _ u.0 _ u.1)
