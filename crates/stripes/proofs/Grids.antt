-- A grid as a list of rows: what a store of one element does to it, for elements of any type.
--   set2 g i j v          the grid g with v in row i and column j, as the code's store leaves it
--   row-.., get2-..       a row and an element after a store: the one stored to, and another
--   Shape m n g           g has m rows of n elements;   shape-..  of a store, of a filled array
--   Upto P d n i g        P holds of each element of the first i rows, of n columns;   Along P d i j g    of the first j elements of row i
--   upto-store, along-store      one turn of a loop that fills row i
-- Assumes nothing.
use mathlib.Core.Path.{◌≡◌, ◌∙◌, sym, ap, subst}
use mathlib.Core.List.{List, []}
use Prim.Native.Nat.{ℕ, ◌+◌, ◌<◌}
use native.Mathlib.Decide.{ℕ_discrete}
use native.Mathlib.Omega.{arith}
use borrow.Author.Count.{below_more}
use lib.ListN.{length, get_or, set, replicate, length-set, length-replicate, get_or-replicate}
use lib.Seq.{get_or-set_same, get_or-set_other}

module _ {A : Type 0} where
  abbrev pub set2 : List (List A) → ℕ → ℕ → A → List (List A)
  set2 g i j v = set g i (set (get_or g i []) j v)

  pub get2-same : (g : List (List A)) (i j : ℕ) (v d : A) → i < length g → j < length (get_or g i []) → get_or (get_or (set2 g i j v) i []) j d ≡ v
  get2-same g i j v d hi hj = rw (get_or-set_same g i (set (get_or g i []) j v) [] hi) (get_or-set_same (get_or g i []) j v d hj)

  pub row_same : (g : List (List A)) (i j : ℕ) (v : A) → i < length g → get_or (set2 g i j v) i [] ≡ set (get_or g i []) j v
  row_same g i j v hi = get_or-set_same g i (set (get_or g i []) j v) [] hi

  pub row_other : (g : List (List A)) (i j : ℕ) (v : A) (p : ℕ) → (p ≡ i → ⊥) → get_or (set2 g i j v) p [] ≡ get_or g p []
  row_other g i j v p ne = get_or-set_other g i p (set (get_or g i []) j v) [] ne

  pub get2-other : (g : List (List A)) (i j : ℕ) (v d : A) (q : ℕ) → i < length g → (q ≡ j → ⊥) → get_or (get_or (set2 g i j v) i []) q d ≡ get_or (get_or g i []) q d
  get2-other g i j v d q hi ne = rw (row_same g i j v hi) (get_or-set_other (get_or g i []) j q v d ne)

  pub record Shape (m n : ℕ) (g : List (List A)) : Type 0 where
    pub rows : length g ≡ m
    pub cols : (p : ℕ) → p < m → length (get_or g p []) ≡ n

  pub shape-set2 : (m n : ℕ) (g : List (List A)) (i j : ℕ) (v : A) → i < m → Shape m n g → Shape m n (set2 g i j v)
  shape-set2 m n g i j v hi s = record {
    rows = length-set g i (set (get_or g i []) j v) ∙ s.rows;
    cols = λ p hp. go p hp (ℕ_discrete p i);
  }
    where
      go : (p : ℕ) → p < m → Dec (p ≡ i) → length (get_or (set2 g i j v) p []) ≡ n
      go p hp (yes e) = subst (λ (k : ℕ). length (get_or (set2 g i j v) k []) ≡ n) (sym e) (ap length (row_same g i j v (omega (arith, s.rows))) ∙ length-set (get_or g i []) j v ∙ s.cols i hi)
      go p hp (no ne) = ap length (row_other g i j v p ne) ∙ s.cols p hp

  pub shape-replicate : (m n : ℕ) (v : A) → Shape m n (replicate m (replicate n v))
  shape-replicate m n v = record {
    rows = length-replicate m (replicate n v);
    cols = λ p hp. ap length (get_or-replicate m p (replicate n v) [] hp) ∙ length-replicate n v;
  }

  module _ (P : ℕ → ℕ → A → Type 0) (d : A) where
    abbrev pub Upto : ℕ → ℕ → List (List A) → Type 0
    Upto n i g = (p : ℕ) → p < i → (q : ℕ) → q < n → P p q (get_or (get_or g p []) q d)

    abbrev pub Along : ℕ → ℕ → List (List A) → Type 0
    Along i j g = (q : ℕ) → q < j → P i q (get_or (get_or g i []) q d)

    pub upto-store : (n : ℕ) (g : List (List A)) (i j : ℕ) (v : A) → Upto n i g → Upto n i (set2 g i j v)
    upto-store n g i j v h p hp q hq = subst (λ (r : List A). P p q (get_or r q d)) (sym (row_other g i j v p (λ e. omega arith))) (h p hp q hq)

    pub along-store : (g : List (List A)) (i j : ℕ) (v : A) → i < length g → j < length (get_or g i []) → Along i j g → P i j v → Along i (j + 1) (set2 g i j v)
    along-store g i j v hi hj h here =
        below_more (λ q. P i q (get_or (get_or (set2 g i j v) i []) q d)) j
        (λ q hq. subst (λ (x : A). P i q x) (sym (get2-other g i j v d q hi (λ e. omega arith))) (h q hq))
        (subst (λ (x : A). P i j x) (sym (get2-same g i j v d hi hj)) here)
