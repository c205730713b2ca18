-- Lists of rows of bytes, as grids.
use mathlib.Core.Path.{◌≡◌, ◌∙◌, refl, sym, ap, subst}
use mathlib.Core.Logic.{◌≢◌, by_cases}
use mathlib.Core.List.{List, []}
use Prim.Native.Nat.{ℕ, zero, suc, ◌<◌}
use native.Mathlib.Nat.{not-suc-le-zero, le_of_suc-le-suc}
use native.Mathlib.Decide.{ℕ_discrete}
use native.Mathlib.Omega.{arith}
use lib.ListN.{length, get_or, set, replicate, length-set, length-replicate, get_or-replicate}
use lib.Seq.{ext_get_or, get_or-set_same, get_or-set_other}
use Rattle.algebra.specs.Symbol.{F, 𝟘}
use Rattle.algebra.specs.Sums.{Grid, Same, SameGrid}
use Rattle.algebra.specs.Bytes.{table}
use Rattle.algebra.proofs.Bytes.{table_at, table-ext, table_same}
use Rattle.solver.specs.Rows.{rows_of, entry}

pub rows-length : (m n : ℕ) (M : Grid) → length (rows_of m n M) ≡ m
unfolding rows_of
rows-length zero n M = refl
rows-length (suc m) n M = ap suc (rows-length m n (λ t. M (suc t)))

pub rows_row : (m n : ℕ) (M : Grid) (t : ℕ) → t < m → get_or (rows_of m n M) t [] ≡ table n (M t)
unfolding rows_of
rows_row zero n M t h = absurd (not-suc-le-zero h)
rows_row (suc m) n M zero h = refl
rows_row (suc m) n M (suc t) h = rows_row m n (λ u. M (suc u)) t (le_of_suc-le-suc h)

pub rows_at : (m n : ℕ) (M : Grid) (t i : ℕ) → t < m → i < n → entry (rows_of m n M) t i ≡ (M t i).val
rows_at m n M t i h k = ap (λ (l : List ℕ). get_or l i 0) (rows_row m n M t h) ∙ table_at n (M t) i k

pub rows-byte : (m n : ℕ) (M : Grid) (t i : ℕ) → t < m → i < n → entry (rows_of m n M) t i < 256
rows-byte m n M t i h k = subst (λ (a : ℕ). a < 256) (sym (rows_at m n M t i h k)) (M t i).small

-- a list of rows is the grid that it agrees with at each row
pub rows_ext : (m n : ℕ) (M : Grid) (g : List (List ℕ)) → length g ≡ m → ((t : ℕ) → t < m → get_or g t [] ≡ table n (M t)) → g ≡ rows_of m n M
rows_ext m n M g e h =
    ext_get_or [] g (rows_of m n M) (e ∙ sym (rows-length m n M)) (λ t k. h t (omega arith) ∙ sym (rows_row m n M t (omega arith)))

pub rows_same : (m n : ℕ) {M N : Grid} → SameGrid m n M N → rows_of m n M ≡ rows_of m n N
rows_same m n {M} {N} e =
    rows_ext m n N (rows_of m n M) (rows-length m n M) (λ t h. rows_row m n M t h ∙ table_same n (λ i k. e t i h k))

pub rows-zero : (m n : ℕ) {M : Grid} → SameGrid m n M (λ t i. 𝟘) → replicate m (replicate n 0) ≡ rows_of m n M
unfolding 𝟘
rows-zero m n {M} e =
    rows_ext m n M (replicate m (replicate n 0)) (length-replicate m (replicate n 0))
    (λ t h. get_or-replicate m t (replicate n 0) [] h
    ∙ table-ext n (M t) (replicate n 0) (length-replicate n 0) (λ i k. get_or-replicate n i 0 0 k ∙ sym (ap (λ (a : F). a.val) (e t i h k))))

-- row u is stored
pub rows-store : (m n : ℕ) (M N : Grid) (u : ℕ) → u < m → ((t : ℕ) → t ≢ u → Same n (M t) (N t))
    → set (rows_of m n M) u (table n (N u)) ≡ rows_of m n N
rows-store m n M N u h e =
    rows_ext m n N new (length-set (rows_of m n M) u (table n (N u)) ∙ rows-length m n M)
    (λ t k. by_cases (ℕ_discrete t u) (λ c. subst (λ (p : ℕ). get_or new p [] ≡ table n (N p)) (sym c) here) (other t k))
  where
    new : List (List ℕ)
    new = set (rows_of m n M) u (table n (N u))

    here : get_or new u [] ≡ table n (N u)
    here = get_or-set_same (rows_of m n M) u (table n (N u)) [] (omega (arith, rows-length m n M))

    other : (t : ℕ) → t < m → t ≢ u → get_or new t [] ≡ table n (N t)
    other t k c = get_or-set_other (rows_of m n M) u t (table n (N u)) [] c ∙ rows_row m n M t k ∙ table_same n (e t c)
