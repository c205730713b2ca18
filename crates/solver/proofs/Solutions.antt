-- What a caller gets from `basis`: its shape, its entries, and the solution for any values as a sum of its rows.
use mathlib.Core.Path.{◌≡◌, ◌∙◌, refl, sym, ap}
use mathlib.Core.Logic.{by_cases}
use mathlib.Core.List.{List, []}
use Prim.Native.Nat.{ℕ, ◌+◌, ◌<◌, ◌≤◌}
use native.Mathlib.Decide.{dec_lt}
use native.Mathlib.Omega.{arith}
use lib.ListN.{length, get_or, set, replicate, take}
use Rattle.std.proofs.lemmas.List.{length-take-le, get_or-take}
use Rattle.algebra.specs.Symbol.{F, symbol, 𝟘, pow}
use Rattle.algebra.specs.Sums.{Vec, Same, dot, unit}
use Rattle.algebra.specs.Poly.{interp, Distinct}
use Rattle.algebra.specs.Bytes.{at}
use Rattle.algebra.proofs.Ring.{symbol-val, val-symbol}
use Rattle.algebra.proofs.Sums.{pick-lt, pick-ge, dot-same}
use Rattle.algebra.proofs.Frame.{frame-powers}
use Rattle.algebra.proofs.Bytes.{table-length, table-ext}
use Rattle.solver.specs.Rows.{rows_of, entry}
use Rattle.solver.specs.Basis.{basis_at, basis_of}
use Rattle.solver.proofs.Rows.{rows-length, rows_row, rows_at, rows-byte, rows_same, rows-zero, rows-store}
use Rattle.solver.proofs.Linear.{interp-units}
use Rattle.solver.proofs.Points.{interp-points}

module _ (xs : List ℕ) (s : ℕ) where
  -- ---- the grid row by row, as the loop makes it

  at_done : (u t i : ℕ) → t < u → basis_at xs s u t i ≡ interp s (at xs) (unit t) i
  unfolding basis_at
  at_done u t i h = pick-lt t u _ _ h

  at_left : (u t i : ℕ) → u ≤ t → basis_at xs s u t i ≡ 𝟘
  unfolding basis_at
  at_left u t i h = pick-ge t u _ _ h

  pub basis-none : replicate 31 (replicate 31 0) ≡ rows_of 31 31 (basis_at xs s 0)
  basis-none = rows-zero 31 31 (λ t i h k. at_left 0 t i (omega arith))

  -- the points that a row is made of are the first s of xs
  at_first : s ≤ length xs → (u i : ℕ) → interp (length (take s xs)) (at (take s xs)) (unit u) i ≡ interp s (at xs) (unit u) i
  at_first h u i =
      ap (λ (n : ℕ). interp n (at (take s xs)) (unit u) i) (length-take-le s xs h)
      ∙ interp-points s (unit u) (λ t k. ap symbol (get_or-take s xs t 0 k)) i

  pub basis-more : (u : ℕ) (r : List ℕ) → u < 31 → s ≤ 31 → length xs ≡ 31 → length r ≡ 31 → ((i : ℕ) → get_or r i 0 < 256)
      → Same 31 (at r) (interp (length (take s xs)) (at (take s xs)) (unit u))
      → set (rows_of 31 31 (basis_at xs s u)) u r ≡ rows_of 31 31 (basis_at xs s (u + 1))
  basis-more u r h fits long e b m =
      ap (set (rows_of 31 31 (basis_at xs s u)) u) (table-ext 31 (basis_at xs s (u + 1) u) r e (λ i k. sym (val-symbol (b i))
      ∙ ap (λ (a : F). a.val) (m i k ∙ at_first (omega arith) u i ∙ sym (at_done (u + 1) u i (omega arith)))))
      ∙ rows-store 31 31 (basis_at xs s u) (basis_at xs s (u + 1)) u h (λ t n i k. by_cases (dec_lt t u)
      (λ l. at_done u t i l ∙ sym (at_done (u + 1) t i (omega arith)))
      (λ l. at_left u t i (omega arith) ∙ sym (at_left (u + 1) t i (omega arith))))

  pub basis-all : s ≤ 31 → rows_of 31 31 (basis_at xs s s) ≡ basis_of xs s
  unfolding basis_of
  basis-all h = rows_same 31 31 (λ t i k l. sym (pick-lt s 32 _ _ (omega arith)))

  pub basis-refused : 31 < s → replicate 31 (replicate 31 0) ≡ basis_of xs s
  unfolding basis_of
  basis-refused h = rows-zero 31 31 (λ t i k l. pick-ge s 32 _ _ (omega arith))

  -- ---- for callers

  pub basis-rows : length (basis_of xs s) ≡ 31
  unfolding basis_of
  basis-rows = rows-length 31 31 _

  pub basis-long : (t : ℕ) → t < 31 → length (get_or (basis_of xs s) t []) ≡ 31
  unfolding basis_of
  basis-long t h = ap length (rows_row 31 31 _ t h) ∙ table-length 31 _

  pub basis-byte : (t i : ℕ) → t < 31 → i < 31 → entry (basis_of xs s) t i < 256
  unfolding basis_of
  basis-byte = rows-byte 31 31 _

  module _ (fits : s ≤ 31) where
    pub basis-at : (t i : ℕ) → t < s → i < s → entry (basis_of xs s) t i ≡ (interp s (at xs) (unit t) i).val
    basis-at t i h k =
        ap (λ (g : List (List ℕ)). entry g t i) (sym (basis-all fits)) ∙ rows_at 31 31 (basis_at xs s s) t i (omega arith) (omega arith)
        ∙ ap (λ (a : F). a.val) (at_done s t i h)

    -- the sum of the rows, each times its value, is the solution; for any points, and any values
    pub basis-any : (ys : Vec) (i : ℕ) → i < s → dot s ys (λ t. symbol (entry (basis_of xs s) t i)) ≡ interp s (at xs) ys i
    basis-any ys i h =
        dot-same s (λ t k. refl) (λ t k. ap symbol (basis-at t i k h) ∙ symbol-val (interp s (at xs) (unit t) i))
        ∙ interp-units s (at xs) ys i

    -- and at distinct points that solves: its products with the rows of powers are the values
    pub basis-solves : Distinct s (at xs) → (ys : Vec) (t : ℕ) → t < s
        → dot s (pow (at xs t)) (λ i. dot s ys (λ u. symbol (entry (basis_of xs s) u i))) ≡ ys t
    basis-solves d ys t h =
        dot-same s (λ i k. refl) (λ i k. basis-any ys i k) ∙ (frame-powers s (at xs) d).solves ys t h

-- what `basis` rests on before its loop, after it, and where it has none
pub ruleset basis_steps = (basis-none, basis-all, basis-refused)
