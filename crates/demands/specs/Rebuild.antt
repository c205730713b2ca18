-- Demand 2, rebuilding: from the symbols of any d different helpers the share of any node is rebuilt, for every accepted code and every message.
--   rebuild-share     the rebuilt share is the share that the node would have been given
-- Assumes nothing.
use Rattle.std.specs.Prelude.{◌≡◌, refl, List, ℕ, ◌+◌, ◌-◌, ◌<◌, get_or}
use Rattle.std.proofs.Common.{◌∙◌, sym, ap₂, subst, arith}
use Rattle.std.proofs.Math.Path.{ap}
use Rattle.std.proofs.Math.Logic.{by_cases}
use Rattle.std.proofs.Math.Decide.{dec_lt}
use Rattle.algebra.specs.Symbol.{F, ◌⊕◌, ◌⊗◌, 𝟘, pow}
use Rattle.algebra.specs.Sums.{Vec, Same, pick, dot, left}
use Rattle.algebra.specs.Poly.{interp}
use Rattle.algebra.specs.Frame.{Frame, Below}
use Rattle.algebra.specs.Bytes.{at}
use Rattle.algebra.proofs.Ring.{pow-add}
use Rattle.algebra.proofs.Sums.{pick-ge, dot-same}
use Rattle.algebra.proofs.Frame.{sol-same}
use Rattle.algebra.proofs.Shares
use Rattle.algebra.proofs.Bytes.{at_table, table_same}
use Rattle.codes.specs.Sizes.{alpha, point, row, lambda}
use Rattle.codes.specs.Matrix.{matrix}
use Rattle.codes.specs.Share.{share_at, share, symbol_for, symbols_for}
use Rattle.codes.specs.Rules.{Rules, Chosen}
use Rattle.codes.specs.Rebuild.{points_of, solution, rebuilt_at, rebuilt}
use Rattle.codes.specs.declared.Code.{Code}
use Rattle.codes.proofs.Matrix.{layout, rows_all, matrix-shape, matrix-symmetric}
use Rattle.codes.proofs.Slip.{share-symbol}
use Rattle.codes.proofs.Rebuilt.{rebuilt-either}
use Rattle.codes.proofs.Apart.{frame}

module _ {c : Code} (R : Rules c) {hs : List ℕ} (H : Chosen c.n c.d hs) (f : ℕ) (m : List ℕ) where
  abbrev given : Vec
  given t = dot (alpha c) (left (alpha c + (c.d - alpha c)) (pow (points_of c hs t)) (matrix c (at m))) (row c f)

  -- the symbols that the helpers send
  sent : (t : ℕ) → t < c.d → at (symbols_for c f hs m) t ≡ given t
  unfolding symbol_for
  sent t a =
      at_table c.d (λ t. symbol_for c f (share c (get_or hs t 0) m)) t a
      ∙ dot-same (alpha c) (share-symbol c (get_or hs t 0) m) (λ j x. refl)
      ∙ ap (λ (n : ℕ). dot (alpha c) (left n (pow (points_of c hs t)) (matrix c (at m))) (row c f)) (sym (rows_all R))

  solved : Same c.d (solution c hs (at (symbols_for c f hs m))) (interp (alpha c + (c.d - alpha c)) (points_of c hs) given)
  solved i a =
      sol-same (frame R H) (at (symbols_for c f hs m)) given sent i a
      ∙ ap (λ (n : ℕ). interp n (points_of c hs) given i) (sym (rows_all R))

  wide : Frame (alpha c + (c.d - alpha c)) (Below (alpha c + (c.d - alpha c))) (λ t. pow (points_of c hs t)) (interp (alpha c + (c.d - alpha c)) (points_of c hs))
  wide = subst (λ (n : ℕ). Frame n (Below n) (λ t. pow (points_of c hs t)) (interp n (points_of c hs))) (sym (rows_all R)) (frame R H)

  rebuilt-at : Same (alpha c) (rebuilt_at c f (solution c hs (at (symbols_for c f hs m)))) (share_at c f (at m))
  rebuilt-at j a =
      rebuilt-either R f (solution c hs (at (symbols_for c f hs m))) j a
      ∙ ap₂ ◌⊕◌ (solved j (omega (arith, rows_all R))) extra
      ∙ Shares.rebuilt wide (matrix-shape R (at m)) (matrix-symmetric R (at m)) (row c f) (lambda c f) (λ i x. pow-add (point c f) (alpha c) i) (layout R).room j a
      ∙ ap (λ (n : ℕ). left n (row c f) (matrix c (at m)) j) (rows_all R)
    where
      extra : pick j (c.d - alpha c) (lambda c f ⊗ solution c hs (at (symbols_for c f hs m)) (alpha c + j)) 𝟘
          ≡ pick j (c.d - alpha c) (lambda c f ⊗ interp (alpha c + (c.d - alpha c)) (points_of c hs) given (alpha c + j)) 𝟘
      extra =
          by_cases (dec_lt j (c.d - alpha c))
          (λ x. ap (λ (y : F). pick j (c.d - alpha c) (lambda c f ⊗ y) 𝟘) (solved (alpha c + j) (omega (arith, rows_all R))))
          (λ n. pick-ge j (c.d - alpha c) _ 𝟘 (omega arith) ∙ sym (pick-ge j (c.d - alpha c) _ 𝟘 (omega arith)))

-- Demand 2, rebuilding
pub rebuild-share : {c : Code} → Rules c → {hs : List ℕ} → Chosen c.n c.d hs → (f : ℕ) (m : List ℕ)
    → rebuilt c f hs (symbols_for c f hs m) ≡ share c f m
unfolding rebuilt share
rebuild-share {c} R {hs} H f m = table_same (alpha c) (rebuilt-at R H f m)
