-- Demand 2, collecting: from the shares of any k different nodes the message is collected, for every accepted code and every message.
--   collect-share      what the shares of a message give is that message
--   collect-one        so no two messages have the same shares at k nodes
--   collect-fits       kind 2: any run of k times alpha bytes is the shares of the message that it gives, so it fits exactly one message
-- Assumes nothing.
use Rattle.std.specs.Prelude.{◌≡◌, refl, List, ℕ, suc, ◌+◌, ◌*◌, ◌-◌, ◌/◌, ◌%◌, ◌<◌, length, get_or}
use Rattle.std.proofs.Common.{◌∙◌, ap, arith, ext_get_or}
use Rattle.std.proofs.Math.Path.{sym}
use Rattle.algebra.specs.Symbol.{F, symbol, pow}
use Rattle.algebra.specs.Sums.{Grid, Same, SameGrid, left}
use Rattle.algebra.specs.Bytes.{at}
use Rattle.algebra.proofs.Ring.{val-symbol}
use Rattle.algebra.proofs.Sums.{dot-same}
use Rattle.algebra.proofs.Bytes.{table-ext, at_table}
use Rattle.algebra.proofs.Collect.{grid-shape, grid-solves, grid-same, grid-back}
use Rattle.algebra.proofs.Shares.{fit}
use Rattle.codes.specs.Sizes.{alpha, bytes}
use Rattle.codes.specs.Matrix.{matrix, lane, row_of, col_of}
use Rattle.codes.specs.Share.{share_at, shares_of}
use Rattle.codes.specs.Rules.{Rules, Chosen}
use Rattle.codes.specs.Rebuild.{points_of}
use Rattle.codes.specs.Collect.{message_of, shares_in, collected}
use Rattle.codes.specs.declared.Code.{Code}
use Rattle.codes.proofs.Sizes.{alpha-two}
use Rattle.codes.proofs.Blocks.{Block, block}
use Rattle.codes.proofs.Matrix.{layout, rows_all, matrix-shape, matrix-read, matrix-back}
use Rattle.codes.proofs.Moved.{place-within}
use Rattle.codes.proofs.Slip.{share-byte, share-symbol}
use Rattle.codes.proofs.Apart.{rows}
use Rattle.codes.proofs.Gathered.{grid_of, message-grid}
use Rattle.codes.proofs.Run.{run_length, run-byte}
use Rattle.demands.specs.Collect.{Message}

module _ {c : Code} (R : Rules c) {vs : List ℕ} (N : Chosen c.n c.k vs) where
  -- ---- the shares of a message give it

  -- the shares in the run
  in-run : (m : List ℕ) → SameGrid c.k (alpha c) (shares_in c (shares_of c vs m))
      (λ t. left (alpha c + (c.d - alpha c)) (pow (points_of c vs t)) (matrix c (at m)))
  in-run m t j a b =
      ap symbol (run-byte c vs m t j (omega (arith, N.long)) b) ∙ share-symbol c (get_or vs t 0) m j b
      ∙ ap (λ (n : ℕ). left n (pow (points_of c vs t)) (matrix c (at m)) j) (sym (rows_all R))

  -- the grid that they fix is the message's matrix
  grid-message : (m : List ℕ) → SameGrid (alpha c + (c.d - alpha c)) (alpha c) (grid_of c (points_of c vs) (shares_in c (shares_of c vs m))) (matrix c (at m))
  grid-message m r j a b =
      grid-same (rows R N) (shares_in c (shares_of c vs m)) _ (in-run m) r j a b ∙ grid-back (rows R N) (matrix c (at m)) (matrix-shape R (at m)) r j a b

  message-back : (m : List ℕ) → Same (bytes c) (message_of c (points_of c vs) (shares_in c (shares_of c vs m))) (at m)
  message-back m b h =
      message-grid R (points_of c vs) (shares_in c (shares_of c vs m)) b h
      ∙ grid-message m (lane c b * alpha c + row_of c b) (col_of c b) (omega (arith, (layout R).order b h, (place-within (layout R) b h).0)) (place-within (layout R) b h).1
      ∙ matrix-read R (at m) b h

  pub collect-share : {m : List ℕ} → Message (bytes c) m → collected c vs (shares_of c vs m) ≡ m
  unfolding collected
  collect-share {m} M =
      sym (table-ext (bytes c) (message_of c (points_of c vs) (shares_in c (shares_of c vs m))) m M.long
      (λ i h. sym (ap (λ (a : F). a.val) (message-back m i h) ∙ val-symbol (M.byte i h))))

  pub collect-one : {m m' : List ℕ} → Message (bytes c) m → Message (bytes c) m' → shares_of c vs m ≡ shares_of c vs m' → m ≡ m'
  collect-one M M' e = sym (collect-share M) ∙ ap (collected c vs) e ∙ collect-share M'

  -- ---- kind 2: every run is the shares of a message

  module _ (two : c.kind ≡ 2) (s : List ℕ) where
    abbrev W : Grid
    W = grid_of c (points_of c vs) (shares_in c s)

    h-one : c.k ≡ suc (c.d - alpha c)
    h-one = omega (arith, alpha-two c (λ o. omega arith), (R.second two).0, (R.second two).1)

    -- the matrix of the message that the run gives is the grid that the run fixes
    matrix-run : SameGrid c.d (alpha c) (matrix c (at (collected c vs s))) W
    unfolding collected
    matrix-run =
        matrix-back R W (grid-shape (rows R N) (shares_in c s)) (fit h-one (grid-shape (rows R N) (shares_in c s))) (at (collected c vs s))
        (λ b h. at_table (bytes c) (message_of c (points_of c vs) (shares_in c s)) b h ∙ message-grid R (points_of c vs) (shares_in c s) b h)

    share-run : (t j : ℕ) → t < c.k → j < alpha c → share_at c (get_or vs t 0) (at (collected c vs s)) j ≡ at s (t * alpha c + j)
    share-run t j a b =
        dot-same c.d (λ r x. refl) (λ r x. matrix-run r j x b)
        ∙ ap (λ (n : ℕ). left n (pow (points_of c vs t)) W j) (sym (rows_all R))
        ∙ grid-solves (rows R N) (shares_in c s) t j a b

    pub collect-fits : Message (c.k * alpha c) s → shares_of c vs (collected c vs s) ≡ s
    collect-fits M =
        ext_get_or 0 (shares_of c vs (collected c vs s)) s (run-all ∙ sym M.long) (λ i x. byte-run i (omega (arith, run-all)))
      where
        run-all : length (shares_of c vs (collected c vs s)) ≡ c.k * alpha c
        run-all = run_length c vs (collected c vs s) ∙ ap (λ (n : ℕ). n * alpha c) N.long

        byte-run : (i : ℕ) → i < c.k * alpha c → get_or (shares_of c vs (collected c vs s)) i 0 ≡ get_or s i 0
        byte-run i x =
            let q : Block c.k (alpha c) i = block c.k (alpha c) i x in
            ap (λ (n : ℕ). get_or (shares_of c vs (collected c vs s)) n 0) (sym q.back)
            ∙ run-byte c vs (collected c vs s) (i / alpha c) (i % alpha c) (omega (arith, N.long)) q.col
            ∙ share-byte c (get_or vs (i / alpha c) 0) (collected c vs s) (i % alpha c) q.col
            ∙ ap (λ (a : F). a.val) (share-run (i / alpha c) (i % alpha c) q.row q.col)
            ∙ ap (λ (n : ℕ). (symbol (get_or s n 0)).val) q.back
            ∙ val-symbol (M.byte i x)
