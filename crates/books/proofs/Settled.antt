-- What a node's row and the table of products give for an accepted code.
--   share-lent, symbol-lent     the node's share of a message, and what a helper sends for the node
--   record-whole                a share's D record holds all of it
-- Assumes nothing.
use mathlib.Core.Path.{◌≡◌, ◌∙◌, ap, ap₂}
use mathlib.Core.List.{List}
use Prim.Native.Nat.{ℕ}
use native.Mathlib.Omega.{arith}
use lib.ListN.{length, take}
use lib.Seq.{take_all}
use Rattle.field.specs.Tables.{tables}
use Rattle.algebra.specs.Symbol.{F}
use Rattle.codes.specs.Rules.{Rules}
use Rattle.codes.specs.Sizes.{alpha, bytes}
use Rattle.codes.specs.Share.{share, symbol_for}
use Rattle.codes.specs.declared.Code.{Code}
use Rattle.codes.proofs.Rules.{sizes}
use Rattle.codes.proofs.Sizes.{alpha-high, bytes_high}
use Rattle.codes.proofs.Slip.{share-length}
use Rattle.shares.specs.Fields.{stripe_record}
use Rattle.stripes.specs.Lent.{row_bytes, helped_by, encoded_by}
use Rattle.stripes.proofs.Lent.{encoded-row, helped-row}

module _ (c : Code) (R : Rules c) (v : ℕ) where
  pub record-whole : (i : ℕ) (m s : List ℕ) → s ≡ share c v m → stripe_record i (take 31 s) ≡ stripe_record i (share c v m)
  record-whole i m s e =
      ap (stripe_record i) (take_all 31 s (omega (arith, ap length e, share-length c v m, alpha-high c R)) ∙ e)

  module _ (r w : List ℕ) (p : r ≡ row_bytes c v) (q : w ≡ tables) where
    pub share-lent : (m o : List ℕ) → length m ≡ bytes c → length o ≡ alpha c → encoded_by c r w m o ≡ share c v m
    share-lent m o e f =
        ap₂ (λ (a b : List ℕ). encoded_by c a b m o) p q
        ∙ encoded-row c v m o R.kinds (sizes R) (omega (arith, e, bytes_high c R)) f

    pub symbol-lent : (s : List ℕ) → length s ≡ alpha c → (helped_by r w s).val ≡ (symbol_for c v s).val
    symbol-lent s e = ap₂ (λ (a b : List ℕ). (helped_by a b s).val) p q ∙ ap (λ (x : F). x.val) (helped-row c v s e (alpha-high c R))
