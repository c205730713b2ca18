-- The rebuild from a list of triples: what the rebuild on the columns of the helpers lent on tells and leaves is what the promise says of the list.
--   lent-told, lent-leaves    for the proof of `rebuild_from`
-- Assumes nothing.
use mathlib.Core.List.{List, []}
use mathlib.Core.Logic.{◌≢◌}
use mathlib.Core.Bool.{Bool, true, false}
use mathlib.Core.Path.{◌≡◌, refl}
use Prim.Native.Nat.{ℕ, ◌≤◌, ◌<◌}
use native.Mathlib.Omega.{arith}
use borrow.Author.Tests.{lt-ltb, le-ltb, ltb-true, ltb-false}
use lib.Dec.{ltb}
use lib.ListN.{length, take, length-map}
use lib.Seq.{take_all}
use Rattle.codes.specs.Rules.{Rules}
use Rattle.codes.specs.declared.Code.{Code}
use Rattle.rebuilds.specs.Rebuild.{rebuild_told, rebuild_leaves}
use Rattle.triples.specs.Triples.{nodes_of, symbols_of, counts_of}
use Rattle.triples.specs.Lent.{lent_of}
use Rattle.triples.specs.declared.Helper.{Helper}
use Rattle.triples.proofs.Unfit.{unfit-told, unfit-leaves}

lent-all : (n : ℕ) → n ≤ 31 → lent_of n ≡ n
unfolding lent_of
lent-all n h = simp (le-ltb 31 n h)

pub lent_none : (n : ℕ) → 31 < n → lent_of n ≡ 0
unfolding lent_of
lent_none n h = simp (lt-ltb 31 n h)

module _ (c : Code) (f : ℕ) (hs : List Helper) (o : List ℕ) where
  no-helpers : Rules c → 0 ≢ c.d
  no-helpers r e = omega (arith, r.least, r.order, e)

  too_many : 31 < length hs → Rules c → length (nodes_of hs) ≢ c.d
  too_many h r e = omega (arith, h, r.under, r.most, e, length-map hs (λ (x : Helper). x.node.0))

  -- the columns of the first n helpers serve as those of the list, in any F that does not tell empty columns from those of a list that is too long
  module _ (n : ℕ) (lent : n ≡ lent_of (length hs)) (xs ys zs : List ℕ) (nodes : xs ≡ nodes_of (take n hs)) (symbols : ys ≡ symbols_of (take n hs))
      (counts : zs ≡ counts_of (take n hs)) where
    lent_is : {X : Type 0} (F : List ℕ → List ℕ → List ℕ → X) → (31 < length hs → F [] [] [] ≡ F (nodes_of hs) (symbols_of hs) (counts_of hs))
        → F xs ys zs ≡ F (nodes_of hs) (symbols_of hs) (counts_of hs)
    lent_is F more = rw (nodes, symbols, counts, lent) (by-test (ltb 31 (length hs)) refl)
      where
        by-test : (z : Bool) → ltb 31 (length hs) ≡ z
            → F (nodes_of (take (lent_of (length hs)) hs)) (symbols_of (take (lent_of (length hs)) hs)) (counts_of (take (lent_of (length hs)) hs))
            ≡ F (nodes_of hs) (symbols_of hs) (counts_of hs)
        by-test true e = rw (lent_none (length hs) (ltb-true 31 (length hs) e)) (more (ltb-true 31 (length hs) e))
        by-test false e = rw (lent-all (length hs) (ltb-false 31 (length hs) e), take_all (length hs) hs (omega arith)) refl

    pub lent-told : rebuild_told c f xs ys zs o ≡ rebuild_told c f (nodes_of hs) (symbols_of hs) (counts_of hs) o
    lent-told =
        lent_is (λ x y z. rebuild_told c f x y z o)
        (λ h. unfit-told c f o [] [] [] (nodes_of hs) (symbols_of hs) (counts_of hs) no-helpers (too_many h))

    pub lent-leaves : rebuild_leaves c f xs ys zs o ≡ rebuild_leaves c f (nodes_of hs) (symbols_of hs) (counts_of hs) o
    lent-leaves =
        lent_is (λ x y z. rebuild_leaves c f x y z o)
        (λ h. unfit-leaves c f o [] [] [] (nodes_of hs) (symbols_of hs) (counts_of hs) no-helpers (too_many h))
