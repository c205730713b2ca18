-- The faults of one batch, judged in order: each law is one answer of the judge.
-- Assumes nothing.
use mathlib.Core.Path.{◌≡◌, ◌∙◌, sym}
use mathlib.Core.Bool.{Bool, true, false, ◌&&◌}
use mathlib.Core.List.{List}
use Prim.Native.Nat.{ℕ}
use lib.Dec.{eqb}
use Rattle.codes.specs.Told.{refused, done, answered}
use Rattle.codes.specs.Judge.{pair_in}
use Rattle.codes.specs.declared.Code.{Code}
use Rattle.codes.specs.declared.Refusal.TheVariants.{Record, Node, Repeat, Mixed, Place}
use Rattle.codes.proofs.Bools.{both}
use Rattle.stripes.specs.Lists.{within}
use Rattle.shares.specs.File.{below}
use Rattle.batches.specs.Batch.{help_kind, noded, repeated, faults}
use Rattle.batches.specs.Tests.{alike}
use Rattle.batches.proofs.Bools.{and-stops, and-goes-on}
use Rattle.batches.proofs.Alike as mix
use Rattle.batches.proofs.Ladder.{by_kind, by-node, by-repeat, by-mixed, by_place, by-none}

module _ (c : Code) (a : ℕ) (b : List ℕ) (other placed : Bool) where
  abbrev Kinds : Bool
  Kinds = below c.d (λ r. eqb (help_kind b r) 0x48)

  abbrev Noded : Bool
  Noded = below c.d (noded c b)

  abbrev Nodes : Bool
  Nodes = within c a && Noded

  abbrev Twice : Bool
  Twice = repeated a c.d b

  abbrev Alike : Bool
  Alike = below c.d (alike a b)

  abbrev Mixed8 : Bool
  Mixed8 = mix.Mixed c.d a b other

  pub at-kind : Kinds ≡ false → refused Record ≡ answered (faults c a b other placed) (pair_in c) 0
  unfolding faults
  at-kind e = by_kind (pair_in c) Kinds Nodes Twice Mixed8 placed e

  module _ (k : Kinds ≡ true) where
    pub at-asked : within c a ≡ false → refused Node ≡ answered (faults c a b other placed) (pair_in c) 0
    unfolding faults
    at-asked e = by-node (pair_in c) Kinds Nodes Twice Mixed8 placed k (sym (and-stops (within c a) Noded e))

    module _ (w : within c a ≡ true) where
      pub at-node : Noded ≡ false → refused Node ≡ answered (faults c a b other placed) (pair_in c) 0
      unfolding faults
      at-node e = by-node (pair_in c) Kinds Nodes Twice Mixed8 placed k (sym (and-goes-on (within c a) Noded w) ∙ e)

      module _ (n : Noded ≡ true) where
        nodes : Nodes ≡ true
        nodes = both (within c a) Noded w n

        pub at-repeat : Twice ≡ true → refused Repeat ≡ answered (faults c a b other placed) (pair_in c) 0
        unfolding faults
        at-repeat e = by-repeat (pair_in c) Kinds Nodes Twice Mixed8 placed k nodes e

        module _ (t : Twice ≡ false) where
          pub at-alike : Alike ≡ false → refused Mixed ≡ answered (faults c a b other placed) (pair_in c) 0
          unfolding faults
          at-alike e = by-mixed (pair_in c) Kinds Nodes Twice Mixed8 placed k nodes t (mix.not_alike c.d a b other e)

          module _ (m : Alike ≡ true) where
            pub at_other : other ≡ true → refused Mixed ≡ answered (faults c a b other placed) (pair_in c) 0
            unfolding faults
            at_other e = by-mixed (pair_in c) Kinds Nodes Twice Mixed8 placed k nodes t (mix.all_alike c.d a b other m ∙ e)

            module _ (o : other ≡ false) where
              same : Mixed8 ≡ false
              same = mix.all_alike c.d a b other m ∙ o

              pub at_place : placed ≡ false → refused Place ≡ answered (faults c a b other placed) (pair_in c) 0
              unfolding faults
              at_place e = by_place (pair_in c) Kinds Nodes Twice Mixed8 placed k nodes t same e

              pub at_none : placed ≡ true → done 0 ≡ answered (faults c a b other placed) (pair_in c) 0
              unfolding faults
              at_none e = by-none (pair_in c) Kinds Nodes Twice Mixed8 placed k nodes t same e
