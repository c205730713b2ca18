-- The tests of a rebuild's inputs, where the output's room is known and the output is not yet at hand.
--   Long, Known, Twice    the tests of refusals 5, 6 and 7
--   Tested t              t is what the tests tell for every output with that room
-- Assumes nothing.
use mathlib.Core.Path.{◌≡◌, ◌∙◌, sym, ap}
use mathlib.Core.Bool.{Bool, true, false, ◌&&◌, ◌||◌}
use mathlib.Core.List.{List}
use Prim.Native.Nat.{ℕ, ◌<◌}
use borrow.Author.Tests.{eqb-true}
use lib.Dec.{eqb}
use lib.ListN.{length, get_or}
use Rattle.field.specs.Tables.{tables}
use Rattle.codes.specs.Told.{Told, refused, done, answered}
use Rattle.codes.specs.Judge.{judged, pair_in}
use Rattle.codes.specs.Sizes.{alpha}
use Rattle.codes.specs.Rules.{Rules}
use Rattle.codes.specs.Rebuild.{rebuilt}
use Rattle.codes.specs.declared.Code.{Code}
use Rattle.codes.specs.declared.Refusal.{Refusal}
use Rattle.codes.specs.declared.Refusal.TheVariants.{Length, Node, Repeat, Mixed}
use Rattle.codes.proofs.Bools.{and_left, and_right}
use Rattle.codes.proofs.Sizes.{d-high, alpha-high}
use Rattle.stripes.specs.Lists.{every, has, repeats, differ, within}
use Rattle.rebuilds.specs.Plan.{plan_of, applied}
use Rattle.rebuilds.specs.Rebuild.{rebuild_reasons, rebuild_told, rebuild_leaves}
use Rattle.rebuilds.proofs.Answers.{ladder, by-judge, by_length, by-node, by-repeat, by-mixed, by-none, ladder-numbered, ladder-good, refused-told, refused-leaves, done-told, done-leaves}
use Rattle.rebuilds.proofs.Weighing.{plan-rebuilds}

abbrev pub Long : Code → List ℕ → List ℕ → List ℕ → ℕ → Bool
Long c hs ys ns room = eqb (length hs) c.d && eqb (length ys) c.d && eqb (length ns) c.d && eqb room (alpha c)

abbrev pub Known : Code → ℕ → List ℕ → Bool
Known c f hs = within c f && every (within c) hs

abbrev pub Twice : ℕ → List ℕ → Bool
Twice f hs = has f hs || repeats hs

module _ (c : Code) (f : ℕ) (hs ys ns : List ℕ) (room : ℕ) where
  abbrev pub Tested : Told → Type 0
  Tested t = (o : List ℕ) → length o ≡ room → t ≡ answered (rebuild_reasons c f hs ys ns o) (pair_in c) 0

  tested : {t : Told} → t ≡ answered (ladder c (Long c hs ys ns room) (Known c f hs) (Twice f hs) (differ ns)) (pair_in c) 0 → Tested t
  unfolding rebuild_reasons
  tested e o l =
      e ∙ ap (λ (n : ℕ). answered (ladder c (Long c hs ys ns n) (Known c f hs) (Twice f hs) (differ ns)) (pair_in c) 0) (sym l)

  pub stops-judge : (r : Refusal) → refused r ≡ judged c → Tested (refused r)
  stops-judge r e = tested (by-judge c (Long c hs ys ns room) (Known c f hs) (Twice f hs) (differ ns) r e)

  module _ (good : done 0 ≡ judged c) where
    pub stops-length : Long c hs ys ns room ≡ false → Tested (refused Length)
    stops-length e = tested (by_length c (Long c hs ys ns room) (Known c f hs) (Twice f hs) (differ ns) good e)

    module _ (l : Long c hs ys ns room ≡ true) where
      pub stops-node : Known c f hs ≡ false → Tested (refused Node)
      stops-node e = tested (by-node c (Long c hs ys ns room) (Known c f hs) (Twice f hs) (differ ns) good l e)

      module _ (k : Known c f hs ≡ true) where
        pub stops-repeat : Twice f hs ≡ true → Tested (refused Repeat)
        stops-repeat e = tested (by-repeat c (Long c hs ys ns room) (Known c f hs) (Twice f hs) (differ ns) good l k e)

        module _ (t : Twice f hs ≡ false) where
          pub stops-mixed : differ ns ≡ true → Tested (refused Mixed)
          stops-mixed e = tested (by-mixed c (Long c hs ys ns room) (Known c f hs) (Twice f hs) (differ ns) good l k t e)

          pub passes : differ ns ≡ false → Tested (done 0)
          passes e = tested (by-none c (Long c hs ys ns room) (Known c f hs) (Twice f hs) (differ ns) good l k t e)

-- ---- from the tests to the rebuild

module _ (c : Code) (f : ℕ) (hs ys ns o : List ℕ) where
  module _ (r : Refusal) (e : refused r ≡ answered (rebuild_reasons c f hs ys ns o) (pair_in c) 0) where
    pub refused-is : refused r ≡ rebuild_told c f hs ys ns o
    unfolding rebuild_told
    refused-is = refused-told (rebuild_reasons c f hs ys ns o) (pair_in c) r e (get_or ns 0 0)

    pub refused-stays : o ≡ rebuild_leaves c f hs ys ns o
    unfolding rebuild_leaves
    refused-stays = refused-leaves (rebuild_reasons c f hs ys ns o) (pair_in c) r e (rebuilt c f hs ys) o

  pub record Passed : Type 0 where
    pub rules : Rules c
    pub nodes : length hs ≡ c.d
    pub symbols : length ys ≡ c.d
    pub counts : length ns ≡ c.d
    pub room : length o ≡ alpha c

  module _ (e : done 0 ≡ answered (rebuild_reasons c f hs ys ns o) (pair_in c) 0) where
    pub passed : Passed
    unfolding rebuild_reasons
    passed =
        let g = ladder-good c (Long c hs ys ns (length o)) (Known c f hs) (Twice f hs) (differ ns) e in
        let t1 = eqb (length hs) c.d in
        let t2 = t1 && eqb (length ys) c.d in
        let t3 = t2 && eqb (length ns) c.d in
        let e3 : t3 ≡ true = and_left t3 (eqb (length o) (alpha c)) g.1 in
        let e2 : t2 ≡ true = and_left t2 (eqb (length ns) c.d) e3 in
        record {
          rules = g.0;
          nodes = eqb-true (length hs) c.d (and_left t1 (eqb (length ys) c.d) e2);
          symbols = eqb-true (length ys) c.d (and_right t1 (eqb (length ys) c.d) e2);
          counts = eqb-true (length ns) c.d (and_right t2 (eqb (length ns) c.d) e3);
          room = eqb-true (length o) (alpha c) (and_right t3 (eqb (length o) (alpha c)) g.1);
        }

    pub done-is : done (get_or ns 0 0) ≡ rebuild_told c f hs ys ns o
    unfolding rebuild_told rebuild_reasons
    done-is =
        done-told (rebuild_reasons c f hs ys ns o) (pair_in c) e (get_or ns 0 0)
        (ladder-numbered c (Long c hs ys ns (length o)) (Known c f hs) (Twice f hs) (differ ns))

    pub done-writes : ((t : ℕ) → t < c.d → get_or ys t 0 < 256) → applied (plan_of c f hs) tables ys o ≡ rebuild_leaves c f hs ys ns o
    unfolding rebuild_leaves
    done-writes b =
        plan-rebuilds c f hs ys o (d-high c passed.rules) (alpha-high c passed.rules) passed.symbols passed.room b
        ∙ done-leaves (rebuild_reasons c f hs ys ns o) (pair_in c) e (rebuilt c f hs ys) o
