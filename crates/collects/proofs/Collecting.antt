-- The tests of a collection's inputs, where the output's room is known and the output is not yet at hand, and what they say of its answer.
--   Whole c vs ns s room       the test of refusal 5
--   whole-is                   that test, made of a code that is c
--   Tested t                   t is what the tests tell for every output with that room
--   tested                     what the ladder tells is
--   refused-is, refused-stays, done-is, done-writes     the collection's answer and output, by that of its tests
--   passed                     what is known once all tests have passed
-- Assumes nothing.
use mathlib.Core.Path.{◌≡◌, ◌∙◌, sym, ap}
use mathlib.Core.Bool.{Bool, true, ◌&&◌}
use mathlib.Core.List.{List}
use Prim.Native.Nat.{ℕ, ◌*◌}
use borrow.Author.Tests.{eqb-true}
use lib.Dec.{eqb}
use lib.ListN.{length, get_or}
use Rattle.codes.specs.Told.{Told, refused, done, answered}
use Rattle.codes.specs.Judge.{pair_in}
use Rattle.codes.specs.Sizes.{alpha, bytes}
use Rattle.codes.specs.Rules.{Rules}
use Rattle.codes.specs.Collect.{collected}
use Rattle.codes.specs.declared.Code.{Code}
use Rattle.codes.specs.declared.Refusal.{Refusal}
use Rattle.codes.proofs.Bools.{and_left, and_right}
use Rattle.stripes.specs.Lists.{every, repeats, differ, within}
use Rattle.collects.specs.Collect.{collect_reasons, collect_told, collect_leaves}
use Rattle.rebuilds.proofs.Answers.{ladder, ladder-numbered, ladder-good, refused-told, refused-leaves, done-told, done-leaves}

abbrev pub Whole : Code → List ℕ → List ℕ → List ℕ → ℕ → Bool
Whole c vs ns s room = eqb (length vs) c.k && eqb (length ns) c.k && eqb (length s) (c.k * alpha c) && eqb room (bytes c)

module _ (c : Code) (vs ns s : List ℕ) (room : ℕ) where
  pub whole-is : {a : Code} {r b : Bool} → a ≡ c → r ≡ Whole a vs ns s room → r ≡ b → Whole c vs ns s room ≡ b
  whole-is e f g = ap (λ (k : Code). Whole k vs ns s room) (sym e) ∙ sym f ∙ g

  abbrev pub Tested : Told → Type 0
  Tested t = (o : List ℕ) → length o ≡ room → t ≡ answered (collect_reasons c vs ns s o) (pair_in c) 0

  pub tested : {t : Told} → t ≡ answered (ladder c (Whole c vs ns s room) (every (within c) vs) (repeats vs) (differ ns)) (pair_in c) 0 → Tested t
  unfolding collect_reasons
  tested e o l =
      e ∙ ap (λ (n : ℕ). answered (ladder c (Whole c vs ns s n) (every (within c) vs) (repeats vs) (differ ns)) (pair_in c) 0) (sym l)

module _ (c : Code) (vs ns s o : List ℕ) where
  module _ (r : Refusal) (e : refused r ≡ answered (collect_reasons c vs ns s o) (pair_in c) 0) where
    pub refused-is : refused r ≡ collect_told c vs ns s o
    unfolding collect_told
    refused-is = refused-told (collect_reasons c vs ns s o) (pair_in c) r e (get_or ns 0 0)

    pub refused-stays : o ≡ collect_leaves c vs ns s o
    unfolding collect_leaves
    refused-stays = refused-leaves (collect_reasons c vs ns s o) (pair_in c) r e (collected c vs s) o

  pub record Passed : Type 0 where
    pub rules : Rules c
    pub nodes : length vs ≡ c.k
    pub counts : length ns ≡ c.k
    pub shares : length s ≡ c.k * alpha c
    pub room : length o ≡ bytes c

  module _ (e : done 0 ≡ answered (collect_reasons c vs ns s o) (pair_in c) 0) where
    pub passed : Passed
    unfolding collect_reasons
    passed =
        let g = ladder-good c (Whole c vs ns s (length o)) (every (within c) vs) (repeats vs) (differ ns) e in
        let t1 = eqb (length vs) c.k in
        let t2 = t1 && eqb (length ns) c.k in
        let t3 = t2 && eqb (length s) (c.k * alpha c) in
        let e3 : t3 ≡ true = and_left t3 (eqb (length o) (bytes c)) g.1 in
        let e2 : t2 ≡ true = and_left t2 (eqb (length s) (c.k * alpha c)) e3 in
        record {
          rules = g.0;
          nodes = eqb-true (length vs) c.k (and_left t1 (eqb (length ns) c.k) e2);
          counts = eqb-true (length ns) c.k (and_right t1 (eqb (length ns) c.k) e2);
          shares = eqb-true (length s) (c.k * alpha c) (and_right t2 (eqb (length s) (c.k * alpha c)) e3);
          room = eqb-true (length o) (bytes c) (and_right t3 (eqb (length o) (bytes c)) g.1);
        }

    pub done-is : done (get_or ns 0 0) ≡ collect_told c vs ns s o
    unfolding collect_told collect_reasons
    done-is =
        done-told (collect_reasons c vs ns s o) (pair_in c) e (get_or ns 0 0)
        (ladder-numbered c (Whole c vs ns s (length o)) (every (within c) vs) (repeats vs) (differ ns))

    pub done-writes : collected c vs s ≡ collect_leaves c vs ns s o
    unfolding collect_leaves
    done-writes = done-leaves (collect_reasons c vs ns s o) (pair_in c) e (collected c vs s) o
