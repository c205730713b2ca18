-- Which reason decides: the faults of one batch, and the reasons of an operation whose batches are judged after the code and the lengths.
--   ladder kinds nodes twice mixed placed    the faults of a batch, by their tests: 1, 6, 7, 8, 10
--   by_kind, by-node, by-repeat, by-mixed, by_place, by-none    which of them decides
--   staged front long after                  reasons in front, then 5, then others
--   by_length, by_after                      which of them decides
--   numbered-parts                           two lists of reasons, one after the other
-- Assumes nothing.
use mathlib.Core.Path.{◌≡◌, ◌∙◌, sym, ap}
use mathlib.Core.Bool.{Bool, true, false, not}
use mathlib.Core.List.{List, [], ◌∷◌, ◌++◌}
use Prim.Native.Nat.{ℕ}
use native.Mathlib.Omega.{arith}
use lib.Dec.{eqb}
use Rattle.codes.specs.Told.{Reason, ◌when◌, refused, done, answered}
use Rattle.codes.specs.Reasons.{Clear, numbered}
use Rattle.codes.specs.declared.Refusal.TheVariants.{Record, Length, Node, Repeat, Mixed, Place}
use Rattle.codes.proofs.Bools.{both, and_left, and_right}
use Rattle.codes.proofs.Told.{answered-skip, answered-none, refused-first, answered-goes-on}

module _ (p : ℕ × ℕ) where
  module _ (kinds nodes twice mixed placed : Bool) where
    abbrev pub ladder : List Reason
    ladder = (1 when not kinds) ∷ (6 when not nodes) ∷ (7 when twice) ∷ (8 when mixed) ∷ (10 when not placed) ∷ []

    pub by_kind : kinds ≡ false → refused Record ≡ answered ladder p 0
    by_kind e = refused-first Record _ p 0 (λ z. omega arith) (ap not e)

    module _ (k : kinds ≡ true) where
      pub by-node : nodes ≡ false → refused Node ≡ answered ladder p 0
      by-node e = refused-first Node _ p 0 (λ z. omega arith) (ap not e) ∙ sym (answered-skip 1 _ p 0 (ap not k))

      module _ (n : nodes ≡ true) where
        past-6 : answered ((7 when twice) ∷ (8 when mixed) ∷ (10 when not placed) ∷ []) p 0 ≡ answered ladder p 0
        past-6 = sym (answered-skip 1 _ p 0 (ap not k) ∙ answered-skip 6 _ p 0 (ap not n))

        pub by-repeat : twice ≡ true → refused Repeat ≡ answered ladder p 0
        by-repeat e = refused-first Repeat _ p 0 (λ z. omega arith) e ∙ past-6

        module _ (t : twice ≡ false) where
          past-7 : answered ((8 when mixed) ∷ (10 when not placed) ∷ []) p 0 ≡ answered ladder p 0
          past-7 = sym (answered-skip 7 _ p 0 t) ∙ past-6

          pub by-mixed : mixed ≡ true → refused Mixed ≡ answered ladder p 0
          by-mixed e = refused-first Mixed _ p 0 (λ z. omega arith) e ∙ past-7

          module _ (m : mixed ≡ false) where
            past-8 : answered ((10 when not placed) ∷ []) p 0 ≡ answered ladder p 0
            past-8 = sym (answered-skip 8 _ p 0 m) ∙ past-7

            pub by_place : placed ≡ false → refused Place ≡ answered ladder p 0
            by_place e = refused-first Place [] p 0 (λ z. omega arith) (ap not e) ∙ past-8

            pub by-none : placed ≡ true → done 0 ≡ answered ladder p 0
            by-none e = sym (answered-none p 0) ∙ sym (answered-skip 10 [] p 0 (ap not e)) ∙ past-8

  module _ (front : List Reason) (long : Bool) (after : List Reason) where
    abbrev pub staged : List Reason
    staged = front ++ ((5 when not long) ∷ after)

    module _ (h : Clear front) where
      pub by_length : long ≡ false → refused Length ≡ answered staged p 0
      by_length e = refused-first Length _ p 0 (λ z. omega arith) (ap not e) ∙ sym (answered-goes-on front _ p 0 h)

      pub by_after : long ≡ true → answered after p 0 ≡ answered staged p 0
      by_after e = sym (answered-goes-on front _ p 0 h ∙ answered-skip 5 after p 0 (ap not e))

pub numbered-parts : (rs more : List Reason) → numbered rs ≡ true → numbered more ≡ true → numbered (rs ++ more) ≡ true
numbered-parts [] more e f = f
numbered-parts (r ∷ rs) more e f =
    let z = not (eqb r.number 0) in
    both z (numbered (rs ++ more)) (and_left z (numbered rs) e) (numbered-parts rs more (and_right z (numbered rs) e) f)
