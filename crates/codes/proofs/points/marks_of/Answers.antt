-- `codes::points::marks_of` meets its contract, point by point.
-- Assumes nothing.
use mathlib.Core.Path.{◌∙◌, sym}
use mathlib.Core.List.{map}
use Prim.Native.Nat.{ℕ}
use native.Mathlib.Omega.{arith}
use lib.ListN.{get_or, length-map, get_or-map}
use lib.Seq.{ext_get_or}
use borrow.Author.Rules.{rules}
use Rattle.field.specs.declared.Symbol.{Symbol}
use Rattle.codes.specs.Sizes.{none}
use Rattle.codes.specs.Judge.{mark, marks}
use Rattle.codes.proofs.Arrays.{from_fn-at}
use Rattle.codes.proofs.points.marks_of.Goals as goal

pub returns : goal.returns
unfolding marks
returns c =
    let ps = c.args.code.points in
    let m = c.from_fn.result in
    let f : (Symbol → ℕ) = λ x. mark c.args.code x.0 in
    let n = c.from_fn.ensures.items.long in
    ext_get_or (f none) m (map f ps) (n ∙ sym (length-map ps f ∙ search rules))
    (λ i h. from_fn-at _ _ (λ j. f (get_or ps j none)) (λ j y q k. search rules) m (f none) 32 c.from_fn.ensures.items i (omega arith) ∙ sym (get_or-map f ps i none))
