-- `collects::square::times_each` meets its contract: before turn j the rows below j are as promised.
-- Assumes nothing.
use mathlib.Core.Path.{◌∙◌, sym}
use native.Mathlib.Omega.{arith}
use Rattle.algebra.specs.Symbol.{𝟘}
use Rattle.algebra.specs.Sums.{dot}
use Rattle.collects.specs.Squares.{cells}
use Rattle.algebra.proofs.Sums.{pick-lt, pick-ge}
use Rattle.collects.proofs.Squares.{holds-zero, holds-store}
use borrow.Author.Rules.{rules}
use Rattle.collects.proofs.square.times_each.Goals as goal

pub loop-j-init : goal.loop-j-init
loop-j-init c = (search rules, λ j h i k. holds-zero 31 j (omega arith) 31 i (omega arith) ∙ sym (pick-lt j c.args.from 𝟘 _ h))

pub loop-j-preserved : goal.loop-j-preserved
loop-j-preserved c =
    let l = c.loop-j in
    let s = c.args in (
      search rules,
      holds-store l.g _ (search rules) l.invariant.1
          (λ i h. c.times.ensures i h ∙ sym (pick-ge l.j s.from 𝟘 (dot s.n (cells s.y.now l.j) (cells s.f.now i)) l.auto.j)),
    )
