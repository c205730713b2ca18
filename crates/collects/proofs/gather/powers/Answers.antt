-- `collects::gather::powers` meets its contract: before turn i, i powers are stored, and p is the next.
-- Assumes nothing.
use mathlib.Core.Path.{◌∙◌, ap}
use borrow.Author.Count.{below_none}
use Rattle.algebra.specs.Symbol.{symbol}
use Rattle.collects.proofs.Squares.{same_store}
use Rattle.collects.proofs.Gathering.{pow-start, pow_step}
use borrow.Author.Rules.{rules}
use Rattle.collects.proofs.gather.powers.Goals as goal

pub loop-i-init : goal.loop-i-init
loop-i-init c = (search rules, below_none _, pow-start _)

pub loop-i-preserved : goal.loop-i-preserved
loop-i-preserved c =
    let l = c.loop-i in
    let x = c.args.x in (
      search rules,
      same_store l.v l.p.0 (search rules) l.invariant.1 l.invariant.2,
      ap symbol c.times-p.ensures ∙ pow_step x l.p.0 l.i l.invariant.2,
    )
