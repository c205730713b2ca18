-- `collects::square::row` meets its contract: before turn i, i places hold what f gives there.
-- Assumes nothing.
use mathlib.Core.Path.{◌∙◌}
use native.Mathlib.Omega.{arith}
use borrow.Author.Count.{below_more}
use lib.ListN.{get_or, set, length-set}
use lib.Seq.{get_or-set_same, get_or-set_other}
use Rattle.collects.proofs.square.row.Goals as goal

pub loop-i-preserved : goal.loop-i-preserved
loop-i-preserved g c =
    let l = c.loop-i in
    let y = c.f.result in (
      length-set l.v l.i y ∙ l.invariant.0,
      below_more (λ i. goal.F-post g c.args.f i (get_or (set l.v l.i y) i 0)) l.i
          (λ i h. rw (get_or-set_other l.v l.i i y 0 (λ q. omega arith)) (l.invariant.1 i h))
          (rw (get_or-set_same l.v l.i y 0 (omega arith)) c.f.ensures),
    )
