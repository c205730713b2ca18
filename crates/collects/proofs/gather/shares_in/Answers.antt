-- `collects::gather::shares_in` meets its contract: before turn u, u shares are copied.
-- Assumes nothing.
use native.Mathlib.Omega.{arith}
use Rattle.collects.proofs.Squares.{holds-store}
use Rattle.collects.proofs.Gathering.{rows_fit}
use borrow.Author.Rules.{rules}
use Rattle.collects.proofs.gather.shares_in.Goals as goal

pub part-requires : goal.part-requires
part-requires c =
    let s = c.args in (search rules, omega (arith, rows_fit c.loop-u.u s.k s.a (omega arith)))

pub loop-u-preserved : goal.loop-u-preserved
loop-u-preserved c =
    let l = c.loop-u in
    (search rules, holds-store l.g c.part.result (search rules) l.invariant.1 c.part.ensures)
