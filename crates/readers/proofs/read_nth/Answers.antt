-- `readers::read_nth` meets its contract. Assumes nothing.
use mathlib.Core.Path.{sym}
use native.Mathlib.Omega.{arith}
use Rattle.std.proofs.lemmas.Result.{err_from_is_err_and}
use Rattle.readers.proofs.Nth.{way_more, way_refused, way_end}
use Rattle.readers.proofs.read_nth.Goals as goal

pub loop-preserved : goal.loop-preserved
loop-preserved c = way_more c.loop.invariant c.in_ok-next.field-0 _ (sym c.in_ok-next.ensures.answer) c.next.ensures.moved

pub returns-in_err-next : goal.returns-in_err-next
returns-in_err-next c =
    let p = err_from_is_err_and c.from_residual.result c.from_residual.ensures.1 in
    rw (p.1, p.2) (way_refused c.loop.invariant c.in_err-next.field-0.0 c.loop-test.true (sym c.in_err-next.ensures.answer))

pub returns : goal.returns
returns c = way_end c.loop.invariant _ (omega arith) c.next-2.ensures.answer
