-- `solver::backward_round` meets its contract: at place i the row stands within round u, before that place.
use Rattle.std.proofs.Common.{refl, arith}
use Rattle.algebra.specs.Bytes.{at}
use Rattle.algebra.proofs.Levels.{backward-open, backward-close}
use Rattle.algebra.proofs.Bytes.{backward-put}
use Rattle.solver.proofs.backward_round.Goals as goal

pub loop-i-init : goal.loop-i-init
loop-i-init c = λ ys r. backward-open _ ys _ r

pub loop-i-preserved : goal.loop-i-preserved
loop-i-preserved c =
    let l = c.loop-i in
    λ ys r. rw c.raised.ensures (backward-put (at c.args.xs.now) ys c.args.u l.a _ (l.invariant ys r) (omega arith) (omega arith) (omega arith) refl)

pub returns : goal.returns
returns c = λ ys r. backward-close _ ys _ (c.loop-i.invariant ys r) (omega arith) (omega arith) (omega arith)
