-- `solver::forward_round` meets its contract: at place i the row stands within round u, before that place.
use Rattle.std.proofs.Common.{refl, arith, ◌≡◌}
use Rattle.algebra.specs.Bytes.{at}
use Rattle.algebra.proofs.Levels.{forward-open, forward-close}
use Rattle.algebra.proofs.Bytes.{forward-put}
use Rattle.solver.proofs.forward_round.Goals as goal

pub loop-i-init : goal.loop-i-init
loop-i-init c = λ ys r. forward-open _ ys _ r

pub loop-i-preserved : goal.loop-i-preserved
loop-i-preserved c =
    let l = c.loop-i in
    λ ys r. rw c.slope.ensures (forward-put (at c.args.xs.now) ys c.args.u l.a _ _ (l.invariant ys r) (omega arith) (omega arith) (omega arith) refl refl)

pub returns : goal.returns
returns c =
    let l = c.loop-i in
    let end : l.i ≡ _ = omega arith in
    λ ys r. forward-close _ ys _ (rw end at (l.invariant ys r))
