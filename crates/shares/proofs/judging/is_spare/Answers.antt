-- `judging::is_spare` meets its contract. The loop's invariant: the symbols passed are among the first a, or zero.
-- Assumes nothing.
use Rattle.shares.proofs.Stripes.{spare-start, spare-next, spare-stop, spare-end}
use Rattle.shares.proofs.judging.is_spare.Goals as goal

pub loop-j-init : goal.loop-j-init
loop-j-init c = spare-start c.args.a c.args.file.now c.args.at

pub returns-then-file-at-ne0 : goal.returns-then-file-at-ne0
returns-then-file-at-ne0 c =
    let a = c.args in
    spare-stop a.a a.file.now a.at c.loop-j.j c.loop-j.auto.j c.loop-j-test.true c.if-file-at-ne0.true

pub loop-j-preserved : goal.loop-j-preserved
loop-j-preserved c = let a = c.args in spare-next a.a a.file.now a.at c.loop-j.j c.loop-j.invariant c.if-file-at-ne0.false

pub returns : goal.returns
returns c = let a = c.args in spare-end a.a a.file.now a.at c.loop-j.j c.loop-j-test.false c.loop-j.invariant
