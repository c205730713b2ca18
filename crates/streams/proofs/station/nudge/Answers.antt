-- `station::nudge` meets its contract: a byte past the part, or past the file, is none.
-- Assumes nothing.
use Rattle.shares.proofs.Changes.{nudge-past, nudge-out, nudge-in}
use Rattle.streams.proofs.station.nudge.Goals as goal
use Rattle.streams.proofs.station.nudge.Goals.{else-j-a-via-then-j-a+else-at-j, else-j-a-via-else-j-a}

pub returns-then-at-j : goal.returns-then-at-j
returns-then-at-j c = let a = c.args in nudge-in a.file.now a.at a.a a.j a.v c.if-j-a.true c.if-at-j.true

pub returns-else-j-a : goal.returns-else-j-a
returns-else-j-a c =
    let a = c.args in
    elim c.else-j-a.branch [
      | else-j-a-via-then-j-a+else-at-j w ↦ nudge-out a.file.now a.at a.a a.j a.v w.if-at-j.false
      | else-j-a-via-else-j-a w ↦ nudge-past a.file.now a.at a.a a.j a.v w.if-j-a.false
    ]
