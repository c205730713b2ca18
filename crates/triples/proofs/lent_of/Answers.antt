-- All n helpers, or none where n is more than 31.
use borrow.Author.Tests.{lt-ltb, le-ltb}
use Rattle.triples.specs.Lent.{lent_of}
use Rattle.triples.proofs.lent_of.Goals as goal

pub returns-then-n-gt31-clause-number : goal.returns-then-n-gt31-clause-number
unfolding lent_of
returns-then-n-gt31-clause-number c = simp (lt-ltb _ _ c.if-n-gt31.true)

pub returns-else-n-gt31-clause-number : goal.returns-else-n-gt31-clause-number
unfolding lent_of
returns-else-n-gt31-clause-number c = simp (le-ltb _ _ c.if-n-gt31.false)
