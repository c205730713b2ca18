-- `collects::msr::skip` meets its contract: a place before the one left out stays, and another is one further.
-- Assumes nothing.
use mathlib.Core.Path.{sym}
use Rattle.collects.proofs.Gathering.{skip-before, skip-after}
use borrow.Author.Rules.{rules}
use Rattle.collects.proofs.msr.skip.Goals as goal

pub returns-then-i-u : goal.returns-then-i-u
returns-then-i-u c = (sym (skip-before _ _ c.if-i-u.true), search rules)

pub returns-else-i-u : goal.returns-else-i-u
returns-else-i-u c = (sym (skip-after _ _ c.if-i-u.false), search rules)
