-- `rebuilds::rebuild_by` meets its contract: before turn j, j bytes of the output are the weighed sums.
-- Where there are more than 31 symbols or bytes, nothing is written.
use mathlib.Core.Path.{◌∙◌, sym}
use native.Mathlib.Omega.{arith}
use borrow.Author.Rules.{rules}
use Rattle.rebuilds.proofs.Filling.{filling-whole}
use Rattle.rebuilds.proofs.Weighing.{applied-is, applied-many, applied-wide}
use Rattle.rebuilds.proofs.rebuild_by.Goals.{then-symbols-gt31-via-then-symbols-gt31, then-symbols-gt31-via-else-symbols-gt31+then-output-gt31}
use Rattle.rebuilds.proofs.rebuild_by.Goals as goal

pub returns-then-symbols-gt31 : goal.returns-then-symbols-gt31
returns-then-symbols-gt31 c = elim c.then-symbols-gt31.branch [
  | then-symbols-gt31-via-then-symbols-gt31 w ↦ sym (applied-many _ _ _ _ w.if-symbols-gt31.true)
  | then-symbols-gt31-via-else-symbols-gt31+then-output-gt31 w ↦ sym (applied-wide _ _ _ _ w.if-symbols-gt31.false w.if-output-gt31.true)
]

pub returns : goal.returns
returns c =
    filling-whole _ _ _ _ c.loop-j.invariant (omega (arith, c.loop-j.invariant.long)) ∙ sym (applied-is _ _ _ _ (search rules) (search rules))
