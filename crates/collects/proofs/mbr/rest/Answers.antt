-- `collects::mbr::rest` meets its contract: before turn u, u entries are what is left.
-- Assumes nothing.
use mathlib.Core.Path.{◌∙◌, ap}
use lib.ListN.{get_or}
use Rattle.algebra.specs.Symbol.{F, ◌⊕◌}
use Rattle.algebra.specs.Bytes.{at}
use Rattle.algebra.proofs.Ring.{symbol-add}
use Rattle.collects.proofs.Squares.{same_store}
use borrow.Author.Rules.{rules}
use Rattle.collects.proofs.mbr.rest.Goals as goal

pub loop-u-preserved : goal.loop-u-preserved
loop-u-preserved c =
    let l = c.loop-u in
    let y = c.args.y.now in (
      search rules,
      same_store l.v _ (search rules) l.invariant.1
          (symbol-add (get_or y l.u 0) c.dot.result ∙ ap (λ (x : F). at y l.u ⊕ x) c.dot.ensures),
    )
