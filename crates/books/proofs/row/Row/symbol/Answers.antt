-- `row::Row::symbol` meets its contract: by the node's row and the right table it is the helper's symbol for the node.
-- Assumes nothing.
use mathlib.Core.Path.{◌∙◌}
use Rattle.books.proofs.Settled.{symbol-lent}
use Rattle.books.proofs.row.Row.symbol.Goals as goal

pub returns : goal.returns
returns c =
    let s = c.args.self.now in
    let a = s.accepted in
    c.help_by.ensures ∙ symbol-lent a.code a.rules s.node.0 s.bytes s.products.bytes s.of_node s.products.right c.args.share.now c.requires
