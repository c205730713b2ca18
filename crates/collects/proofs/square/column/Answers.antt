-- `collects::square::column` meets its contract: each entry is what the closure gives.
-- Assumes nothing.
use mathlib.Core.Path.{◌≡◌, ap}
use mathlib.Core.List.{[]}
use borrow.Author.Rules.{rules}
use lib.ListN.{get_or}
use Rattle.algebra.specs.Symbol.{symbol}
use Rattle.collects.proofs.square.column.Goals as goal

pub returns : goal.returns
returns c = λ i h.
    let k = c.row.ensures i h in
    let e : get_or c.row.result i 0 ≡ get_or (get_or c.args.g.now i []) c.args.j 0 = search rules in
    ap symbol e
