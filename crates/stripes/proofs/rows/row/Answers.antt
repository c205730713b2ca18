-- The point of the node, and its powers.
use mathlib.Core.Path.{◌∙◌}
use Rattle.stripes.proofs.Lent.{node_row}
use Rattle.stripes.proofs.rows.row.Goals as goal

pub returns : goal.returns
returns c = c.row_of.ensures ∙ node_row _ _ _ c.point.ensures
