-- `cutting::write_file` meets its contract. The loop's invariant: C, N and the D records of the stripes passed stand in the output.
-- Assumes nothing.
use mathlib.Core.Path.{◌≡◌}
use lib.ListN.{length, take}
use Rattle.shares.specs.Fields.{stripe_at}
use Rattle.books.proofs.Sheet.{Sheet}
use Rattle.books.proofs.cutting.write_file.Given as goal

abbrev pub invariant-loop-i : goal.invariant-loop-i
invariant-loop-i l =
    (length l.output ≡ stripe_at l.stripes) × (take (stripe_at l.i) l.output ≡ Sheet l.row.accepted.code l.row.node.0 l.stripes l.book l.i)
