-- `answering::write_answers` meets its contract. The loop's invariant: the answers of the stripes passed stand in the output.
-- Assumes nothing.
use mathlib.Core.Path.{◌≡◌}
use Prim.Native.Nat.{◌*◌}
use lib.ListN.{length, take}
use Rattle.shares.specs.Fields.{code_in}
use Rattle.books.specs.Answer.{answers_from}
use Rattle.books.proofs.answering.write_answers.Given as goal

abbrev pub invariant-loop-i : goal.invariant-loop-i
invariant-loop-i l =
    (length l.output ≡ l.filed.stripes * 10) × (take (l.i * 10) l.output ≡ answers_from (code_in l.file) l.file l.row.node.0 0 l.i)
