-- `collects::gather::read_off` meets its contract: before turn b, b symbols are written.
-- Assumes nothing.
use Prim.Native.Nat.{◌+◌, ◌*◌}
use Rattle.collects.specs.Squares.{cells}
use Rattle.codes.specs.Sizes.{alpha, bytes}
use Rattle.codes.specs.Matrix.{lane, row_of, col_of}
use Rattle.rebuilds.proofs.Filling.{Filling}
use Rattle.collects.proofs.gather.read_off.Given as goal

abbrev pub invariant-loop-b : goal.invariant-loop-b
invariant-loop-b l =
    let c = l.code in
    Filling (bytes c) (λ e. cells l.g (lane c e * alpha c + row_of c e) (col_of c e)) l.output l.b
