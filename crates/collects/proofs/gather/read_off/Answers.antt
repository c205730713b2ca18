-- `collects::gather::read_off` meets its contract: before turn b, b symbols are written.
-- Assumes nothing.
use mathlib.Core.Path.{◌∙◌, sym, ap, ap₂}
use Prim.Native.Nat.{ℕ, ◌<◌}
use native.Mathlib.Omega.{arith}
use Rattle.algebra.specs.Symbol.{F}
use Rattle.collects.specs.Squares.{cells}
use Rattle.algebra.proofs.Ring.{val-symbol}
use Rattle.codes.specs.Sizes.{bytes}
use Rattle.codes.proofs.Sizes.{bytes_high}
use Rattle.rebuilds.proofs.Filling.{filling-none, filling-more, filling-whole}
use Rattle.collects.proofs.Gathering.{cell_at}
use Rattle.collects.proofs.gather.read_off.Goals as goal

pub loop-b-init : goal.loop-b-init
loop-b-init c = filling-none _ _ _ c.requires

pub overflow_cast-b : goal.overflow_cast-b
overflow_cast-b c = omega (arith, bytes_high _ c.args.accepted.rules)

pub overflow_mul-row : goal.overflow_mul-row
overflow_mul-row c =
    let f = cell_at c.args.accepted.rules c.alpha-a.ensures c.cell-cell.ensures (omega (arith, c.loop-b-test.true, c.requires)) in omega (arith, f.low)

pub overflow_add-row : goal.overflow_add-row
overflow_add-row c =
    let f = cell_at c.args.accepted.rules c.alpha-a.ensures c.cell-cell.ensures (omega (arith, c.loop-b-test.true, c.requires)) in omega (arith, f.low)

pub entry-requires : goal.entry-requires
entry-requires c =
    let f = cell_at c.args.accepted.rules c.alpha-a.ensures c.cell-cell.ensures (omega (arith, c.loop-b-test.true, c.requires)) in (f.low, f.left)

pub loop-b-preserved : goal.loop-b-preserved
loop-b-preserved c =
    let s = c.args in
    let b : c.loop-b.b < bytes s.accepted.code = omega (arith, c.loop-b-test.true, c.requires) in
    let f = cell_at s.accepted.rules c.alpha-a.ensures c.cell-cell.ensures b in
    filling-more _ _ _ _ _ c.loop-b.invariant b
    (sym (val-symbol (omega arith)) ∙ ap (λ (x : F). x.val) c.entry.ensures ∙ ap₂ (λ (i j : ℕ). (cells s.g.now i j).val) f.row f.col)

pub returns : goal.returns
returns c = filling-whole _ _ _ _ c.loop-b.invariant (omega arith)
