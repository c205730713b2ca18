-- `codes::Code::cell` meets its contract, part of the matrix by part.
-- Assumes nothing.
use native.Mathlib.Omega.{arith}
use Rattle.codes.proofs.FillOrder.{cell-s, cell-t, cell-s1, cell-s2}
use Rattle.codes.proofs.Code.cell.Goals as goal
use Rattle.codes.proofs.Code.cell.Goals.{then-self-eq-MBR, else-self-eq-MBR}

pub returns-then-at-s : goal.returns-then-at-s
returns-then-at-s c = elim c.if-self-eq-MBR.branch [
  | then-self-eq-MBR w ↦ (let u = cell-s c.args.self c.args.b w.if-self-eq-MBR.true (grind arith) in grind arith)
  | else-self-eq-MBR w ↦ (let u = cell-s1 c.args.self c.args.b w.if-self-eq-MBR.false (grind arith) in grind arith)
]

pub returns-then-self-eq-MBR-2 : goal.returns-then-self-eq-MBR-2
returns-then-self-eq-MBR-2 c = elim c.if-self-eq-MBR.branch [
  | then-self-eq-MBR w ↦ (let u = cell-t c.args.self c.args.b w.if-self-eq-MBR.true (grind arith) in grind arith)
  | else-self-eq-MBR w ↦ absurd (w.if-self-eq-MBR.false c.if-self-eq-MBR-2.true)
]

pub returns-else-self-eq-MBR-2 : goal.returns-else-self-eq-MBR-2
returns-else-self-eq-MBR-2 c = elim c.if-self-eq-MBR.branch [
  | then-self-eq-MBR w ↦ absurd (c.if-self-eq-MBR-2.false w.if-self-eq-MBR.true)
  | else-self-eq-MBR w ↦ (let u = cell-s2 c.args.self c.args.b w.if-self-eq-MBR.false (grind arith) in grind arith)
]
