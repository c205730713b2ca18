-- `Station::change_share` meets its contract: the byte of the column, then that of the row.
-- Assumes nothing.
use mathlib.Core.Path.{◌≡◌}
use Prim.Native.Nat.{ℕ, ◌*◌, ◌≤◌}
use native.Mathlib.Omega.{arith}
use Rattle.codes.specs.Sizes.{alpha}
use Rattle.codes.specs.Matrix.{lane}
use Rattle.codes.specs.declared.Code.{Code}
use Rattle.shares.proofs.Changes.{lane-small, row_small, col-small, alpha-small, base-small, cell-one, cell-two}
use Rattle.streams.proofs.station.Station.change_share.Goals as goal

-- the numbers of a cell and of a share are small
small : (c : Code) (b A l : ℕ) → (c.k ≤ 255) × (c.d ≤ 255) → A ≡ alpha c → l ≡ lane c b → (A ≤ 255) × (l * A ≤ 255)
small c b A l h e f =
    let a : A ≤ 255 = omega (arith, alpha-small c h.0 h.1, e) in
    (a, base-small l A (omega (arith, lane-small c b, f)) a)

pub overflow_mul-base : goal.overflow_mul-base
overflow_mul-base g c =
    let a = c.args in
    let s = small a.self.now.code a.index _ _ a.self.now.small c.alpha-a.ensures c.cell-cell.ensures.0 in
    omega (arith, s.1)

pub overflow_add-base : goal.overflow_add-base
overflow_add-base g c =
    let a = c.args in
    let s = small a.self.now.code a.index _ _ a.self.now.small c.alpha-a.ensures c.cell-cell.ensures.0 in
    omega (arith, s.1, row_small a.self.now.code a.index, c.cell-cell.ensures.1)

pub nudge-requires : goal.nudge-requires
nudge-requires g c =
    let a = c.args in
    let s = small a.self.now.code a.index _ _ a.self.now.small c.alpha-a.ensures c.cell-cell.ensures.0 in
    (c.requires, s.0)

pub overflow_add-base-then-cell : goal.overflow_add-base-then-cell
overflow_add-base-then-cell g c =
    let a = c.args in
    let s = small a.self.now.code a.index _ _ a.self.now.small c.alpha-a.ensures c.cell-cell.ensures.0 in
    omega (arith, s.1, col-small a.self.now.code a.index, c.cell-cell.ensures.2)

pub nudge-requires-then-cell : goal.nudge-requires-then-cell
nudge-requires-then-cell g c =
    let a = c.args in
    let s = small a.self.now.code a.index _ _ a.self.now.small c.alpha-a.ensures c.cell-cell.ensures.0 in
    (c.requires, s.0)

pub returns-then-cell : goal.returns-then-cell
returns-then-cell g c =
    let a = c.args in
    let s = a.self.now in
    let q = c.cell-cell.ensures in
    cell-two s.code s.node.0 a.index a.change a.file.now a.at _ _ _ _ _ c.alpha-a.ensures s.at_point q.0 q.1 q.2 _ _ c.weigh.ensures c.nudge.ensures
    _ _ c.if-cell.true c.weigh-then-cell.ensures c.nudge-then-cell.ensures

pub returns-else-cell : goal.returns-else-cell
returns-else-cell g c =
    let a = c.args in
    let s = a.self.now in
    let q = c.cell-cell.ensures in
    cell-one s.code s.node.0 a.index a.change a.file.now a.at _ _ _ _ _ c.alpha-a.ensures s.at_point q.0 q.1 q.2 _ _ c.weigh.ensures c.nudge.ensures
    c.if-cell.false
