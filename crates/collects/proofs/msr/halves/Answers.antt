-- `collects::msr::halves` meets its contract: before turn u, u rows of P and u of Q are solved.
-- Assumes nothing.
use mathlib.Core.Path.{◌∙◌, ap}
use native.Mathlib.Omega.{arith}
use Rattle.algebra.specs.Symbol.{F, ◌⊕◌, ◌⊗◌}
use Rattle.algebra.specs.Bytes.{at}
use Rattle.collects.specs.Squares.{cells}
use Rattle.algebra.specs.Frame.{skip}
use Rattle.algebra.specs.Hollow.{first, second}
use Rattle.collects.specs.Gather.{factors}
use Rattle.collects.proofs.Gathering.{half-row, first-at, halves-store}
use borrow.Author.Rules.{rules}
use Rattle.collects.proofs.msr.halves.Goals as goal

pub loop-u-preserved : goal.loop-u-preserved
loop-u-preserved c =
    let a = c.times.result in
    let b = c.times-in-loop-u.result in
    let l = c.loop-u in
    let s = c.args in
    let f = factors s.w s.rows.now in
    let R = cells s.r.now in
    let u = l.u in (
      search rules,
      halves-store s.w (at s.xs) f R u l.h a b (search rules) (omega arith) l.invariant.1
          (half-row s.w s.xs c.others.result u c.weights-f.result (first f R u) c.part_p-p.result a
          c.weights-f.ensures c.others.ensures
          (λ i h. c.part_p-p.ensures i h ∙ ap (λ (x : F). R u (skip u i) ⊕ f u ⊗ x) (c.part_q-q.ensures i h) ∙ first-at f R u (skip u i))
          c.times.ensures)
          (half-row s.w s.xs c.others.result u c.weights-f.result (second f R u) c.part_q-q.result b
          c.weights-f.ensures c.others.ensures c.part_q-q.ensures c.times-in-loop-u.ensures),
    )
