-- `collects::mbr::rests` meets its contract: before turn j, j columns are done.
-- Assumes nothing.
use mathlib.Core.Path.{◌∙◌, refl, ap}
use Rattle.algebra.specs.Symbol.{F, ◌⊕◌}
use Rattle.collects.specs.Squares.{cells}
use Rattle.algebra.proofs.Sums.{dot-same}
use Rattle.collects.proofs.Squares.{holds-store}
use borrow.Author.Rules.{rules}
use Rattle.collects.proofs.mbr.rests.Goals as goal

pub loop-j-preserved : goal.loop-j-preserved
loop-j-preserved c =
    let l = c.loop-j in
    let s = c.args in (
      search rules,
      holds-store l.g c.rest.result (search rules) l.invariant.1
          (λ u h. c.rest.ensures u h ∙ ap (λ (x : F). cells s.y.now l.j u ⊕ x) (dot-same s.d (λ i m. refl) c.column-r.ensures)),
    )
