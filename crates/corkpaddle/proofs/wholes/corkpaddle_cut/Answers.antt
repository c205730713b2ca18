-- `corkpaddle::wholes::corkpaddle_cut` meets its contract: a code run of another length is refused for it or for the stripe total; any other goes on to `books::cut`, which tells no count and leaves the fresh share file.
use Rattle.codes.specs.declared.Code.{Code}
use Rattle.books.specs.Cut.{cut_told, cut_leaves}
use Rattle.corkpaddle.proofs.Coded.{as_was, goes_on}
use Rattle.corkpaddle.proofs.Misfits.{halted, runs_on}
use Rattle.corkpaddle.proofs.wholes.corkpaddle_cut.Goals as goal

pub returns-in_default : goal.returns-in_default
returns-in_default c =
    let b = c.in_default.ensures.none in
    record { answer = halted _ _ b _ c.refused_beside.ensures; written = as_was _ b _ _ }

pub returns : goal.returns
returns c =
    let s = c.args in
    let g = c.in-Some.ensures.some.0 in
    let p = runs_on _ s.stripes g _
    (goes_on _ g
    (λ (k : Code). cut_told k s.node s.stripes s.book.now s.output.now)
    (λ (k : Code). cut_leaves k s.node s.stripes s.book.now s.output.now) _
    c.in-Some.ensures.some.1 c.cut.ensures.told c.cut.ensures.left c.crossing.ensures)
    in record { answer = p.0; written = p.1 }
