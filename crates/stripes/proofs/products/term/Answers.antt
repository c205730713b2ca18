-- A byte and a symbol are below 256, and so is what stands in a table of bytes.
use native.Mathlib.Omega.{arith}
use Rattle.stripes.proofs.Lent.{term_is}
use Rattle.stripes.proofs.products.term.Goals as goal

pub returns : goal.returns
returns c =
    let g = c.well_formed in
    term_is _ _ _ _ _ c.of.ensures (omega (arith, g)) (omega (arith, c.times_by.type_inv)) c.times_by.ensures
