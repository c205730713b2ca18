-- The two tests are the two rules.
use mathlib.Core.Path.{sym}
use Rattle.codes.proofs.Tests.{known_only, sized-only}
use Rattle.stripes.proofs.shape.Shape.of.Goals as goal

pub invariant_of-result : goal.invariant_of-result
invariant_of-result c = record {
  known = known_only _ (sym c.if-is_known.ensures);
  sized = sized-only _ (sym c.if-is_sized.ensures);
}
