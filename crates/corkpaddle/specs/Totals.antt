-- What the outside boundary answers where a stripe total stands beside the code run.
--   misfit t            what is told for a code run of another length: refusal 5, or 3, the smaller, where the stripe total t is outside its rule
--   coded_for run t x    what is told for a code run and a stripe total t: x where the run is as long as a code, and else the misfit
-- Assumes nothing.
use Rattle.std.specs.Prelude.{cond, List, ℕ}
use Rattle.codes.specs.Told.{Told, refused}
use Rattle.codes.specs.declared.Refusal.TheVariants.{Size, Length}
use Rattle.shares.specs.File.{totalled}
use Rattle.corkpaddle.specs.Boundary.{is_code}

unfoldable pub misfit : ℕ → Told
misfit t = cond (totalled t) (refused Length) (refused Size)

unfoldable pub coded_for : List ℕ → ℕ → Told → Told
coded_for run t x = cond (is_code run) x (misfit t)
