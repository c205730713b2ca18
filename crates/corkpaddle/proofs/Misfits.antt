-- A code run beside a stripe total: what is told and kept for a run of another length, and for one as long as a code.
--   off-total, in-total   the misfit: a total outside its rule is 3;  one within its rule leaves 5
--   halted                a run of another length: the misfit;   halts   and the output as it was
--   runs_on               a run as long as a code: what is told of the code alone is told beside a total too
-- Assumes nothing.
use mathlib.Core.Path.{◌≡◌}
use mathlib.Core.Bool.{true, false}
use mathlib.Core.List.{List}
use Prim.Native.Nat.{ℕ}
use Rattle.codes.specs.Told.{Told, refused}
use Rattle.codes.specs.declared.Refusal.TheVariants.{Size, Length}
use Rattle.shares.specs.File.{totalled}
use Rattle.corkpaddle.specs.Boundary.{Says, is_code, coded, kept}
use Rattle.corkpaddle.specs.Totals.{misfit, coded_for}
use Rattle.corkpaddle.specs.declared.Answer.{Answer}
use Rattle.corkpaddle.proofs.Coded.{says, as_was}

module _ (t : ℕ) {r : Answer} where
  pub off-total : totalled t ≡ false → Says r (refused Size) → Says r (misfit t)
  unfolding misfit
  off-total b s = says (rw b) s

  pub in-total : totalled t ≡ true → Says r (refused Length) → Says r (misfit t)
  unfolding misfit
  in-total g s = says (rw g) s

module _ (run : List ℕ) (t : ℕ) {r : Answer} where
  pub halted : is_code run ≡ false → (x : Told) → Says r (misfit t) → Says r (coded_for run t x)
  unfolding coded_for
  halted b x s = says (rw b) s

  pub halts : is_code run ≡ false → (x : Told) (o l : List ℕ) → Says r (misfit t) → Says r (coded_for run t x) × (o ≡ kept run o l)
  halts b x o l s = (halted b x s, as_was run b o l)

  pub runs_on : is_code run ≡ true → (x : Told) {P : Type 0} → Says r (coded run x) × P → Says r (coded_for run t x) × P
  unfolding coded coded_for
  runs_on g x s = (says (rw g) s.0, s.1)
