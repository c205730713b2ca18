-- `codes::judge` meets its contract: each answer stands for the first of the judge's reasons that holds.
-- Assumes nothing.
use mathlib.Core.Path.{◌≡◌, ◌∙◌, sym, ap}
use mathlib.Core.Bool.{true, false, not}
use mathlib.Core.List.{[], ◌∷◌}
use native.Mathlib.Omega.{arith}
use Rattle.codes.specs.Told.{Told, ◌when◌, refused, answered}
use Rattle.codes.specs.Judge.{known, sized, marks, pointed, pair_in, judge_reasons, judged}
use Rattle.codes.specs.declared.Code.{Code}
use Rattle.codes.specs.declared.Refusal.TheVariants.{Kind, Size}
use Rattle.codes.proofs.Told.{refused-first, answered-skip, handed-on}
use Rattle.codes.proofs.Rules.{rules}
use Rattle.codes.proofs.Tests.{sized-only}
use Rattle.codes.proofs.judge.Goals as goal

module _ (code : Code) where
  unknown : known code.kind ≡ false → refused Kind ≡ judged code
  unfolding judged judge_reasons
  unknown e = refused-first Kind _ (pair_in code) 0 (λ z. omega arith) (ap not e)

  module _ (k : known code.kind ≡ true) where
    wrong : sized code ≡ false → refused Size ≡ judged code
    unfolding judged judge_reasons
    wrong e = refused-first Size _ (pair_in code) 0 (λ z. omega arith) (ap not e) ∙ sym (answered-skip 2 _ (pair_in code) 0 (ap not k))

    -- the points are all that is left to judge
    left : sized code ≡ true → (t : Told) → t ≡ answered ((4 when not (pointed (marks code) code.points code.n)) ∷ []) (pair_in code) 0 → t ≡ judged code
    unfolding judged judge_reasons
    left e t h = h ∙ sym (answered-skip 2 _ (pair_in code) 0 (ap not k) ∙ answered-skip 3 _ (pair_in code) 0 (ap not e))

pub returns-then-not-is_known-clause-answer : goal.returns-then-not-is_known-clause-answer
returns-then-not-is_known-clause-answer c = unknown _ (cc)

pub returns-then-not-is_sized-clause-answer : goal.returns-then-not-is_sized-clause-answer
returns-then-not-is_sized-clause-answer c = wrong _ (cc) (cc)

pub judge_points-requires : goal.judge_points-requires
judge_points-requires c = (sized-only c.args.code (cc)).most

pub returns-in_err-judge_points-clause-answer : goal.returns-in_err-judge_points-clause-answer
returns-in_err-judge_points-clause-answer c =
    handed-on _ c.from_residual.result _ c.from_residual.ensures.1 (left _ (cc) (cc) _ c.in_err-judge_points.ensures)

pub invariant_of-result : goal.invariant_of-result
invariant_of-result c = record { rules = rules _ (sym (left _ (cc) (cc) _ c.in_ok-judge_points.ensures)) }

pub returns-clause-answer : goal.returns-clause-answer
returns-clause-answer c = left _ (cc) (cc) _ c.in_ok-judge_points.ensures
