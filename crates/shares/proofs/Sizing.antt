-- A stripe total outside its rule is one more fault of size: it comes before the points, and after the kind.
--   total-fits        a total within its rule adds nothing
--   kind-first        an unknown kind is refused before it
--   size-next         else it is refused
-- Assumes nothing.
use mathlib.Core.Path.{◌≡◌, ◌∙◌, sym, ap}
use mathlib.Core.Bool.{Bool, true, false, not, ◌||◌, or-true, or-false}
use native.Mathlib.Omega.{arith}
use Rattle.codes.specs.Told.{refused, answered}
use Rattle.codes.specs.Judge.{known, sized, pair_in, judge_reasons, judged}
use Rattle.codes.specs.declared.Code.{Code}
use Rattle.codes.specs.declared.Refusal.TheVariants.{Kind, Size}
use Rattle.codes.proofs.Told.{refused-first, answered-skip}
use Rattle.shares.specs.Total.{code_reasons}

module _ (c : Code) (bad : Bool) where
  pub total-fits : bad ≡ false → judged c ≡ answered (code_reasons c bad) (pair_in c) 0
  unfolding judged judge_reasons code_reasons
  total-fits e = rw (e, or-false)

  pub kind-first : known c.kind ≡ false → refused Kind ≡ answered (code_reasons c bad) (pair_in c) 0
  unfolding code_reasons
  kind-first e = refused-first Kind _ (pair_in c) 0 (λ z. omega arith) (ap not e)

  pub size-next : known c.kind ≡ true → bad ≡ true → refused Size ≡ answered (code_reasons c bad) (pair_in c) 0
  unfolding code_reasons
  size-next e b =
      refused-first Size _ (pair_in c) 0 (λ z. omega arith) (ap (λ (x : Bool). not (sized c) || x) b ∙ or-true (not (sized c)))
      ∙ sym (answered-skip 2 _ (pair_in c) 0 (ap not e))
