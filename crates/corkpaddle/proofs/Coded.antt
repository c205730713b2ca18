-- What is told and kept for a code run that is as long as a code, and for any other.
--   says                  an answer that says one thing says what equals it
--   stopped, as_was       a run of another length: refusal 5;  the output as it was;   stays   both
--   passed, goes_on       a run as long as a code: what the proved function tells;  and what it leaves in the output
-- Assumes nothing.
use mathlib.Core.Path.{◌≡◌, ◌∙◌, ap, subst}
use mathlib.Core.Bool.{true, false}
use mathlib.Core.List.{List}
use Prim.Native.Nat.{ℕ}
use Rattle.codes.specs.Told.{Told, refused}
use Rattle.codes.specs.Body.{code_at}
use Rattle.codes.specs.declared.Code.{Code}
use Rattle.codes.specs.declared.Refusal.TheVariants.{Length}
use Rattle.corkpaddle.specs.Boundary.{Says, is_code, coded, kept}
use Rattle.corkpaddle.specs.declared.Answer.{Answer}

pub says : {r : Answer} {t u : Told} → t ≡ u → Says r t → Says r u
says {r} e s = subst (Says r) e s

module _ (run : List ℕ) (b : is_code run ≡ false) where
  pub stopped : {r : Answer} (t : Told) → Says r (refused Length) → Says r (coded run t)
  unfolding coded
  stopped t s = says (rw b) s

  pub as_was : (o l : List ℕ) → o ≡ kept run o l
  unfolding kept
  as_was o l = rw b

  pub stays : {r : Answer} (t : Told) (o l : List ℕ) → Says r (refused Length) → Says r (coded run t) × (o ≡ kept run o l)
  stays t o l s = (stopped t s, as_was o l)

module _ (run : List ℕ) (g : is_code run ≡ true) where
  pub passed : {r : Answer} {t u : Told} → t ≡ u → Says r t → Says r (coded run u)
  unfolding coded
  passed e s = says (rw g e) s

  pub goes_on : (told : Code → Told) (leaves : Code → List ℕ) (o : List ℕ) {r : Answer} {t : Told} {x : List ℕ} {k : Code} → k ≡ code_at run 0
      → t ≡ told k → x ≡ leaves k → Says r t → Says r (coded run (told (code_at run 0))) × (x ≡ kept run o (leaves (code_at run 0)))
  unfolding kept
  goes_on told leaves o c e w s = (passed (e ∙ ap told c) s, rw g (w ∙ ap leaves c))
