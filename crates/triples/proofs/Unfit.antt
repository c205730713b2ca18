-- Helpers whose number is not d: the refusal is the code's own, or 5, whatever their lists hold. So lists that are too long can be refused by
-- the rebuild of lists that are too short.
--   same-refusal     the code's reasons, then reasons of which the first is 5 and holds: the refusal is the same, and it is one
--   unfit-told, unfit-leaves    a rebuild tells and leaves the same of any two such lists
-- Assumes nothing.
use mathlib.Core.Bool.{Bool, true, false, not, ◌&&◌, cond}
use mathlib.Core.List.{List, ◌∷◌, ◌++◌}
use mathlib.Core.Logic.{◌≢◌}
use mathlib.Core.Path.{◌≡◌, ◌∙◌, refl, sym, ap}
use Prim.Native.Nat.{ℕ}
use native.Mathlib.Omega.{arith}
use borrow.Author.Tests.{eqb-true, eqb-false, ne_eqb}
use lib.Dec.{eqb}
use lib.ListN.{length, get_or}
use Rattle.codes.specs.Told.{Reason, ◌when◌, done, refusal, tell, answered}
use Rattle.codes.specs.Reasons.{Clear}
use Rattle.codes.specs.Judge.{judge_reasons, judged, pair_in}
use Rattle.codes.specs.Rebuild.{rebuilt}
use Rattle.codes.specs.Rules.{Rules}
use Rattle.codes.specs.Sizes.{alpha}
use Rattle.codes.specs.declared.Code.{Code}
use Rattle.codes.proofs.Told.{refusal-stop, refusal-stays, refusal-goes-on, done-clear}
use Rattle.codes.proofs.Rules.{judge-numbered, rules}
use Rattle.rebuilds.specs.Rebuild.{rebuild_reasons, rebuild_told, rebuild_leaves}

-- a refusal has no value, and nothing is written
tell-any : (n : ℕ) (p : ℕ × ℕ) (v w : ℕ) → n ≢ 0 → tell n p v ≡ tell n p w
unfolding tell
tell-any n p v w z = simp (ne_eqb n 0 z)

left_as : (n : ℕ) (x o : List ℕ) → n ≢ 0 → cond (eqb n 0) x o ≡ o
left_as n x o z = simp (ne_eqb n 0 z)

module _ (c : Code) where
  abbrev J : List Reason
  J = judge_reasons c

  no-refusal : refusal J ≡ 0 → judged c ≡ done 0
  unfolding judged answered tell
  no-refusal z = ap (λ (n : ℕ). tell n (pair_in c) 0) z

  good-clear : refusal J ≡ 0 → Clear J
  unfolding judged
  good-clear z = done-clear J (pair_in c) 0 0 (judge-numbered c) (sym (no-refusal z))

  same-refusal : (a b : List Reason) → (Rules c → (refusal a ≡ 5) × (refusal b ≡ 5)) → (refusal (J ++ a) ≡ refusal (J ++ b)) × (refusal (J ++ a) ≢ 0)
  same-refusal a b h = by-test (eqb (refusal J) 0) refl
    where
      by-test : (t : Bool) → eqb (refusal J) 0 ≡ t → (refusal (J ++ a) ≡ refusal (J ++ b)) × (refusal (J ++ a) ≢ 0)
      by-test true e =
          let z = eqb-true (refusal J) 0 e in
          let five = h (rules c (no-refusal z)) in
          let x = refusal-goes-on J a (good-clear z) ∙ five.0 in
          (x ∙ sym (refusal-goes-on J b (good-clear z) ∙ five.1), λ q. omega (arith, x, q))
      by-test false e =
          let z = eqb-false (refusal J) 0 e in
          (refusal-stays J a z ∙ sym (refusal-stays J b z), λ q. z (sym (refusal-stays J a z) ∙ q))

  first-five : (n : ℕ) (x y z : Bool) (rs : List Reason) → n ≢ c.d → refusal ((5 when not (eqb n c.d && x && y && z)) ∷ rs) ≡ 5
  first-five n x y z rs h = refusal-stop 5 rs (simp (ne_eqb n c.d h))

  module _ (f : ℕ) (o : List ℕ) (hs ys ns hs' ys' ns' : List ℕ) (off : Rules c → length hs ≢ c.d) (off' : Rules c → length hs' ≢ c.d) where
    both : (refusal (rebuild_reasons c f hs ys ns o) ≡ refusal (rebuild_reasons c f hs' ys' ns' o)) × (refusal (rebuild_reasons c f hs ys ns o) ≢ 0)
    unfolding rebuild_reasons
    both =
        same-refusal _ _ (λ r. (
          first-five (length hs) (eqb (length ys) c.d) (eqb (length ns) c.d) (eqb (length o) (alpha c)) _ (off r),
          first-five (length hs') (eqb (length ys') c.d) (eqb (length ns') c.d) (eqb (length o) (alpha c)) _ (off' r),
        ))

    pub unfit-told : rebuild_told c f hs ys ns o ≡ rebuild_told c f hs' ys' ns' o
    unfolding rebuild_told answered
    unfit-told =
        tell-any (refusal (rebuild_reasons c f hs ys ns o)) (pair_in c) (get_or ns 0 0) (get_or ns' 0 0) both.1
        ∙ ap (λ (n : ℕ). tell n (pair_in c) (get_or ns' 0 0)) both.0

    pub unfit-leaves : rebuild_leaves c f hs ys ns o ≡ rebuild_leaves c f hs' ys' ns' o
    unfolding rebuild_leaves
    unfit-leaves =
        left_as (refusal (rebuild_reasons c f hs ys ns o)) (rebuilt c f hs ys) o both.1
        ∙ sym (left_as (refusal (rebuild_reasons c f hs' ys' ns' o)) (rebuilt c f hs' ys') o (λ q. both.1 (both.0 ∙ q)))
