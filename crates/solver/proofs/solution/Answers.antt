-- `solver::solution` meets its contract: the row of the unit vector is ready for the forward pass, that pass leaves it ready for the
-- backward pass, and that one leaves the coefficients.
use Rattle.std.proofs.Common.{rules, ◌≡◌, ◌∙◌, ◌-◌, ◌<◌, ◌≤◌, ◌++◌, ℕ, List, length, take, drop, sym, ap, arith}
use Rattle.std.proofs.Math.ListN.{set, replicate, length-replicate, get_or-replicate}
use mathlib.Core.Logic.{by_cases}
use native.Mathlib.Decide.{dec_lt, ℕ_discrete}
use Rattle.std.proofs.lemmas.List.{length-take-le, get_or-take, get_or-drop, get_or_append_left, get_or-append_right}
use Rattle.algebra.specs.Symbol.{symbol, 𝟘, 𝟙}
use Rattle.algebra.specs.Sums.{Vec, unit}
use Rattle.algebra.specs.Poly.{interp}
use Rattle.algebra.specs.Levels.{Forward, Backward}
use Rattle.algebra.specs.Bytes.{at}
use Rattle.algebra.proofs.Ring.{symbol-val}
use Rattle.algebra.proofs.Sums.{unit-self, unit-other}
use Rattle.algebra.proofs.Poly.{interp-past}
use Rattle.algebra.proofs.Levels.{forward-start, turn, in_place}
use Rattle.algebra.proofs.Bytes.{at_set, at_set_other}
use Rattle.solver.proofs.solution.Goals as goal

module _ (s u : ℕ) (xs : Vec) (h : u < s) (l : s ≤ 31) where
  -- the array: 1 at place u, and 0 at each other
  abbrev one : List ℕ
  one = set (replicate 31 0) u 1

  at_one : (i : ℕ) → i < 31 → at one i ≡ unit u i
  unfolding 𝟘 𝟙
  at_one i k =
      by_cases (ℕ_discrete i u)
      (λ c. ap (at one) c ∙ at_set (replicate 31 0) u 1 (omega (arith, length-replicate {A = ℕ} 31 0)) ∙ symbol-val 𝟙 ∙ sym (ap (unit u) c ∙ unit-self u))
      (λ c. at_set_other (replicate 31 0) u 1 i c ∙ ap symbol (get_or-replicate 31 i 0 0 k) ∙ symbol-val 𝟘 ∙ sym (unit-other u i (λ e. c (sym e))))

  start : Forward s 0 xs (unit u) (at (take s one))
  start = forward-start xs (unit u) (λ i k. ap symbol (get_or-take s one i 0 k) ∙ at_one i (omega arith))

  -- the coefficients r stand before what the passes left alone
  end : (r : List ℕ) → length r ≡ s → Backward s 0 xs (unit u) (at r) → (i : ℕ) → i < 31 → at (r ++ drop s one) i ≡ interp s xs (unit u) i
  end r e w i k =
      by_cases (dec_lt i s)
      (λ b. ap symbol (get_or_append_left r (drop s one) 0 i (omega arith)) ∙ in_place xs (unit u) w i b)
      (λ b. ap symbol (get_or-append_right r (drop s one) s i 0 e (omega arith) ∙ get_or-drop s one (i - s) 0)
      ∙ ap (at one) (omega arith) ∙ at_one i k ∙ unit-other u i (λ e. omega arith) ∙ sym (interp-past s xs (unit u) i (omega arith)))

pub backward-requires : goal.backward-requires
backward-requires c = c.forward.auto.a ∙ length-take-le _ _ (search rules)

pub returns : goal.returns
returns c =
    let u = c.args.u in
    let s = length c.args.xs.now in
    let h : u < s = search rules in
    let l : s ≤ 31 = search rules in
    end s u _ h l _ (c.backward.auto.a ∙ c.forward.auto.a ∙ length-take-le _ _ (search rules))
    (c.backward.ensures (unit u) (turn _ (unit u) (c.forward.ensures (unit u) (start s u _ h l))))
