-- `codes::points::judge_points` meets its contract: a pair is named first, then an unused place, and else nothing.
-- Assumes nothing.
use mathlib.Core.Path.{◌≡◌, ◌∙◌, sym, ap}
use mathlib.Core.Bool.{true, false, not}
use mathlib.Core.List.{[], ◌∷◌}
use Prim.Native.Nat.{ℕ, ◌+◌, ◌<◌, ◌≤◌}
use native.Mathlib.Omega.{arith}
use lib.Dec.{ltb}
use borrow.Author.Tests.{lt-ltb, le-ltb}
use Rattle.codes.specs.Told.{Told, ◌when◌, refused, done, answered}
use Rattle.codes.specs.Judge.{marks, pair_first, pair_second, unused_at, pointed, pair_of, pair_in}
use Rattle.codes.specs.declared.Code.{Code}
use Rattle.codes.specs.declared.Refusal.TheVariants.{Points}
use Rattle.codes.proofs.Told.{points-first, answered-skip, answered-none}
use Rattle.codes.proofs.points.judge_points.Goals as goal

module _ (c : Code) where
  abbrev said : Told
  said = answered ((4 when not (pointed (marks c) c.points c.n)) ∷ []) (pair_in c) 0

  named : (i j : ℕ) → i < c.n → i ≡ pair_first (marks c) c.n → j ≡ pair_second (marks c) c.n i → refused (Points (i + 1) (j + 1)) ≡ said
  unfolding pointed pair_of
  named i j h e f =
      let t : ltb (pair_first (marks c) c.n) c.n ≡ true = lt-ltb _ _ (omega arith) in
      points-first (i + 1) (j + 1) [] (pair_in c) 0 (simp t) (simp t (cc)) (simp t (cc))

  module _ (h : c.n ≤ pair_first (marks c) c.n) where
    unused : (i : ℕ) → i < 32 → i ≡ unused_at c.points c.n → refused (Points (i + 1) (i + 1)) ≡ said
    unfolding pointed pair_of
    unused i l e =
        let t : ltb (pair_first (marks c) c.n) c.n ≡ false = le-ltb _ _ h in
        points-first (i + 1) (i + 1) [] (pair_in c) 0 (simp (t, lt-ltb (unused_at c.points c.n) 32 (omega arith))) (simp t (cc)) (simp t (cc))

    good : 32 ≤ unused_at c.points c.n → done 0 ≡ said
    unfolding pointed
    good l = sym (answered-skip 4 [] (pair_in c) 0 (simp (le-ltb _ _ h, le-ltb _ _ l)) ∙ answered-none (pair_in c) 0)

pub returns-in-Some : goal.returns-in-Some
returns-in-Some c =
    let e = c.in-Some.ensures in
    ap refused c.offending.ensures ∙ named c.args.code _ _ (grind arith) (cc) (cc)

pub returns-in-Some-first_unused : goal.returns-in-Some-first_unused
returns-in-Some-first_unused c =
    let h = c.in_default.ensures in
    let e = c.in-Some-first_unused.ensures in
    ap refused c.offending-in-Some-first_unused.ensures ∙ unused c.args.code (grind arith) _ (grind arith) (cc)

pub returns : goal.returns
returns c = let h = c.in_default.ensures in let e = c.in_default-first_unused.ensures in good c.args.code (grind arith) (grind arith)
