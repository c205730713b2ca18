-- A code is accepted exactly when it keeps document 01's rules.
-- Assumes nothing.
use mathlib.Core.Path.{◌≡◌, ◌∙◌, refl, sym, ap}
use mathlib.Core.Bool.{true, not}
use Prim.Native.Nat.{◌≤◌}
use native.Mathlib.Omega.{arith}
use lib.Dec.{eqb, ltb}
use lib.ListN.{get_or}
use borrow.Author.Tests.{ltb-true, ltb-false, eqb-true, eqb-false, not-false}
use Rattle.codes.specs.Told.{done}
use Rattle.codes.specs.Reasons.{Clear, numbered}
use Rattle.codes.specs.Sizes.{none}
use Rattle.codes.specs.Judge.{known, sized, marks, pair_first, unused_at, pointed, pair_in, judge_reasons, judged}
use Rattle.codes.specs.Rules.{Known, Sized, Rules}
use Rattle.codes.specs.declared.Code.{Code}
use Rattle.codes.proofs.Bools.{by-test}
use Rattle.codes.proofs.Told.{done-clear, clear-done}
use Rattle.codes.proofs.Tests.{known-when, known_only, sized-when, sized-only}
use Rattle.codes.proofs.Pairs.{mark-zero, marks-at, pair-smallest, pair-named, unused-smallest, unused-named, pointed-only, pointed-when}

pub judge-numbered : (c : Code) → numbered (judge_reasons c) ≡ true
unfolding judge_reasons
judge-numbered c = refl

pub sizes : {c : Code} → Rules c → Sized c
sizes r = record {
  fewest = r.fewest;
  most = r.most;
  least = r.least;
  order = r.order;
  under = r.under;
  second = r.second;
}

module _ (c : Code) where
  tests : Clear (judge_reasons c) → (known c.kind ≡ true) × (sized c ≡ true) × (pointed (marks c) c.points c.n ≡ true)
  unfolding judge_reasons
  tests h = (not-false _ h.0, not-false _ h.1.0, not-false _ h.1.1.0)

  clear-when : known c.kind ≡ true → sized c ≡ true → pointed (marks c) c.points c.n ≡ true → Clear (judge_reasons c)
  unfolding judge_reasons
  clear-when k s p = (ap not k, (ap not s, (ap not p, tt)))

  pub rules : judged c ≡ done 0 → Rules c
  unfolding judged
  rules e =
      let t = tests (done-clear (judge_reasons c) (pair_in c) 0 0 (judge-numbered c) (sym e)) in
      let k : Known c.kind = known_only c.kind t.0 in
      let s : Sized c = sized-only c t.1 in
      let q = pointed-only (marks c) c.points c.n t.2 in
      let m = marks-at c (mark-zero c k s) in
      record {
        kinds = k;
        fewest = s.fewest;
        most = s.most;
        least = s.least;
        order = s.order;
        under = s.under;
        second = s.second;
        apart = λ i j l h f. let b = pair-smallest (marks c) c.n i j (record { order = l; within = h; equal = m i ∙ f ∙ sym (m j) }) in omega arith;
        unused = λ i l h. by-test (eqb (get_or c.points i none).0 0) (λ f. eqb-true _ _ f)
            (λ f. let b = unused-smallest c.points c.n i (record { from = l; to = h; nonzero = eqb-false _ _ f }) in absurd (omega arith));
      }

  pub accepted : Rules c → judged c ≡ done 0
  unfolding judged
  accepted r =
      let s : Sized c = sizes r in
      let m = marks-at c (mark-zero c r.kinds s) in
      let a : c.n ≤ pair_first (marks c) c.n =
      by-test (ltb (pair_first (marks c) c.n) c.n)
      (λ l. let p = pair-named (marks c) c.n (ltb-true _ _ l) in absurd (r.apart _ _ p.order p.within (sym (m _) ∙ p.equal ∙ m _)))
      (λ l. ltb-false _ _ l) in
      let b : 32 ≤ unused_at c.points c.n =
      by-test (ltb (unused_at c.points c.n) 32)
      (λ l. let u = unused-named c.points c.n r.most (ltb-true _ _ l) in absurd (u.nonzero (r.unused _ u.from u.to)))
      (λ l. ltb-false _ _ l) in
      clear-done (judge_reasons c) (pair_in c) 0
      (clear-when (known-when c.kind r.kinds) (sized-when c s) (pointed-when (marks c) c.points c.n a b))
