-- `rebuilds::rebuild` meets its contract: a refusal of the tests is handed on and nothing is written; else the plan of the helpers is applied.
use mathlib.Core.Path.{◌∙◌, refl, ap, ap₂}
use mathlib.Core.List.{List}
use Prim.Native.Nat.{ℕ}
use native.Mathlib.Omega.{arith}
use Rattle.codes.specs.declared.Code.{Code}
use Rattle.codes.proofs.Told.{handed-on}
use Rattle.rebuilds.specs.Plan.{plan_of, applied}
use Rattle.rebuilds.proofs.Rebuilding.{refused-is, refused-stays, passed, done-is, done-writes}
use Rattle.rebuilds.proofs.rebuild.Goals as goal

pub returns-in_err-accepted : goal.returns-in_err-accepted
returns-in_err-accepted c =
    let s = c.args in
    let e = c.in_err-accepted.ensures.answer s.output.now refl in
    record {
      answer = handed-on _ c.from_residual.result _ c.from_residual.ensures.1
          (refused-is s.code s.failed.0 s.nodes.now s.symbols.now s.counts.now s.output.now _ e);
      written = refused-stays s.code s.failed.0 s.nodes.now s.symbols.now s.counts.now s.output.now _ e;
    }

pub bounds-counts-0 : goal.bounds-counts-0
bounds-counts-0 c =
    let s = c.args in
    let q = passed s.code s.failed.0 s.nodes.now s.symbols.now s.counts.now s.output.now (c.in_ok-accepted.ensures.answer s.output.now refl) in
    omega (arith, q.counts, q.rules.least, q.rules.order)

pub returns : goal.returns
returns c =
    let s = c.args in
    let k = c.in_ok-accepted.ensures in
    let e = k.answer s.output.now refl in
    record {
      answer = done-is s.code s.failed.0 s.nodes.now s.symbols.now s.counts.now s.output.now e;
      written =
          c.rebuild_by.ensures
          ∙ ap₂ (λ (p : List (List ℕ)) (w : List ℕ). applied p w s.symbols.now s.output.now)
          (c.plan-p.ensures ∙ ap (λ (x : Code). plan_of x s.failed.0 s.nodes.now) k.same) c.new-t.result.right
          ∙ done-writes s.code s.failed.0 s.nodes.now s.symbols.now s.counts.now s.output.now e (λ t h. omega (arith, c.type_inv.symbols t));
    }
