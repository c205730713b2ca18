-- `collects::collect` meets its contract: a refusal of the tests is handed on and nothing is written; else the message is gathered.
-- Assumes nothing.
use mathlib.Core.Path.{◌∙◌, refl, ap}
use native.Mathlib.Omega.{arith}
use Rattle.codes.specs.Collect.{collected}
use Rattle.codes.specs.declared.Code.{Code}
use Rattle.codes.proofs.Told.{handed-on}
use Rattle.collects.proofs.Collecting.{refused-is, refused-stays, passed, done-is, done-writes}
use Rattle.collects.proofs.collect.Goals as goal

pub returns-in_err-accepted : goal.returns-in_err-accepted
returns-in_err-accepted c =
    let e = c.in_err-accepted.ensures.answer c.args.output.now refl in
    record {
      answer = handed-on _ c.from_residual.result _ c.from_residual.ensures.1 (refused-is _ _ _ _ _ _ e);
      written = refused-stays _ _ _ _ _ _ e;
    }

pub gather-requires : goal.gather-requires
gather-requires c =
    let q = passed _ _ _ _ _ (c.in_ok-accepted.ensures.answer c.args.output.now refl) in
    rw c.in_ok-accepted.ensures.same (q.nodes, q.shares, q.room)

pub bounds-counts-0 : goal.bounds-counts-0
bounds-counts-0 c =
    let q = passed _ _ _ _ _ (c.in_ok-accepted.ensures.answer c.args.output.now refl) in omega (arith, q.counts, q.rules.least)

pub returns : goal.returns
returns c =
    let s = c.args in
    let e = c.in_ok-accepted.ensures.answer s.output.now refl in
    record {
      answer = done-is _ _ _ _ _ e;
      written = c.gather.ensures ∙ ap (λ (k : Code). collected k s.nodes.now s.shares.now) c.in_ok-accepted.ensures.same ∙ done-writes _ _ _ _ _ e;
    }
