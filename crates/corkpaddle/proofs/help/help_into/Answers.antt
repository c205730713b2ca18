-- `corkpaddle::help::help_into` meets its contract: its tests are the reasons of the definition, in their order; the symbol is written only after the last.
-- Assumes nothing.
use Rattle.codes.specs.declared.Refusal.TheVariants.{Length}
use Rattle.codes.proofs.Told.{handed-on}
use Rattle.corkpaddle.proofs.Helping.{unchanged, no_code, no_room, no-help, helps}
use Rattle.corkpaddle.proofs.help.help_into.Goals as goal

pub returns-in_err-judge : goal.returns-in_err-judge
returns-in_err-judge c =
    let a = c.args in
    let e = no_code a.code a.helper.0 a.failed.0 a.share.now a.output.now _ c.in_err-judge.ensures.answer in
    record {
      answer = handed-on (λ _. 0) c.from_residual.result _ c.from_residual.ensures.1 e;
      written = unchanged a.code a.helper.0 a.failed.0 a.share.now a.output.now _ e;
    }

pub returns-then-output-ne1 : goal.returns-then-output-ne1
returns-then-output-ne1 c =
    let a = c.args in
    let e = no_room a.code a.helper.0 a.failed.0 a.share.now a.output.now c.in_ok-judge.ensures.answer c.if-output-ne1.true in
    record { answer = e; written = unchanged a.code a.helper.0 a.failed.0 a.share.now a.output.now Length e }

pub returns-in_err-symbol : goal.returns-in_err-symbol
returns-in_err-symbol c =
    let a = c.args in
    let e = no-help a.code a.helper.0 a.failed.0 a.share.now a.output.now c.if-output-ne1.false _ c.in_err-symbol.ensures in
    record {
      answer = handed-on (λ _. 0) c.from_residual-in_err-symbol.result _ c.from_residual-in_err-symbol.ensures.1 e;
      written = unchanged a.code a.helper.0 a.failed.0 a.share.now a.output.now _ e;
    }

pub returns : goal.returns
returns c =
    let a = c.args in
    let p = helps a.code a.helper.0 a.failed.0 a.share.now a.output.now c.if-output-ne1.false _ c.in_ok-symbol.ensures in
    record { answer = p.0; written = p.1 }
