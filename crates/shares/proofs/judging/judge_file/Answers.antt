-- `judging::judge_file` meets its contract: the C record, then its code, then what follows.
-- Assumes nothing.
use mathlib.Core.Path.{sym}
use Rattle.std.proofs.lemmas.Result.{err_from_is_err_and}
use Rattle.shares.proofs.Stripes.{not-read, is_read}
use Rattle.shares.proofs.Ladder.{no_code, bad-code, good-code}
use Rattle.shares.proofs.judging.judge_file.Goals as goal

pub returns-in_default : goal.returns-in_default
returns-in_default c = no_code _ (not-read _ 0 0x43 _ (sym c.in_default.ensures.answer))

pub returns-in_err-code : goal.returns-in_err-code
returns-in_err-code c =
    let p = err_from_is_err_and c.from_residual.result c.from_residual.ensures.1 in
    rw (p.1, p.2) (bad-code _ (is_read _ 0 0x43 _ _ _ (sym c.in-Ok.ensures.answer)) _ c.code_in.ensures _ c.in_err-code.ensures.answer)

pub returns : goal.returns
returns c =
    good-code _ (is_read _ 0 0x43 _ _ _ (sym c.in-Ok.ensures.answer)) _ c.code_in.ensures c.in_ok-code.ensures.answer _ c.judge_rest.ensures
