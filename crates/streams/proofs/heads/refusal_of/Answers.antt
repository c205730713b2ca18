-- `heads::refusal_of` meets its contract: the number of what the judge of share files says.
-- Assumes nothing.
use mathlib.Core.Path.{◌∙◌, ap}
use Rattle.codes.specs.Told.{Told}
use Rattle.shares.specs.File.{file_told}
use Rattle.streams.proofs.heads.refusal_of.Goals as goal

pub returns : goal.returns
unfolding file_told
returns c = c.number_told.ensures _ ∙ ap (λ (t : Told). t.number) c.judge_file.ensures.answer
