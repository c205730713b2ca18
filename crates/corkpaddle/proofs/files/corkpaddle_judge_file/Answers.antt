-- `corkpaddle::files::corkpaddle_judge_file` meets its contract: the judge's answer, as it crosses, says what the judge of share files tells.
use Rattle.shares.specs.File.{file_told}
use Rattle.corkpaddle.proofs.Coded.{says}
use Rattle.corkpaddle.proofs.files.corkpaddle_judge_file.Goals as goal

pub returns : goal.returns
unfolding file_told
returns c = says c.judge_file.ensures.answer c.crossing.ensures
