-- `reading::Batch::judge` meets its contract: each answer stands for the first of the reasons that holds.
-- Assumes nothing.
use Rattle.batches.proofs.Judging.{at-kind, at-asked, at-node, at-repeat, at-alike, at_other, at_place, at_none}
use Rattle.batches.proofs.reading.Batch.judge.Goals as goal
use Rattle.batches.proofs.reading.Batch.judge.Goals.{then-not-is_within-via-then-not-is_within, then-not-is_within-via-else-not-is_within+then-not-are_noded, then-not-are_alike-via-then-not-are_alike, then-not-are_alike-via-else-not-are_alike+then-other}

pub returns-then-not-are_helps : goal.returns-then-not-are_helps
returns-then-not-are_helps c = at-kind _ _ _ _ _ (cc)

pub returns-then-not-is_within : goal.returns-then-not-is_within
returns-then-not-is_within c =
    elim c.then-not-is_within.branch [
      | then-not-is_within-via-then-not-is_within w ↦ at-asked _ _ _ _ _ (cc) (cc)
      | then-not-is_within-via-else-not-is_within+then-not-are_noded w ↦ at-node _ _ _ _ _ (cc) (cc) (cc)
    ]

pub returns-then-are_repeated : goal.returns-then-are_repeated
returns-then-are_repeated c = at-repeat _ _ _ _ _ (cc) (cc) (cc) (cc)

pub returns-then-not-are_alike : goal.returns-then-not-are_alike
returns-then-not-are_alike c =
    elim c.then-not-are_alike.branch [
      | then-not-are_alike-via-then-not-are_alike w ↦ at-alike _ _ _ _ _ (cc) (cc) (cc) (cc) (cc)
      | then-not-are_alike-via-else-not-are_alike+then-other w ↦ at_other _ _ _ _ _ (cc) (cc) (cc) (cc) (cc) (cc)
    ]

pub returns-then-not-placed : goal.returns-then-not-placed
returns-then-not-placed c = at_place _ _ _ _ _ (cc) (cc) (cc) (cc) (cc) (cc) (cc)

pub returns : goal.returns
returns c = at_none _ _ _ _ _ (cc) (cc) (cc) (cc) (cc) (cc) (cc)
