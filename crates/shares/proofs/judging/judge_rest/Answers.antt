-- `judging::judge_rest` meets its contract: each answer stands for the first of the reasons that holds.
-- Assumes nothing.
use mathlib.Core.Path.{sym}
use Rattle.shares.specs.File.{node_reasons}
use Rattle.shares.proofs.Stripes.{not-read, is_read, read-start, node-room}
use Rattle.shares.proofs.Answers.{says-good}
use Rattle.shares.proofs.Ladder.{no_node, bad-total, bad-node, bad-stripe, bad-end, node-clear}
use Rattle.shares.proofs.judging.judge_rest.Goals as goal
use Rattle.shares.proofs.judging.judge_rest.Goals.{then-not-are_stripes-via-then-not-are_stripes, then-not-are_stripes-via-else-not-are_stripes+then-file-stripe_at}

pub returns-in_default : goal.returns-in_default
returns-in_default c = no_node _ (not-read _ 37 0x4E _ (sym c.in_default.ensures.answer))

pub bounds-file-start : goal.bounds-file-start
bounds-file-start c = node-room _ 37 _ _ _ (sym c.in-Ok.ensures.answer)

pub returns-then-not-is_total : goal.returns-then-not-is_total
returns-then-not-is_total c = bad-total _ (is_read _ 37 0x4E _ _ _ (sym c.in-Ok.ensures.answer)) (cc)

pub returns-then-not-is_within : goal.returns-then-not-is_within
returns-then-not-is_within c =
    let read = sym c.in-Ok.ensures.answer in
    let at = read-start _ 37 0x4E _ _ _ read in
    bad-node _ (is_read _ 37 0x4E _ _ _ read) (cc) (cc)

pub returns-then-not-are_stripes : goal.returns-then-not-are_stripes
returns-then-not-are_stripes c =
    let read = sym c.in-Ok.ensures.answer in
    let at = read-start _ 37 0x4E _ _ _ read in
    elim c.then-not-are_stripes.branch [
      | then-not-are_stripes-via-then-not-are_stripes w ↦ bad-stripe _ (is_read _ 37 0x4E _ _ _ read) (cc) (cc) (cc)
      | then-not-are_stripes-via-else-not-are_stripes+then-file-stripe_at w ↦
          bad-end _ (is_read _ 37 0x4E _ _ _ read) (cc) (cc) (cc) (λ e. w.if-file-stripe_at.true (cc (w.stripe_at.ensures.0)))
    ]

pub returns : goal.returns
returns c =
    let read = sym c.in-Ok.ensures.answer in
    let at = read-start _ 37 0x4E _ _ _ read in
    says-good (node_reasons _) _ _ _ _ (cc) c.number2-stripes.ensures c.number4.ensures (node-clear _ (is_read _ 37 0x4E _ _ _ read) (cc) (cc) (cc) (cc))
