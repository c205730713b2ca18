-- `collects::sources::judge_collect` meets its contract: the answer is that of the first test that fails.
-- Assumes nothing.
use mathlib.Core.Path.{◌∙◌, sym}
use Rattle.codes.proofs.Told.{handed-on}
use Rattle.rebuilds.proofs.Answers.{by-judge, by_length, by-node, by-repeat, by-mixed, by-none}
use Rattle.collects.proofs.Collecting.{whole-is, tested}
use Rattle.collects.proofs.sources.judge_collect.Goals as goal

pub returns-in_err-accepted-clause-answer : goal.returns-in_err-accepted-clause-answer
returns-in_err-accepted-clause-answer c =
    tested _ _ _ _ _
    (handed-on _ c.from_residual.result c.in_err-accepted.field-0.0 c.from_residual.ensures.1 (by-judge _ _ _ _ _ _ c.in_err-accepted.ensures.answer))

pub returns-then-not-are_whole-clause-answer : goal.returns-then-not-are_whole-clause-answer
returns-then-not-are_whole-clause-answer c =
    let j = c.in_ok-accepted.ensures in
    tested _ _ _ _ _ (by_length _ _ _ _ _ j.answer (whole-is _ _ _ _ _ j.same c.are_whole.ensures c.if-not-are_whole.true))

pub returns-then-not-all_within-clause-answer : goal.returns-then-not-all_within-clause-answer
returns-then-not-all_within-clause-answer c =
    let j = c.in_ok-accepted.ensures in
    let l = whole-is _ _ _ _ _ j.same c.are_whole.ensures c.if-not-are_whole.false in
    tested _ _ _ _ _ (by-node _ _ _ _ _ j.answer l (sym c.all_within.ensures ∙ c.if-not-all_within.true))

pub returns-then-repeats-clause-answer : goal.returns-then-repeats-clause-answer
returns-then-repeats-clause-answer c =
    let j = c.in_ok-accepted.ensures in
    let l = whole-is _ _ _ _ _ j.same c.are_whole.ensures c.if-not-are_whole.false in
    let k = sym c.all_within.ensures ∙ c.if-not-all_within.false in
    tested _ _ _ _ _ (by-repeat _ _ _ _ _ j.answer l k (sym c.repeats.ensures ∙ c.if-repeats.true))

pub returns-then-differ-clause-answer : goal.returns-then-differ-clause-answer
returns-then-differ-clause-answer c =
    let j = c.in_ok-accepted.ensures in
    let l = whole-is _ _ _ _ _ j.same c.are_whole.ensures c.if-not-are_whole.false in
    let k = sym c.all_within.ensures ∙ c.if-not-all_within.false in
    tested _ _ _ _ _ (by-mixed _ _ _ _ _ j.answer l k (sym c.repeats.ensures ∙ c.if-repeats.false) (sym c.differ.ensures ∙ c.if-differ.true))

pub returns-clause-answer : goal.returns-clause-answer
returns-clause-answer c =
    let j = c.in_ok-accepted.ensures in
    let l = whole-is _ _ _ _ _ j.same c.are_whole.ensures c.if-not-are_whole.false in
    let k = sym c.all_within.ensures ∙ c.if-not-all_within.false in
    tested _ _ _ _ _ (by-none _ _ _ _ _ j.answer l k (sym c.repeats.ensures ∙ c.if-repeats.false) (sym c.differ.ensures ∙ c.if-differ.false))
