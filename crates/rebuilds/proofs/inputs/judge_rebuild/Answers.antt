-- `rebuilds::inputs::judge_rebuild` meets its contract: the tests stand in the order of the refusals, and the answer is that of the first test that fails.
use mathlib.Core.Path.{◌∙◌, sym}
use Rattle.codes.proofs.Told.{handed-on}
use Rattle.rebuilds.proofs.Rebuilding.{stops-judge, stops-length, stops-node, stops-repeat, stops-mixed, passes}
use Rattle.rebuilds.proofs.inputs.judge_rebuild.Goals as goal

pub returns-in_err-accepted-clause-answer : goal.returns-in_err-accepted-clause-answer
returns-in_err-accepted-clause-answer c o l =
    let s = c.args in
    handed-on (λ _. 0) c.from_residual.result _ c.from_residual.ensures.1
    (stops-judge s.code s.failed s.nodes.now s.symbols.now s.counts.now s.room _ c.in_err-accepted.ensures.answer o l)

pub returns-then-not-are_long-clause-answer : goal.returns-then-not-are_long-clause-answer
returns-then-not-are_long-clause-answer c =
    let s = c.args in
    let g = c.in_ok-accepted.ensures.answer in
    stops-length s.code s.failed s.nodes.now s.symbols.now s.counts.now s.room g (sym c.are_long.ensures ∙ c.if-not-are_long.true)

pub returns-then-not-are_nodes-clause-answer : goal.returns-then-not-are_nodes-clause-answer
returns-then-not-are_nodes-clause-answer c =
    let s = c.args in
    let g = c.in_ok-accepted.ensures.answer in
    let l = sym c.are_long.ensures ∙ c.if-not-are_long.false in
    stops-node s.code s.failed s.nodes.now s.symbols.now s.counts.now s.room g l (sym c.are_nodes.ensures ∙ c.if-not-are_nodes.true)

pub returns-then-are_repeated-clause-answer : goal.returns-then-are_repeated-clause-answer
returns-then-are_repeated-clause-answer c =
    let s = c.args in
    let g = c.in_ok-accepted.ensures.answer in
    let l = sym c.are_long.ensures ∙ c.if-not-are_long.false in
    let k = sym c.are_nodes.ensures ∙ c.if-not-are_nodes.false in
    stops-repeat s.code s.failed s.nodes.now s.symbols.now s.counts.now s.room g l k (sym c.are_repeated.ensures ∙ c.if-are_repeated.true)

pub returns-then-differ-clause-answer : goal.returns-then-differ-clause-answer
returns-then-differ-clause-answer c =
    let s = c.args in
    let g = c.in_ok-accepted.ensures.answer in
    let l = sym c.are_long.ensures ∙ c.if-not-are_long.false in
    let k = sym c.are_nodes.ensures ∙ c.if-not-are_nodes.false in
    let t = sym c.are_repeated.ensures ∙ c.if-are_repeated.false in
    stops-mixed s.code s.failed s.nodes.now s.symbols.now s.counts.now s.room g l k t (sym c.differ.ensures ∙ c.if-differ.true)

pub returns-clause-answer : goal.returns-clause-answer
returns-clause-answer c =
    let s = c.args in
    let g = c.in_ok-accepted.ensures.answer in
    let l = sym c.are_long.ensures ∙ c.if-not-are_long.false in
    let k = sym c.are_nodes.ensures ∙ c.if-not-are_nodes.false in
    let t = sym c.are_repeated.ensures ∙ c.if-are_repeated.false in
    passes s.code s.failed s.nodes.now s.symbols.now s.counts.now s.room g l k t (sym c.differ.ensures ∙ c.if-differ.false)
