-- `collects::square::copy_rows` meets its contract.
-- Assumes nothing.
use borrow.Author.Rules.{rules}
use Rattle.std.proofs.lemmas.List.{places}
use Rattle.collects.proofs.square.copy_rows.Goals as goal

pub returns : goal.returns
returns c = record {
  placed = λ i h. search (rules, places);
  before = λ i h. search (rules, places);
  after = λ i h. search (rules, places);
}
