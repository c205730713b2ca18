-- The invariant: the first i places of each column are those of the first i helpers.
use mathlib.Core.Path.{◌≡◌}
use lib.ListN.{length, take}
use Rattle.triples.specs.Triples.{nodes_of, symbols_of, counts_of}
use Rattle.triples.proofs.rebuild_from.Given as goal

abbrev pub invariant-loop-i : goal.invariant-loop-i
invariant-loop-i l = record {
  long_nodes : length l.nodes ≡ 31;
  long_symbols : length l.symbols ≡ 31;
  long_counts : length l.counts ≡ 31;
  nodes : take l.i l.nodes ≡ nodes_of (take l.i l.helpers);
  symbols : take l.i l.symbols ≡ symbols_of (take l.i l.helpers);
  counts : take l.i l.counts ≡ counts_of (take l.i l.helpers);
}
