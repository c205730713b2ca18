-- A list of helpers, each a triple of a node, a symbol and a slip count, and its three columns.
--   nodes_of hs      the helpers' nodes;   symbols_of hs    their symbols;   counts_of hs    their slip counts; all in the list's order
-- Assumes nothing.
use Rattle.std.specs.Prelude.{List, map, ℕ}
use Rattle.triples.specs.declared.Helper.{Helper}

abbrev pub nodes_of : List Helper → List ℕ
nodes_of hs = map (λ h. h.node.0) hs

abbrev pub symbols_of : List Helper → List ℕ
symbols_of hs = map (λ h. h.symbol.0) hs

abbrev pub counts_of : List Helper → List ℕ
counts_of hs = map (λ h. h.count) hs
