-- The list and the columns: `rebuild_from` on a list, and `rebuild` on three runs that hold the list's columns, tell the same and leave the same.
-- `Post` is the promise of `rebuild` as its proof meets it; r and left are any answer and any last bytes that meet the promise of `rebuild_from`.
-- Assumes nothing.
use mathlib.Core.List.{List}
use mathlib.Core.Path.{◌≡◌}
use Prim.Native.Nat.{ℕ}
use contract.Lifetimes.{Lfts}
use denote.Ref.{Bor, MutBor}
use Rattle.codes.specs.declared.Code.{Code}
use Rattle.codes.specs.declared.Node.{Node}
use Rattle.rebuilds.specs.Rebuild.{rebuild_told, rebuild_leaves, say_counted}
use Rattle.std.specs.Prelude.{Result}
use Rattle.codes.specs.declared.Refusal.{Refusal}
use Rattle.rebuilds.proofs.rebuild.Reads.{Post}
use Rattle.triples.specs.Triples.{nodes_of, symbols_of, counts_of}
use Rattle.triples.specs.declared.Helper.{Helper}

module _ (c : Code) (f : Node) (hs : List Helper) (nodes symbols counts : Bor (List ℕ)) (out : MutBor (List ℕ))
    (nodes-are : nodes.now ≡ nodes_of hs) (symbols-are : symbols.now ≡ symbols_of hs) (counts-are : counts.now ≡ counts_of hs) where
  pub as-columns : (κs : Lfts 4) (s : Result ℕ Refusal) (nodes' symbols' counts' : Bor (List ℕ)) (out' : MutBor (List ℕ))
      → Post κs (c, (f, (nodes, (symbols, (counts, (out, tt)))))) s (c, (f, (nodes', (symbols', (counts', (out', tt))))))
      → (r : Result ℕ Refusal) (left : List ℕ)
      → say_counted r ≡ rebuild_told c f.0 (nodes_of hs) (symbols_of hs) (counts_of hs) out.now
      → left ≡ rebuild_leaves c f.0 (nodes_of hs) (symbols_of hs) (counts_of hs) out.now
      → (say_counted r ≡ say_counted s) × (left ≡ out'.now)
  as-columns κs s nodes' symbols' counts' out' p r left told leaves =
      let t : say_counted s ≡ rebuild_told c f.0 nodes.now symbols.now counts.now out.now = p.0 in
      let l : out'.now ≡ rebuild_leaves c f.0 nodes.now symbols.now counts.now out.now = p.1 in
      (cc (told, t, nodes-are, symbols-are, counts-are), cc (leaves, l, nodes-are, symbols-are, counts-are))
