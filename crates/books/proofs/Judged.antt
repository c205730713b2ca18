-- What is known of a share file that the judge accepted, by what its answer says.
-- Assumes nothing.
use mathlib.Core.Path.{◌≡◌, ◌∙◌, sym, ap}
use mathlib.Core.List.{List}
use Prim.Native.Nat.{ℕ}
use lib.ListN.{length}
use Rattle.std.specs.Prelude.{Ok}
use Rattle.codes.specs.Reasons.{Clear}
use Rattle.codes.specs.Rules.{Rules}
use Rattle.shares.specs.Fields.{code_in, node_in, stripes_in, count_in, stripe_at}
use Rattle.shares.specs.File.{file_reasons, Says}
use Rattle.shares.specs.declared.Filed.{Filed}
use Rattle.shares.proofs.Ladder.{file-clear}
use Rattle.shares.proofs.Accepted.{facts, good-count, good-value}

pub record Judged (s : List ℕ) (f : Filed) : Type 0 where
  pub clear : Clear (file_reasons s)
  pub rules : Rules (code_in s)
  pub node : f.node.0 ≡ node_in s
  pub stripes : f.stripes ≡ stripes_in s
  pub count : f.count ≡ count_in s
  pub long : length s ≡ stripe_at f.stripes

pub judged : (s : List ℕ) (f : Filed) → Says (file_reasons s) s (Ok f) → Judged s f
judged s f a =
    let h = file-clear s f.count a.answer in
    let k = facts s h in
    let t = good-value s h f.stripes (stripes_in s) a.stripes in
    record {
      clear = h;
      rules = k.rules;
      node = good-value s h f.node.0 (node_in s) a.node;
      stripes = t;
      count = good-count s h f.count a.answer;
      long = k.long ∙ ap stripe_at (sym t);
    }
