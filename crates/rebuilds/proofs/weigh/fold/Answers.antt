-- `rebuilds::weigh::fold` meets its contract: before turn u, u rows are folded and the others are zero.
use mathlib.Core.Path.{◌∙◌, ap}
use mathlib.Core.List.{List}
use Prim.Native.Nat.{ℕ}
use native.Mathlib.Omega.{arith}
use borrow.Author.Rules.{rules}
use lib.ListN.{set}
use Rattle.rebuilds.proofs.Weighing.{rows_none, rows_more, folded-whole}
use Rattle.rebuilds.proofs.weigh.fold.Goals as goal

pub loop-u-init : goal.loop-u-init
loop-u-init c = rows_none _

pub loop-u-preserved : goal.loop-u-preserved
loop-u-preserved c =
    let l = c.loop-u in
    ap (λ (p : List (List ℕ)). set p l.u c.weights.result) l.invariant ∙ rows_more _ l.u _ (search rules) c.weights.ensures

pub returns : goal.returns
returns c = c.loop-u.invariant ∙ folded-whole _ _ _ _ _ _ c.alpha-a.ensures c.factor_of-l.ensures (omega arith)
