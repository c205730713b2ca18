-- `rebuilds::points::points_of` meets its contract: before turn i, i places hold their nodes' points.
use mathlib.Core.Path.{◌≡◌, ◌∙◌, sym, ap}
use Prim.Native.Nat.{ℕ, ◌<◌}
use native.Mathlib.Omega.{arith}
use borrow.Author.Rules.{rules}
use Rattle.algebra.specs.Symbol.{symbol}
use Rattle.algebra.proofs.Ring.{val-symbol}
use Rattle.rebuilds.proofs.Filling.{filling-more, filling-whole}
use Rattle.rebuilds.proofs.points.points_of.Goals as goal

stored : {v m : ℕ} → v < 256 → v ≡ m → v ≡ (symbol m).val
stored h e = sym (val-symbol h) ∙ ap (λ (n : ℕ). (symbol n).val) e

pub loop-i-preserved : goal.loop-i-preserved
loop-i-preserved c =
    let l = c.loop-i in
    filling-more 31 _ l.x-items l.i _ l.invariant (search rules) (stored (omega (arith, c.point_of.type_inv)) (search rules))

pub returns : goal.returns
returns c = filling-whole 31 _ _ _ c.loop-i.invariant (search rules)
