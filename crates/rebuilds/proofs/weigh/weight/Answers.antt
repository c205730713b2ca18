-- `rebuilds::weigh::weight` meets its contract: from place a on a weight is zero, and before it the two entries are joined.
use mathlib.Core.Path.{◌≡◌, ◌∙◌, ap}
use mathlib.Core.List.{List}
use Prim.Native.Nat.{ℕ, ◌+◌, ◌-◌}
use native.Mathlib.Omega.{arith}
use borrow.Author.Rules.{rules}
use lib.ListN.{length, length-drop, get_or, take, drop}
use Rattle.std.proofs.lemmas.List.{get_or-drop, take_all}
use Rattle.rebuilds.proofs.Weighing.{folded-none, folded-at}
use Rattle.rebuilds.proofs.weigh.weight.Goals as goal

pub returns-then-a-j : goal.returns-then-a-j
returns-then-a-j c = folded-none _ _ _ _ c.if-a-j.true

pub returns : goal.returns
returns c =
    let s = c.args in
    let r = s.row.now in
    let far : c.unwrap_or.result ≡ get_or (take (31 - s.j) (drop s.j r)) s.a 0 = search rules in
    let long : length r ≡ 31 = search rules in
    let order : s.j + s.a ≡ s.a + s.j = omega arith in
    let whole = take_all (31 - s.j) (drop s.j r) (omega (arith, long, length-drop s.j r)) in
    let on = ap (λ (l : List ℕ). get_or l s.a 0) whole ∙ get_or-drop s.j r s.a 0 ∙ ap (λ (n : ℕ). get_or r n 0) order in
    c.raised.ensures ∙ folded-at s.a s.l r s.j c.if-a-j.false (omega arith) (far ∙ on)
