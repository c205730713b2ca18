-- The inner invariant: the sum is that of the first i products of the row with column j. The outer: the first j bytes are right.
use mathlib.Core.Path.{◌∙◌, refl, ap}
use mathlib.Core.List.{[]}
use Prim.Native.Nat.{ℕ}
use native.Mathlib.Omega.{arith}
use borrow.Author.Count.{below_more}
use lib.ListN.{get_or}
use lib.Seq.{get_or-set_same, get_or-set_other}
use Rattle.algebra.proofs.Bytes.{table-ext}
use Rattle.codes.specs.Sizes.{none}
use Rattle.stripes.specs.Arrays.{cell_at}
use Rattle.stripes.specs.Lent.{weighed}
use Rattle.stripes.proofs.Lent.{weighed-none, weighed-step}
use borrow.Author.Rules.{rules}
use Rattle.stripes.proofs.room.times.Goals as goal

pub loop-i-init : goal.loop-i-init
loop-i-init c = weighed-none _ _ _

pub loop-i-preserved : goal.loop-i-preserved
loop-i-preserved c =
    let s = c.args in
    let i = c.loop-i.i in
    weighed-step s.row.now s.t.now (λ q. cell_at s.grid q c.loop-j.j) i _ (get_or (get_or s.grid i []) c.loop-j.j none).0 c.loop-i.invariant
    c.term.ensures refl refl c.plus-sum.ensures

pub loop-j-preserved : goal.loop-j-preserved
loop-j-preserved c =
    let l = c.loop-j in
    let s = c.args in
    below_more _ _ (λ q h. get_or-set_other l.output l.j q _ 0 (λ e. omega arith) ∙ l.invariant q h)
    (get_or-set_same l.output l.j _ 0 (omega arith)
    ∙ (c.loop-i.invariant ∙ ap (λ (n : ℕ). (weighed n s.row.now s.t.now (λ q. cell_at s.grid q l.j)).val) (omega arith)))

pub returns : goal.returns
returns c = table-ext _ _ _ (search rules) (λ q h. c.loop-j.invariant q (omega arith))
