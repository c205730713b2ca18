-- The invariant: the first entries are the powers, and the next one is at hand.
use mathlib.Core.Path.{◌∙◌}
use native.Mathlib.Omega.{arith}
use borrow.Author.Count.{below_more, below_none}
use lib.Seq.{get_or-set_same, get_or-set_other}
use Rattle.algebra.proofs.Bytes.{table-ext}
use Rattle.stripes.proofs.Vectors.{pow-none, pow-next}
use borrow.Author.Rules.{rules}
use Rattle.stripes.proofs.rows.row_of.Goals as goal

pub loop-byte-init : goal.loop-byte-init
loop-byte-init c = (search rules, pow-none _, below_none _)

pub loop-byte-preserved : goal.loop-byte-preserved
loop-byte-preserved c =
    let l = c.loop-byte in (
      search rules,
      c.times-power.ensures ∙ pow-next c.args.x.0 _ _ l.invariant.1,
      below_more _ _ (λ e h. get_or-set_other l.byte-items l.byte-index e _ 0 (λ q. omega arith) ∙ l.invariant.2 e h)
          (get_or-set_same l.byte-items l.byte-index _ 0 (omega arith) ∙ l.invariant.1),
    )

pub returns : goal.returns
returns c = let l = c.loop-byte in table-ext 31 _ l.byte-items l.invariant.0 (λ e h. l.invariant.2 e (omega arith))
