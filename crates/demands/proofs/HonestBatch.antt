-- Our rebuild from a batch meets demand 2: demand2-batch.
--   some-helpers      an accepted code asks for a helper
--   record_is         what the definition's H records give is the D record of the share
-- Assumes nothing.
use mathlib.Core.Path.{◌≡◌, ◌∙◌, refl, sym, ap, ap₂}
use mathlib.Core.Logic.{◌≢◌}
use mathlib.Core.Bool.{true, false, not}
use mathlib.Core.List.{List}
use Prim.Native.Nat.{ℕ, ◌<◌}
use native.Mathlib.Omega.{arith}
use borrow.Author.Tests.{eq-eqb, le-leb, lt-ltb}
use lib.Dec.{ltb}
use lib.ListN.{get_or}
use Rattle.algebra.specs.Sums.{Vec}
use Rattle.algebra.proofs.Bytes.{table-length, table_at}
use Rattle.codes.specs.Told.{done, refusal}
use Rattle.codes.specs.Reasons.{Clear}
use Rattle.codes.specs.Rules.{Rules, Chosen}
use Rattle.codes.specs.Judge.{judge_reasons, pair_in}
use Rattle.codes.specs.Share.{share, symbol_for, symbols_for}
use Rattle.codes.specs.Rebuild.{rebuilt}
use Rattle.codes.specs.declared.Code.{Code}
use Rattle.codes.proofs.Bools.{both}
use Rattle.codes.proofs.Told.{clear, clear-done}
use Rattle.stripes.specs.Lists.{within}
use Rattle.shares.specs.Fields.{stripe_record}
use Rattle.shares.proofs.Accepted.{clear-append, code-clear}
use Rattle.batches.specs.Batch.{count_at, stripe_named, rebuilt_record, batch_reasons, batch_told, batch_leaves}
use Rattle.demands.specs.Rebuild.{rebuild-share}
use Rattle.demands.specs.HonestBatch.{records_of, Batched, Demand2-batch}
use Rattle.demands.proofs.Helpers

pub some-helpers : {c : Code} → Rules c → 0 < c.d
some-helpers R = omega (arith, R.least, R.order)

module _ {c : Code} (R : Rules c) (f n i : ℕ) (hs m : List ℕ) where
  abbrev Symbols : ℕ → ℕ
  Symbols r = (symbol_for c f (share c (get_or hs r 0) m)).val

  abbrev Batch : List ℕ
  Batch = records_of c f hs n i m

  named : i < 65536 → stripe_named Batch 0 ≡ i
  named l = Helpers.stripe-said c f n i hs Symbols l 0 (some-helpers R)

  pub record_is : i < 65536 → Chosen c.n c.d hs → rebuilt_record c f Batch ≡ stripe_record i (share c f m)
  record_is l chosen =
      let g : Vec = λ r. symbol_for c f (share c (get_or hs r 0) m) in
      ap₂ stripe_record (named l)
      (ap₂ (rebuilt c f) (Helpers.helpers-said c f n i hs Symbols chosen.long)
      (Helpers.symbols-said c f n i hs Symbols (symbols_for c f hs m) (table-length c.d g) (λ r h. sym (table_at c.d g r h)))
      ∙ rebuild-share R chosen f m)

  module _ (o : List ℕ) (B : Batched c f hs n i o) where
    low : i < 65536
    low = omega (arith, B.stripe)

    known : within c f ≡ true
    known = both _ _ (le-leb 1 f B.from) (le-leb f c.n B.to)

    others : (r : ℕ) → r < c.d → get_or hs r 0 ≢ f
    others r l e = B.other (record { place = r; within = omega (arith, B.helpers.long); is = sym e })

    all-clear : Clear (batch_reasons c f Batch o)
    unfolding batch_reasons
    all-clear =
        clear-append (judge_reasons c) _ (code-clear c R) (
          ap not (both _ _ (eq-eqb _ _ (Helpers.records-long c f n i hs Symbols)) (eq-eqb _ _ B.room)),
          Helpers.batch-clear c f n i hs Symbols known B.helpers others B.count low false (ltb (stripe_named Batch 0) 1024) refl
              (lt-ltb (stripe_named Batch 0) 1024 (omega (arith, named low, B.stripe))),
        )

    told : batch_told c f Batch o ≡ done n
    unfolding batch_told
    told =
        clear-done (batch_reasons c f Batch o) (pair_in c) (count_at Batch 0) all-clear
        ∙ ap done (Helpers.count-said c f n i hs Symbols B.count 0 (some-helpers R))

    left : batch_leaves c f Batch o ≡ stripe_record i (share c f m)
    unfolding batch_leaves
    left = rw (eq-eqb (refusal (batch_reasons c f Batch o)) 0 (clear (batch_reasons c f Batch o) all-clear)) (record_is low B.helpers)

pub demand2-batch : Demand2-batch batch_told batch_leaves
demand2-batch c R m f hs n i o B = (told R f n i hs m o B, left R f n i hs m o B)
