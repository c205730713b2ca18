-- Demand 2 of rebuilding one stripe from a batch: the whole answer is done with the common count, and the output is the D record of the share.
--   records_of c f hs n i m     the H records of the helpers hs for the failed node f and the stripe i, all at the count n:
--                              each with the definition's symbol of its own share of the message m
--   Batched c f hs n i o       what is asked of them and of the output o
--   Demand2-batch              of a rebuild from a batch: what it tells and what it leaves
-- Assumes nothing.
use Rattle.std.specs.Prelude.{◌≡◌, List, ℕ, ◌<◌, ◌≤◌, length, get_or}
use Rattle.codes.specs.Told.{Told, done}
use Rattle.codes.specs.Share.{share, symbol_for}
use Rattle.codes.specs.Rules.{Rules, Chosen}
use Rattle.codes.specs.declared.Code.{Code}
use Rattle.shares.specs.Fields.{help_record, stripe_record}
use Rattle.demands.specs.Inputs.{Among}
use Rattle.demands.specs.History.{joined}

abbrev pub records_of : Code → ℕ → List ℕ → ℕ → ℕ → List ℕ → List ℕ
records_of c f hs n i m = joined (λ r. help_record f (get_or hs r 0) n i (symbol_for c f (share c (get_or hs r 0) m)).val) 0 c.d

-- d different nodes other than f, in any order
pub record Batched (c : Code) (f : ℕ) (hs : List ℕ) (n i : ℕ) (o : List ℕ) : Type 0 where
  pub from : 1 ≤ f
  pub to : f ≤ c.n
  pub helpers : Chosen c.n c.d hs
  pub other : Among (λ h. f ≡ h) hs → ⊥
  pub count : n < 4294967296
  pub stripe : i < 1024
  pub room : length o ≡ 34

abbrev pub Demand2-batch : (Code → ℕ → List ℕ → List ℕ → Told) → (Code → ℕ → List ℕ → List ℕ → List ℕ) → Type 0
Demand2-batch tells leaves =
    (c : Code) → Rules c → (m : List ℕ) (f : ℕ) (hs : List ℕ) (n i : ℕ) (o : List ℕ) → Batched c f hs n i o
    → (tells c f (records_of c f hs n i m) o ≡ done n) × (leaves c f (records_of c f hs n i m) o ≡ stripe_record i (share c f m))
