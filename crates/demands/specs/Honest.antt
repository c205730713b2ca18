-- Demand 2 as predicates on the operations: the whole answer is done, with that message or that share and the common count.
--   Counts ns s n          ns is s counts, each of them n
--   Demand2-rebuild        of a rebuild: what it tells and what it leaves, for every accepted code, every message, and any d different other nodes
--   Demand2-collect        of a collection: the same, for any k different nodes
--   Demand2-fits           of a collector of kind 2: every run of k times alpha bytes is the shares of the message that it gives
-- Assumes nothing.
use Rattle.std.specs.Prelude.{◌≡◌, List, ℕ, ◌*◌, ◌≤◌, length}
use Rattle.codes.specs.Told.{Told, done}
use Rattle.codes.specs.Sizes.{alpha, bytes}
use Rattle.codes.specs.Share.{share, symbols_for, shares_of}
use Rattle.codes.specs.Rules.{Rules, Chosen}
use Rattle.codes.specs.declared.Code.{Code}
use Rattle.demands.specs.Inputs.{Among, Common}
use Rattle.demands.specs.Collect.{Message}

pub record Counts (ns : List ℕ) (s n : ℕ) : Type 0 where
  pub long : length ns ≡ s
  pub equal : Common ns n

-- the failed node f, its helpers hs and their counts ns, all n; the output o is of the right length
pub record Asked (c : Code) (f : ℕ) (hs ns : List ℕ) (n : ℕ) (o : List ℕ) : Type 0 where
  pub from : 1 ≤ f
  pub to : f ≤ c.n
  pub helpers : Chosen c.n c.d hs
  pub other : Among (λ h. f ≡ h) hs → ⊥
  pub counts : Counts ns c.d n
  pub room : length o ≡ alpha c

abbrev pub Demand2-rebuild : (Code → ℕ → List ℕ → List ℕ → List ℕ → List ℕ → Told) → (Code → ℕ → List ℕ → List ℕ → List ℕ → List ℕ → List ℕ) → Type 0
Demand2-rebuild tells leaves =
    (c : Code) → Rules c → (m : List ℕ) (f : ℕ) (hs ns : List ℕ) (n : ℕ) (o : List ℕ) → Asked c f hs ns n o
    → (tells c f hs (symbols_for c f hs m) ns o ≡ done n) × (leaves c f hs (symbols_for c f hs m) ns o ≡ share c f m)

-- the nodes vs and their shares' counts ns, all n; the output o is of the right length
pub record Gathers (c : Code) (vs ns : List ℕ) (n : ℕ) (o : List ℕ) : Type 0 where
  pub nodes : Chosen c.n c.k vs
  pub counts : Counts ns c.k n
  pub room : length o ≡ bytes c

abbrev pub Demand2-collect : (Code → List ℕ → List ℕ → List ℕ → List ℕ → Told) → (Code → List ℕ → List ℕ → List ℕ → List ℕ → List ℕ) → Type 0
Demand2-collect tells leaves =
    (c : Code) → Rules c → (m : List ℕ) → Message (bytes c) m → (vs ns : List ℕ) (n : ℕ) (o : List ℕ) → Gathers c vs ns n o
    → (tells c vs ns (shares_of c vs m) o ≡ done n) × (leaves c vs ns (shares_of c vs m) o ≡ m)

abbrev pub Demand2-fits : (Code → List ℕ → List ℕ → List ℕ → List ℕ → List ℕ) → Type 0
Demand2-fits leaves =
    (c : Code) → Rules c → c.kind ≡ 2 → (s : List ℕ) → Message (c.k * alpha c) s → (vs ns : List ℕ) (n : ℕ) (o : List ℕ) → Gathers c vs ns n o
    → shares_of c vs (leaves c vs ns s o) ≡ s
