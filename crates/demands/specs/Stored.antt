-- Demand 2 on all operations on a stripe, the encoder and the helper included: what is encoded can be collected and rebuilt.
--   Stripes                 the operations: what each tells, and what it leaves in its output
--   ours                    those that the promises cite
--   Rooms c r               r lends an output of the right length for each node's share
--   stored O c m r v        the share that the encoder leaves for the node v of the message m
--   gathered g vs           the runs g v of the nodes vs, end to end
--   sent O c m r f hs       the symbols that the helpers hs tell for the failed node f, each of its own share
--   Encodes, Collects, Helps, Rebuilds, Publishes      the parts of the demand
--   Demand2                 the demand, of any operations
-- Collects speaks of the encoder and the collector alone, and of no published code: it is what wrong ones of them fail by.
-- Assumes nothing.
use Rattle.std.specs.Prelude.{◌≡◌, ◌≢◌, List, [], ◌∷◌, ◌++◌, map, ℕ, ◌≤◌, length}
use Rattle.codes.specs.Told.{Told, done}
use Rattle.codes.specs.Sizes.{alpha, bytes}
use Rattle.codes.specs.Share.{share, symbol_for}
use Rattle.codes.specs.Rules.{Rules}
use Rattle.codes.specs.declared.Code.{Code}
use Rattle.stripes.specs.Encode.{encoded, encode_leaves}
use Rattle.stripes.specs.Help.{helped}
use Rattle.rebuilds.specs.Rebuild.{rebuild_told, rebuild_leaves}
use Rattle.collects.specs.Collect.{collect_told, collect_leaves}
use Rattle.demands.specs.Collect.{Message}
use Rattle.demands.specs.Honest.{Asked, Gathers}

-- ---- the operations

pub record Stripes : Type 0 where
  -- the code, the node, the message and the output
  pub encode_tells : Code → ℕ → List ℕ → List ℕ → Told
  pub encode_gives : Code → ℕ → List ℕ → List ℕ → List ℕ
  -- the code, the helper, the failed node and the helper's share
  pub help_tells : Code → ℕ → ℕ → List ℕ → Told
  -- the code, the failed node, the helpers' nodes, symbols and counts, and the output
  pub rebuild_tells : Code → ℕ → List ℕ → List ℕ → List ℕ → List ℕ → Told
  pub rebuild_gives : Code → ℕ → List ℕ → List ℕ → List ℕ → List ℕ → List ℕ
  -- the code, the nodes and counts of the shares, their run and the output
  pub collect_tells : Code → List ℕ → List ℕ → List ℕ → List ℕ → Told
  pub collect_gives : Code → List ℕ → List ℕ → List ℕ → List ℕ → List ℕ

abbrev pub ours : Stripes
ours = record {
  encode_tells = encoded;
  encode_gives = encode_leaves;
  help_tells = helped;
  rebuild_tells = rebuild_told;
  rebuild_gives = rebuild_leaves;
  collect_tells = collect_told;
  collect_gives = collect_leaves;
}

-- ---- what is stored and sent

abbrev pub Rooms : Code → (ℕ → List ℕ) → Type 0
Rooms c r = (v : ℕ) → length (r v) ≡ alpha c

abbrev pub stored : Stripes → Code → List ℕ → (ℕ → List ℕ) → ℕ → List ℕ
stored O c m r v = O.encode_gives c v m (r v)

unfoldable pub gathered : (ℕ → List ℕ) → List ℕ → List ℕ
gathered g [] = []
gathered g (v ∷ vs) = g v ++ gathered g vs

abbrev pub sent : Stripes → Code → List ℕ → (ℕ → List ℕ) → ℕ → List ℕ → List ℕ
sent O c m r f hs = map (λ (h : ℕ). (O.help_tells c h f (stored O c m r h)).value) hs

-- ---- the demand

-- a message of an accepted code, and an output for each node
pub record Given (c : Code) (m : List ℕ) (r : ℕ → List ℕ) : Type 0 where
  pub rules : Rules c
  pub message : Message (bytes c) m
  pub rooms : Rooms c r

abbrev pub Encodes : Stripes → Type 0
Encodes O = (c : Code) (m : List ℕ) (r : ℕ → List ℕ) → Given c m r → (v : ℕ) → 1 ≤ v → v ≤ c.n → O.encode_tells c v m (r v) ≡ done 0

-- any k different nodes in any order, all at one count: the message is collected
abbrev pub Collects : Stripes → Type 0
Collects O =
    (c : Code) (m : List ℕ) (r : ℕ → List ℕ) → Given c m r → (vs ns : List ℕ) (n : ℕ) (o : List ℕ) → Gathers c vs ns n o
    → (O.collect_tells c vs ns (gathered (stored O c m r) vs) o ≡ done n) × (O.collect_gives c vs ns (gathered (stored O c m r) vs) o ≡ m)

-- a helper tells its symbol, the published one
abbrev pub Helps : Stripes → Type 0
Helps O =
    (c : Code) (m : List ℕ) (r : ℕ → List ℕ) → Given c m r → (h f : ℕ) → 1 ≤ h → h ≤ c.n → 1 ≤ f → f ≤ c.n → h ≢ f
    → O.help_tells c h f (stored O c m r h) ≡ done (symbol_for c f (share c h m)).val

-- any d different nodes other than f, all at one count: the share that the encoder leaves for f is rebuilt
abbrev pub Rebuilds : Stripes → Type 0
Rebuilds O =
    (c : Code) (m : List ℕ) (r : ℕ → List ℕ) → Given c m r → (f : ℕ) (hs ns : List ℕ) (n : ℕ) (o : List ℕ) → Asked c f hs ns n o
    → (O.rebuild_tells c f hs (sent O c m r f hs) ns o ≡ done n) × (O.rebuild_gives c f hs (sent O c m r f hs) ns o ≡ stored O c m r f)

-- the share is that of the published code
abbrev pub Publishes : Stripes → Type 0
Publishes O = (c : Code) (m : List ℕ) (r : ℕ → List ℕ) → Given c m r → (v : ℕ) → 1 ≤ v → v ≤ c.n → stored O c m r v ≡ share c v m

pub record Demand2 (O : Stripes) : Type 0 where
  pub encodes : Encodes O
  pub collects : Collects O
  pub helps : Helps O
  pub rebuilds : Rebuilds O
  pub publishes : Publishes O
