-- Document 01's rules for a code, one by one. A code is accepted exactly when they hold (demand1-judge).
--   Known kind        the kind is 1 or 2
--   Sized c           n, k and d are within the kind's rule
--   Rules c           the rules of the code c
--   Chosen n s vs     vs is a list of s different nodes, each from 1 to n
-- Assumes nothing.
use Rattle.std.specs.Prelude.{◌≡◌, ◌⊎◌, ◌≢◌, List, ℕ, ◌*◌, ◌-◌, ◌<◌, ◌≤◌, get_or, length}
use Rattle.codes.specs.Sizes.{none}
use Rattle.codes.specs.Judge.{mark}
use Rattle.codes.specs.declared.Code.{Code}

abbrev pub Known : ℕ → Type 0
Known kind = (kind ≡ 1) ⊎ (kind ≡ 2)

pub record Sized (c : Code) : Type 0 where
  pub fewest : 2 ≤ c.n
  pub most : c.n ≤ 32
  pub least : 1 ≤ c.k
  pub order : c.k ≤ c.d
  pub under : c.d ≤ c.n - 1
  pub second : c.kind ≡ 2 → (2 ≤ c.k) × (c.d ≡ 2 * c.k - 2)

pub record Rules (c : Code) : Type 0 where
  pub kinds : Known c.kind
  pub fewest : 2 ≤ c.n
  pub most : c.n ≤ 32
  pub least : 1 ≤ c.k
  pub order : c.k ≤ c.d
  pub under : c.d ≤ c.n - 1
  pub second : c.kind ≡ 2 → (2 ≤ c.k) × (c.d ≡ 2 * c.k - 2)
  -- kind 1: all points distinct; kind 2: all powers x^(k-1) distinct
  pub apart : (i j : ℕ) → i < j → j < c.n → mark c (get_or c.points i none).0 ≢ mark c (get_or c.points j none).0
  pub unused : (i : ℕ) → c.n ≤ i → i < 32 → (get_or c.points i none).0 ≡ 0

pub record Chosen (n s : ℕ) (vs : List ℕ) : Type 0 where
  pub long : length vs ≡ s
  pub from : (t : ℕ) → t < s → 1 ≤ get_or vs t 0
  pub to : (t : ℕ) → t < s → get_or vs t 0 ≤ n
  pub differ : (i j : ℕ) → i < j → j < s → get_or vs i 0 ≢ get_or vs j 0
