-- The general form of the construction: where a message's symbols stand in its matrix, for every kind at once.
-- The numbers are k, alpha and h = d - alpha, as in algebra's Collect; B is the message's length.
--   Stands .. b q i j    the symbol b is one of the message, and its lane, row and column are q, i and j
--   Layout .. idx lane row col     idx r j is the message's symbol at row r and column j, and B or more where none stands; lane, row and col lead back
--   entry B m n          the symbol n of the message m, and 𝟘 from B on
--   filled B idx m       the matrix that the message m fills
--   reading α lane row col W     the message read off the matrix W, each symbol at its upper place
--   moved α lane row col p b     by how much each symbol of the row p times the matrix moves for a change 𝟙 of the message's symbol b
--   mbr_index, msr_index   where the symbols of kinds 1 and 2 stand;   idx_of c    those of the code c
-- Assumes nothing.
use Rattle.std.specs.Prelude.{◌≡◌, cond, ◌⊎◌, ℕ, ◌+◌, ◌*◌, ◌-◌, ◌<◌, ◌≤◌, eqb, ltb}
use Rattle.algebra.specs.Symbol.{𝟘}
use Rattle.algebra.specs.Sums.{Vec, Grid, pick}
use Rattle.codes.specs.Places.{start, triangle}
use Rattle.codes.specs.Sizes.{bytes}
use Rattle.codes.specs.declared.Code.{Code}

pub record Stands (B : ℕ) (lane row col : ℕ → ℕ) (b q i j : ℕ) : Type 0 where
  pub within : b < B
  pub in_lane : lane b ≡ q
  pub in_row : row b ≡ i
  pub in_col : col b ≡ j

pub record Layout (k α h B : ℕ) (idx : ℕ → ℕ → ℕ) (lane row col : ℕ → ℕ) : Type 0 where
  pub room : h ≤ α
  -- the first alpha rows are symmetric, and so are the first h columns of the others
  pub top : (i j : ℕ) → i < α → j < α → idx i j ≡ idx j i
  pub under : (i j : ℕ) → i < h → j < h → idx (α + i) j ≡ idx (α + j) i
  -- where no symbol stands
  pub corner : (i j : ℕ) → k ≤ i → i < α → k ≤ j → j < α → B ≤ idx i j
  pub beside : (i j : ℕ) → i < h → h ≤ j → j < α → B ≤ idx (α + i) j
  -- where each symbol stands, in the upper half of its lane
  pub lies : (b : ℕ) → b < B → ((lane b ≡ 0) × (row b < k) × (col b < α)) ⊎ ((lane b ≡ 1) × (col b < h))
  pub order : (b : ℕ) → b < B → row b ≤ col b
  pub back : (b : ℕ) → b < B → idx (lane b * α + row b) (col b) ≡ b
  -- and no other stands there
  pub upper : (i j : ℕ) → i ≤ j → i < k → j < α → Stands B lane row col (idx i j) 0 i j
  pub lower : (i j : ℕ) → i ≤ j → j < h → Stands B lane row col (idx (α + i) j) 1 i j

abbrev pub entry : ℕ → Vec → Vec
entry B m n = pick n B (m n) 𝟘

abbrev pub filled : ℕ → (ℕ → ℕ → ℕ) → Vec → Grid
filled B idx m r j = entry B m (idx r j)

abbrev pub reading : ℕ → (ℕ → ℕ) → (ℕ → ℕ) → (ℕ → ℕ) → Grid → Vec
reading α lane row col W b = W (lane b * α + row b) (col b)

unfoldable pub moved : ℕ → (ℕ → ℕ) → (ℕ → ℕ) → (ℕ → ℕ) → Vec → ℕ → Vec
moved α lane row col p b j =
    cond (eqb j (col b)) (p (lane b * α + row b)) (cond (eqb j (row b)) (p (lane b * α + col b)) 𝟘)

unfoldable pub mbr_index : ℕ → ℕ → ℕ → ℕ → ℕ → ℕ
mbr_index k d B i j =
    cond (ltb i k) (cond (ltb j k) (triangle k i j) (t i (j - k))) (cond (ltb j k) (t j (i - k)) B)
  where
    t : ℕ → ℕ → ℕ
    t i j = start k k + (i * (d - k) + j)

unfoldable pub msr_index : ℕ → ℕ → ℕ → ℕ
msr_index w i j = cond (ltb i w) (triangle w i j) (start w w + triangle w (i - w) j)

unfoldable pub idx_of : Code → ℕ → ℕ → ℕ
idx_of c i j = cond (eqb c.kind 1) (mbr_index c.k c.d (bytes c) i j) (msr_index (c.k - 1) i j)
