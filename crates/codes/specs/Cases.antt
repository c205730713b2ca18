-- Document 01's worked cases that carry a star: products, shares, helpers' symbols and slips, in one table with one statement.
--   Asked        what is asked: a product; the share of a node; the symbol for a failed node of a helper; a node's share after a slip
--   answer       what the definitions say;   cases    the table: what is asked, and what document 01 says
--   worked       the definitions say what document 01 says
-- Assumes nothing.
use Rattle.std.specs.Prelude.{◌≡◌, refl, List, [], ◌∷◌, map, ℕ}
use Rattle.field.specs.Field.{mul, shifted, double}
use Rattle.field.specs.declared.Symbol.{Symbol}
use Rattle.algebra.specs.Symbol.{symbol, ◌⊕◌, ◌⊗◌, 𝟘, 𝟙, pow}
use Rattle.algebra.specs.Sums.{sum}
use Rattle.algebra.specs.Bytes.{table}
use Rattle.codes.specs.Sizes.{alpha, point}
use Rattle.codes.specs.Places.{start, triangle}
use Rattle.codes.specs.Matrix.{mbr, msr, matrix}
use Rattle.codes.specs.Share.{share, symbol_for, changed}
use Rattle.codes.specs.declared.Code.{Code}

pub data Asked : Type 0 where
  product : ℕ → ℕ → Asked
  share_of : Code → List ℕ → ℕ → Asked
  helper_for : Code → List ℕ → ℕ → ℕ → Asked
  slipped : Code → List ℕ → ℕ → ℕ → ℕ → Asked

unfoldable pub answer : Asked → List ℕ
answer (product a b) = mul a b ∷ []
answer (share_of c m v) = share c v m
answer (helper_for c m f h) = (symbol_for c f (share c h m)).val ∷ []
answer (slipped c m v b δ) = share c v (changed m b δ)

pub record Case : Type 0 where
  pub asked : Asked
  pub told : List ℕ

infix 5 ◌⟶◌
abbrev ◌⟶◌ : Asked → List ℕ → Case
a ⟶ l = record { asked = a; told = l }

points : List ℕ → List Symbol
points = map (λ (x : ℕ). record { 0 = x })

code_a : Code
code_a = record { kind = 1; n = 4; k = 2; d = 3; points = points (1 ∷ 2 ∷ 3 ∷ 4 ∷ []) }

message_a : List ℕ
message_a = 1 ∷ 2 ∷ 3 ∷ 4 ∷ 5 ∷ []

code_b : Code
code_b = record { kind = 2; n = 5; k = 3; d = 4; points = points (0 ∷ 1 ∷ 2 ∷ 3 ∷ 4 ∷ []) }

message_b : List ℕ
message_b = 1 ∷ 2 ∷ 3 ∷ 4 ∷ 5 ∷ 6 ∷ []

smallest : Code
smallest = record { kind = 1; n = 2; k = 1; d = 1; points = points (0 ∷ 1 ∷ []) }

pub cases : List Case
cases =
    (product 2 128 ⟶ 29 ∷ [])
    ∷ (product 3 7 ⟶ 9 ∷ [])
    ∷ (product 16 16 ⟶ 29 ∷ [])
    ∷ (product 2 142 ⟶ 1 ∷ [])
    ∷ (product 0 255 ⟶ 0 ∷ [])
    ∷ (share_of code_a message_a 1 ⟶ 7 ∷ 4 ∷ 1 ∷ [])
    ∷ (share_of code_a message_a 2 ⟶ 21 ∷ 16 ∷ 14 ∷ [])
    ∷ (share_of code_a message_a 3 ⟶ 19 ∷ 22 ∷ 11 ∷ [])
    ∷ (share_of code_a message_a 4 ⟶ 73 ∷ 94 ∷ 16 ∷ [])
    ∷ (helper_for code_a message_a 1 2 ⟶ 11 ∷ [])
    ∷ (helper_for code_a message_a 1 3 ⟶ 14 ∷ [])
    ∷ (helper_for code_a message_a 1 4 ⟶ 7 ∷ [])
    ∷ (slipped code_a message_a 2 1 1 ⟶ 23 ∷ 17 ∷ 14 ∷ [])
    ∷ (slipped code_a message_a 2 3 1 ⟶ 17 ∷ 16 ∷ 15 ∷ [])
    ∷ (share_of code_b message_b 1 ⟶ 1 ∷ 2 ∷ [])
    ∷ (share_of code_b message_b 2 ⟶ 2 ∷ 2 ∷ [])
    ∷ (share_of code_b message_b 3 ⟶ 61 ∷ 32 ∷ [])
    ∷ (share_of code_b message_b 4 ⟶ 32 ∷ 52 ∷ [])
    ∷ (share_of code_b message_b 5 ⟶ 20 ∷ 195 ∷ [])
    ∷ (helper_for code_b message_b 1 2 ⟶ 2 ∷ [])
    ∷ (helper_for code_b message_b 1 3 ⟶ 61 ∷ [])
    ∷ (helper_for code_b message_b 1 4 ⟶ 32 ∷ [])
    ∷ (helper_for code_b message_b 1 5 ⟶ 20 ∷ [])
    ∷ (helper_for code_b message_b 2 1 ⟶ 3 ∷ [])
    ∷ (helper_for code_b message_b 2 3 ⟶ 29 ∷ [])
    ∷ (helper_for code_b message_b 2 4 ⟶ 20 ∷ [])
    ∷ (helper_for code_b message_b 2 5 ⟶ 215 ∷ [])
    ∷ (share_of smallest (9 ∷ []) 1 ⟶ 9 ∷ [])
    ∷ (share_of smallest (9 ∷ []) 2 ⟶ 9 ∷ [])
    ∷ []

pub worked : map (λ (c : Case). answer c.asked) cases ≡ map (λ (c : Case). c.told) cases
unfolding cases code_a message_a code_b message_b smallest points answer share symbol_for changed matrix msr mbr triangle start alpha point table sum symbol ◌⊕◌ ◌⊗◌ 𝟘 𝟙 pow mul shifted double
worked = refl
