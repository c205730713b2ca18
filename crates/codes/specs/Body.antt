-- A code as its C record's body has it: kind, n, k, d and 32 points. A byte past the end counts 0.
--   symbols_at n s at     the n symbols of s from the place at on
--   code_at s at          the code whose body stands at the place at
-- Assumes nothing.
use Rattle.std.specs.Prelude.{List, [], ◌∷◌, ℕ, zero, suc, ◌+◌, get_or}
use Rattle.field.specs.declared.Symbol.{Symbol}
use Rattle.codes.specs.declared.Code.{Code}

unfoldable pub symbols_at : ℕ → List ℕ → ℕ → List Symbol
symbols_at zero s at = []
symbols_at (suc n) s at = record { 0 = get_or s at 0 } ∷ symbols_at n s (suc at)

unfoldable pub code_at : List ℕ → ℕ → Code
code_at s at =
    record {
      kind = get_or s at 0;
      n = get_or s (at + 1) 0;
      k = get_or s (at + 2) 0;
      d = get_or s (at + 3) 0;
      points = symbols_at 32 s (at + 4);
    }
