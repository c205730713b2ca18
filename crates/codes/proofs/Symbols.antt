-- The symbols read off a run of bytes.
--   symbols-length     they are as many as were asked for
--   symbols-byte       the symbol j is the byte j after the place
--   symbols-are        a list with those bytes is that of the symbols
-- Assumes nothing.
use mathlib.Core.Path.{◌≡◌, ◌∙◌, refl, sym, ap}
use mathlib.Core.List.{List}
use Prim.Native.Nat.{ℕ, zero, suc, ◌+◌, ◌<◌}
use native.Mathlib.Nat.{not-suc-le-zero, le_of_suc-le-suc}
use native.Mathlib.Omega.{arith}
use lib.ListN.{length, get_or}
use lib.Seq.{ext_get_or}
use Rattle.field.specs.declared.Symbol.{Symbol}
use Rattle.codes.specs.Sizes.{none}
use Rattle.codes.specs.Body.{symbols_at}

pub symbols-length : (n : ℕ) (s : List ℕ) (at : ℕ) → length (symbols_at n s at) ≡ n
unfolding symbols_at
symbols-length zero s at = refl
symbols-length (suc n) s at = ap suc (symbols-length n s (suc at))

pub symbols-byte : (n : ℕ) (s : List ℕ) (at j : ℕ) → j < n → (get_or (symbols_at n s at) j none).0 ≡ get_or s (at + j) 0
unfolding symbols_at
symbols-byte zero s at j h = absurd (not-suc-le-zero h)
symbols-byte (suc n) s at zero h = ap (λ (i : ℕ). get_or s i 0) (omega arith)
symbols-byte (suc n) s at (suc j) h = symbols-byte n s (suc at) j (le_of_suc-le-suc h) ∙ ap (λ (i : ℕ). get_or s i 0) (omega arith)

pub symbols-are : (n : ℕ) (s : List ℕ) (at : ℕ) (l : List Symbol) → length l ≡ n
    → ((j : ℕ) → j < n → (get_or l j none).0 ≡ get_or s (at + j) 0) → l ≡ symbols_at n s at
symbols-are n s at l e each =
    ext_get_or none l (symbols_at n s at) (e ∙ sym (symbols-length n s at))
    (λ j h. let g : j < n = omega arith in ap (λ (x : ℕ). record { 0 = x }) (each j g ∙ sym (symbols-byte n s at j g)))
