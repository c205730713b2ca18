-- The rules of the two tables, each one equation of lists over the whole table, carried to each place.
-- The table of powers, doubled, is itself moved up by one, with 1 at its end: so it walks through 1 doubled again and again, and comes round.
-- Assumes nothing.
use mathlib.Core.Path.{◌≡◌, ◌∙◌, refl, sym, ap, subst}
use mathlib.Core.List.{[], ◌∷◌, ◌++◌}
use Prim.Native.Nat.{ℕ, zero, suc, ◌%◌, ◌<◌}
use native.Mathlib.Nat.{mod-lt, zero-lt-suc, le_of_suc-le-suc, not-suc-le-zero}
use native.Mathlib.Omega.{arith}
use lib.ListN.{get_or, drop}
use Rattle.field.specs.Field.{double}
use Rattle.field.specs.Tables.{powers, logs}
use Rattle.field.proofs.Table.{table_at, columns-at}
use Rattle.field.proofs.Shifted.{raise}

-- ---- the powers

next : (k : ℕ) → k < 255 → get_or (drop 1 powers ++ (1 ∷ [])) k 0 ≡ double (get_or powers k 0)
unfolding double
next = table_at (drop 1 powers ++ (1 ∷ [])) (λ k. double (get_or powers k 0)) 255 refl

-- up to the last the next entry stands in the table itself
inner : (k : ℕ) → k < 254 → get_or (drop 1 powers ++ (1 ∷ [])) k 0 ≡ get_or powers (suc k) 0
inner = columns-at (λ k. get_or (drop 1 powers ++ (1 ∷ [])) k 0) (λ k. get_or powers (suc k) 0) 254 refl

pub powers-at : (k : ℕ) → k < 255 → get_or powers k 0 ≡ raise k 1
unfolding raise
powers-at zero h = refl
powers-at (suc k) h = sym (inner k (le_of_suc-le-suc h)) ∙ next k (omega arith) ∙ ap double (powers-at k (omega arith))

pub raise-255 : raise 255 1 ≡ 1
unfolding raise
raise-255 = ap double (sym (powers-at 254 (omega arith))) ∙ sym (next 254 (omega arith))

-- ---- the logarithms

pub log-lt : (a : ℕ) → a < 256 → get_or logs a 0 < 255
log-lt a h =
    subst (λ (x : ℕ). x < 255) (sym (table_at logs (λ k. get_or logs k 0 % 255) 256 refl a h)) (mod-lt (get_or logs a 0) (zero-lt-suc 254))

-- the power at the logarithm of a symbol that is not 0 is the symbol
pub power-log : (a : ℕ) → 0 < a → a < 256 → get_or powers (get_or logs a 0) 0 ≡ a
power-log zero p h = absurd (not-suc-le-zero p)
power-log (suc k) p h = columns-at (λ k. get_or powers (get_or logs (suc k) 0) 0) suc 255 refl k (le_of_suc-le-suc h)

-- the logarithm of a power is its place, so the powers differ
pub log-power : (k : ℕ) → k < 255 → get_or logs (get_or powers k 0) 0 ≡ k
log-power = columns-at (λ k. get_or logs (get_or powers k 0) 0) (λ k. k) 255 refl
