-- What the tables compute: products, quotients and powers by logarithms, and by the one table that loops lend.
-- Assumes nothing.
use mathlib.Core.Path.{◌≡◌, ◌∙◌, refl, sym, ap, ap₂}
use mathlib.Core.Logic.{◌≢◌}
use Prim.Native.Nat.{ℕ, zero, suc, ◌+◌, ◌-◌, ◌*◌, ◌%◌, ◌<◌, ◌≤◌}
use native.Mathlib.Nat.{mod-lt, zero-lt-suc, sub-add_cancel}
use native.Mathlib.Omega.{arith}
use lib.ListN.{get_or}
use Rattle.field.specs.Field.{mul, pow, quotient}
use Rattle.field.specs.Tables.{powers, logs, tables, unless_zero, by_table, over_table}
use Rattle.field.proofs.Table.{columns-at}
use Rattle.field.proofs.Powers.{log-lt}
use Rattle.field.proofs.Mul.{zero-times, times_zero, times-one}
use Rattle.field.proofs.Pow.{pow-zero, zero-pow, pow-lt, pow-add, pow-mul, pow-round, generator-order, generator-mod, generator-powers, generator-logs, generator-round, generator-nonzero}
use Rattle.field.proofs.Quotient.{quotient-zero, zero-quotient, quotient-only}

-- ---- by logarithms: i and j are those of a and b

module _ {a b : ℕ} (i j : ℕ) (p : pow 2 i ≡ a) (q : pow 2 j ≡ b) where
  pub mul-logs : pow 2 (i + j) ≡ mul a b
  mul-logs = pow-add 2 i j ∙ ap₂ mul p q

  pub quotient-logs : j ≤ 255 → pow 2 (i + 255 - j) ≡ quotient a b
  quotient-logs h =
      sym (quotient-only (pow-lt 2 (i + 255 - j)) (pow-lt 2 j) (generator-nonzero j)) ∙ ap₂ quotient whole q
    where
      whole : mul (pow 2 (i + 255 - j)) (pow 2 j) ≡ a
      whole =
          sym (pow-add 2 (i + 255 - j) j) ∙ ap (pow 2) (sub-add_cancel (omega arith)) ∙ pow-add 2 i 255
          ∙ ap (mul (pow 2 i)) generator-order ∙ times-one (pow-lt 2 i) ∙ p

pub pow-logs : {a : ℕ} (i n : ℕ) → pow 2 i ≡ a → pow 2 (i * (n % 255)) ≡ pow a n
pow-logs i n p = pow-mul 2 i (n % 255) ∙ pow-round (pow 2 i) 255 n (generator-round i) ∙ ap (λ (x : ℕ). pow x n) p

-- ---- by the one table

pub tables-low : (k : ℕ) → k < 256 → get_or tables k 0 ≡ get_or logs k 0
unfolding tables
tables-low = columns-at (λ k. get_or tables k 0) (λ k. get_or logs k 0) 256 refl

pub tables-high : (i : ℕ) → i < 512 → get_or tables (256 + i) 0 ≡ get_or powers (i % 255) 0
unfolding tables
tables-high = columns-at (λ i. get_or tables (256 + i) 0) (λ i. get_or powers (i % 255) 0) 512 refl

pub tables-power : (i : ℕ) → i < 512 → get_or tables (256 + i) 0 ≡ pow 2 i
tables-power i h = tables-high i h ∙ generator-powers (i % 255) (mod-lt i (zero-lt-suc 254)) ∙ generator-mod i

-- a look that fits f where neither number is 0 fits it everywhere
unless-is : (f : ℕ → ℕ → ℕ) → ((b : ℕ) → f 0 b ≡ 0) → ((a : ℕ) → f a 0 ≡ 0) → (a b v : ℕ) → (0 < a → 0 < b → v ≡ f a b) → unless_zero a b v ≡ f a b
unfolding unless_zero
unless-is f l r zero b v e = sym (l b)
unless-is f l r (suc a) zero v e = sym (r (suc a))
unless-is f l r (suc a) (suc b) v e = e (zero-lt-suc a) (zero-lt-suc b)

module _ (a b : ℕ) (ha : a < 256) (hb : b < 256) where
  pub by-tables : by_table tables a b ≡ mul a b
  unfolding by_table
  by-tables = unless-is mul zero-times times_zero a b (get_or tables (256 + (get_or tables a 0 + get_or tables b 0)) 0)
      (λ p q. ap₂ (λ (x y : ℕ). get_or tables (256 + (x + y)) 0) (tables-low a ha) (tables-low b hb)
      ∙ tables-power (get_or logs a 0 + get_or logs b 0) (omega (arith, log-lt a ha, log-lt b hb))
      ∙ mul-logs (get_or logs a 0) (get_or logs b 0) (generator-logs a p ha) (generator-logs b q hb))

  pub over-tables : over_table tables a b ≡ quotient a b
  unfolding over_table
  over-tables = unless-is quotient zero-quotient quotient-zero a b (get_or tables (256 + (get_or tables a 0 + 255 - get_or tables b 0)) 0)
      (λ p q. ap₂ (λ (x y : ℕ). get_or tables (256 + (x + 255 - y)) 0) (tables-low a ha) (tables-low b hb)
      ∙ tables-power (get_or logs a 0 + 255 - get_or logs b 0) (omega (arith, log-lt a ha, log-lt b hb))
      ∙ quotient-logs (get_or logs a 0) (get_or logs b 0) (generator-logs a p ha) (generator-logs b q hb) (omega (arith, log-lt b hb)))

-- ---- by any table: 0 where a number is 0, else what stands at the place

pub unless-left : (b v : ℕ) → unless_zero 0 b v ≡ 0
unfolding unless_zero
unless-left b v = refl

pub unless-right : (a v : ℕ) → unless_zero a 0 v ≡ 0
unfolding unless_zero
unless-right zero v = refl
unless-right (suc a) v = refl

pub unless-neither : (a b v : ℕ) → a ≢ 0 → b ≢ 0 → unless_zero a b v ≡ v
unfolding unless_zero
unless-neither zero b v n m = absurd (n refl)
unless-neither (suc a) zero v n m = absurd (m refl)
unless-neither (suc a) (suc b) v n m = refl

-- ---- what a function that looks rests on: by logarithms, by any table, by the right one

pub ruleset by_logarithms = (zero-times, times_zero, mul-logs, zero-quotient, quotient-zero, quotient-logs, pow-zero, zero-pow, pow-logs, generator-mod)

pub ruleset by_a_table = (unless-left, unless-right, unless-neither)

pub ruleset by_the_table = (by-tables, over-tables)
