-- The laws of the inverse and the quotient, and what follows: a factor that is not 0 cancels, and no product of others is 0.
-- Assumes nothing.
use mathlib.Core.Path.{◌≡◌, ◌∙◌, sym, ap}
use mathlib.Core.Logic.{◌≢◌}
use Prim.Native.Nat.{ℕ, ◌<◌}
use native.Mathlib.Omega.{arith}
use Rattle.field.specs.Field.{mul, inverse, quotient}
use Rattle.field.proofs.Mul.{mul-lt, mul_comm, mul_assoc, zero-times, times_zero, times-one}
use Rattle.field.proofs.Pow.{pow-lt, pow-suc, pow-order, zero-pow}

pub inverse-lt : (b : ℕ) → inverse b < 256
unfolding inverse
inverse-lt b = pow-lt b 254

pub inverse-zero : inverse 0 ≡ 0
unfolding inverse
inverse-zero = zero-pow 254 (omega arith)

pub mul-inverse : {a : ℕ} → a < 256 → a ≢ 0 → mul a (inverse a) ≡ 1
unfolding inverse
mul-inverse {a} h n = sym (pow-suc a 254) ∙ pow-order h n

pub quotient-lt : (a b : ℕ) → quotient a b < 256
unfolding quotient
quotient-lt a b = mul-lt a (inverse b)

pub quotient-zero : (a : ℕ) → quotient a 0 ≡ 0
unfolding quotient
quotient-zero a = ap (mul a) inverse-zero ∙ times_zero a

pub zero-quotient : (b : ℕ) → quotient 0 b ≡ 0
unfolding quotient
zero-quotient b = zero-times (inverse b)

pub quotient-times : {a b : ℕ} → a < 256 → b < 256 → b ≢ 0 → mul (quotient a b) b ≡ a
unfolding quotient
quotient-times {a} {b} ha hb n =
    mul_assoc a (inverse b) b ∙ ap (mul a) (mul_comm (inverse b) b ∙ mul-inverse hb n) ∙ times-one ha

-- what gives a with b is the quotient, however it was found
pub quotient-only : {q b : ℕ} → q < 256 → b < 256 → b ≢ 0 → quotient (mul q b) b ≡ q
unfolding quotient
quotient-only {q} {b} hq hb n = mul_assoc q b (inverse b) ∙ ap (mul q) (mul-inverse hb n) ∙ times-one hq

pub mul-cancel : {a b c : ℕ} → a < 256 → b < 256 → c < 256 → a ≢ 0 → mul a b ≡ mul a c → b ≡ c
mul-cancel {a} {b} {c} ha hb hc n e = sym (back b hb) ∙ ap (λ (x : ℕ). quotient x a) e ∙ back c hc
  where
    back : (x : ℕ) → x < 256 → quotient (mul a x) a ≡ x
    back x h = ap (λ (y : ℕ). quotient y a) (mul_comm a x) ∙ quotient-only h ha n

pub mul-nonzero : {a b : ℕ} → a < 256 → b < 256 → a ≢ 0 → b ≢ 0 → mul a b ≢ 0
mul-nonzero {a} {b} ha hb n m e = m (mul-cancel ha hb (omega arith) n (e ∙ sym (times_zero a)))
