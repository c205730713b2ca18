-- The laws of powers. The powers of 2 run through all symbols but 0, once each below 255, and then repeat.
-- Logged a: a is a power of 2, below the power 255.
-- Assumes nothing.
use mathlib.Core.Path.{◌≡◌, ◌∙◌, refl, sym, ap}
use mathlib.Core.Logic.{◌≢◌}
use Prim.Native.Nat.{ℕ, zero, suc, ◌+◌, ◌*◌, ◌/◌, ◌%◌, ◌<◌}
use native.Mathlib.Nat.{add_comm, suc-add, zero-add, mul-zero, mul-suc, not-suc-le-zero, pos_of_ne-zero, div-add-mod'}
use native.Mathlib.Omega.{arith}
use lib.ListN.{get_or}
use Rattle.field.specs.Field.{double, mul, pow}
use Rattle.field.specs.Tables.{powers, logs}
use Rattle.field.proofs.Shifted.{raise}
use Rattle.field.proofs.Powers.{powers-at, raise-255, log-lt, power-log, log-power}
use Rattle.field.proofs.Mul.{mul-lt, mul_assoc, zero-times, one-times, two-times}

-- ---- of any number

pub pow-zero : (x : ℕ) → pow x 0 ≡ 1
unfolding pow
pow-zero x = refl

pub pow-suc : (x n : ℕ) → pow x (suc n) ≡ mul x (pow x n)
unfolding pow
pow-suc x n = refl

pub pow-lt : (x n : ℕ) → pow x n < 256
unfolding pow
pow-lt x zero = omega arith
pow-lt x (suc n) = mul-lt x (pow x n)

pub zero-pow : (n : ℕ) → 0 < n → pow 0 n ≡ 0
unfolding pow
zero-pow zero h = absurd (not-suc-le-zero h)
zero-pow (suc n) h = zero-times (pow 0 n)

pub pow-add : (x m n : ℕ) → pow x (m + n) ≡ mul (pow x m) (pow x n)
unfolding pow
pow-add x zero n = ap (pow x) (zero-add n) ∙ sym (one-times (pow-lt x n))
pow-add x (suc m) n = ap (pow x) (suc-add m n) ∙ ap (mul x) (pow-add x m n) ∙ sym (mul_assoc x (pow x m) (pow x n))

pub pow-mul : (x m n : ℕ) → pow x (m * n) ≡ pow (pow x m) n
unfolding pow
pow-mul x m zero = ap (pow x) (mul-zero m)
pow-mul x m (suc n) =
    ap (pow x) (mul-suc m n ∙ add_comm (m * n) m) ∙ pow-add x m (m * n) ∙ ap (mul (pow x m)) (pow-mul x m n)

pub one-pow : (n : ℕ) → pow 1 n ≡ 1
unfolding pow
one-pow zero = refl
one-pow (suc n) = one-times (pow-lt 1 n) ∙ one-pow n

-- a power comes round where some power is 1
pub pow-round : (x m n : ℕ) → pow x m ≡ 1 → pow x (n % m) ≡ pow x n
pow-round x m n e =
    sym (one-times (pow-lt x (n % m)))
    ∙ ap (λ (y : ℕ). mul y (pow x (n % m))) (sym (one-pow (n / m)) ∙ ap (λ (y : ℕ). pow y (n / m)) (sym e) ∙ sym (pow-mul x m (n / m)) ∙ ap (pow x) (native.Mathlib.Nat.mul_comm m (n / m)))
    ∙ sym (pow-add x (n / m * m) (n % m)) ∙ ap (pow x) (div-add-mod' n m)

-- ---- of 2

pow-raise : (i : ℕ) → pow 2 i ≡ raise i 1
unfolding pow raise
pow-raise zero = refl
pow-raise (suc i) = two-times (pow-lt 2 i) ∙ ap double (pow-raise i)

pub generator-order : pow 2 255 ≡ 1
generator-order = pow-raise 255 ∙ raise-255

pub generator-mod : (n : ℕ) → pow 2 (n % 255) ≡ pow 2 n
generator-mod n = pow-round 2 255 n generator-order

-- the tables hold the powers of 2 and their exponents
pub generator-powers : (i : ℕ) → i < 255 → get_or powers i 0 ≡ pow 2 i
generator-powers i h = powers-at i h ∙ sym (pow-raise i)

pub generator-logs : (a : ℕ) → 0 < a → a < 256 → pow 2 (get_or logs a 0) ≡ a
generator-logs a p h = sym (generator-powers (get_or logs a 0) (log-lt a h)) ∙ power-log a p h

pub generator-once : (i j : ℕ) → i < 255 → j < 255 → pow 2 i ≡ pow 2 j → i ≡ j
generator-once i j hi hj e = sym (back i hi) ∙ ap (λ (x : ℕ). get_or logs x 0) e ∙ back j hj
  where
    back : (k : ℕ) → k < 255 → get_or logs (pow 2 k) 0 ≡ k
    back k h = ap (λ (x : ℕ). get_or logs x 0) (sym (generator-powers k h)) ∙ log-power k h

pub generator-round : (i : ℕ) → pow (pow 2 i) 255 ≡ 1
generator-round i =
    sym (pow-mul 2 i 255) ∙ ap (pow 2) (native.Mathlib.Nat.mul_comm i 255) ∙ pow-mul 2 255 i ∙ ap (λ (x : ℕ). pow x i) generator-order
    ∙ one-pow i

pub generator-nonzero : (i : ℕ) → pow 2 i ≢ 0
generator-nonzero i e =
    let z : ◌≡◌ {A = ℕ} 0 1 = sym (zero-pow 255 (omega arith)) ∙ ap (λ (x : ℕ). pow x 255) (sym e) ∙ generator-round i in
    omega arith

abbrev pub Logged : ℕ → Type 0
Logged a = (i : ℕ) × (i < 255) × (a ≡ pow 2 i)

pub generator-all : {a : ℕ} → a < 256 → a ≢ 0 → Logged a
generator-all {a} h n = (get_or logs a 0, log-lt a h, sym (generator-logs a (pos_of_ne-zero n) h))

-- ---- of a symbol that is not 0

pub pow-order : {a : ℕ} → a < 256 → a ≢ 0 → pow a 255 ≡ 1
pow-order h n = ap (λ (x : ℕ). pow x 255) (generator-all h n).2 ∙ generator-round (generator-all h n).0
