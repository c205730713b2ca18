-- Laws of the sum, which is exclusive or. They are those that lib.Bits lacks: it has xor_comm, xor_self, xor-zero-l and xor-zero-r.
-- Assumes nothing.
use mathlib.Core.Path.{◌≡◌, refl, sym, ap, ◌∙◌}
use mathlib.Core.Logic.{◌⊎◌, inl, inr}
use Prim.Native.Nat.{ℕ, zero, suc, ◌+◌, ◌*◌, ◌/◌, ◌%◌, ◌<◌}
use native.Mathlib.Nat.{mod-lt, zero-lt-suc}
use native.Mathlib.Omega.{arith}
use lib.Arith.{bin_ind, digits_div, digits_mod}
use lib.Bits.{bit_xor, differ, xor_step, xor_comm, xor_self, xor_lt}

-- a number below 2 is 0 or 1
pub bit : {n : ℕ} → n < 2 → (n ≡ 0) ⊎ (n ≡ 1)
bit {n = zero} h = inl refl
bit {n = suc zero} h = inr refl
bit {n = suc (suc n)} h = absurd (omega arith)

-- the lowest digit of a number
pub odd : (n : ℕ) → (n % 2 ≡ 0) ⊎ (n % 2 ≡ 1)
odd n = bit (mod-lt n (zero-lt-suc 1))

differ-assoc : (x y z : ℕ) → (x ≡ 0) ⊎ (x ≡ 1) → (y ≡ 0) ⊎ (y ≡ 1) → (z ≡ 0) ⊎ (z ≡ 1)
    → differ (differ x y) z ≡ differ x (differ y z)
differ-assoc x y z (inl p) (inl q) (inl r) = rw (p, q, r)
differ-assoc x y z (inl p) (inl q) (inr r) = rw (p, q, r)
differ-assoc x y z (inl p) (inr q) (inl r) = rw (p, q, r)
differ-assoc x y z (inl p) (inr q) (inr r) = rw (p, q, r)
differ-assoc x y z (inr p) (inl q) (inl r) = rw (p, q, r)
differ-assoc x y z (inr p) (inl q) (inr r) = rw (p, q, r)
differ-assoc x y z (inr p) (inr q) (inl r) = rw (p, q, r)
differ-assoc x y z (inr p) (inr q) (inr r) = rw (p, q, r)

differ-bit : (x y : ℕ) → (x ≡ 0) ⊎ (x ≡ 1) → (y ≡ 0) ⊎ (y ≡ 1) → differ x y < 2
differ-bit x y (inl p) (inl q) = rw (p, q) (omega arith)
differ-bit x y (inl p) (inr q) = rw (p, q) (omega arith)
differ-bit x y (inr p) (inl q) = rw (p, q) (omega arith)
differ-bit x y (inr p) (inr q) = rw (p, q) (omega arith)

xor-half : (a b : ℕ) → bit_xor a b / 2 ≡ bit_xor (a / 2) (b / 2)
xor-half a b = ap (λ (x : ℕ). x / 2) (xor_step a b) ∙ digits_div (bit_xor (a / 2) (b / 2)) (differ-bit (a % 2) (b % 2) (odd a) (odd b))

xor-odd : (a b : ℕ) → bit_xor a b % 2 ≡ differ (a % 2) (b % 2)
xor-odd a b = ap (λ (x : ℕ). x % 2) (xor_step a b) ∙ digits_mod (bit_xor (a / 2) (b / 2)) (differ-bit (a % 2) (b % 2) (odd a) (odd b))

pub xor_assoc : (a b c : ℕ) → bit_xor (bit_xor a b) c ≡ bit_xor a (bit_xor b c)
xor_assoc a =
    bin_ind (λ (n : ℕ). (b c : ℕ) → bit_xor (bit_xor n b) c ≡ bit_xor n (bit_xor b c)) (λ b c. refl)
    (λ n ih b c. xor_step (bit_xor n b) c
    ∙ ap (λ (x : ℕ). bit_xor x (c / 2) * 2 + differ (bit_xor n b % 2) (c % 2)) (xor-half n b)
    ∙ ap (λ (x : ℕ). x * 2 + differ (bit_xor n b % 2) (c % 2)) (ih (b / 2) (c / 2))
    ∙ ap (λ (x : ℕ). bit_xor (n / 2) (bit_xor (b / 2) (c / 2)) * 2 + differ x (c % 2)) (xor-odd n b)
    ∙ ap (λ (x : ℕ). bit_xor (n / 2) (bit_xor (b / 2) (c / 2)) * 2 + x) (differ-assoc (n % 2) (b % 2) (c % 2) (odd n) (odd b) (odd c))
    ∙ sym (xor_step n (bit_xor b c)
    ∙ ap (λ (x : ℕ). bit_xor (n / 2) x * 2 + differ (n % 2) (bit_xor b c % 2)) (xor-half b c)
    ∙ ap (λ (x : ℕ). bit_xor (n / 2) (bit_xor (b / 2) (c / 2)) * 2 + differ (n % 2) x) (xor-odd b c))) a

pub xor-left-comm : (a b c : ℕ) → bit_xor a (bit_xor b c) ≡ bit_xor b (bit_xor a c)
xor-left-comm a b c = sym (xor_assoc a b c) ∙ ap (λ (x : ℕ). bit_xor x c) (xor_comm a b) ∙ xor_assoc b a c

-- two sums, term by term
pub xor-exchange : (a b c d : ℕ) → bit_xor (bit_xor a b) (bit_xor c d) ≡ bit_xor (bit_xor a c) (bit_xor b d)
xor-exchange a b c d =
    xor_assoc a b (bit_xor c d) ∙ ap (bit_xor a) (xor-left-comm b c d) ∙ sym (xor_assoc a c (bit_xor b d))

-- what is added twice is gone
pub xor-cancel : (a b : ℕ) → bit_xor a (bit_xor a b) ≡ b
xor-cancel a b = sym (xor_assoc a a b) ∙ ap (λ (x : ℕ). bit_xor x b) (xor_self a)

-- a sum of symbols is a symbol
pub add-lt : {a b : ℕ} → a < 256 → b < 256 → bit_xor a b < 256
add-lt {a} {b} h k = xor_lt 8 a b h k
