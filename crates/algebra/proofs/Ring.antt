-- The laws of the field of symbols, with no bound to carry, and the set `ring`: it multiplies out, sorts, and cancels equal terms.
-- This is the one file of proofs that cites the laws of the crate `field`.
use mathlib.Core.Path.{◌≡◌, ◌∙◌, refl, sym, ap, ap₂}
use mathlib.Core.Logic.{◌≢◌}
use mathlib.Core.HLevel.{is_prop→PathP}
use Prim.Native.Nat.{ℕ, zero, suc, ◌+◌, ◌%◌, ◌<◌}
use native.Mathlib.Nat.{mod-eq_of_lt, suc-add}
use native.Mathlib.Bridge.{le_prop}
use native.Mathlib.Omega.{arith}
use lib.Bits.{bit_xor, xor_comm, xor_self, xor_zero_r, xor_mod}
use Rattle.field.specs.Field
use Rattle.field.specs.Field.{mul, inverse, quotient}
use Rattle.field.proofs.Laws
use Rattle.algebra.specs.Symbol.{F, symbol, ◌⊕◌, ◌⊗◌, 𝟘, 𝟙, pow, inv}

pub F-path : {a b : F} → a.val ≡ b.val → a ≡ b
F-path {a} {b} p = λ i. record { val = p i; small = is_prop→PathP (λ i. p i < 256) (λ i. le_prop) a.small b.small i }

-- ---- the ring

pub add_comm : (a b : F) → a ⊕ b ≡ b ⊕ a
unfolding ◌⊕◌
add_comm a b = F-path (xor_comm a.val b.val)

pub add_assoc : (a b c : F) → a ⊕ b ⊕ c ≡ a ⊕ (b ⊕ c)
unfolding ◌⊕◌
add_assoc a b c = F-path (Laws.xor_assoc a.val b.val c.val)

pub add_left_comm : (a b c : F) → a ⊕ (b ⊕ c) ≡ b ⊕ (a ⊕ c)
add_left_comm a b c = sym (add_assoc a b c) ∙ ap (λ (x : F). x ⊕ c) (add_comm a b) ∙ add_assoc b a c

pub add-self : (a : F) → a ⊕ a ≡ 𝟘
unfolding ◌⊕◌ 𝟘
add-self a = F-path (xor_self a.val)

pub add-cancel : (a b : F) → a ⊕ (a ⊕ b) ≡ b
unfolding ◌⊕◌
add-cancel a b = F-path (Laws.xor-cancel a.val b.val)

pub add-zero : (a : F) → a ⊕ 𝟘 ≡ a
unfolding ◌⊕◌ 𝟘
add-zero a = F-path (xor_zero_r a.val)

pub zero-add : (a : F) → 𝟘 ⊕ a ≡ a
zero-add a = add_comm 𝟘 a ∙ add-zero a

pub mul_comm : (a b : F) → a ⊗ b ≡ b ⊗ a
unfolding ◌⊗◌
mul_comm a b = F-path (Laws.mul_comm a.val b.val)

pub mul_assoc : (a b c : F) → a ⊗ b ⊗ c ≡ a ⊗ (b ⊗ c)
unfolding ◌⊗◌
mul_assoc a b c = F-path (Laws.mul_assoc a.val b.val c.val)

pub mul_left_comm : (a b c : F) → a ⊗ (b ⊗ c) ≡ b ⊗ (a ⊗ c)
mul_left_comm a b c = sym (mul_assoc a b c) ∙ ap (λ (x : F). x ⊗ c) (mul_comm a b) ∙ mul_assoc b a c

pub mul-add : (a b c : F) → a ⊗ (b ⊕ c) ≡ a ⊗ b ⊕ a ⊗ c
unfolding ◌⊕◌ ◌⊗◌
mul-add a b c = F-path (Laws.mul-add a.val b.val c.val)

pub add-mul : (a b c : F) → (a ⊕ b) ⊗ c ≡ a ⊗ c ⊕ b ⊗ c
unfolding ◌⊕◌ ◌⊗◌
add-mul a b c = F-path (Laws.add-mul a.val b.val c.val)

pub mul-zero : (a : F) → a ⊗ 𝟘 ≡ 𝟘
unfolding ◌⊗◌ 𝟘
mul-zero a = F-path (Laws.times_zero a.val)

pub zero-mul : (a : F) → 𝟘 ⊗ a ≡ 𝟘
zero-mul a = mul_comm 𝟘 a ∙ mul-zero a

pub one-mul : (a : F) → 𝟙 ⊗ a ≡ a
unfolding ◌⊗◌ 𝟙
one-mul a = F-path (Laws.one-times a.small)

pub mul-one : (a : F) → a ⊗ 𝟙 ≡ a
mul-one a = mul_comm a 𝟙 ∙ one-mul a

pub ruleset ring = (mul-add, add-mul, mul_assoc, mul_comm, mul_left_comm, add_assoc, add_comm, add_left_comm, add-self, add-cancel, add-zero, zero-add, mul-zero, zero-mul, one-mul, mul-one)

-- a term or a factor that is 𝟘
pub add_none : (a : F) {b : F} → b ≡ 𝟘 → a ⊕ b ≡ a
add_none a e = ap (λ (x : F). a ⊕ x) e ∙ add-zero a

pub none-add : {a : F} (b : F) → a ≡ 𝟘 → a ⊕ b ≡ b
none-add b e = ap (λ (x : F). x ⊕ b) e ∙ zero-add b

pub mul-none : (a : F) {b : F} → b ≡ 𝟘 → a ⊗ b ≡ 𝟘
mul-none a e = ap (λ (x : F). a ⊗ x) e ∙ mul-zero a

pub add_twice : (a b : F) → a ⊕ b ⊕ b ≡ a
add_twice a b = simp ring

-- ---- sums that are 𝟘

pub equal : {a b : F} → a ⊕ b ≡ 𝟘 → a ≡ b
equal {a} {b} e = sym (add-zero a) ∙ ap (λ (x : F). a ⊕ x) (sym e) ∙ add-cancel a b

pub vanish : {a b : F} → a ≡ b → a ⊕ b ≡ 𝟘
vanish {a} {b} e = ap (λ (x : F). x ⊕ b) e ∙ add-self b

-- ---- numbers as symbols: only to get a number back asks for a bound

pub val-add : (a b : F) → (a ⊕ b).val ≡ bit_xor a.val b.val
unfolding ◌⊕◌
val-add a b = refl

pub val-mul : (a b : F) → (a ⊗ b).val ≡ mul a.val b.val
unfolding ◌⊗◌
val-mul a b = refl

pub symbol-add : (m n : ℕ) → symbol (bit_xor m n) ≡ symbol m ⊕ symbol n
unfolding symbol ◌⊕◌
symbol-add m n = F-path (xor_mod m n 8)

pub symbol-mul : (m n : ℕ) → symbol (mul m n) ≡ symbol m ⊗ symbol n
unfolding symbol ◌⊗◌
symbol-mul m n =
    F-path (mod-eq_of_lt (Laws.mul-lt m n) ∙ sym (Laws.mul_low m (n % 256) ∙ Laws.mul_comm m (n % 256) ∙ Laws.mul_low n m ∙ Laws.mul_comm n m))

pub symbol-val : (a : F) → symbol a.val ≡ a
unfolding symbol
symbol-val a = F-path (mod-eq_of_lt a.small)

pub val-symbol : {n : ℕ} → n < 256 → (symbol n).val ≡ n
unfolding symbol
val-symbol h = mod-eq_of_lt h

-- a sum and a product of bytes, which the code computes, are those of their symbols
pub add-val : {m n : ℕ} → m < 256 → n < 256 → bit_xor m n ≡ (symbol m ⊕ symbol n).val
add-val {m} {n} h k = sym (val-add (symbol m) (symbol n) ∙ ap₂ bit_xor (val-symbol h) (val-symbol k))

pub mul_val : (m n : ℕ) → mul m n ≡ (symbol m ⊗ symbol n).val
mul_val m n = sym (val-symbol (Laws.mul-lt m n)) ∙ ap (λ (a : F). a.val) (symbol-mul m n)

-- ---- powers, inverses, cancelling

pub pow-suc : (a : F) (n : ℕ) → a ⊗ pow a n ≡ pow a (suc n)
unfolding pow
pow-suc a n = refl

pub pow-add : (a : F) (m n : ℕ) → pow a (m + n) ≡ pow a m ⊗ pow a n
unfolding pow
pow-add a zero n = ap (pow a) (native.Mathlib.Nat.zero-add n) ∙ sym (one-mul (pow a n))
pow-add a (suc m) n = ap (pow a) (suc-add m n) ∙ ap (λ (x : F). a ⊗ x) (pow-add a m n) ∙ sym (mul_assoc a (pow a m) (pow a n))

-- a power, an inverse and a quotient of bytes are those of their symbols
pub pow-val : (m n : ℕ) → Field.pow m n ≡ (pow (symbol m) n).val
unfolding pow symbol 𝟙 ◌⊗◌
pow-val m zero = Laws.pow-zero m
pow-val m (suc n) = Laws.pow-suc m n ∙ ap (mul m) (pow-val m n) ∙ sym (Laws.mul_low m (pow (symbol m) n).val)

pub inverse-val : (m : ℕ) → inverse m ≡ (inv (symbol m)).val
unfolding inverse inv
inverse-val m = pow-val m 254

pub over-val : (m n : ℕ) → quotient m n ≡ (symbol m ⊗ inv (symbol n)).val
unfolding quotient symbol ◌⊗◌
over-val m n = ap (mul m) (inverse-val n) ∙ sym (Laws.mul_low m (inv (symbol n)).val)

pub symbol-pow : (m n : ℕ) → symbol (Field.pow m n) ≡ pow (symbol m) n
symbol-pow m n = ap symbol (pow-val m n) ∙ symbol-val (pow (symbol m) n)

pub symbol-over : (m n : ℕ) → symbol (quotient m n) ≡ symbol m ⊗ inv (symbol n)
symbol-over m n = ap symbol (over-val m n) ∙ symbol-val (symbol m ⊗ inv (symbol n))

pub mul-inv : {a : F} → a ≢ 𝟘 → a ⊗ inv a ≡ 𝟙
unfolding ◌⊗◌ 𝟙 𝟘
mul-inv {a} n =
    F-path (ap (mul a.val) (ap (λ (b : F). (inv b).val) (sym (symbol-val a)) ∙ sym (inverse-val a.val)) ∙ Laws.mul-inverse a.small (λ e. n (F-path e)))

pub mul-cancel : {a b : F} → a ≢ 𝟘 → a ⊗ b ≡ 𝟘 → b ≡ 𝟘
mul-cancel {a} {b} n e =
    sym (one-mul b) ∙ ap (λ (x : F). x ⊗ b) (sym (mul-inv n) ∙ mul_comm a (inv a)) ∙ mul_assoc (inv a) a b ∙ ap (λ (x : F). inv a ⊗ x) e ∙ mul-zero (inv a)

pub one-nonzero : 𝟙 ≢ 𝟘
unfolding 𝟙 𝟘
one-nonzero e = let z : ◌≡◌ {A = ℕ} 1 0 = ap (λ (a : F). a.val) e in omega arith

-- what gives 𝟙 with a is its inverse, however it was found
pub inv-only : (a b : F) → a ⊗ b ≡ 𝟙 → b ≡ inv a
inv-only a b e =
    sym (mul-one b) ∙ ap (λ (x : F). b ⊗ x) (sym (mul-inv (λ z. one-nonzero (sym e ∙ ap (λ (x : F). x ⊗ b) z ∙ zero-mul b))))
    ∙ mul_left_comm b a (inv a) ∙ sym (mul_assoc a b (inv a)) ∙ ap (λ (x : F). x ⊗ inv a) e ∙ one-mul (inv a)

pub mul-over : {a : F} (b : F) → a ≢ 𝟘 → a ⊗ (b ⊗ inv a) ≡ b
mul-over {a} b n = mul_left_comm a b (inv a) ∙ ap (λ (x : F). b ⊗ x) (mul-inv n) ∙ mul-one b
