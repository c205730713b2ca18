-- The laws of the product. They hold of all numbers, since it reads eight digits of each; only that 1 is neutral asks for a symbol.
-- A symbol is 0, or 1 doubled some times. A symbol doubled, times another, is their product doubled: all but the additive law follows.
-- Walked a: a is 1 doubled i times, for some i below 255.
-- Assumes nothing.
use mathlib.Core.Path.{◌≡◌, ◌∙◌, refl, sym, ap, ap₂}
use mathlib.Core.Logic.{◌⊎◌, inl, inr}
use Prim.Native.Nat.{ℕ, zero, suc, ◌+◌, ◌%◌, ◌<◌}
use native.Mathlib.Nat.{add_comm, mod-lt, mod-eq_of_lt, zero-lt-suc}
use native.Mathlib.Omega.{arith}
use lib.ListN.{get_or}
use lib.Bits.{bit_xor, xor_comm, xor_self, xor_zero_r, xor_mod}
use Rattle.field.specs.Field.{double, shifted, mul}
use Rattle.field.specs.Tables.{logs}
use Rattle.field.proofs.Xor.{xor_assoc, xor-left-comm, xor-cancel}
use Rattle.field.proofs.Shifted.{shifted-xor, shifted-zero, shifted-by-zero, shifted_one, shifted-double, shifted-lt, raise, raise-add, raise-lt, shifted-raise}
use Rattle.field.proofs.Powers.{powers-at, log-lt, power-log}

-- ---- the product of symbols, before it reduces its arguments

abbrev pub Walked : ℕ → Type 0
Walked a = (i : ℕ) × (i < 255) × (a ≡ raise i 1)

pub walked : (a : ℕ) → a < 256 → (a ≡ 0) ⊎ Walked a
walked zero h = inl refl
walked (suc k) h =
    inr (get_or logs (suc k) 0, log-lt (suc k) h, sym (power-log (suc k) (zero-lt-suc k) h) ∙ powers-at (get_or logs (suc k) 0) (log-lt (suc k) h))

one-lt : 1 < 256
one-lt = omega arith

-- 1 doubled i times, times a symbol
by-walked : (i : ℕ) {b : ℕ} → b < 256 → shifted 8 (raise i 1) b ≡ raise i b
by-walked i {b} h = shifted-raise i 1 b ∙ ap (raise i) (shifted_one h)

both-walked : (i j : ℕ) → shifted 8 (raise i 1) (raise j 1) ≡ raise (i + j) 1
both-walked i j = by-walked i (raise-lt j one-lt) ∙ raise-add i j 1

shifted-comm : (a b : ℕ) → (a ≡ 0) ⊎ Walked a → (b ≡ 0) ⊎ Walked b → shifted 8 a b ≡ shifted 8 b a
shifted-comm a b (inl p) s = ap (λ (x : ℕ). shifted 8 x b) p ∙ shifted-zero 8 b ∙ sym (shifted-by-zero 8 b) ∙ ap (shifted 8 b) (sym p)
shifted-comm a b (inr w) (inl q) = ap (shifted 8 a) q ∙ shifted-by-zero 8 a ∙ sym (shifted-zero 8 a) ∙ ap (λ (x : ℕ). shifted 8 x a) (sym q)
shifted-comm a b (inr w) (inr v) =
    ap₂ (shifted 8) w.2 v.2 ∙ both-walked w.0 v.0 ∙ ap (λ (n : ℕ). raise n 1) (add_comm w.0 v.0)
    ∙ sym (ap₂ (shifted 8) v.2 w.2 ∙ both-walked v.0 w.0)

shifted-assoc : (a b c : ℕ) → (a ≡ 0) ⊎ Walked a → b < 256 → c < 256 → shifted 8 (shifted 8 a b) c ≡ shifted 8 a (shifted 8 b c)
shifted-assoc a b c (inl p) hb hc =
    ap (λ (x : ℕ). shifted 8 (shifted 8 x b) c) p ∙ ap (λ (x : ℕ). shifted 8 x c) (shifted-zero 8 b) ∙ shifted-zero 8 c
    ∙ sym (shifted-zero 8 (shifted 8 b c)) ∙ ap (λ (x : ℕ). shifted 8 x (shifted 8 b c)) (sym p)
shifted-assoc a b c (inr w) hb hc =
    ap (λ (x : ℕ). shifted 8 (shifted 8 x b) c) w.2 ∙ ap (λ (x : ℕ). shifted 8 x c) (by-walked w.0 hb)
    ∙ shifted-raise w.0 b c ∙ sym (by-walked w.0 (shifted-lt 8 b c hb))
    ∙ ap (λ (x : ℕ). shifted 8 x (shifted 8 b c)) (sym w.2)

-- ---- the product

pub low : (a : ℕ) → a % 256 < 256
low a = mod-lt a (zero-lt-suc 255)

pub mul-lt : (a b : ℕ) → mul a b < 256
unfolding mul
mul-lt a b = shifted-lt 8 (a % 256) (b % 256) (low a)

pub mul_comm : (a b : ℕ) → mul a b ≡ mul b a
unfolding mul
mul_comm a b = shifted-comm (a % 256) (b % 256) (walked (a % 256) (low a)) (walked (b % 256) (low b))

pub mul_assoc : (a b c : ℕ) → mul (mul a b) c ≡ mul a (mul b c)
unfolding mul
mul_assoc a b c =
    ap (λ (x : ℕ). shifted 8 x (c % 256)) (mod-eq_of_lt (mul-lt a b))
    ∙ shifted-assoc (a % 256) (b % 256) (c % 256) (walked (a % 256) (low a)) (low b) (low c)
    ∙ ap (shifted 8 (a % 256)) (sym (mod-eq_of_lt (mul-lt b c)))

pub mul_left_comm : (a b c : ℕ) → mul a (mul b c) ≡ mul b (mul a c)
mul_left_comm a b c = sym (mul_assoc a b c) ∙ ap (λ (x : ℕ). mul x c) (mul_comm a b) ∙ mul_assoc b a c

pub add-mul : (a b c : ℕ) → mul (bit_xor a b) c ≡ bit_xor (mul a c) (mul b c)
unfolding mul
add-mul a b c = ap (λ (x : ℕ). shifted 8 x (c % 256)) (xor_mod a b 8) ∙ shifted-xor 8 (a % 256) (b % 256) (c % 256)

pub mul-add : (a b c : ℕ) → mul a (bit_xor b c) ≡ bit_xor (mul a b) (mul a c)
mul-add a b c = mul_comm a (bit_xor b c) ∙ add-mul b c a ∙ ap₂ bit_xor (mul_comm b a) (mul_comm c a)

pub zero-times : (a : ℕ) → mul 0 a ≡ 0
unfolding mul
zero-times a = shifted-zero 8 (a % 256)

pub times_zero : (a : ℕ) → mul a 0 ≡ 0
times_zero a = mul_comm a 0 ∙ zero-times a

pub one-times : {a : ℕ} → a < 256 → mul 1 a ≡ a
unfolding mul
one-times {a} h = shifted_one (low a) ∙ mod-eq_of_lt h

pub times-one : {a : ℕ} → a < 256 → mul a 1 ≡ a
times-one {a} h = mul_comm a 1 ∙ one-times h

-- 2 times a symbol is the symbol doubled
pub two-times : {a : ℕ} → a < 256 → mul 2 a ≡ double a
unfolding mul double
two-times {a} h = ap (shifted 8 2) (mod-eq_of_lt h) ∙ shifted-double 8 1 a ∙ ap double (shifted_one h)

-- a product counts eight digits of each
pub mul_low : (a b : ℕ) → mul (a % 256) b ≡ mul a b
unfolding mul
mul_low a b = ap (λ (x : ℕ). shifted 8 x (b % 256)) (mod-eq_of_lt (low a))

-- ---- the sets for `simp`. `ring` multiplies out, sorts, and cancels equal terms, on both sides of an equation;
-- with `units` too it takes away a factor 1 beside one other, where a hypothesis says that the other is below 256.

pub one-mul-mul : (a b : ℕ) → mul 1 (mul a b) ≡ mul a b
one-mul-mul a b = one-times (mul-lt a b)

pub mul-mul-one : (a b : ℕ) → mul a (mul b 1) ≡ mul a b
mul-mul-one a b = sym (mul_assoc a b 1) ∙ times-one (mul-lt a b)

pub ruleset ring = (mul-add, add-mul, mul_assoc, mul_comm, mul_left_comm, xor_assoc, xor_comm, xor-left-comm, xor_self, xor-cancel, xor_zero_r, zero-times, times_zero, one-mul-mul, mul-mul-one)

pub ruleset units = (one-times, times-one)
