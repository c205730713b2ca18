-- The product by doubling and adding, before its arguments are reduced: it is additive, and it keeps below 256.
-- raise i a: the symbol a, doubled i times.
-- Assumes nothing.
use mathlib.Core.Path.{◌≡◌, ◌∙◌, refl, sym, ap, ap₂, subst}
use mathlib.Core.Logic.{◌⊎◌, inl, inr}
use Prim.Native.Nat.{ℕ, zero, suc, ◌+◌, ◌*◌, ◌/◌, ◌%◌, ◌<◌}
use native.Mathlib.Nat.{zero-mul, one-mul, suc-add, zero-add, add-zero, mod-lt, zero-lt-suc}
use native.Mathlib.Omega.{arith}
use lib.Bits.{bit_xor, xor_self, xor_zero_r, xor_mod, xor_shr, xor_block}
use Rattle.field.specs.Field.{double, shifted}
use Rattle.field.proofs.Xor.{odd, xor-exchange, add-lt}
use Rattle.field.proofs.Table.{columns-at}

-- ---- a symbol doubled

xor-twice : (a b : ℕ) → bit_xor a b * 2 ≡ bit_xor (a * 2) (b * 2)
xor-twice a b =
    sym (add-zero (bit_xor a b * 2)) ∙ sym (xor_block 1 a b 0 0 (zero-lt-suc 1) (zero-lt-suc 1))
    ∙ ap₂ bit_xor (add-zero (a * 2)) (add-zero (b * 2))

-- a digit times a number, at a sum of digits
xor-bit : (c x y : ℕ) → (x ≡ 0) ⊎ (x ≡ 1) → (y ≡ 0) ⊎ (y ≡ 1) → bit_xor x y * c ≡ bit_xor (x * c) (y * c)
xor-bit c x y (inl p) (inl q) = rw (p, q) (simp zero-mul)
xor-bit c x y (inl p) (inr q) = rw (p, q) (simp (zero-mul, one-mul))
xor-bit c x y (inr p) (inl q) = rw (p, q) (simp (zero-mul, one-mul, xor_zero_r))
xor-bit c x y (inr p) (inr q) = rw (p, q) (simp (zero-mul, one-mul, xor_self))

pub double-xor : (a b : ℕ) → double (bit_xor a b) ≡ bit_xor (double a) (double b)
unfolding double
double-xor a b =
    ap₂ bit_xor (xor-twice a b)
    (ap (λ (x : ℕ). x % 2 * 285) (xor_shr a b 7) ∙ ap (λ (x : ℕ). x * 285) (xor_mod (a / 128) (b / 128) 1)
    ∙ xor-bit 285 (a / 128 % 2) (b / 128 % 2) (odd (a / 128)) (odd (b / 128)))
    ∙ xor-exchange (a * 2) (b * 2) (a / 128 % 2 * 285) (b / 128 % 2 * 285)

-- each symbol doubled is a symbol
pub double-lt : {a : ℕ} → a < 256 → double a < 256
unfolding double
double-lt {a} h =
    subst (λ (x : ℕ). x < 256) (columns-at (λ x. double x % 256) double 256 refl a h) (mod-lt (double a) (zero-lt-suc 255))

pub double-zero : double 0 ≡ 0
unfolding double
double-zero = refl

double-bit : (x a : ℕ) → (x ≡ 0) ⊎ (x ≡ 1) → double (x * a) ≡ x * double a
double-bit x a (inl p) = rw p (simp (zero-mul, double-zero))
double-bit x a (inr p) = rw p (simp one-mul)

-- ---- the product

pub shifted-double : (n a b : ℕ) → shifted n (double a) b ≡ double (shifted n a b)
unfolding shifted
shifted-double zero a b = sym double-zero
shifted-double (suc n) a b =
    ap₂ bit_xor (sym (double-bit (b % 2) a (odd b))) (shifted-double n (double a) (b / 2))
    ∙ sym (double-xor (b % 2 * a) (shifted n (double a) (b / 2)))

mul-bit : (x a b : ℕ) → (x ≡ 0) ⊎ (x ≡ 1) → x * bit_xor a b ≡ bit_xor (x * a) (x * b)
mul-bit x a b (inl p) = rw p (simp zero-mul)
mul-bit x a b (inr p) = rw p (simp one-mul)

pub shifted-xor : (n a c b : ℕ) → shifted n (bit_xor a c) b ≡ bit_xor (shifted n a b) (shifted n c b)
unfolding shifted
shifted-xor zero a c b = refl
shifted-xor (suc n) a c b =
    ap₂ bit_xor (mul-bit (b % 2) a c (odd b))
    (ap (λ (x : ℕ). shifted n x (b / 2)) (double-xor a c) ∙ shifted-xor n (double a) (double c) (b / 2))
    ∙ xor-exchange (b % 2 * a) (b % 2 * c) (shifted n (double a) (b / 2)) (shifted n (double c) (b / 2))

pub shifted-zero : (n b : ℕ) → shifted n 0 b ≡ 0
unfolding shifted
shifted-zero zero b = refl
shifted-zero (suc n) b =
    ap₂ bit_xor (go (b % 2) (odd b)) (ap (λ (x : ℕ). shifted n x (b / 2)) double-zero ∙ shifted-zero n (b / 2))
  where
    go : (x : ℕ) → (x ≡ 0) ⊎ (x ≡ 1) → x * 0 ≡ 0
    go x (inl p) = rw p
    go x (inr p) = rw p

pub shifted-by-zero : (n a : ℕ) → shifted n a 0 ≡ 0
unfolding shifted
shifted-by-zero zero a = refl
shifted-by-zero (suc n) a = ap₂ bit_xor (zero-mul a) (shifted-by-zero n (double a))

pub shifted-lt : (n a b : ℕ) → a < 256 → shifted n a b < 256
unfolding shifted
shifted-lt zero a b h = omega arith
shifted-lt (suc n) a b h = add-lt (go (b % 2) (odd b)) (shifted-lt n (double a) (b / 2) (double-lt h))
  where
    go : (x : ℕ) → (x ≡ 0) ⊎ (x ≡ 1) → x * a < 256
    go x (inl p) = rw (p, zero-mul) (omega arith)
    go x (inr p) = rw (p, one-mul) h

-- 1 times each symbol
pub shifted_one : {b : ℕ} → b < 256 → shifted 8 1 b ≡ b
unfolding shifted double
shifted_one {b} h = columns-at (shifted 8 1) (λ x. x) 256 refl b h

-- ---- doubled more than once

unfoldable pub raise : ℕ → ℕ → ℕ
raise zero a = a
raise (suc i) a = double (raise i a)

pub raise-add : (i j a : ℕ) → raise i (raise j a) ≡ raise (i + j) a
unfolding raise
raise-add zero j a = ap (λ (n : ℕ). raise n a) (sym (zero-add j))
raise-add (suc i) j a = ap double (raise-add i j a) ∙ ap (λ (n : ℕ). raise n a) (sym (suc-add i j))

pub raise-lt : (i : ℕ) {a : ℕ} → a < 256 → raise i a < 256
unfolding raise
raise-lt zero h = h
raise-lt (suc i) h = double-lt (raise-lt i h)

pub shifted-raise : (i a b : ℕ) → shifted 8 (raise i a) b ≡ raise i (shifted 8 a b)
unfolding raise
shifted-raise zero a b = refl
shifted-raise (suc i) a b = shifted-double 8 (raise i a) b ∙ ap double (shifted-raise i a b)
