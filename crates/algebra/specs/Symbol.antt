-- The field of symbols as a type: a symbol carries its own bound, so no law of the algebra has to.
--
-- F          a symbol: a number below 256
-- symbol n   the symbol of the eight low digits of any number n
-- a ⊕ b      the sum, which is the difference too
-- a ⊗ b      the product
-- 𝟘, 𝟙       zero and one
-- pow a n    a times itself, n times; pow a 0 is 𝟙, also for 𝟘
-- inv a      1 divided by a; 𝟘 for 𝟘
use Rattle.std.specs.Prelude.{ℕ, zero, suc, ◌%◌, ◌<◌}
use Rattle.std.proofs.Common.{mod-lt, zero-lt-suc, arith}
use Rattle.std.specs.Int.Bits.{bit_xor}
use Rattle.std.proofs.lemmas.Nat.{xor_lt}
use Rattle.field.specs.Field.{mul}
use Rattle.field.proofs.Laws.{mul-lt}

pub record F : Type 0 where
  pub val : ℕ
  pub small : val < 256

unfoldable pub symbol : ℕ → F
symbol n = record { val = n % 256; small = mod-lt n (zero-lt-suc 255) }

infixl 65 ◌⊕◌
unfoldable pub ◌⊕◌ : F → F → F
a ⊕ b = record { val = bit_xor a.val b.val; small = xor_lt 8 a.val b.val a.small b.small }

infixl 70 ◌⊗◌
unfoldable pub ◌⊗◌ : F → F → F
a ⊗ b = record { val = mul a.val b.val; small = mul-lt a.val b.val }

unfoldable pub 𝟘 : F
𝟘 = record { val = 0; small = omega arith }

unfoldable pub 𝟙 : F
𝟙 = record { val = 1; small = omega arith }

unfoldable pub pow : F → ℕ → F
pow a zero = 𝟙
pow a (suc n) = a ⊗ pow a n

unfoldable pub inv : F → F
inv a = pow a 254
