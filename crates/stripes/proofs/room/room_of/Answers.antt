-- The invariant: the first i symbols of the room are the message's, and what is not yet filled is zero.
use mathlib.Core.Path.{◌≡◌, ◌∙◌, sym, ap}
use mathlib.Core.List.{List}
use Prim.Native.Nat.{ℕ, ◌<◌, ◌≤◌}
use native.Mathlib.Decide.{dec_lt}
use native.Mathlib.Omega.{arith}
use borrow.Author.Count.{below_more, below_none}
use lib.ListN.{length, get_or, replicate, length-replicate, get_or-replicate, get_or-eq_default}
use lib.Seq.{get_or-set_same, get_or-set_other}
use Rattle.field.specs.declared.Symbol.{Symbol}
use Rattle.algebra.specs.Symbol.{symbol}
use Rattle.codes.specs.Sizes.{none}
use borrow.Author.Rules.{rules}
use Rattle.stripes.proofs.room.room_of.Goals as goal
use Rattle.stripes.proofs.room.room_of.Invariants.{byte_at}

zeros : (n b : ℕ) → Dec (b < n) → byte_at (replicate n none) b ≡ 0
zeros n b (yes h) = ap (λ (x : Symbol). x.0) (get_or-replicate n b none none h)
zeros n b (no h) = ap (λ (x : Symbol). x.0) (get_or-eq_default (replicate n none) none (omega (arith, length-replicate n none)))

whole : (m : List ℕ) (w : List Symbol) → ((b : ℕ) → b < length m → byte_at w b ≡ get_or m b 0) → ((b : ℕ) → length m ≤ b → byte_at w b ≡ 0)
    → (b : ℕ) → Dec (b < length m) → byte_at w b ≡ get_or m b 0
whole m w filled rest b (yes h) = filled b h
whole m w filled rest b (no h) = rest b (omega arith) ∙ sym (get_or-eq_default m 0 (omega arith))

pub loop-i-init : goal.loop-i-init
loop-i-init c = (search rules, below_none _, λ b h. zeros 496 b (dec_lt b 496))

pub loop-i-preserved : goal.loop-i-preserved
loop-i-preserved c =
    let l = c.loop-i in (
      search rules,
      below_more _ _ (λ b h. ap (λ (s : Symbol). s.0) (get_or-set_other l.room l.i b _ none (λ e. omega arith)) ∙ l.invariant.1 b h)
          (ap (λ (s : Symbol). s.0) (get_or-set_same l.room l.i _ none (omega arith)) ∙ c.of.ensures),
      λ b h. ap (λ (s : Symbol). s.0) (get_or-set_other l.room l.i b _ none (λ e. omega arith)) ∙ l.invariant.2 b (omega arith),
    )

pub returns : goal.returns
returns c =
    let l = c.loop-i in
    let m = c.args.message.now in
    record {
      long = search rules;
      each = λ b. ap symbol (whole m l.room (λ q h. l.invariant.1 q (omega arith)) (λ q h. l.invariant.2 q (omega arith)) b (dec_lt b (length m)));
    }
