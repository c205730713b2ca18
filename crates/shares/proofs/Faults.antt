-- The ladder of a slip's own faults, step by step, and what a taken or refused slip tells and leaves.
-- Assumes nothing.
use mathlib.Core.Path.{◌≡◌, ◌∙◌, refl, sym, ap}
use mathlib.Core.Bool.{Bool, true, false, not, ◌&&◌, and-false}
use mathlib.Core.List.{List, [], ◌++◌}
use Prim.Native.Nat.{ℕ, ◌+◌, ◌<◌, ◌≤◌}
use native.Mathlib.Omega.{arith}
use lib.Dec.{eqb, ltb}
use lib.ListN.{length, get_or}
use borrow.Author.Tests.{eq-eqb, ne_eqb, lt-ltb, le-ltb, eqb-true, ltb-true, not-false}
use Rattle.codes.specs.Told.{refused, done, answered}
use Rattle.codes.specs.Reasons.{Clear, numbered}
use Rattle.codes.specs.Judge.{pair_in}
use Rattle.codes.specs.Sizes.{bytes}
use Rattle.codes.specs.declared.Refusal.{Refusal}
use Rattle.codes.specs.declared.Refusal.TheVariants.{Record, Order, Place}
use Rattle.codes.proofs.Bools.{both, and_left, and_right}
use Rattle.codes.proofs.Told.{refused-first, answered-skip, answered-hand-on, answered-goes-on, done-clear, clear-done, refusal-goes-on}
use Rattle.shares.specs.Fields.{code_in, stripes_in, count_in}
use Rattle.shares.specs.File.{file_reasons}
use Rattle.shares.specs.Slip.{slip_number, slip_stripe, slip_index, slip_faults, slip_reasons, slip_told, slip_leaves, judged_told, judged_leaves, left_by, taken_in}
use Rattle.shares.proofs.Answers.{nonzero, left-refused, left-done}

left_out : (a b : Bool) → a ≡ false → (a && b) ≡ false
left_out true b e = let z : ◌≡◌ {A = ℕ} 0 1 = cc in absurd (omega arith)
left_out false b e = refl

right-out : (a b : Bool) → b ≡ false → (a && b) ≡ false
right-out a b e = ap (λ (x : Bool). a && x) e ∙ and-false a

module _ (s p : List ℕ) where
  abbrev Pair : ℕ × ℕ
  Pair = pair_in (code_in s)

  -- ---- the slip's own faults

  not-slip : (eqb (length p) 10 && eqb (get_or p 0 0) 0x50) ≡ false → refused Record ≡ answered (slip_faults s p) Pair 0
  unfolding slip_faults
  not-slip e = refused-first Record _ Pair 0 (λ z. omega arith) (ap not e)

  pub wrong-length : (length p ≡ 10 → ⊥) → refused Record ≡ answered (slip_faults s p) Pair 0
  wrong-length n = not-slip (left_out _ _ (ne_eqb _ _ n))

  pub wrong-kind : (get_or p 0 0 ≡ 0x50 → ⊥) → refused Record ≡ answered (slip_faults s p) Pair 0
  wrong-kind n = not-slip (right-out (eqb (length p) 10) _ (ne_eqb _ _ n))

  module _ (e₁ : length p ≡ 10) (k₁ : get_or p 0 0 ≡ 0x50) where
    is-slip : (eqb (length p) 10 && eqb (get_or p 0 0) 0x50) ≡ true
    is-slip = both _ _ (eq-eqb _ _ e₁) (eq-eqb _ _ k₁)

    pub wrong-number : (slip_number p ≡ count_in s + 1 → ⊥) → refused Order ≡ answered (slip_faults s p) Pair 0
    unfolding slip_faults
    wrong-number n =
        refused-first Order _ Pair 0 (λ z. omega arith) (ap not (ne_eqb _ _ n)) ∙ sym (answered-skip 1 _ Pair 0 (ap not is-slip))

    module _ (e₂ : slip_number p ≡ count_in s + 1) where
      wrong-place : (ltb (slip_stripe p) (stripes_in s) && ltb (slip_index p) (bytes (code_in s))) ≡ false → refused Place ≡ answered (slip_faults s p) Pair 0
      unfolding slip_faults
      wrong-place e =
          refused-first Place _ Pair 0 (λ z. omega arith) (ap not e)
          ∙ sym (answered-skip 1 _ Pair 0 (ap not is-slip) ∙ answered-skip 9 _ Pair 0 (ap not (eq-eqb _ _ e₂)))

      pub wrong-stripe : stripes_in s ≤ slip_stripe p → refused Place ≡ answered (slip_faults s p) Pair 0
      wrong-stripe h = wrong-place (left_out _ _ (le-ltb _ _ h))

      pub wrong-index : bytes (code_in s) ≤ slip_index p → refused Place ≡ answered (slip_faults s p) Pair 0
      wrong-index h = wrong-place (right-out (ltb (slip_stripe p) (stripes_in s)) _ (le-ltb _ _ h))

      pub no-fault : slip_stripe p < stripes_in s → slip_index p < bytes (code_in s) → done 0 ≡ answered (slip_faults s p) Pair 0
      unfolding slip_faults
      no-fault h l =
          sym (clear-done _ Pair 0 (ap not is-slip, (ap not (eq-eqb _ _ e₂), (ap not (both _ _ (lt-ltb _ _ h) (lt-ltb _ _ l)), tt))))

  faults-numbered : numbered (slip_faults s p) ≡ true
  unfolding slip_faults
  faults-numbered = refl

  pub faultless : done 0 ≡ answered (slip_faults s p) Pair 0 → Clear (slip_faults s p)
  faultless e = done-clear (slip_faults s p) Pair 0 0 faults-numbered e

  pub next-number : Clear (slip_faults s p) → slip_number p ≡ count_in s + 1
  unfolding slip_faults
  next-number h = eqb-true _ _ (not-false _ h.1.0)

  pub in_place : Clear (slip_faults s p) → (slip_stripe p < stripes_in s) × (slip_index p < bytes (code_in s))
  unfolding slip_faults
  in_place h =
      let t = not-false _ h.1.1.0 in
      (ltb-true _ _ (and_left (ltb (slip_stripe p) (stripes_in s)) _ t), ltb-true _ _ (and_right (ltb (slip_stripe p) (stripes_in s)) (ltb (slip_index p) (bytes (code_in s))) t))

  -- ---- a file that was judged before

  module _ (r : Refusal) (e : refused r ≡ answered (slip_faults s p) Pair 0) where
    pub judged-refused : refused r ≡ judged_told s p
    unfolding judged_told slip_faults
    judged-refused = answered-hand-on r (slip_faults s p) [] Pair 0 (count_in s + 1) e

    pub judged-stays : s ≡ judged_leaves s p
    unfolding judged_leaves
    judged-stays = left-refused (slip_faults s p) (taken_in s p) s (nonzero (slip_faults s p) r Pair 0 e)

  module _ (h : Clear (slip_faults s p)) where
    pub judged-taken : (m : ℕ) → m ≡ count_in s + 1 → done m ≡ judged_told s p
    unfolding judged_told
    judged-taken m e = ap done e ∙ sym (clear-done (slip_faults s p) Pair (count_in s + 1) h)

    pub judged-leaves : (t : List ℕ) → t ≡ taken_in s p → t ≡ judged_leaves s p
    unfolding judged_leaves
    judged-leaves t e = e ∙ left-done (slip_faults s p) (taken_in s p) s h

  -- ---- the file's faults first

  module _ (r : Refusal) (e : refused r ≡ answered (file_reasons s) Pair (count_in s)) where
    pub file-refused : refused r ≡ slip_told s p
    unfolding slip_told slip_reasons
    file-refused = answered-hand-on r (file_reasons s) (slip_faults s p) Pair (count_in s) (count_in s + 1) e

    pub file-stays : s ≡ slip_leaves s p
    unfolding slip_leaves slip_reasons
    file-stays = left-refused (file_reasons s ++ slip_faults s p) (taken_in s p) s (nonzero (file_reasons s ++ slip_faults s p) r Pair (count_in s + 1) (answered-hand-on r (file_reasons s) (slip_faults s p) Pair (count_in s) (count_in s + 1) e))

  module _ (h : Clear (file_reasons s)) where
    pub slip-told : judged_told s p ≡ slip_told s p
    unfolding judged_told slip_told slip_reasons
    slip-told = sym (answered-goes-on (file_reasons s) (slip_faults s p) Pair (count_in s + 1) h)

    pub slip-left : judged_leaves s p ≡ slip_leaves s p
    unfolding judged_leaves slip_leaves slip_reasons left_by
    slip-left = rw (refusal-goes-on (file_reasons s) (slip_faults s p) h)
