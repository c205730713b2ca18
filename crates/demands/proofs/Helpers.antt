-- A batch of H records of different helpers for one failed node and one stripe: what stands in it, and that nothing is at fault in it.
--   neither, none_of_four, differ-none     tests that fail
--   helpers-said, symbols-said, count-said, stripe-said     what the batch says
--   batch-clear       no reason for a refusal holds
-- Assumes nothing.
use mathlib.Core.Path.{◌≡◌, ◌∙◌, refl, sym, ap, ap₂}
use mathlib.Core.Logic.{◌≢◌}
use mathlib.Core.Bool.{Bool, true, false, not, ◌||◌}
use mathlib.Core.List.{List, [], ◌∷◌, ◌++◌}
use Prim.Native.Nat.{ℕ, ◌+◌, ◌*◌, ◌<◌, ◌≤◌}
use native.Mathlib.Nat.{mod-eq_of_lt}
use native.Mathlib.Omega.{arith}
use borrow.Author.Tests.{eq-eqb, le-leb}
use lib.ListN.{length, get_or}
use Rattle.records.specs.Numbers.{number_at, digits}
use Rattle.records.proofs.Digits.{length_digits, number_digits}
use Rattle.codes.specs.Reasons.{Clear}
use Rattle.codes.specs.Rules.{Chosen}
use Rattle.codes.specs.declared.Code.{Code}
use Rattle.codes.proofs.Bools.{both, fails}
use Rattle.stripes.specs.Lists.{has, repeats, differ, within}
use Rattle.shares.specs.Fields.{help_record}
use Rattle.shares.proofs.Below.{below_each}
use Rattle.batches.specs.Batch.{list_of, help_kind, failed_in, helper_in, count_at, stripe_named, symbol_in, helpers_in, symbols_in, faults}
use Rattle.demands.specs.History.{joined}
use Rattle.demands.proofs.Joined.{joined-whole, joined-byte, number_same, list-long, list_at, list-of}
use Rattle.demands.proofs.Inputs.{has-says, repeats-says, differ-says}

-- ---- tests over lists

pub neither : (a b : Bool) → a ≡ false → b ≡ false → (a || b) ≡ false
neither a b e f = rw (e, f)

none_of_four : (a b c d : Bool) → a ≡ false → b ≡ false → c ≡ false → d ≡ false → (a || b || c || d) ≡ false
none_of_four a b c d e f g h = rw (e, f, g, h)

differ-none : (n : ℕ) (g : ℕ → ℕ) (x : ℕ) → ((r : ℕ) → r < n → g r ≡ x) → differ (list_of n g) ≡ false
differ-none n g x e =
    fails _ (λ t. let d = (differ-says (list_of n g)).0 t in
    let at : ((r : ℕ) → r < length (list_of n g) → get_or (list_of n g) r 0 ≡ x) = λ r h. let b : r < n = omega (arith, list-long n g) in list_at n g r b ∙ e r b in
    d.are (at d.first (omega arith) ∙ sym (at d.second d.within)))

-- ---- one H record

module _ (f h m i y : ℕ) where
  help-long : length (help_record f h m i y) ≡ 10
  unfolding help_record digits
  help-long = refl

  help-ends : (get_or (help_record f h m i y) 0 0 ≡ 0x48) × (get_or (help_record f h m i y) 1 0 ≡ f) × (get_or (help_record f h m i y) 2 0 ≡ h) × (get_or (help_record f h m i y) 9 0 ≡ y)
  unfolding help_record digits
  help-ends = (refl, refl, refl, refl)

  help-count : m < 4294967296 → number_at 4 (help_record f h m i y) 3 ≡ m
  unfolding help_record
  help-count l = number_digits 4 m (0x48 ∷ f ∷ h ∷ []) (digits 2 i ++ (y ∷ [])) ∙ mod-eq_of_lt l

  help-stripe : i < 65536 → number_at 2 (help_record f h m i y) 7 ≡ i
  unfolding help_record
  help-stripe l =
      let b : List ℕ = 0x48 ∷ f ∷ h ∷ digits 4 m in
      let e : 7 ≡ length b = omega (arith, length_digits 4 m) in
      let g : help_record f h m i y ≡ b ++ digits 2 i ++ (y ∷ []) = simp mathlib.Core.List.append_assoc in
      ap₂ (number_at 2) g e ∙ number_digits 2 i b (y ∷ []) ∙ mod-eq_of_lt l

-- ---- d of them

module _ (c : Code) (f m i : ℕ) (hs : List ℕ) (ys : ℕ → ℕ) where
  abbrev pub Sent : ℕ → List ℕ
  Sent r = help_record f (get_or hs r 0) m i (ys r)

  abbrev pub Records : List ℕ
  Records = joined Sent 0 c.d

  sent-long : (r : ℕ) → r < c.d → length (Sent r) ≡ 10
  sent-long r h = help-long f (get_or hs r 0) m i (ys r)

  pub records-long : length Records ≡ c.d * 10
  records-long = joined-whole Sent 10 c.d sent-long

  byte : (r j : ℕ) → r < c.d → j < 10 → get_or Records (10 * r + j) 0 ≡ get_or (Sent r) j 0
  byte r j h l =
      let e : 10 * r + j ≡ r * 10 + j = omega arith in
      ap (λ (k : ℕ). get_or Records k 0) e ∙ joined-byte Sent 10 c.d sent-long r j h l

  number : (width j r : ℕ) → r < c.d → j + width ≤ 10 → number_at width Records (10 * r + j) ≡ number_at width (Sent r) j
  number width j r h l =
      number_same width Records (Sent r) (10 * r + j) j
      (λ k b. let e : 10 * r + j + k ≡ 10 * r + (j + k) = omega arith in ap (λ (a : ℕ). get_or Records a 0) e ∙ byte r (j + k) h (omega arith))

  kind-said : (r : ℕ) → r < c.d → help_kind Records r ≡ 0x48
  kind-said r h =
      let e : 10 * r ≡ 10 * r + 0 = omega arith in
      ap (λ (k : ℕ). get_or Records k 0) e ∙ byte r 0 h (omega arith) ∙ (help-ends f (get_or hs r 0) m i (ys r)).0

  failed-said : (r : ℕ) → r < c.d → failed_in Records r ≡ f
  failed-said r h = byte r 1 h (omega arith) ∙ (help-ends f (get_or hs r 0) m i (ys r)).1

  helper-said : (r : ℕ) → r < c.d → helper_in Records r ≡ get_or hs r 0
  helper-said r h = byte r 2 h (omega arith) ∙ (help-ends f (get_or hs r 0) m i (ys r)).2

  symbol-said : (r : ℕ) → r < c.d → symbol_in Records r ≡ ys r
  symbol-said r h = byte r 9 h (omega arith) ∙ (help-ends f (get_or hs r 0) m i (ys r)).3

  pub count-said : m < 4294967296 → (r : ℕ) → r < c.d → count_at Records r ≡ m
  count-said l r h = number 4 3 r h (omega arith) ∙ help-count f (get_or hs r 0) m i (ys r) l

  pub stripe-said : i < 65536 → (r : ℕ) → r < c.d → stripe_named Records r ≡ i
  stripe-said l r h = number 2 7 r h (omega arith) ∙ help-stripe f (get_or hs r 0) m i (ys r) l

  pub helpers-said : length hs ≡ c.d → helpers_in c.d Records ≡ hs
  helpers-said e = list-of c.d (helper_in Records) hs e helper-said

  pub symbols-said : (l : List ℕ) → length l ≡ c.d → ((r : ℕ) → r < c.d → ys r ≡ get_or l r 0) → symbols_in c.d Records ≡ l
  symbols-said l e each = list-of c.d (symbol_in Records) l e (λ r h. symbol-said r h ∙ each r h)

  -- ---- nothing is at fault

  module _ (known : within c f ≡ true) (chosen : Chosen c.n c.d hs) (others : (r : ℕ) → r < c.d → get_or hs r 0 ≢ f) where
    nodes : (r : ℕ) → r < c.d → (within c (failed_in Records r) ≡ true) × (within c (helper_in Records r) ≡ true)
    nodes r h = (
      ap (within c) (failed-said r h) ∙ known,
      ap (within c) (helper-said r h) ∙ both _ _ (le-leb 1 (get_or hs r 0) (chosen.from r h)) (le-leb (get_or hs r 0) c.n (chosen.to r h)),
    )

    apart : (has f hs || repeats hs) ≡ false
    apart =
        neither (has f hs) (repeats hs)
        (fails _ (λ t. let a = (has-says f hs).0 t in others a.place (omega (arith, chosen.long)) (sym a.is)))
        (fails _ (λ t. let a = (repeats-says hs).0 t in chosen.differ a.first a.second a.order (omega (arith, chosen.long)) a.are))

    pub batch-clear : m < 4294967296 → i < 65536 → (other placed : Bool) → other ≡ false → placed ≡ true → Clear (faults c f Records other placed)
    unfolding faults
    batch-clear l k other placed e g = (
      ap not (below_each c.d _ (λ r h. eq-eqb _ _ (kind-said r h))),
      (
        ap not (both _ _ known (below_each c.d _ (λ r h. both _ _ (nodes r h).0 (nodes r h).1))),
        (
          ap (λ (xs : List ℕ). has f xs || repeats xs) (helpers-said chosen.long) ∙ apart,
          (
            none_of_four _ _ _ other (ap not (below_each c.d _ (λ r h. eq-eqb _ _ (failed-said r h))))
                (differ-none c.d (count_at Records) m (count-said l)) (differ-none c.d (stripe_named Records) i (stripe-said k)) e,
            (ap not g, tt),
          ),
        ),
      ),
    )
