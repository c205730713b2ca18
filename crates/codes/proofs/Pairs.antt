-- The points of a code: what must differ, the first pair that does not, and the first unused place that is not zero.
-- Assumes nothing.
use mathlib.Core.Path.{◌≡◌, ◌∙◌, sym, ap}
use mathlib.Core.Logic.{inl, inr}
use mathlib.Core.Bool.{true, not}
use mathlib.Core.List.{List, map}
use Prim.Native.Nat.{ℕ, ◌+◌, ◌-◌, ◌%◌, ◌<◌, ◌≤◌}
use native.Mathlib.Omega.{arith}
use lib.Dec.{ltb}
use lib.ListN.{get_or, get_or-map}
use borrow.Author.Tests.{ltb-true, ltb-false, eqb-true, eqb-false, not-true, not-false, le-ltb, eq-eqb, ne_eqb}
use Rattle.field.specs.Field.{pow}
use Rattle.field.specs.declared.Symbol.{Symbol}
use Rattle.field.proofs.Laws.{zero-pow}
use Rattle.codes.specs.Sizes.{none}
use Rattle.codes.specs.Judge.{mark, marks, alike, again, filled, pair_first, pair_second, unused_at, pointed}
use Rattle.codes.specs.Rules.{Known, Sized}
use Rattle.codes.specs.declared.Code.{Code}
use Rattle.codes.proofs.Bools.{by-test, and_left, and_right}
use Rattle.codes.proofs.First.{first-from, first-before, first-at}

-- marks

pub mark-one : (c : Code) (x : ℕ) → c.kind ≡ 1 → mark c x ≡ x % 256
unfolding mark
mark-one c x h = simp (eq-eqb _ _ h)

pub mark-two : (c : Code) (x : ℕ) → (c.kind ≡ 1 → ⊥) → mark c x ≡ pow x (c.k - 1)
unfolding mark
mark-two c x h = simp (ne_eqb _ _ h)

-- the mark of zero is zero, so that what stands past the end of the points has the mark of what stands past the end of the marks
pub mark-zero : (c : Code) → Known c.kind → Sized c → mark c 0 ≡ 0
mark-zero c (inl e) s = mark-one c 0 e
mark-zero c (inr e) s = mark-two c 0 (λ f. omega arith) ∙ zero-pow (c.k - 1) (omega (arith, s.second e))

pub marks-at : (c : Code) → mark c 0 ≡ 0 → (i : ℕ) → get_or (marks c) i 0 ≡ mark c (get_or c.points i none).0
unfolding marks
marks-at c z i =
    let f : (Symbol → ℕ) = λ (x : Symbol). mark c x.0 in
    ap (λ (d : ℕ). get_or (map f c.points) i d) (sym z) ∙ get_or-map f c.points i none

-- the first pair

pub record Pair (ms : List ℕ) (n i j : ℕ) : Type 0 where
  pub order : i < j
  pub within : j < n
  pub equal : get_or ms i 0 ≡ get_or ms j 0

module _ (ms : List ℕ) (n : ℕ) where
  -- nothing alike follows a place whose second is not below n
  alone : (i : ℕ) → n ≤ pair_second ms n i → (j : ℕ) → Pair ms n i j → ⊥
  unfolding pair_second
  alone i h j p =
      eqb-false (get_or ms i 0) (get_or ms j 0) (first-before (alike ms i) (n - (i + 1)) (i + 1) j (omega arith) (omega arith)) p.equal

  -- no pair comes before the first
  pub pair-smallest : (i j : ℕ) → Pair ms n i j → pair_first ms n ≤ i
  unfolding pair_first
  pair-smallest i j p =
      by-test (ltb i (pair_first ms n))
      (λ l. absurd (alone i (ltb-false (pair_second ms n i) n (first-before (again ms n) n 0 i (omega arith) (ltb-true _ _ l))) j p))
      (λ l. ltb-false _ _ l)

  pub pair-nearest : (i j : ℕ) → Pair ms n i j → pair_second ms n i ≤ j
  unfolding pair_second
  pair-nearest i j p =
      by-test (ltb j (pair_second ms n i))
      (λ l. absurd (eqb-false (get_or ms i 0) (get_or ms j 0) (first-before (alike ms i) (n - (i + 1)) (i + 1) j (omega arith) (ltb-true _ _ l)) p.equal))
      (λ l. ltb-false _ _ l)

  -- the first pair is one
  pub pair-named : pair_first ms n < n → Pair ms n (pair_first ms n) (pair_second ms n (pair_first ms n))
  unfolding pair_first pair_second
  pair-named h =
      let a = pair_first ms n in
      let b = pair_second ms n a in
      let l : b < n = ltb-true b n (first-at (again ms n) n 0 (omega arith)) in
      let o : a + 1 ≤ b = first-from (alike ms a) (n - (a + 1)) (a + 1) in
      record {
        order = omega arith;
        within = l;
        equal = eqb-true (get_or ms a 0) (get_or ms b 0) (first-at (alike ms a) (n - (a + 1)) (a + 1) (omega arith));
      }

-- the first unused place

pub record Spoilt (ps : List Symbol) (n i : ℕ) : Type 0 where
  pub from : n ≤ i
  pub to : i < 32
  pub nonzero : (get_or ps i none).0 ≡ 0 → ⊥

module _ (ps : List Symbol) (n : ℕ) where
  pub unused-smallest : (i : ℕ) → Spoilt ps n i → unused_at ps n ≤ i
  unfolding unused_at
  unused-smallest i s =
      by-test (ltb i (unused_at ps n))
      (λ l. absurd (s.nonzero (eqb-true _ 0 (not-false _ (first-before (filled ps) (32 - n) n i s.from (ltb-true _ _ l))))))
      (λ l. ltb-false _ _ l)

  pub unused-named : n ≤ 32 → unused_at ps n < 32 → Spoilt ps n (unused_at ps n)
  unfolding unused_at
  unused-named b h = record {
    from = first-from (filled ps) (32 - n) n;
    to = h;
    nonzero = eqb-false _ 0 (not-true _ (first-at (filled ps) (32 - n) n (omega arith)));
  }

-- the test of the points

module _ (ms : List ℕ) (ps : List Symbol) (n : ℕ) where
  pub pointed-only : pointed ms ps n ≡ true → (n ≤ pair_first ms n) × (32 ≤ unused_at ps n)
  unfolding pointed
  pointed-only e =
      let s = not (ltb (pair_first ms n) n) in
      let t = not (ltb (unused_at ps n) 32) in
      (ltb-false _ _ (not-true _ (and_left s t e)), ltb-false _ _ (not-true _ (and_right s t e)))

  pub pointed-when : n ≤ pair_first ms n → 32 ≤ unused_at ps n → pointed ms ps n ≡ true
  unfolding pointed
  pointed-when h l = simp (le-ltb (pair_first ms n) n h, le-ltb (unused_at ps n) 32 l)
