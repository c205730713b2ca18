-- The judge's reasons in words: its tests hold exactly when the words do, and refusal 4 names what it should.
--   code-matches, judge-matches     a code's reasons, and the judge's, are the words for them
--   code-names, judge-names         what refusal 4 names
-- Assumes nothing.
use mathlib.Core.Path.{◌≡◌, ◌∙◌, refl, sym, ap}
use mathlib.Core.Logic.{inl, inr, ⊎_elim, ◌≢◌}
use mathlib.Core.Bool.{Bool, false, not}
use mathlib.Core.List.{List, [], ◌∷◌, ◌++◌}
use Prim.Native.Nat.{ℕ, ◌+◌, ◌-◌, ◌<◌, ◌≤◌}
use native.Mathlib.Omega.{arith}
use lib.Dec.{ltb}
use lib.ListN.{get_or}
use borrow.Author.Tests.{ltb-true, ltb-false, not-true, not-false}
use Rattle.codes.specs.Told.{Reason, ◌when◌, refusal}
use Rattle.codes.specs.Sizes.{none}
use Rattle.codes.specs.Judge.{known, sized, mark, marks, pair_first, pair_second, unused_at, pointed, pair_of, pair_in, judge_reasons}
use Rattle.codes.specs.Rules.{Known, Sized}
use Rattle.codes.specs.declared.Code.{Code}
use Rattle.demands.specs.Words.{Word}
use Rattle.demands.specs.Judge.{Offends, Spoils, Faulty, FirstPair, FirstSpoilt, Names, code_words, judge_words}
use Rattle.codes.proofs.Bools.{apart, by-test, fails}
use Rattle.codes.proofs.Told.{refusal-skip, refusal-stop}
use Rattle.codes.proofs.Tests.{known-when, known_only, sized-when, sized-only}
use Rattle.codes.proofs.Pairs.{Pair, Spoilt, mark-zero, marks-at, pair-smallest, pair-nearest, pair-named, unused-smallest, unused-named, pointed-only, pointed-when}
use Rattle.demands.proofs.Says.{Says, not-says}
use Rattle.demands.proofs.Words.{Matches, step}

-- the points of a code of known kind and right size

module _ (c : Code) (k : Known c.kind) (s : Sized c) where
  mark-at : (i : ℕ) → get_or (marks c) i 0 ≡ mark c (get_or c.points i none).0
  mark-at = marks-at c (mark-zero c k s)

  pair-of : (i j : ℕ) → Offends c i j → Pair (marks c) c.n (i - 1) (j - 1)
  pair-of i j o = record {
    order = omega arith;
    within = omega arith;
    equal = mark-at (i - 1) ∙ o.equal ∙ sym (mark-at (j - 1));
  }

  spoilt-of : (i : ℕ) → Spoils c i → Spoilt c.points c.n (i - 1)
  spoilt-of i o = record {
    from = omega arith;
    to = omega arith;
    nonzero = o.nonzero;
  }

  abbrev i₁ : ℕ
  i₁ = pair_first (marks c) c.n

  abbrev i₂ : ℕ
  i₂ = pair_second (marks c) c.n (pair_first (marks c) c.n)

  abbrev u : ℕ
  u = unused_at c.points c.n

  first-pair : i₁ < c.n → (i j : ℕ) → i ≡ i₁ + 1 → j ≡ i₂ + 1 → FirstPair c i j
  first-pair l i j p q =
      let f = pair-named (marks c) c.n l in
      let x : i₁ ≡ i - 1 = omega arith in
      let y : i₂ ≡ j - 1 = omega arith in
      record {
        offends = record {
          from = omega arith;
          order = omega (arith, f.order);
          to = omega (arith, f.within);
          equal = ap (λ (a : ℕ). mark c (get_or c.points a none).0) (sym x) ∙ sym (mark-at i₁) ∙ f.equal ∙ mark-at i₂
              ∙ ap (λ (a : ℕ). mark c (get_or c.points a none).0) y;
        };
        smallest = λ a b o. omega (arith, pair-smallest (marks c) c.n (a - 1) (b - 1) (pair-of a b o), o.from);
        nearest = λ b o. omega (arith, next b o, o.from, o.order);
      }
    where
      next : (b : ℕ) → Offends c i b → i₂ ≤ b - 1
      next b o =
          let x : i - 1 ≡ i₁ = omega arith in
          pair-nearest (marks c) c.n i₁ (b - 1) (rw x at (pair-of i b o))

  first-spoilt : c.n ≤ i₁ → u < 32 → (i : ℕ) → i ≡ u + 1 → FirstSpoilt c i
  first-spoilt l h i p =
      let f = unused-named c.points c.n s.most h in
      let x : i - 1 ≡ u = omega arith in
      record {
        alone = λ a b o. omega (arith, pair-smallest (marks c) c.n (a - 1) (b - 1) (pair-of a b o), o.from, o.order, o.to);
        spoils = record {
          past = omega (arith, f.from);
          to = omega (arith, f.to);
          nonzero = λ e. f.nonzero (ap (λ (a : ℕ). (get_or c.points a none).0) (sym x) ∙ e);
        };
        smallest = λ a o. omega (arith, unused-smallest c.points c.n (a - 1) (spoilt-of a o), o.past);
      }

  -- what refusal 4 names
  names : pointed (marks c) c.points c.n ≡ false → (i j : ℕ) → i ≡ (pair_in c).0 → j ≡ (pair_in c).1 → Names c i j
  unfolding pair_of
  names e i j p q =
      by-test (ltb i₁ c.n)
      (λ t. inl (first-pair (ltb-true _ _ t) i j (simp t at p) (simp t at q)))
      (λ t. by-test (ltb u 32)
      (λ v. inr (first-spoilt (ltb-false _ _ t) (ltb-true _ _ v) i (simp t at p), (simp t at q) ∙ sym (simp t at p)))
      (λ v. apart _ (pointed-when (marks c) c.points c.n (ltb-false _ _ t) (ltb-false _ _ v)) e))

  faulty-when : Faulty c → pointed (marks c) c.points c.n ≡ false
  faulty-when f =
      fails _ (λ e. let o = pointed-only (marks c) c.points c.n e in
      ⊎_elim (λ x. omega (arith, pair-smallest (marks c) c.n (x.0 - 1) (x.1 - 1) (pair-of x.0 x.1 x.2), x.2.from, x.2.order, x.2.to))
      (λ x. omega (arith, unused-smallest c.points c.n (x.0 - 1) (spoilt-of x.0 x.1), x.1.past, x.1.to)) f)

  faulty-only : pointed (marks c) c.points c.n ≡ false → Faulty c
  faulty-only e =
      ⊎_elim (λ f. inl (_, _, f.offends)) (λ f. inr (_, f.0.spoils)) (names e _ _ refl refl)

-- the judge's tests, and the words for them

abbrev pub coded : Code → Bool → List Reason
coded c b = (2 when not (known c.kind)) ∷ (3 when b) ∷ (4 when not (pointed (marks c) c.points c.n)) ∷ []

module _ (c : Code) where
  kind-says : Says (not (known c.kind)) (Known c.kind → ⊥)
  kind-says = not-says (known c.kind) (known_only c.kind, known-when c.kind)

  pub size-says : Says (not (sized c)) (Sized c → ⊥)
  size-says = not-says (sized c) (sized-only c, sized-when c)

  points-says : not (known c.kind) ≡ false → not (sized c) ≡ false → Says (not (pointed (marks c) c.points c.n)) (Faulty c)
  points-says a b =
      let k = known_only c.kind (not-false _ a) in
      let s = sized-only c (not-false _ b) in
      (λ e. faulty-only c k s (not-true _ e), λ f. ap not (faulty-when c k s f))

-- a code's reasons in words, where b tests that a size is outside its rule, and P says it

module _ (c : Code) (b : Bool) {P : Type 0} (says : Says b P) (right : b ≡ false → not (sized c) ≡ false) where
  pub code-matches : (rs : List Reason) (ws : List Word) → Matches rs ws → Matches (coded c b ++ rs) (code_words c P ++ ws)
  code-matches rs ws m = step refl (kind-says c) (λ x. step refl says (λ y. step refl (points-says c x (right y)) (λ _. m)))

  pub code-names : (more : List Reason) → refusal more ≢ 4 → refusal (coded c b ++ more) ≡ 4 → (i j : ℕ) → i ≡ (pair_in c).0 → j ≡ (pair_in c).1 → Names c i j
  code-names more z e =
      let a = not (known c.kind) in
      let d = not (pointed (marks c) c.points c.n) in
      let r₄ : List Reason = (4 when d) ∷ more in
      let r₃ : List Reason = (3 when b) ∷ r₄ in
      by-test a (λ x. absurd (omega (arith, sym (refusal-stop 2 r₃ x) ∙ e)))
      (λ x. by-test b (λ y. absurd (omega (arith, sym (refusal-skip 2 r₃ x ∙ refusal-stop 3 r₄ y) ∙ e)))
      (λ y. by-test d (λ w. names c (known_only c.kind (not-false _ x)) (sized-only c (not-false _ (right y))) (not-true _ w))
      (λ w. absurd (z (sym (refusal-skip 2 r₃ x ∙ refusal-skip 3 r₄ y ∙ refusal-skip 4 more w) ∙ e)))))

-- the judge's own

module _ (c : Code) where
  pub judge-matches : (rs : List Reason) (ws : List Word) → Matches rs ws → Matches (judge_reasons c ++ rs) (judge_words c ++ ws)
  unfolding judge_reasons
  judge-matches = code-matches c (not (sized c)) (size-says c) (λ e. e)

  pub judge-names : (more : List Reason) → refusal more ≢ 4 → refusal (judge_reasons c ++ more) ≡ 4 → (i j : ℕ) → i ≡ (pair_in c).0 → j ≡ (pair_in c).1 → Names c i j
  unfolding judge_reasons
  judge-names = code-names c (not (sized c)) (size-says c) (λ e. e)
