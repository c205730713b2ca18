-- The tests of an operation's inputs say what can be wrong with them in words.
--   among-cons, two-cons         a list that is one longer, and among-uncons, two-uncons the other way
--   lengths-says                 of the lengths of runs
--   outside-says                 of a node;   every-says    of each of a list
--   has-says, repeats-says, differ-says      of a list of nodes or counts
--   agree                        numbers that don't differ are equal
--   common, common-one           counts that don't differ have one count, and only one
-- Assumes nothing.
use mathlib.Core.Path.{◌≡◌, ◌∙◌, refl, sym}
use mathlib.Core.Logic.{◌⊎◌, inl, inr, ⊎_elim, ◌≢◌}
use mathlib.Core.Bool.{Bool, false, not, ◌&&◌}
use mathlib.Core.List.{List, [], ◌∷◌}
use Prim.Native.Nat.{ℕ, zero, suc, ◌<◌}
use native.Mathlib.Nat.{not-suc-le-zero, le_of_suc-le-suc}
use native.Mathlib.Omega.{arith}
use lib.Dec.{eqb, leb}
use lib.ListN.{length, get_or}
use Rattle.codes.specs.declared.Code.{Code}
use Rattle.codes.proofs.Bools.{apart, by-test}
use Rattle.stripes.specs.Lists.{every, has, repeats, differ, within}
use Rattle.demands.specs.Inputs.{Among, Two, LengthsOff, Outside, Twice, Differing, Common}
use Rattle.demands.proofs.Says.{Says, says-by, not-says, or-says, off-says, eqb-says, leb-off}

-- lists, one element longer

module _ (P : ℕ → Type 0) (x : ℕ) (xs : List ℕ) where
  pub among-cons : P x ⊎ Among P xs → Among P (x ∷ xs)
  among-cons (inl p) = record { place = 0; within = omega arith; is = p }
  among-cons (inr a) = record { place = suc a.place; within = omega arith; is = a.is }

  among-at : (i : ℕ) → i < length (x ∷ xs) → P (get_or (x ∷ xs) i 0) → P x ⊎ Among P xs
  among-at zero l p = inl p
  among-at (suc i) l p = inr (record { place = i; within = le_of_suc-le-suc l; is = p })

  pub among-uncons : Among P (x ∷ xs) → P x ⊎ Among P xs
  among-uncons a = among-at a.place a.within a.is

module _ (R : ℕ → ℕ → Type 0) (x : ℕ) (xs : List ℕ) where
  two-cons : Among (R x) xs ⊎ Two R xs → Two R (x ∷ xs)
  two-cons (inl a) = record { first = 0; second = suc a.place; order = omega arith; within = omega arith; are = a.is }
  two-cons (inr t) = record { first = suc t.first; second = suc t.second; order = omega arith; within = omega arith; are = t.are }

  two_at : (i j : ℕ) → i < j → j < length (x ∷ xs) → R (get_or (x ∷ xs) i 0) (get_or (x ∷ xs) j 0) → Among (R x) xs ⊎ Two R xs
  two_at i zero o l r = absurd (not-suc-le-zero o)
  two_at zero (suc j) o l r = inl (record { place = j; within = le_of_suc-le-suc l; is = r })
  two_at (suc i) (suc j) o l r = inr (record { first = i; second = j; order = le_of_suc-le-suc o; within = le_of_suc-le-suc l; are = r })

  two-uncons : Two R (x ∷ xs) → Among (R x) xs ⊎ Two R xs
  two-uncons t = two_at t.first t.second t.order t.within t.are

-- lengths

abbrev pub fits : Bool → List (ℕ × ℕ) → Bool
fits t [] = t
fits t (p ∷ ps) = fits (t && eqb p.0 p.1) ps

off-too : (t : Bool) {P : Type 0} (ps : List (ℕ × ℕ)) → Says (not t) P → Says (not (fits t ps)) (P ⊎ LengthsOff ps)
off-too t [] s = says-by inl (⊎_elim (λ p. p) (λ z. absurd z)) s
off-too t (p ∷ ps) s =
    says-by (⊎_elim (⊎_elim inl (λ q. inr (inl q))) (λ r. inr (inr r))) (⊎_elim (λ q. inl (inl q)) (⊎_elim (λ q. inl (inr q)) inr))
    (off-too (t && eqb p.0 p.1) ps (off-says t (eqb p.0 p.1) s (not-says _ (eqb-says p.0 p.1))))

pub lengths-says : (p : ℕ × ℕ) (ps : List (ℕ × ℕ)) → Says (not (fits (eqb p.0 p.1) ps)) (LengthsOff (p ∷ ps))
lengths-says p ps = off-too (eqb p.0 p.1) ps (not-says _ (eqb-says p.0 p.1))

-- nodes and counts

pub agree : (a b : ℕ) → (a ≢ b → ⊥) → a ≡ b
agree a b h = by-test (eqb a b) (eqb-says a b).0 (λ e. absurd (h (λ f. apart _ ((eqb-says a b).1 f) e)))

pub outside-says : (c : Code) (v : ℕ) → Says (not (within c v)) (Outside c v)
outside-says c v = off-says (leb 1 v) (leb v c.n) (leb-off 1 v) (leb-off v c.n)

pub every-says : (p : ℕ → Bool) (P : ℕ → Type 0) → ((x : ℕ) → Says (not (p x)) (P x)) → (xs : List ℕ) → Says (not (every p xs)) (Among P xs)
unfolding every
every-says p P s [] = (λ e. apart false e refl, λ a. absurd (not-suc-le-zero a.within))
every-says p P s (x ∷ xs) = says-by (among-cons P x xs) (among-uncons P x xs) (off-says (p x) (every p xs) (s x) (every-says p P s xs))

pub has-says : (v : ℕ) (xs : List ℕ) → Says (has v xs) (Among (λ x. v ≡ x) xs)
unfolding has
has-says v [] = (λ e. apart false e refl, λ a. absurd (not-suc-le-zero a.within))
has-says v (x ∷ xs) =
    says-by (among-cons (λ y. v ≡ y) x xs) (among-uncons (λ y. v ≡ y) x xs) (or-says (eqb v x) (has v xs) (eqb-says v x) (has-says v xs))

pub repeats-says : (xs : List ℕ) → Says (repeats xs) (Twice xs)
unfolding repeats
repeats-says [] = (λ e. apart false e refl, λ t. absurd (not-suc-le-zero t.within))
repeats-says (x ∷ xs) =
    says-by (two-cons (λ a b. a ≡ b) x xs) (two-uncons (λ a b. a ≡ b) x xs) (or-says (has x xs) (repeats xs) (has-says x xs) (repeats-says xs))

-- where two counts differ, one of them differs from any third
differs : (x : ℕ) (xs : List ℕ) → Differing xs → Among (λ y. x ≢ y) xs
differs x xs t =
    by-test (eqb x (get_or xs t.first 0))
    (λ e. record { place = t.second; within = t.within; is = λ f. t.are (sym ((eqb-says _ _).0 e) ∙ f) })
    (λ e. record { place = t.first; within = omega arith; is = λ f. apart _ ((eqb-says _ _).1 f) e })

pub differ-says : (xs : List ℕ) → Says (differ xs) (Differing xs)
unfolding differ
differ-says [] = (λ e. apart false e refl, λ t. absurd (not-suc-le-zero t.within))
differ-says (x ∷ xs) =
    says-by (λ a. two-cons (λ m n. m ≢ n) x xs (inl a)) (λ t. ⊎_elim (λ a. a) (differs x xs) (two-uncons (λ m n. m ≢ n) x xs t))
    (every-says (eqb x) (λ y. x ≢ y) (λ y. not-says (eqb x y) (eqb-says x y)) xs)

pub common : (ns : List ℕ) → 0 < length ns → (Differing ns → ⊥) → Common ns (get_or ns 0 0)
common ns h d = record { some = h; all = all }
  where
    all : (i : ℕ) → i < length ns → get_or ns i 0 ≡ get_or ns 0 0
    all zero l = refl
    all (suc i) l = agree _ _ (λ f. d (record { first = 0; second = suc i; order = omega arith; within = l; are = λ e. f (sym e) }))

pub common-one : (ns : List ℕ) (a b : ℕ) → Common ns a → Common ns b → a ≡ b
common-one ns a b x y = sym (x.all 0 x.some) ∙ y.all 0 y.some
