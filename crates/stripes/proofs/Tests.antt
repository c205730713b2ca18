-- The tests over lists, by std's `list_all` and `list_any`.
--   every-is, has-is     each of a list passes a test; a number is one of a list
--   repeats-is           a number of a list is one of those after it: of the list numbered from a place on
--   differ-is            a number after the first is not the first
-- Assumes nothing.
use mathlib.Core.Path.{◌≡◌, ◌∙◌, refl, sym, ap, ap₂}
use mathlib.Core.Bool.{Bool, true, false, not, ◌&&◌, ◌||◌}
use mathlib.Core.List.{List, [], ◌∷◌}
use Prim.Native.Nat.{ℕ, ◌+◌}
use lib.Dec.{eqb}
use native.Mathlib.Omega.{arith}
use lib.ListN.{length, drop}
use Rattle.std.proofs.lemmas.List.{drop-drop}
use Rattle.std.specs.List.{list_all, list_any, enumerate_from}
use Rattle.stripes.specs.Lists.{every, has, repeats, differ}

pub every-is : (p : ℕ → Bool) (xs : List ℕ) → list_all p xs ≡ every p xs
unfolding every
every-is p [] = refl
every-is p (x ∷ xs) = ap (λ (b : Bool). p x && b) (every-is p xs)

eqb-swap : (a b : ℕ) → eqb a b ≡ eqb b a
eqb-swap a b = grind arith

pub has-is : (v : ℕ) (xs : List ℕ) → list_any (λ x. eqb x v) xs ≡ has v xs
unfolding has
has-is v [] = refl
has-is v (x ∷ xs) = ap₂ ◌||◌ (eqb-swap x v) (has-is v xs)

pub repeats-is : (xs zs : List ℕ) (i : ℕ) → drop i zs ≡ xs
    → list_any (λ (p : ℕ × ℕ). has p.1 (drop (p.0 + 1) zs)) (enumerate_from i xs) ≡ repeats xs
unfolding repeats
repeats-is [] zs i h = refl
repeats-is (x ∷ xs) zs i h =
    let e : drop (i + 1) zs ≡ xs = sym (drop-drop 1 i zs) ∙ ap (drop 1) h in
    ap₂ ◌||◌ (ap (has x) e) (repeats-is xs zs (i + 1) e)

pub differ-none : (xs : List ℕ) → length xs ≡ 0 → false ≡ differ xs
unfolding differ
differ-none [] h = refl
differ-none (x ∷ xs) h = absurd (omega arith)

pub differ-is : (x : ℕ) (xs : List ℕ) → list_any (λ y. not (eqb y x)) xs ≡ differ (x ∷ xs)
unfolding differ every
differ-is x [] = refl
differ-is x (y ∷ ys) = rw (differ-is x ys, eqb-swap y x) (not-and (eqb x y) (every (eqb x) ys))
  where
    not-and : (a b : Bool) → (not a || not b) ≡ not (a && b)
    not-and true b = refl
    not-and false b = refl
