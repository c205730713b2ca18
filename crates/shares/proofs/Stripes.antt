-- The D records of a share file, as the judge goes through them.
--   not-read, is_read     what a reading says of the test that a record stands there
--   read-start, node-room, stripe-room     where the body of a record that was read stands
--   spare-start, spare-next, spare-stop, spare-end            the symbols past the first a
--   stripe-none, stripe-other, stripe-spare            a D record by its parts
-- Assumes nothing.
use mathlib.Core.Path.{◌≡◌, ◌∙◌, refl, sym, ap}
use mathlib.Core.Bool.{Bool, true, false, ◌&&◌, or-true}
use mathlib.Core.List.{List}
use Prim.Native.Nat.{ℕ, ◌+◌, ◌<◌, ◌≤◌}
use native.Mathlib.Omega.{arith}
use borrow.Author.Tests.{lt-ltb, le-ltb, eq-eqb, ne_eqb}
use lib.ListN.{length, get_or}
use Rattle.records.specs.Kinds.{body_of}
use Rattle.records.specs.Numbers.{number_at}
use Rattle.records.specs.Reading.{found, no_record, whole_as, answered, read_as}
use Rattle.records.proofs.Whole.{body-holds, as-kind, as_read, read-inside}
use Rattle.shares.specs.Fields.{stripe_at}
use Rattle.shares.specs.File.{below, zero_past, spare, stripe_good}
use Rattle.shares.proofs.Below.{below_next, below_each, below-stop, below-fewer}

-- ---- what was read

module _ (s : List ℕ) (place : ℕ) where
  refused-by : (t : Bool) (p : ℕ) → answered t s place ≡ no_record p → t ≡ false
  refused-by true p e = let z : ◌≡◌ {A = ℕ} 0 1 = cc in absurd (omega arith)
  refused-by false p e = refl

  pub not-read : (kind p : ℕ) → read_as s place kind ≡ no_record p → whole_as s place kind ≡ false
  not-read kind p e = refused-by (whole_as s place kind) p e

  module _ (kind start end next : ℕ) (e : read_as s place kind ≡ found start end next) where
    pub is_read : whole_as s place kind ≡ true
    is_read = (body-holds s place (whole_as s place kind) start end next e).0

    pub read-start : start ≡ place + 1
    read-start = (read-inside s place start end next (as_read s place kind start end next e)).start_is

    read-room : start + body_of kind ≤ length s
    read-room =
        let i = read-inside s place start end next (as_read s place kind start end next e) in
        omega (arith, i.end_is, i.fits, ap body_of (as-kind s place kind start end next e))

-- the bodies of an N record and of a D record
pub node-room : (s : List ℕ) (place start end next : ℕ) → read_as s place 0x4E ≡ found start end next → start < length s
unfolding body_of
node-room s place start end next e = omega (arith, read-room s place 0x4E start end next e)

pub stripe-room : (s : List ℕ) (place start end next : ℕ) → read_as s place 0x44 ≡ found start end next → start + 33 ≤ length s
unfolding body_of
stripe-room s place start end next e = read-room s place 0x44 start end next e

-- ---- the symbols past the first a

module _ (a : ℕ) (s : List ℕ) (at : ℕ) where
  pub spare-start : below a (zero_past a s at) ≡ true
  spare-start = below_each a (zero_past a s at) (λ j h. simp (lt-ltb j a h))

  pub spare-next : (j : ℕ) → below j (zero_past a s at) ≡ true → get_or s (at + j) 0 ≡ 0 → below (j + 1) (zero_past a s at) ≡ true
  spare-next j e h = below_next j (zero_past a s at) e (simp (eq-eqb _ _ h, or-true))

  pub spare-stop : (j : ℕ) → a ≤ j → j < 31 → (get_or s (at + j) 0 ≡ 0 → ⊥) → false ≡ spare a s at
  unfolding spare
  spare-stop j h l n = sym (below-stop 31 (zero_past a s at) j l (simp (le-ltb j a h, ne_eqb _ _ n)))

  pub spare-end : (j : ℕ) → 31 ≤ j → below j (zero_past a s at) ≡ true → true ≡ spare a s at
  unfolding spare
  spare-end j h e = sym (below-fewer 31 j (zero_past a s at) h e)

-- ---- a D record

first_out : (a b c : Bool) → a ≡ false → false ≡ (a && b && c)
first_out true b c e = let z : ◌≡◌ {A = ℕ} 0 1 = cc in absurd (omega arith)
first_out false b c e = refl

second-out : (a b c : Bool) → b ≡ false → false ≡ (a && b && c)
second-out true true c e = let z : ◌≡◌ {A = ℕ} 0 1 = cc in absurd (omega arith)
second-out true false c e = refl
second-out false b c e = refl

last-left : (a b c : Bool) → a ≡ true → b ≡ true → c ≡ (a && b && c)
last-left true true c e f = refl
last-left true false c e f = let z : ◌≡◌ {A = ℕ} 0 1 = cc in absurd (omega arith)
last-left false b c e f = let z : ◌≡◌ {A = ℕ} 0 1 = cc in absurd (omega arith)

module _ (a : ℕ) (s : List ℕ) (i place : ℕ) (e : place ≡ stripe_at i) where
  here : whole_as s place 0x44 ≡ whole_as s (stripe_at i) 0x44
  here = ap (λ (n : ℕ). whole_as s n 0x44) e

  pub stripe-none : (p : ℕ) → read_as s place 0x44 ≡ no_record p → false ≡ stripe_good a s i
  unfolding stripe_good
  stripe-none p f = first_out (whole_as s (stripe_at i) 0x44) _ _ (sym here ∙ not-read s place 0x44 p f)

  module _ (start end next n : ℕ) (f : read_as s place 0x44 ≡ found start end next) (g : n ≡ number_at 2 s start) where
    at-start : start ≡ stripe_at i + 1
    at-start = read-start s place 0x44 start end next f ∙ ap (λ (k : ℕ). k + 1) e

    numbered : n ≡ number_at 2 s (stripe_at i + 1)
    numbered = g ∙ ap (number_at 2 s) at-start

    pub stripe-other : (n ≡ i → ⊥) → false ≡ stripe_good a s i
    unfolding stripe_good
    stripe-other m = second-out (whole_as s (stripe_at i) 0x44) _ _ (ne_eqb (number_at 2 s (stripe_at i + 1)) i (λ h. m (numbered ∙ h)))

    pub stripe-spare : n ≡ i → spare a s (start + 2) ≡ stripe_good a s i
    unfolding stripe_good
    stripe-spare h =
        let p : start + 2 ≡ stripe_at i + 3 = omega (arith, at-start) in
        ap (spare a s) p
        ∙ last-left (whole_as s (stripe_at i) 0x44) _ _ (sym here ∙ is_read s place 0x44 start end next f) (eq-eqb (number_at 2 s (stripe_at i + 1)) i (sym numbered ∙ h))
