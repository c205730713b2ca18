-- When a whole record stands at a place, and what is answered then.
--
--     past, unknown, cut, stands     the test by its parts
--     is_whole                       the parts, where the test holds
--     told-answered                  what an answer tells, by its test
--     settled                        an answer and what it tells, from what the test gives
--     body-holds, handed-on          what an answer says of its test; a refusal stays one under a further test
--     read-inside                    a body that was read lies within the file
--     other, same                    the test where a kind is expected, and the byte is of another or the same
--     reads_as                       what is read where a record of the kind expected stands
--     as-kind, as_read               a body read where a kind is expected is of that kind, and is the one read without it
use mathlib.Core.Bool.{Bool, true, false, ◌&&◌, not, and-false, and-true}
use mathlib.Core.List.{List}
use mathlib.Core.Path.{◌≡◌, refl, sym, ap, ◌∙◌}
use Prim.Native.Nat.{ℕ, ◌+◌, ◌<◌, ◌≤◌}
use native.Mathlib.Omega.{arith}
use borrow.Author.Tests.{lt-ltb, le-ltb, le-leb, lt-leb, eq-eqb, ne_eqb, ltb-true, leb-true, eqb-true, eqb-false, not-true}
use lib.Dec.{leb, ltb, eqb}
use lib.ListN.{length, get_or}
use Rattle.std.specs.Prelude.{Ok, Err}
use Rattle.records.specs.Demand.{Inside}
use Rattle.records.specs.Kinds.{body_of}
use Rattle.records.specs.Reading.{Read, found, no_record, end_at, whole, whole_as, answered, read_at, read_as, told, told_by}
use Rattle.records.specs.declared.reading.Found.{Found}
use Rattle.records.proofs.Flags.{both}

module _ (file : List ℕ) (place : ℕ) where
  pub past : length file ≤ place → whole file place ≡ false
  unfolding whole
  past h = simp (le-ltb _ _ h)

  pub unknown : body_of (get_or file place 0) ≡ 0 → whole file place ≡ false
  unfolding whole
  unknown b = simp (eq-eqb _ _ b, and-false)

  pub cut : length file < end_at file place → whole file place ≡ false
  unfolding whole
  cut e = simp (lt-leb _ _ e, and-false)

  pub stands : place < length file → (body_of (get_or file place 0) ≡ 0 → ⊥) → end_at file place ≤ length file → whole file place ≡ true
  unfolding whole
  stands h b e = simp (lt-ltb _ _ h, ne_eqb _ _ b, le-leb _ _ e)

  pub is_whole : whole file place ≡ true
      → (place < length file) × ((body_of (get_or file place 0) ≡ 0 → ⊥) × (end_at file place ≤ length file))
  unfolding whole
  is_whole h =
      let p = both (ltb place (length file) && not (eqb (body_of (get_or file place 0)) 0)) (leb (end_at file place) (length file)) h in
      let q = both (ltb place (length file)) (not (eqb (body_of (get_or file place 0)) 0)) p.0 in
      (ltb-true _ _ q.0, (eqb-false _ _ (not-true _ q.1), leb-true _ _ p.1))

  pub told-answered : (t : Bool) → told (answered t file place) ≡ told_by t file place
  told-answered true = refl
  told-answered false = refl

  pub settled : (r : Read) (t w : Bool) → r ≡ answered t file place → w ≡ t
      → (r ≡ answered w file place) × (told r ≡ told_by w file place)
  settled r t w e h =
      (e ∙ ap (λ (b : Bool). answered b file place) (sym h), ap told e ∙ told-answered t ∙ ap (λ (b : Bool). told_by b file place) (sym h))

  pub body-holds : (t : Bool) (start end next : ℕ) → answered t file place ≡ found start end next
      → (t ≡ true) × (found start end next ≡ answered true file place)
  body-holds true start end next e = (refl, sym e)
  body-holds false start end next e = let z : ◌≡◌ {A = ℕ} 0 1 = cc in absurd (omega arith)

  pub handed-on : (t u : Bool) (p : ℕ) → answered t file place ≡ no_record p → answered (t && u) file place ≡ no_record p
  handed-on true u p e = let z : ◌≡◌ {A = ℕ} 0 1 = cc in absurd (omega arith)
  handed-on false u p e = e

  abbrev part_of : Found → Read → Found
  part_of d (Ok f) = f
  part_of d (Err n) = d

  same_parts : (a b : Found) → ◌≡◌ {A = Read} (Ok a) (Ok b) → a ≡ b
  same_parts a b e = ap (part_of a) e

  pub read-inside : (start end next : ℕ) → read_at file place ≡ found start end next → Inside file place start end next
  read-inside start end next e =
      let b = body-holds (whole file place) start end next e in
      let w = is_whole b.0 in
      let p = same_parts _ _ b.1 in
      let s : start ≡ place + 1 = ap (λ (f : Found). f.start) p in
      let l : end ≡ end_at file place = ap (λ (f : Found). f.end) p in
      let n : next ≡ end_at file place = ap (λ (f : Found). f.next) p in
      record { inside = w.0; start_is = s; end_is = omega (arith, s, l); next-is = omega (arith, l, n); known = w.1.0; fits = omega (arith, l, w.1.1) }

  pub other : (kind : ℕ) → (get_or file place 0 ≡ kind → ⊥) → whole_as file place kind ≡ false
  other kind h = simp (ne_eqb _ _ h, and-false)

  pub same : (kind : ℕ) → whole file place ≡ true → get_or file place 0 ≡ kind → whole_as file place kind ≡ true
  same kind w h = simp (eq-eqb _ _ h, and-true, w)

  pub reads_as : (kind : ℕ) → get_or file place 0 ≡ kind → (body_of kind ≡ 0 → ⊥) → place + 1 + body_of kind ≤ length file
      → read_as file place kind ≡ found (place + 1) (place + 1 + body_of kind) (place + 1 + body_of kind)
  reads_as kind e n h =
      let b : body_of (get_or file place 0) ≡ body_of kind = ap body_of e in
      let w : whole file place ≡ true = stands (omega arith) (λ z. n (sym b ∙ z)) (omega (arith, b)) in
      ap (λ (t : Bool). answered t file place) (same kind w e) ∙ ap (λ (k : ℕ). found (place + 1) (place + 1 + k) (place + 1 + k)) b

  module _ (kind start end next : ℕ) (e : read_as file place kind ≡ found start end next) where
    pub as-kind : get_or file place 0 ≡ kind
    as-kind =
        eqb-true _ _ (both (whole file place) (eqb (get_or file place 0) kind) (body-holds (whole_as file place kind) start end next e).0).1

    pub as_read : read_at file place ≡ found start end next
    as_read =
        let b = body-holds (whole_as file place kind) start end next e in
        ap (λ (t : Bool). answered t file place) (both (whole file place) (eqb (get_or file place 0) kind) b.0).0 ∙ sym b.1
