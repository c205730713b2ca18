-- Demand 1 holds of reading a record.
--
--     unlisted, listed     a byte has no body exactly when it is that of no row of the kinds
--     Bodied               every row has a body
--     why                  a reason of document 01, where no whole record stands at a place
--     demand1-read         the demand
use mathlib.Core.Bool.{Bool, true, false, ◌&&◌, not}
use mathlib.Core.List.{List, [], ◌∷◌}
use mathlib.Core.Logic.{inl, inr, ⊎_elim}
use mathlib.Core.Path.{◌≡◌, refl, ap, ◌∙◌}
use Prim.Native.Nat.{ℕ}
use native.Mathlib.Omega.{arith}
use borrow.Author.Tests.{ne_eqb, eqb-true, eqb-false, ltb-false, leb-false, not-false}
use lib.Dec.{leb, ltb, eqb}
use lib.ListN.{length, get_or}
use Rattle.records.specs.Choice.{pick}
use Rattle.records.specs.Demand.{NoneOf, Faulty, Demand1}
use Rattle.records.specs.Kinds.{Kind, kinds, body_in, body_of}
use Rattle.records.specs.Reading.{end_at, whole, answered, read_at, told, told_by}
use Rattle.records.proofs.Flags.{known-or, either}
use Rattle.records.proofs.Whole.{past, unknown, cut, told-answered}

abbrev pub Bodied : List Kind → Type 0
Bodied [] = Unit
Bodied (row ∷ rows) = (row.body ≡ 0 → ⊥) × Bodied rows

first_out : (t : Bool) (body rest : ℕ) → (body ≡ 0 → ⊥) → pick t body rest ≡ 0 → (t ≡ false) × (rest ≡ 0)
first_out true body rest n e = absurd (n e)
first_out false body rest n e = (refl, e)

pub unlisted : (rows : List Kind) (byte : ℕ) → Bodied rows → body_in rows byte ≡ 0 → NoneOf rows byte
unlisted [] byte n e = tt
unlisted (row ∷ rows) byte n e =
    let f = first_out (eqb byte row.byte) row.body (body_in rows byte) n.0 e in
    (eqb-false _ _ f.0, unlisted rows byte n.1 f.1)

pub listed : (rows : List Kind) (byte : ℕ) → NoneOf rows byte → body_in rows byte ≡ 0
listed [] byte n = refl
listed (row ∷ rows) byte n = simp (ne_eqb _ _ n.0) (listed rows byte n.1)

all-bodied : Bodied kinds
all-bodied = (λ e. omega arith, (λ e. omega arith, (λ e. omega arith, (λ e. omega arith, (λ e. omega arith, (λ e. omega arith, tt))))))

module _ (file : List ℕ) (place : ℕ) where
  pub why : whole file place ≡ false → Faulty file place
  unfolding whole body_of
  why h =
      ⊎_elim
      (λ p. ⊎_elim
      (λ q. inl (ltb-false _ _ q))
      (λ q. inr (inl (unlisted kinds _ all-bodied (eqb-true _ _ (not-false _ q)))))
      (either (ltb place (length file)) (not (eqb (body_of (get_or file place 0)) 0)) p))
      (λ p. inr (inr (leb-false _ _ p)))
      (either (ltb place (length file) && not (eqb (body_of (get_or file place 0)) 0)) (leb (end_at file place) (length file)) h)

  not-whole : Faulty file place → whole file place ≡ false
  unfolding body_of
  not-whole f = ⊎_elim (past file place) (⊎_elim (λ n. unknown file place (listed kinds _ n)) (cut file place)) f

  tells : (t : Bool) → whole file place ≡ t → told (read_at file place) ≡ told_by t file place
  tells t h = ap (λ (b : Bool). told (answered b file place)) h ∙ told-answered file place t

  clash : whole file place ≡ true → whole file place ≡ false → ⊥
  clash y n = let z : ◌≡◌ {A = Bool} true false = cc in let w : ◌≡◌ {A = ℕ} 0 1 = cc in omega arith

pub demand1-read : Demand1 read_at
demand1-read =
    record {
      refused = λ file place f. tells file place false (not-whole file place f);
      done = λ file place n. ⊎_elim (tells file place true) (λ h. absurd (n (why file place h))) (known-or (whole file place));
      decided = λ file place. ⊎_elim (λ h. inr (λ f. clash file place h (not-whole file place f))) (λ h. inl (why file place h)) (known-or (whole file place));
    }
