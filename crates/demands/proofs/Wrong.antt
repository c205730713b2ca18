-- Wrong operations do not meet demand 3. One small setting shows it of them all: document 01's smallest code, the book 9 and one slip.
-- Each is asked only what the wrong program does: of slips and rebuilds that are told done, or of whole slips on accepted files.
--   no_change         a slip that is told done and changes no share
--   no-count          a slip that is told done and leaves the count
--   taken-again       a slip that is taken again, told done or with the file changed, where its number is at or below the count
--   made-up-told      a rebuild that is told done with another count than its helpers', where theirs is not 0
--   made-up-file      a rebuild that is told done and writes another count than its helpers', where theirs is not 0
-- Assumes nothing.
use mathlib.Core.Path.{◌≡◌, ◌∙◌, refl, sym, ap, subst}
use mathlib.Core.Logic.{◌⊎◌, ⊎_elim, ◌≢◌}
use mathlib.Core.List.{List, [], ◌∷◌}
use Prim.Native.Nat.{ℕ, zero, suc, ◌*◌, ◌<◌, ◌≤◌}
use native.Mathlib.Omega.{arith}
use lib.ListN.{length, get_or, replicate}
use Rattle.field.specs.Field.{mul, shifted, double}
use Rattle.records.specs.Numbers.{number_at, digits}
use Rattle.algebra.specs.Symbol.{symbol, ◌⊕◌, ◌⊗◌, 𝟘, 𝟙, pow}
use Rattle.algebra.specs.Sums.{sum}
use Rattle.algebra.specs.Bytes.{table}
use Rattle.codes.specs.Told.{Told, done, refused, refusal, tell, answered}
use Rattle.codes.specs.First.{first}
use Rattle.codes.specs.Places.{start, triangle}
use Rattle.codes.specs.Matrix.{mbr, msr, matrix}
use Rattle.codes.specs.Sizes.{alpha, bytes, point}
use Rattle.codes.specs.Share.{share, changed}
use Rattle.codes.specs.Judge.{known, sized, mark, marks, pair_first, pair_second, unused_at, pointed, judge_reasons, judged}
use Rattle.codes.specs.declared.Code.{Code}
use Rattle.codes.specs.declared.Refusal.TheVariants.{Order}
use Rattle.codes.proofs.Rules.{rules}
use Rattle.codes.proofs.Sizes.{alpha-high}
use Rattle.codes.proofs.Told.{number-nonzero}
use Rattle.shares.specs.Fields.{code_record, node_record, help_record, code_in, stripes_in, count_in, share_in}
use Rattle.shares.specs.File.{file_told}
use Rattle.shares.specs.Slip.{slip_number, slip_stripe, slip_index}
use Rattle.shares.specs.Afresh.{stripe_of, afresh, amended, amended_by}
use Rattle.shares.proofs.Fresh.{afresh-code, afresh-total, afresh-count, afresh-share}
use Rattle.shares.proofs.Accepted.{judged-afresh}
use Rattle.shares.proofs.Amended.{slip-number, slip-stripe, slip-index}
use Rattle.batches.specs.Batch.{count_at}
use Rattle.demands.specs.History.{Operations, Setting, Fair, slip_at, record_at, book_at, fresh_at, World, holds, first_world, joined, help_of, batches_of, deliver, after, Reached, then, Helped, Kept, Next, Renewed, Demand3}
use Rattle.demands.specs.History
use Rattle.demands.proofs.Taken.{slip-long, slip-kind}

-- ---- the setting

abbrev pub smallest : Code
smallest = record { kind = 1; n = 2; k = 1; d = 1; points = record { 0 = 0 } ∷ record { 0 = 1 } ∷ replicate 30 (record { 0 = 0 }) }

abbrev Small : Setting
Small = record { code = smallest; total = 1; book = 9 ∷ []; slips = record { stripe = 0; index = 0; change = 1 } ∷ [] }

pub good : judged smallest ≡ done 0
unfolding judged judge_reasons answered tell refusal known sized pointed marks mark pair_first pair_second unused_at first
good = refl

pub one_byte : bytes smallest ≡ 1
unfolding bytes
one_byte = refl

fair : Fair Small
fair = record {
  rules = rules smallest good;
  points = refl;
  some = omega arith;
  most = omega arith;
  long = ap (λ (k : ℕ). 1 * k) (sym one_byte);
  places = place;
  few = omega arith;
}
  where
    place : (i : ℕ) → i < 1 → ((slip_at Small i).stripe < 1) × ((slip_at Small i).index < bytes smallest)
    place zero h = (omega arith, omega (arith, one_byte))
    place (suc i) h = absurd (omega arith)

-- the share file of the station v at the beginning, and with the slip taken
abbrev Begun : ℕ → List ℕ
Begun v = afresh smallest v 1 0 (9 ∷ [])

abbrev Moved : ℕ → List ℕ
Moved v = fresh_at Small v 1

begun : (v : ℕ) → count_in (Begun v) ≡ 0
begun v = afresh-count smallest v 1 0 (9 ∷ []) refl (omega arith)

moved : (v : ℕ) → count_in (Moved v) ≡ 1
moved v = afresh-count smallest v 1 1 (book_at Small 1) refl (omega arith)

-- the slip's record
abbrev Record : List ℕ
Record = record_at Small 0

number-said : slip_number Record ≡ 1
number-said = slip-number 1 (slip_at Small 0) (omega arith)

-- ---- the two shares

nine : share smallest 1 (stripe_of smallest (9 ∷ []) 0) ≡ 9 ∷ []
unfolding bytes share changed matrix msr mbr triangle start alpha point table sum symbol ◌⊕◌ ◌⊗◌ 𝟘 𝟙 pow mul shifted double
nine = refl

eight : share smallest 1 (stripe_of smallest (book_at Small 1) 0) ≡ 8 ∷ []
unfolding bytes amended_by amended share changed matrix msr mbr triangle start alpha point table sum symbol ◌⊕◌ ◌⊗◌ 𝟘 𝟙 pow mul shifted double
eight = refl

narrow : (m : ℕ) (book : List ℕ) → share_in smallest (afresh smallest 1 1 m book) 0 ≡ share smallest 1 (stripe_of smallest book 0)
narrow m book = afresh-share smallest 1 1 m book refl (alpha-high smallest (rules smallest good)) 0 (omega arith)

-- the station 1 rebuilt from the station 2
abbrev Helper : ℕ → List ℕ
Helper i = 2 ∷ []

abbrev Output : List ℕ
Output = replicate 79 0

sent-count : count_at (joined (λ i. joined (λ r. help_of smallest (Moved 2) 1 i) 0 1) 0 1) 0 ≡ 1
unfolding number_at joined help_record digits afresh code_record node_record
sent-count = refl

module _ (O : Operations) (D : Demand3 O) where
  -- ---- the slip is taken at the station v

  module _ (v : ℕ) (here : first_world Small v ≡ holds (Begun v)) where
    share-held : Kept O Small v (Begun v)
    share-held = D.held Small fair (first_world Small) History.first v (Begun v) here

    none-taken : share-held.count ≡ 0
    none-taken = sym share-held.counted ∙ begun v

    taken : Next O Small v (Begun v) 0
    taken = rw none-taken at (share-held.next (omega (arith, none-taken)))

  told-done : (O.slip_tells (Begun 1) Record).number ≡ 0
  told-done = ap (λ (t : Told). t.number) (taken 1 refl).told

  pub no_change : ((s p : List ℕ) → (O.slip_tells s p).number ≡ 0 → (i : ℕ) → i < stripes_in s → share_in (code_in s) (O.slip_gives s p) i ≡ share_in (code_in s) s i) → ⊥
  no_change h =
      let same : share_in smallest (O.slip_gives (Begun 1) Record) 0 ≡ share_in smallest (Begun 1) 0 =
      subst (λ (c : Code). share_in c (O.slip_gives (Begun 1) Record) 0 ≡ share_in c (Begun 1) 0) (afresh-code smallest 1 1 0 (9 ∷ []) refl)
      (h (Begun 1) Record told-done 0 (omega (arith, afresh-total smallest 1 1 0 (9 ∷ []) refl (omega arith)))) in
      let e : ◌≡◌ {A = List ℕ} (8 ∷ []) (9 ∷ []) =
      sym eight ∙ sym (narrow 1 (book_at Small 1)) ∙ ap (λ (s : List ℕ). share_in smallest s 0) (sym (taken 1 refl).given) ∙ same ∙ narrow 0 (9 ∷ []) ∙ nine in
      omega (arith, ap (λ (s : List ℕ). get_or s 0 0) e)

  pub no-count : ((s p : List ℕ) → (O.slip_tells s p).number ≡ 0 → count_in (O.slip_gives s p) ≡ count_in s) → ⊥
  no-count h = omega (arith, h (Begun 1) Record told-done, (taken 1 refl).touched.counted)

  -- ---- the same slip again

  -- the world with the slip delivered to the station v
  abbrev World-after : ℕ → World
  World-after v = after O Small (first_world Small) (deliver v 0)

  reached : (v : ℕ) → Reached O Small (World-after v)
  reached v = then History.first (deliver v 0) (omega arith)

  moved-held : Kept O Small 1 (Moved 1)
  moved-held = D.held Small fair (World-after 1) (reached 1) 1 (Moved 1) (ap holds (taken 1 refl).given)

  one-taken : moved-held.count ≡ 1
  one-taken = sym moved-held.counted ∙ moved 1

  again : (O.slip_tells (Moved 1) Record ≡ refused Order) × (O.slip_gives (Moved 1) Record ≡ Moved 1)
  again = moved-held.others 0 (omega arith) (λ e. omega (arith, one-taken))

  pub taken-again :
      ((s p : List ℕ) → (file_told s).number ≡ 0 → length p ≡ 10 → get_or p 0 0 ≡ 0x50 → 1 ≤ slip_number p → slip_number p ≤ count_in s
      → slip_stripe p < stripes_in s → slip_index p < bytes (code_in s) → ((O.slip_tells s p).number ≡ 0) ⊎ (O.slip_gives s p ≢ s)) → ⊥
  taken-again h =
      let good-file = judged-afresh smallest (rules smallest good) refl 1 1 1 (book_at Small 1) (omega arith) (omega arith) (omega arith) (omega arith) (omega arith) in
      let place = slip_at Small 0 in
      ⊎_elim (λ z. number-nonzero Order (sym (ap (λ (t : Told). t.number) again.0) ∙ z)) (λ n. n again.1)
      (h (Moved 1) Record (ap (λ (t : Told). t.number) good-file) (slip-long 1 place) (slip-kind 1 place)
      (omega (arith, number-said)) (omega (arith, number-said, moved 1))
      (omega (arith, slip-stripe 1 place (omega arith), afresh-total smallest 1 1 1 (book_at Small 1) refl (omega arith)))
      (omega (arith, slip-index 1 place (omega arith), one_byte, ap bytes (afresh-code smallest 1 1 1 (book_at Small 1) refl))))

  -- ---- a rebuild from a station that has taken the slip

  abbrev Sent : List ℕ
  Sent = batches_of Small (World-after 2) 1 Helper

  sent-one : count_at Sent 0 ≡ 1
  unfolding joined
  sent-one =
      ap (λ (s : List ℕ). count_at (joined (λ i. joined (λ r. help_of smallest s 1 i) 0 1) 0 1) 0) (taken 2 refl).given ∙ sent-count

  helped : Helped Small (World-after 2) 1 Helper Output 1
  helped = record {
    from = omega arith;
    to = omega arith;
    room = refl;
    chosen = λ i h. record { long = refl; from = at_least; to = at_most; differ = λ i j a b. absurd (omega arith) };
    others = other;
    held = λ i r h l. (Moved 2, there r l, moved 2);
  }
    where
      at_least : (r : ℕ) → r < 1 → 1 ≤ get_or (Helper 0) r 0
      at_least zero h = omega arith
      at_least (suc r) h = absurd (omega arith)

      at_most : (r : ℕ) → r < 1 → get_or (Helper 0) r 0 ≤ 2
      at_most zero h = omega arith
      at_most (suc r) h = absurd (omega arith)

      other : (i r : ℕ) → i < 1 → r < 1 → get_or (Helper i) r 0 ≢ 1
      other i zero a h = λ e. omega arith
      other i (suc r) a h = absurd (omega arith)

      there : (r : ℕ) → r < 1 → World-after 2 (get_or (Helper 0) r 0) ≡ holds (Moved 2)
      there zero h = ap holds (taken 2 refl).given
      there (suc r) h = absurd (omega arith)

  renewed : Renewed O Small (World-after 2) 1 Helper Output 1
  renewed = D.rebuilt Small fair (World-after 2) (reached 2) 1 Helper Output 1 helped

  some-count : count_at Sent 0 ≢ 0
  some-count e = omega (arith, sent-one)

  done-rebuilt : (O.whole_tells smallest 1 1 Sent Output).number ≡ 0
  done-rebuilt = ap (λ (t : Told). t.number) renewed.told

  pub made-up-told :
      ((c : Code) (f t : ℕ) (bs o : List ℕ) → count_at bs 0 ≢ 0 → (O.whole_tells c f t bs o).number ≡ 0 → (O.whole_tells c f t bs o).value ≢ count_at bs 0) → ⊥
  made-up-told h = h smallest 1 1 Sent Output some-count done-rebuilt (ap (λ (t : Told). t.value) renewed.told ∙ sym sent-one)

  pub made-up-file :
      ((c : Code) (f t : ℕ) (bs o : List ℕ) → count_at bs 0 ≢ 0 → (O.whole_tells c f t bs o).number ≡ 0 → count_in (O.whole_gives c f t bs o) ≢ count_at bs 0) → ⊥
  made-up-file h = h smallest 1 1 Sent Output some-count done-rebuilt (ap count_in renewed.given ∙ moved 1 ∙ sym sent-one)
