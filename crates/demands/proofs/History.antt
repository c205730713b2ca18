-- Demand 3 holds of our operations.
--   next-book         one slip more applied to the book
--   stays             a refused call leaves the file as it was
--   Good              the invariant: a share held is that of a station 1 to n, made afresh at some count of the list
--   kept, renewed     what the demand says of a share held, and of a rebuild, from the invariant
--   invariant         each event keeps it
--   demand3           the demand
--   repeated          a slip delivered again changes nothing
--   caught-up         a share at a lower count, as a rebuilt one may be, is brought up to date by the later slips
-- Assumes nothing.
use mathlib.Core.Path.{◌≡◌, ◌∙◌, refl, sym, ap, ap₂, subst}
use mathlib.Core.Logic.{◌≢◌, ◌⊎◌, inl, inr, ⊎_elim, by_cases}
use mathlib.Core.List.{List}
use Prim.Native.Nat.{ℕ, zero, suc, ◌+◌, ◌*◌, ◌<◌, ◌≤◌}
use native.Mathlib.Numerals.{add-one}
use native.Mathlib.Decide.{ℕ_discrete}
use native.Mathlib.Omega.{arith}
use borrow.Author.Tests.{eqb-true, leb-true}
use lib.Dec.{eqb, leb}
use lib.ListN.{length, get_or, take}
use lib.Seq.{take-suc}
use Rattle.codes.specs.Told.{Reason, done, refused, answered}
use Rattle.codes.specs.Sizes.{bytes}
use Rattle.codes.specs.Share.{share, symbol_for}
use Rattle.codes.specs.declared.Refusal.TheVariants.{Order}
use Rattle.codes.proofs.Bools.{by-test, and_left, and_right}
use Rattle.codes.proofs.Sizes.{alpha-high}
use Rattle.codes.proofs.Told.{answered-number}
use Rattle.stripes.specs.Lists.{within}
use Rattle.stripes.specs.Encode.{encoded, encode_leaves}
use Rattle.rebuilds.specs.Rebuild.{rebuild_told, rebuild_leaves}
use Rattle.collects.specs.Collect.{collect_told, collect_leaves}
use Rattle.shares.specs.Fields.{help_record, count_in, share_in}
use Rattle.shares.specs.Slip.{slip_told, slip_leaves, left_by}
use Rattle.shares.specs.Afresh.{stripe_of, afresh, amended, amended_by}
use Rattle.shares.proofs.Answers.{left-refused}
use Rattle.shares.proofs.Fresh.{afresh-node, afresh-count, afresh-share}
use Rattle.books.specs.Cut.{cut_told, cut_leaves}
use Rattle.books.specs.Answer.{answer_told, answer_leaves}
use Rattle.batches.specs.Batch.{batch_told, batch_leaves}
use Rattle.batches.specs.Whole.{whole_told, whole_leaves}
use Rattle.corkpaddle.specs.Help.{help_told, help_leaves}
use Rattle.demands.specs.History.{ours, Setting, Fair, slip_at, record_at, book_at, fresh_at, sent_again, Slot, lost, holds, World, put_in, first_world, file_of, on_file, joined, help_of, batches_of, Call, slip, encode, help, restore, collect, cut, answer, batch, whole, tells, leaves, Event, deliver, refuse, lose, rebuild, after, Helped, Allowed, Reached, first, then, Touched, Kept, Renewed, Demand3}
use Rattle.demands.proofs.Books.{amended-more, amended-all}
use Rattle.demands.proofs.Joined.{joined_same}
use Rattle.demands.proofs.Taken.{take_next, take-other, take-only}
use Rattle.demands.proofs.Touched.{touched}
use Rattle.demands.proofs.Renewed.{Batches, rebuild-fresh}

-- ---- a refused call

left : (rs : List Reason) (p : ℕ × ℕ) (v : ℕ) (new old : List ℕ) → (answered rs p v).number ≢ 0 → left_by rs new old ≡ old
left rs p v new old z = sym (left-refused rs new old (λ e. z (answered-number rs p v ∙ e)))

pub stays : (x : Call) (s : List ℕ) → (tells ours x s).number ≢ 0 → leaves ours x s ≡ s
unfolding slip_told slip_leaves encoded encode_leaves help_told help_leaves rebuild_told rebuild_leaves collect_told collect_leaves cut_told cut_leaves answer_told answer_leaves batch_told batch_leaves whole_told whole_leaves left_by
stays (slip p) s z = left _ _ _ _ s z
stays (encode c v m) s z = left _ _ _ _ s z
stays (help c h f u) s z = left _ _ _ _ s z
stays (restore c f hs ys ns) s z = left _ _ _ _ s z
stays (collect c vs ns r) s z = left _ _ _ _ s z
stays (cut c v t book) s z = left _ _ _ _ s z
stays (answer u f) s z = left _ _ _ _ s z
stays (batch c f b) s z = left _ _ _ _ s z
stays (whole c f t bs) s z = left _ _ _ _ s z

-- ---- slots

same-file : (s u : List ℕ) → holds s ≡ holds u → s ≡ u
same-file s u e = cc

not-lost : (s : List ℕ) → lost ≡ holds s → ⊥
not-lost s e = let z : ◌≡◌ {A = ℕ} 0 1 = cc in omega arith

on-file : (g : List ℕ → List ℕ) (x : Slot) (s : List ℕ) → on_file g x ≡ holds s → (u : List ℕ) × (x ≡ holds u) × (g u ≡ s)
on-file g lost s e = absurd (not-lost s e)
on-file g (holds u) s e = (u, refl, same-file (g u) s e)

put-cases : (w : World) (v : ℕ) (x : Slot) (u : ℕ) (s : List ℕ) → put_in w v x u ≡ holds s → ((u ≡ v) × (x ≡ holds s)) ⊎ (w u ≡ holds s)
put-cases w v x u s e =
    by-test (eqb u v) (λ t. inl (eqb-true u v t, rw t at e)) (λ t. inr (rw t at e))

module _ (S : Setting) (F : Fair S) where
  -- ---- the book

  next-book : (m : ℕ) → m < length S.slips → book_at S (m + 1) ≡ amended S.code (book_at S m) (slip_at S m)
  next-book m h =
      ap (book_at S) (add-one m) ∙ ap (amended_by S.code S.book) (take-suc S.slips m _ h) ∙ amended-more S.code S.book (take m S.slips) (slip_at S m)

  book-long : (m : ℕ) → length (book_at S m) ≡ S.total * bytes S.code
  book-long m = amended-all S.code S.book (take m S.slips) ∙ F.long

  -- ---- the invariant

  record Good (v : ℕ) (s : List ℕ) : Type 0 where
    from : 1 ≤ v
    to : v ≤ S.code.n
    count : ℕ
    listed : count ≤ length S.slips
    same : s ≡ fresh_at S v count

  module _ {v : ℕ} {s : List ℕ} (g : Good v s) where
    abbrev m : ℕ
    m = g.count

    small : m < 4294967296
    small = omega (arith, F.few, g.listed)

    count-is : count_in s ≡ m
    count-is = ap count_in g.same ∙ afresh-count S.code v S.total m (book_at S m) F.points small

    next-told : m < length S.slips → (slip_told s (record_at S m) ≡ done (m + 1)) × (slip_leaves s (record_at S m) ≡ fresh_at S v (m + 1))
    next-told h =
        let p = F.places m h in
        let n = take_next F.rules F.points v S.total m (book_at S m) F.some F.most g.from g.to small (slip_at S m) (omega (arith, F.few)) (book-long m) p.0 p.1 in (
          ap (λ (l : List ℕ). slip_told l (record_at S m)) g.same ∙ n.0,
          ap (λ (l : List ℕ). slip_leaves l (record_at S m)) g.same ∙ n.1 ∙ ap (afresh S.code v S.total (m + 1)) (sym (next-book m h)),
        )

    next-touched : m < length S.slips → Touched S.code (slip_at S m).stripe s (slip_leaves s (record_at S m))
    next-touched h =
        let p = F.places m h in
        subst (λ (l : List ℕ). Touched S.code (slip_at S m).stripe l (slip_leaves l (record_at S m))) (sym g.same)
        (touched F.rules F.points v S.total m (book_at S m) F.some F.most g.from g.to small (slip_at S m) (omega (arith, F.few)) (book-long m) p.0 p.1)

    other-told : (i : ℕ) → i < length S.slips → i ≢ m → (slip_told s (record_at S i) ≡ refused Order) × (slip_leaves s (record_at S i) ≡ s)
    other-told i h z =
        let n = take-other F.rules F.points v S.total m (book_at S m) F.some F.most g.from g.to small (i + 1) (slip_at S i) (omega (arith, F.few)) (λ e. z (omega arith)) in (
          ap (λ (l : List ℕ). slip_told l (record_at S i)) g.same ∙ n.0,
          ap (λ (l : List ℕ). slip_leaves l (record_at S i)) g.same ∙ n.1 ∙ sym g.same,
        )

    kept : Kept ours S v s
    kept = record {
      count = m;
      counted = count-is;
      listed = g.listed;
      same = g.same;
      next = λ h. record { told = (next-told h).0; given = (next-told h).1; touched = next-touched h };
      only = λ p e. take-only s p e ∙ ap (λ (k : ℕ). k + 1) count-is;
      others = other-told;
    }

    delivered : (i : ℕ) → i < length S.slips → Good v (slip_leaves s (record_at S i))
    delivered i h =
        by_cases (ℕ_discrete i m)
        (λ e. let l : m < length S.slips = omega arith in
        record { from = g.from; to = g.to; count = m + 1; listed = omega arith; same = ap (λ (k : ℕ). slip_leaves s (record_at S k)) e ∙ (next-told l).1 })
        (λ n. record { from = g.from; to = g.to; count = m; listed = g.listed; same = (other-told i h n).1 ∙ g.same })

  -- ---- a rebuild

  module _ (w : World) (good : (v : ℕ) (s : List ℕ) → w v ≡ holds s → Good v s) (f : ℕ) (hs : ℕ → List ℕ) (o : List ℕ) (m : ℕ) (H : Helped S w f hs o m) where
    helper : (i r : ℕ) → i < S.total → r < S.code.d → (m < 4294967296) × (file_of (w (get_or (hs i) r 0)) ≡ fresh_at S (get_or (hs i) r 0) m) × (m ≤ length S.slips)
    helper i r h l =
        let x = H.held i r h l in
        let g = good (get_or (hs i) r 0) x.0 x.1 in
        let e : g.count ≡ m = sym (count-is g) ∙ x.2 in
        (omega (arith, small g), ap file_of x.1 ∙ g.same ∙ ap (fresh_at S (get_or (hs i) r 0)) e, omega (arith, g.listed))

    some : 0 < S.code.d
    some = omega (arith, F.rules.least, F.rules.order)

    count_small : m < 4294967296
    count_small = (helper 0 0 F.some some).0

    sent : (i r : ℕ) → i < S.total → r < S.code.d → help_of S.code (file_of (w (get_or (hs i) r 0))) f i
        ≡ help_record f (get_or (hs i) r 0) m i (symbol_for S.code f (share S.code (get_or (hs i) r 0) (stripe_of S.code (book_at S m) i))).val
    sent i r h l =
        let v = get_or (hs i) r 0 in
        let c = S.code in
        let t = S.total in
        let b = book_at S m in
        ap (λ (s : List ℕ). help_of c s f i) (helper i r h l).1
        ∙ ap₂ (λ (a k : ℕ). help_record f a k i (symbol_for c f (share_in c (fresh_at S v m) i)).val) (afresh-node c v t m b F.points) (afresh-count c v t m b F.points count_small)
        ∙ ap (λ (s : List ℕ). help_record f v m i (symbol_for c f s).val) (afresh-share c v t m b F.points (alpha-high c F.rules) i h)

    abbrev Sent : List ℕ
    Sent = Batches F.rules f S.total m (book_at S m) F.some F.most H.from H.to count_small hs H.chosen H.others

    batches-are : batches_of S w f hs ≡ Sent
    batches-are =
        joined_same (λ i. joined (λ r. help_of S.code (file_of (w (get_or (hs i) r 0))) f i) 0 S.code.d) _ 0 S.total
        (λ i h. joined_same (λ r. help_of S.code (file_of (w (get_or (hs i) r 0))) f i) _ 0 S.code.d (λ r l. sent i r (omega arith) (omega arith)))

    renewed : Renewed ours S w f hs o m
    renewed =
        let n = rebuild-fresh F.rules f S.total m (book_at S m) F.some F.most H.from H.to count_small hs H.chosen H.others o H.room in
        record {
          told = ap (λ (bs : List ℕ). whole_told S.code f S.total bs o) batches-are ∙ n.0;
          given = ap (λ (bs : List ℕ). whole_leaves S.code f S.total bs o) batches-are ∙ n.1;
        }

    restored : Good f (whole_leaves S.code f S.total (batches_of S w f hs) o)
    restored = record { from = H.from; to = H.to; count = m; listed = (helper 0 0 F.some some).2; same = renewed.given }

  -- ---- each event keeps it

  begin : (v : ℕ) (s : List ℕ) → first_world S v ≡ holds s → Good v s
  unfolding amended_by
  begin v s e =
      by-test (within S.code v)
      (λ t. record {
        from = leb-true 1 v (and_left (leb 1 v) (leb v S.code.n) t);
        to = leb-true v S.code.n (and_right (leb 1 v) (leb v S.code.n) t);
        count = 0;
        listed = omega arith;
        same = sym (same-file (afresh S.code v S.total 0 S.book) s (rw t at e));
      })
      (λ t. absurd (not-lost s (rw t at e)))

  -- a slot put into a world, good where a file stands in it
  put-good : (w : World) → ((v : ℕ) (s : List ℕ) → w v ≡ holds s → Good v s) → (u : ℕ) (x : Slot) → ((s : List ℕ) → x ≡ holds s → Good u s)
      → (v : ℕ) (s : List ℕ) → put_in w u x v ≡ holds s → Good v s
  put-good w good u x new v s e =
      ⊎_elim (λ a. subst (λ (k : ℕ). Good k s) (sym a.0) (new s a.1)) (good v s) (put-cases w u x v s e)

  on-good : (w : World) (u : ℕ) (g : List ℕ → List ℕ) → ((s : List ℕ) → w u ≡ holds s → Good u (g s)) → (s : List ℕ) → on_file g (w u) ≡ holds s → Good u s
  on-good w u g new s e = let x = on-file g (w u) s e in subst (Good u) x.2 (new x.0 x.1)

  step : (w : World) → ((v : ℕ) (s : List ℕ) → w v ≡ holds s → Good v s) → (e : Event) → Allowed ours S w e
      → (v : ℕ) (s : List ℕ) → after ours S w e v ≡ holds s → Good v s
  step w good (deliver u i) a =
      put-good w good u _ (on-good w u (λ s. slip_leaves s (record_at S i)) (λ s e. delivered (good u s e) i a))
  step w good (refuse u x) a =
      put-good w good u _ (on-good w u (leaves ours x) (λ s e. subst (Good u) (sym (stays x s (a s e))) (good u s e)))
  step w good (lose u) a = put-good w good u lost (λ s e. absurd (not-lost s e))
  step w good (rebuild f hs o) a =
      put-good w good f _ (λ s e. subst (Good f) (same-file _ s e) (restored w good f hs o a.0 a.1))

  invariant : {w : World} → Reached ours S w → (v : ℕ) (s : List ℕ) → w v ≡ holds s → Good v s
  invariant first = begin
  invariant (then {w = w} r e a) = step w (invariant r) e a

pub demand3 : Demand3 ours
demand3 = record {
  held = λ S F w r v s e. kept S F (invariant S F r v s e);
  rebuilt = λ S F w r f hs o m H. renewed S F w (invariant S F r) f hs o m H;
}

-- ---- slips sent again

module _ (S : Setting) (F : Fair S) (v : ℕ) (from : 1 ≤ v) (to : v ≤ S.code.n) where
  abbrev at_count : (k : ℕ) → k ≤ length S.slips → Good S F v (fresh_at S v k)
  at_count k l = record { from = from; to = to; count = k; listed = l; same = refl }

  pub repeated : (k i : ℕ) → k ≤ length S.slips → i < k
      → (slip_told (fresh_at S v k) (record_at S i) ≡ refused Order) × (slip_leaves (fresh_at S v k) (record_at S i) ≡ fresh_at S v k)
  repeated k i l h = let z : i ≢ k = λ e. omega arith in other-told S F (at_count k l) i (omega arith) z

  pub caught-up : (k n : ℕ) → k + n ≤ length S.slips → sent_again S (fresh_at S v k) k n ≡ fresh_at S v (k + n)
  unfolding sent_again
  caught-up k zero l = let e : k ≡ k + 0 = omega arith in ap (fresh_at S v) e
  caught-up k (suc n) l =
      let e : k + n + 1 ≡ k + suc n = omega arith in
      let h : k + n < length S.slips = omega arith in
      ap (λ (s : List ℕ). slip_leaves s (record_at S (k + n))) (caught-up k n (omega arith)) ∙ (next-told S F (at_count (k + n) (omega arith)) h).1
      ∙ ap (fresh_at S v) e
