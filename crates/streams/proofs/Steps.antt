-- A run of slip records, record by record.
--   none, more          the records of an empty run, and of one that is not
--   stop-.., on-..      the first record ends the reading, or does not
--   Going               what holds while a run is taken, with the part q of it left and so many bytes written; it starts, goes on, stops and is done
-- Assumes nothing.
use mathlib.Core.Path.{◌≡◌, ◌∙◌, refl, sym, ap, ap₂}
use mathlib.Core.Bool.{true, false}
use mathlib.Core.List.{List, [], ◌∷◌, ◌++◌, append_assoc, append-nil}
use Prim.Native.Nat.{ℕ, zero, suc, ◌+◌, ◌*◌, ◌<◌, ◌≤◌}
use native.Mathlib.Omega.{arith}
use borrow.Author.Tests.{eq-eqb, ne_eqb}
use lib.ListN.{length, take, drop, length-append, length-drop, take-append-drop}
use lib.Seq.{drop-drop, length-take-le, take-append_seam, drop-append_seam}
use Rattle.std.specs.Prelude.{min}
use Rattle.std.proofs.lemmas.List.{take_min, drop_min}
use Rattle.records.specs.Writing.{put_at}
use Rattle.records.proofs.Runs.{length-put, take_put, drop-put}
use Rattle.streams.specs.Stream.{records_in, records, Way, judged_before, answer_of, answers_to, file_after, has_ended, begun, laid, Walks}

-- ---- records of 10 bytes

enough : (n m : ℕ) (p : List ℕ) → length p ≤ n → length p ≤ m → records_in n p ≡ records_in m p
unfolding records_in
enough zero zero p h k = refl
enough zero (suc m) [] h k = refl
enough zero (suc m) (b ∷ p) h k = absurd (omega arith)
enough (suc n) zero [] h k = refl
enough (suc n) zero (b ∷ p) h k = absurd (omega arith)
enough (suc n) (suc m) [] h k = refl
enough (suc n) (suc m) (b ∷ p) h k =
    ap (λ (rs : List (List ℕ)). take 10 (b ∷ p) ∷ rs) (enough n m (drop 10 (b ∷ p)) (omega (arith, length-drop 10 (b ∷ p))) (omega (arith, length-drop 10 (b ∷ p))))

pub none : (p : List ℕ) → length p ≤ 0 → records p ≡ []
unfolding records_in
none [] h = refl
none (b ∷ p) h = absurd (omega arith)

pub more : (p : List ℕ) → 0 < length p → records p ≡ take 10 p ∷ records (drop 10 p)
unfolding records_in
more [] h = absurd (omega arith)
more (b ∷ p) h =
    ap (λ (rs : List (List ℕ)). take 10 (b ∷ p) ∷ rs)
    (enough (length p) (length (drop 10 (b ∷ p))) (drop 10 (b ∷ p)) (omega (arith, length-drop 10 (b ∷ p))) (omega arith))

-- ---- the first record

module _ (w : Way) (s r : List ℕ) (rs : List (List ℕ)) where
  module _ (e : answer_of w s r ≡ 1) where
    pub stop-answers : answers_to w s (r ∷ rs) ≡ 0x45 ∷ answer_of w s r ∷ []
    unfolding answers_to
    stop-answers = rw (eq-eqb (answer_of w s r) 1 e)

    pub stop-file : file_after w s (r ∷ rs) ≡ w.leaves s r
    unfolding file_after
    stop-file = rw (eq-eqb (answer_of w s r) 1 e)

    pub stop-ended : has_ended w s (r ∷ rs) ≡ true
    unfolding has_ended
    stop-ended = rw (eq-eqb (answer_of w s r) 1 e)

  module _ (n : answer_of w s r ≡ 1 → ⊥) where
    pub on-answers : answers_to w s (r ∷ rs) ≡ 0x45 ∷ answer_of w s r ∷ answers_to w (w.leaves s r) rs
    unfolding answers_to
    on-answers = rw (ne_eqb (answer_of w s r) 1 n)

    pub on-file : file_after w s (r ∷ rs) ≡ file_after w (w.leaves s r) rs
    unfolding file_after
    on-file = rw (ne_eqb (answer_of w s r) 1 n)

    pub on-ended : has_ended w s (r ∷ rs) ≡ has_ended w (w.leaves s r) rs
    unfolding has_ended
    on-ended = rw (ne_eqb (answer_of w s r) 1 n)

-- ---- while a run is taken

abbrev J : Way
J = judged_before

pub record Going (s₀ p o₀ s o q : List ℕ) (written : ℕ) : Type 0 where
  pub room : written + begun (length q) * 2 ≤ length o₀
  pub long : length o ≡ length o₀
  pub answers : take written o ++ answers_to J s (records q) ≡ answers_to J s₀ (records p)
  pub behind : drop written o ≡ drop written o₀
  pub file : file_after J s (records q) ≡ file_after J s₀ (records p)
  pub ended : has_ended J s (records q) ≡ has_ended J s₀ (records p)

pub going_start : (s p o : List ℕ) → begun (length p) * 2 ≤ length o → Going s p o s o p 0
going_start s p o h = record { room = omega arith; long = refl; answers = refl; behind = refl; file = refl; ended = refl }

-- the bytes written, and what is behind them
finished : (o o₀ A : List ℕ) (written : ℕ) → written ≤ length o → take written o ≡ A → drop written o ≡ drop written o₀ → (written ≡ length A) × (o ≡ laid A o₀)
finished o o₀ A written h e b =
    let l : written ≡ length A = sym (length-take-le written o h) ∙ ap length e in
    (l, sym (take-append-drop written o) ∙ ap₂ (λ (x y : List ℕ). x ++ y) e (b ∙ ap (λ (n : ℕ). drop n o₀) l))

module _ (s₀ p o₀ s o q : List ℕ) (written : ℕ) (g : Going s₀ p o₀ s o q written) where
  pub going_done : length q ≡ 0 → Walks s₀ p o₀ written false s o
  unfolding answers_to file_after has_ended
  going_done h =
      let z : records q ≡ [] = none q (omega (arith, h)) in
      let f = finished o o₀ (answers_to J s₀ (records p)) written (omega (arith, g.room, g.long))
      (sym (append-nil (take written o)) ∙ ap (λ (rs : List (List ℕ)). take written o ++ answers_to J s rs) (sym z) ∙ g.answers) g.behind in
      record {
        bytes = f.0;
        end = ap (has_ended J s) (sym z) ∙ g.ended;
        file = ap (file_after J s) (sym z) ∙ g.file;
        answers = f.1;
      }

  -- the first record r of what is left, and what is left after it
  module _ (r q' : List ℕ) (joined : q ≡ r ++ q') (size : ℕ) (ten : size ≡ 10) (cut : length r ≡ min size (length q)) (some : 0 < length q) where
    short : length r ≡ min 10 (length q)
    short = cut ∙ ap (λ (n : ℕ). min n (length q)) ten

    fits : written + 2 ≤ length o
    fits = omega (arith, g.room, g.long)

    first : records q ≡ r ∷ records q'
    first =
        more q some
        ∙ ap₂ (λ (x : List ℕ) (y : List ℕ). x ∷ records y)
        (sym (take_min 10 q) ∙ ap (λ (n : ℕ). take n q) (sym short) ∙ ap (take (length r)) joined ∙ take-append_seam r q')
        (sym (drop_min 10 q) ∙ ap (λ (n : ℕ). drop n q) (sym short) ∙ ap (drop (length r)) joined ∙ drop-append_seam r q')

    module _ (n : ℕ) (s' o' : List ℕ) (en : n ≡ answer_of J s r) (es : s' ≡ J.leaves s r) (eo : o' ≡ put_at o written (0x45 ∷ n ∷ [])) where
      head : take (written + 2) o' ≡ take written o ++ (0x45 ∷ n ∷ [])
      head = ap (take (written + 2)) eo ∙ take_put o written (0x45 ∷ n ∷ []) fits

      tail : drop (written + 2) o' ≡ drop (written + 2) o₀
      tail =
          ap (drop (written + 2)) eo ∙ drop-put o written (0x45 ∷ n ∷ []) fits
          ∙ sym (drop-drop 2 written o) ∙ ap (drop 2) g.behind ∙ drop-drop 2 written o₀

      as_long : length o' ≡ length o
      as_long = ap length eo ∙ length-put o written (0x45 ∷ n ∷ [])

      pub going-stop : n ≡ 1 → Walks s₀ p o₀ (written + 2) true s' o'
      going-stop one =
          let k : answer_of J s r ≡ 1 = sym en ∙ one in
          let f = finished o' o₀ (answers_to J s₀ (records p)) (written + 2) (omega (arith, fits, as_long))
          (head ∙ ap (λ (m : ℕ). take written o ++ (0x45 ∷ m ∷ [])) en
          ∙ ap (λ (l : List ℕ). take written o ++ l) (sym (stop-answers J s r (records q') k))
          ∙ ap (λ (rs : List (List ℕ)). take written o ++ answers_to J s rs) (sym first) ∙ g.answers) tail in
          record {
            bytes = f.0;
            end = sym (stop-ended J s r (records q') k) ∙ ap (has_ended J s) (sym first) ∙ g.ended;
            file = es ∙ sym (stop-file J s r (records q') k) ∙ ap (file_after J s) (sym first) ∙ g.file;
            answers = f.1;
          }

      pub going_on : (n ≡ 1 → ⊥) → Going s₀ p o₀ s' o' q' (written + 2)
      going_on nn =
          let k : answer_of J s r ≡ 1 → ⊥ = λ z. nn (en ∙ z) in
          record {
            room = omega (arith, g.room, ap length joined, length-append r q', short, some);
            long = as_long ∙ g.long;
            answers =
                ap (λ (l : List ℕ). l ++ answers_to J s' (records q')) head
                ∙ append_assoc (take written o) (0x45 ∷ n ∷ []) (answers_to J s' (records q'))
                ∙ ap₂ (λ (m : ℕ) (t : List ℕ). take written o ++ (0x45 ∷ m ∷ answers_to J t (records q'))) en es
                ∙ ap (λ (l : List ℕ). take written o ++ l) (sym (on-answers J s r (records q') k))
                ∙ ap (λ (rs : List (List ℕ)). take written o ++ answers_to J s rs) (sym first) ∙ g.answers;
            behind = tail;
            file =
                ap (λ (t : List ℕ). file_after J t (records q')) es
                ∙ sym (on-file J s r (records q') k) ∙ ap (file_after J s) (sym first) ∙ g.file;
            ended =
                ap (λ (t : List ℕ). has_ended J t (records q')) es
                ∙ sym (on-ended J s r (records q') k) ∙ ap (has_ended J s) (sym first) ∙ g.ended;
          }
