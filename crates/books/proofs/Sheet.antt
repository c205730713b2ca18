-- A share file and a helper's answers, as they are written record by record.
--   Sheet c v t book i  the file's bytes with its first i stripes
--   sheet-start, sheet-next, sheet-end     C and N, one stripe more, the whole file
--   answers-more        one answer more at the end
--   answers-start, answers_next     no answer, one answer more
-- Assumes nothing.
use mathlib.Core.Path.{◌≡◌, ◌∙◌, refl, sym, ap, ap₂}
use mathlib.Core.List.{List, [], ◌∷◌, ◌++◌, append-nil, append_assoc}
use Prim.Native.Nat.{ℕ, zero, suc, ◌+◌, ◌*◌, ◌-◌, ◌≤◌}
use native.Mathlib.Omega.{arith}
use lib.ListN.{length, take, drop, length-append}
use lib.Seq.{take_all}
use Rattle.records.specs.Numbers.{digits}
use Rattle.records.specs.Writing.{put_at}
use Rattle.records.proofs.Digits.{length_digits}
use Rattle.records.proofs.Runs.{length-put, take_put}
use Rattle.codes.specs.Sizes.{alpha}
use Rattle.codes.specs.Share.{share, symbol_for}
use Rattle.codes.specs.declared.Code.{Code}
use Rattle.shares.specs.Fields.{code_record, node_record, stripe_record, help_record, node_in, count_in, share_in, stripe_at}
use Rattle.shares.specs.Afresh.{stripe_of, stripes_from, afresh}
use Rattle.shares.proofs.Fresh.{stripes-more}
use Rattle.books.specs.Answer.{answers_from}

-- one record more at the end of what stands
record-next : (out t r front : List ℕ) (at n : ℕ) → take at out ≡ front → length r ≡ n → at + n ≤ length out → t ≡ put_at out at r → take (at + n) t ≡ front ++ r
record-next out t r front at n e l h f =
    ap (λ (k : ℕ). take (at + k) t) (sym l) ∙ ap (take (at + length r)) f ∙ take_put out at r (omega arith) ∙ ap (λ (k : List ℕ). k ++ r) e

-- nothing is made longer or shorter
pub as_long : (t o u : List ℕ) (at : ℕ) → t ≡ put_at o at u → length t ≡ length o
as_long t o u at e = ap length e ∙ length-put o at u

pub help-length : (f h m i y : ℕ) → length (help_record f h m i y) ≡ 10
unfolding help_record
help-length f h m i y =
    omega (arith, length-append (digits 4 m) (digits 2 i ++ (y ∷ [])), length-append (digits 2 i) (y ∷ []), length_digits 4 m, length_digits 2 i)

-- a stripe of a book

pub message-is : (book : List ℕ) (i b n : ℕ) → b ≡ n → take (i * b + b - i * b) (drop (i * b) book) ≡ take n (drop (i * n) book)
message-is book i b n e =
    let k : i * b + b - i * b ≡ b = omega arith in
    ap (λ (j : ℕ). take j (drop (i * b) book)) k ∙ ap (λ (j : ℕ). take j (drop (i * j) book)) e

-- ---- a share file

module _ (c : Code) (v t : ℕ) (book : List ℕ) where
  abbrev pub Sheet : ℕ → List ℕ
  Sheet i = code_record c ++ (node_record v t 0 ++ stripes_from c v book 0 i)

  pub sheet-start : (o o₁ o₂ a b : List ℕ) → a ≡ code_record c → b ≡ node_record v t 0 → length a ≡ 37 → length b ≡ 8 → 45 ≤ length o
      → o₁ ≡ put_at o 0 a → o₂ ≡ put_at o₁ 37 b → take 45 o₂ ≡ Sheet 0
  unfolding stripes_from
  sheet-start o o₁ o₂ a b e f l m h p q =
      let n : length o₁ ≡ length o = ap length p ∙ length-put o 0 a in
      let first : take 37 o₁ ≡ a = record-next o o₁ a [] 0 37 refl l (omega arith) p in
      record-next o₁ o₂ b a 37 8 first m (omega arith) q ∙ ap₂ (λ (x y : List ℕ). x ++ y) e (f ∙ sym (append-nil (node_record v t 0)))

  pub sheet-next : (i at : ℕ) (o o' r : List ℕ) → alpha c ≤ 31 → take (stripe_at i) o ≡ Sheet i → at ≡ stripe_at i → r ≡ stripe_record i (share c v (stripe_of c book i))
      → length r ≡ 34 → stripe_at i + 34 ≤ length o → o' ≡ put_at o at r → take (stripe_at (i + 1)) o' ≡ Sheet (i + 1)
  sheet-next i at o o' r w e g f l h p =
      let n : stripe_at (i + 1) ≡ stripe_at i + 34 = omega arith in
      let z : 0 + i ≡ i = omega arith in
      let s = stripes_from c v book 0 i in
      ap (λ (k : ℕ). take k o') n ∙ record-next o o' r (Sheet i) (stripe_at i) 34 e l h (p ∙ ap (λ (k : ℕ). put_at o k r) g)
      ∙ append_assoc (code_record c) (node_record v t 0 ++ s) r
      ∙ ap (λ (k : List ℕ). code_record c ++ k) (append_assoc (node_record v t 0) s r
      ∙ ap (λ (k : List ℕ). node_record v t 0 ++ k) (ap (λ (k : List ℕ). s ++ k) (f ∙ ap (λ (k : ℕ). stripe_record k (share c v (stripe_of c book k))) (sym z)) ∙ sym (stripes-more c v book w 0 i)))

  pub sheet-end : (i : ℕ) (o : List ℕ) → i ≡ t → length o ≡ stripe_at t → take (stripe_at i) o ≡ Sheet i → o ≡ afresh c v t 0 book
  unfolding afresh
  sheet-end i o e l h = sym (take_all (stripe_at i) o (omega arith)) ∙ h ∙ ap Sheet e

-- ---- a helper's answers

module _ (c : Code) (s : List ℕ) (f : ℕ) where
  abbrev Answer : ℕ → List ℕ
  Answer i = help_record f (node_in s) (count_in s) i (symbol_for c f (share_in c s i)).val

  -- what the code has in hand
  pub answer-is : (code : Code) (r : List ℕ) (h m i y a start : ℕ) → code ≡ c → h ≡ node_in s → m ≡ count_in s → a ≡ alpha code → start ≡ stripe_at i + 3
      → y ≡ (symbol_for code f (take (start + a - start) (drop start s))).val → r ≡ help_record f h m i y → r ≡ Answer i
  answer-is code r h m i y a start e g l p q u w =
      let k : start + a - start ≡ alpha c = let n : start + a - start ≡ a = omega arith in n ∙ p ∙ ap alpha e in
      let x : take (start + a - start) (drop start s) ≡ share_in c s i = ap₂ (λ (n j : ℕ). take n (drop j s)) k q in
      let z : y ≡ (symbol_for c f (share_in c s i)).val = u ∙ ap₂ (λ (b : Code) (j : List ℕ). (symbol_for b f j).val) e x in
      w ∙ ap₂ (λ (a b : ℕ). help_record f a b i y) g l ∙ ap (help_record f (node_in s) (count_in s) i) z

  answers-more : (i n : ℕ) → answers_from c s f i (n + 1) ≡ answers_from c s f i n ++ Answer (i + n)
  unfolding answers_from
  answers-more i zero = let e : i ≡ i + 0 = omega arith in let g : 0 + 1 ≡ suc zero = refl in ap (answers_from c s f i) g ∙ append-nil (Answer i) ∙ ap Answer e
  answers-more i (suc n) =
      let e : suc n + 1 ≡ suc (n + 1) = omega arith in
      let g : suc i + n ≡ i + suc n = omega arith in
      ap (answers_from c s f i) e ∙ ap (λ (l : List ℕ). Answer i ++ l) (answers-more (suc i) n ∙ ap (λ (k : ℕ). answers_from c s f (suc i) n ++ Answer k) g)
      ∙ sym (append_assoc (Answer i) (answers_from c s f (suc i) n) (Answer (i + suc n)))

  pub answers-start : (o : List ℕ) → take (0 * 10) o ≡ answers_from c s f 0 0
  unfolding answers_from
  answers-start o = refl

  pub answers_next : (i at : ℕ) (o o' r : List ℕ) → take (i * 10) o ≡ answers_from c s f 0 i → at ≡ i * 10 → r ≡ Answer i → length r ≡ 10
      → i * 10 + 10 ≤ length o → o' ≡ put_at o at r → take ((i + 1) * 10) o' ≡ answers_from c s f 0 (i + 1)
  answers_next i at o o' r e g h l m p =
      let n : (i + 1) * 10 ≡ i * 10 + 10 = omega arith in
      let z : 0 + i ≡ i = omega arith in
      ap (λ (k : ℕ). take k o') n ∙ record-next o o' r (answers_from c s f 0 i) (i * 10) 10 e l m (p ∙ ap (λ (k : ℕ). put_at o k r) g)
      ∙ ap (λ (k : List ℕ). answers_from c s f 0 i ++ k) (h ∙ ap Answer (sym z)) ∙ sym (answers-more 0 i)
