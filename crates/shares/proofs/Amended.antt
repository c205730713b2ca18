-- A slip taken in a share file made afresh gives the share file of the amended book, made afresh.
--   slip-number, slip-stripe, slip-index, slip-change     what a slip's record says
--   amended-before, amended-after, amended-own     the stripes of an amended book
--   taken-afresh                    the law
-- Assumes nothing.
use mathlib.Core.Path.{◌≡◌, ◌∙◌, refl, sym, ap, ap₂}
use mathlib.Core.List.{List, [], ◌∷◌, ◌++◌, append_assoc}
use Prim.Native.Nat.{ℕ, zero, suc, ◌+◌, ◌*◌, ◌-◌, ◌<◌, ◌≤◌}
use native.Mathlib.Nat.{mod-eq_of_lt, suc-mul}
use native.Mathlib.Omega.{arith}
use lib.Bits.{bit_xor}
use lib.ListN.{length, get_or, take, drop, set, length-append, length-drop, replicate}
use lib.Seq.{length-take-le, take-set-le, take-set-lt, drop-set-lt, drop-set-add, get_or-take, get_or-drop, take_at, drop_at}
use Rattle.records.specs.Numbers.{number_at, digits}
use Rattle.records.specs.Writing.{put_at}
use Rattle.records.proofs.Digits.{length_digits, number_digits}
use Rattle.codes.specs.Rules.{Rules}
use Rattle.codes.specs.Sizes.{alpha, bytes}
use Rattle.codes.specs.Share.{share, changed, slipped}
use Rattle.codes.specs.declared.Code.{Code}
use Rattle.codes.proofs.Sizes.{alpha-high, bytes_high, small}
use Rattle.codes.proofs.Slip.{share-length, share-slipped}
use Rattle.shares.specs.Fields.{code_record, node_record, stripe_record, stripe_at, part}
use Rattle.shares.specs.Slip.{slip_number, slip_stripe, slip_index, slip_change, taken_in}
use Rattle.shares.specs.Afresh.{stripe_of, stripes_from, afresh, Slip, slip_record, amended}
use Rattle.shares.proofs.Parts.{put_in}
use Rattle.shares.proofs.Changes.{taken_is}
use Rattle.shares.proofs.Fresh.{code-length, node-length, stripes-length, afresh-code, afresh-node, afresh-count, afresh-share}

-- ---- the slip's record

module _ (n : ℕ) (s : Slip) where
  pub slip-number : n < 4294967296 → slip_number (slip_record n s) ≡ n
  unfolding slip_record
  slip-number h =
      let after : List ℕ = digits 2 s.stripe ++ (digits 2 s.index ++ (s.change ∷ [])) in
      number_digits 4 n (0x50 ∷ []) after ∙ mod-eq_of_lt h

  pub slip-stripe : s.stripe < 65536 → slip_stripe (slip_record n s) ≡ s.stripe
  unfolding slip_record
  slip-stripe h =
      let b : List ℕ = 0x50 ∷ digits 4 n in
      let after : List ℕ = digits 2 s.index ++ (s.change ∷ []) in
      let e : slip_record n s ≡ b ++ digits 2 s.stripe ++ after = simp append_assoc in
      let f : 5 ≡ length b = omega (arith, length_digits 4 n) in
      ap₂ (number_at 2) e f ∙ number_digits 2 s.stripe b after ∙ mod-eq_of_lt h

  pub slip-index : s.index < 65536 → slip_index (slip_record n s) ≡ s.index
  unfolding slip_record
  slip-index h =
      let b : List ℕ = 0x50 ∷ (digits 4 n ++ digits 2 s.stripe) in
      let after : List ℕ = s.change ∷ [] in
      let e : slip_record n s ≡ b ++ digits 2 s.index ++ after = simp append_assoc in
      let f : 7 ≡ length b = omega (arith, length-append (digits 4 n) (digits 2 s.stripe), length_digits 4 n, length_digits 2 s.stripe) in
      ap₂ (number_at 2) e f ∙ number_digits 2 s.index b after ∙ mod-eq_of_lt h

  pub slip-change : slip_change (slip_record n s) ≡ s.change
  unfolding slip_record digits
  slip-change = refl

-- ---- the stripes of an amended book

-- a place in the stripe i, beside another stripe's
apart : (i j b w : ℕ) → i < j → w < b → i * b + w < j * b
apart i j b w h l = omega (arith, suc-mul i b, small (suc i) b j b h (omega arith))

module _ (c : Code) (book : List ℕ) (s : Slip) (inside : s.index < bytes c) where
  abbrev B : ℕ
  B = bytes c

  abbrev At : ℕ
  At = s.stripe * B + s.index

  abbrev Moved : ℕ
  Moved = bit_xor (get_or book At 0) s.change

  pub amended-before : (i : ℕ) → i < s.stripe → stripe_of c (amended c book s) i ≡ stripe_of c book i
  unfolding amended changed
  amended-before i h =
      let k : i * B + B ≤ At = omega (arith, suc-mul i B, small (suc i) B s.stripe B h (omega arith)) in
      let e : At ≡ i * B + (At - i * B) = omega arith in
      ap (λ (n : ℕ). take B (drop (i * B) (set book n Moved))) e ∙ ap (take B) (drop-set-add (i * B) book (At - i * B) Moved) ∙ take-set-le B (drop (i * B) book) (At - i * B) Moved (omega arith)

  pub amended-after : (i : ℕ) → s.stripe < i → stripe_of c (amended c book s) i ≡ stripe_of c book i
  unfolding amended changed
  amended-after i h = ap (take B) (drop-set-lt (i * B) book At Moved (apart s.stripe i B s.index h inside))

  pub amended-own : stripe_of c (amended c book s) s.stripe ≡ changed (stripe_of c book s.stripe) s.index s.change
  unfolding amended changed
  amended-own =
      let q = s.stripe * B in
      let own = stripe_of c book s.stripe in
      ap (take B) (drop-set-add q book s.index Moved) ∙ take-set-lt B (drop q book) s.index Moved inside
      ∙ ap (λ (x : ℕ). set own s.index (bit_xor x s.change)) (sym (get_or-take B (drop q book) s.index 0 inside ∙ get_or-drop q book s.index 0))

-- ---- the file

-- stripes of two books that agree there
stripes-same : (c : Code) (v : ℕ) (book other : List ℕ) (i n : ℕ) → ((j : ℕ) → i ≤ j → j < i + n → stripe_of c other j ≡ stripe_of c book j)
    → stripes_from c v other i n ≡ stripes_from c v book i n
unfolding stripes_from
stripes-same c v book other i zero h = refl
stripes-same c v book other i (suc n) h =
    ap₂ (λ (x y : List ℕ). stripe_record i (share c v x) ++ y) (h i (omega arith) (omega arith)) (stripes-same c v book other (suc i) n (λ j l k. h j (omega arith) (omega arith)))

-- a run of stripes, split before one of them
stripes-split : (c : Code) (v : ℕ) (book : List ℕ) (i q n : ℕ) → q < n
    → stripes_from c v book i n ≡ stripes_from c v book i q ++ (stripe_record (i + q) (share c v (stripe_of c book (i + q))) ++ stripes_from c v book (suc (i + q)) (n - suc q))
unfolding stripes_from
stripes-split c v book i q zero h = absurd (omega arith)
stripes-split c v book i zero (suc n) h =
    let e : i ≡ i + 0 = omega arith in
    let f : n ≡ suc n - suc 0 = omega arith in
    ap₂ (λ (a b : ℕ). stripe_record a (share c v (stripe_of c book a)) ++ stripes_from c v book (suc a) b) e f
stripes-split c v book i (suc q) (suc n) h =
    let e : suc i + q ≡ i + suc q = omega arith in
    let f : n - suc q ≡ suc n - suc (suc q) = omega arith in
    let r = stripe_record i (share c v (stripe_of c book i)) in
    ap (λ (l : List ℕ). r ++ l) (stripes-split c v book (suc i) q n (omega arith)
    ∙ ap₂ (λ (a b : ℕ). stripes_from c v book (suc i) q ++ (stripe_record a (share c v (stripe_of c book a)) ++ stripes_from c v book (suc a) b)) e f)
    ∙ sym (append_assoc r (stripes_from c v book (suc i) q) (stripe_record (i + suc q) (share c v (stripe_of c book (i + suc q))) ++ stripes_from c v book (suc (i + suc q)) (suc n - suc (suc q))))

-- a run put over one of its length
put-middle : (x u w y : List ℕ) (at : ℕ) → length x ≡ at → length w ≡ length u → put_at (x ++ (u ++ y)) at w ≡ x ++ (w ++ y)
put-middle x u w y at e f =
    let o = x ++ (u ++ y) in
    let l : length (x ++ u) ≡ at + length w = omega (arith, length-append x u) in
    let g : drop (at + length w) o ≡ y = ap (drop (at + length w)) (sym (append_assoc x u y)) ∙ drop_at (x ++ u) y (at + length w) l in
    put_in o at w (omega (arith, length-append x (u ++ y), length-append u y))
    ∙ ap₂ (λ (a b : List ℕ). a ++ (w ++ b)) (take_at x (u ++ y) at e) g

-- the file, split around the share of the stripe q
abbrev Split : Code → ℕ → ℕ → ℕ → ℕ → List ℕ → List ℕ → List ℕ → List ℕ
Split c v t m q s₁ w s₂ = (code_record c ++ (node_record v t m ++ (s₁ ++ (0x44 ∷ digits 2 q)))) ++ (w ++ (replicate (31 - length w) 0 ++ s₂))

whole_split : (c : Code) (v t m : ℕ) (book : List ℕ) (q : ℕ) → q < t
    → afresh c v t m book ≡ Split c v t m q (stripes_from c v book 0 q) (share c v (stripe_of c book q)) (stripes_from c v book (suc q) (t - suc q))
unfolding afresh stripe_record
whole_split c v t m book q h =
    let e : 0 + q ≡ q = omega arith in
    ap (λ (l : List ℕ). code_record c ++ (node_record v t m ++ l)) (stripes-split c v book 0 q t h
    ∙ ap (λ (a : ℕ). stripes_from c v book 0 q ++ (stripe_record a (share c v (stripe_of c book a)) ++ stripes_from c v book (suc a) (t - suc q))) e)
    ∙ simp append_assoc

-- the count one more
count-put : (c : Code) (v t m n : ℕ) (book : List ℕ) → length c.points ≡ 32 → put_at (afresh c v t m book) 41 (digits 4 n) ≡ afresh c v t n book
unfolding afresh node_record
count-put c v t m n book long =
    let b = code_record c ++ (0x4E ∷ v ∷ digits 2 t) in
    let s = stripes_from c v book 0 t in
    let e : code_record c ++ ((0x4E ∷ v ∷ (digits 2 t ++ digits 4 m)) ++ s) ≡ b ++ (digits 4 m ++ s) = simp append_assoc in
    let g : b ++ (digits 4 n ++ s) ≡ code_record c ++ ((0x4E ∷ v ∷ (digits 2 t ++ digits 4 n)) ++ s) = simp append_assoc in
    let l : length b ≡ 41 = omega (arith, length-append (code_record c) (0x4E ∷ v ∷ digits 2 t), code-length c long, length_digits 2 t) in
    ap (λ (x : List ℕ). put_at x 41 (digits 4 n)) e ∙ put-middle b (digits 4 m) (digits 4 n) s 41 l (length_digits 4 n ∙ sym (length_digits 4 m)) ∙ g

module _ (c : Code) (R : Rules c) (long : length c.points ≡ 32) (v t m : ℕ) (book : List ℕ) (s : Slip) (many : t ≤ 1024)
    (filled : length book ≡ t * bytes c) (placed : s.stripe < t) (inside : s.index < bytes c) (counted : m + 1 < 4294967296) where
  abbrev q : ℕ
  q = s.stripe

  abbrev Own : List ℕ
  Own = stripe_of c book q

  abbrev New : List ℕ
  New = amended c book s

  narrow : alpha c ≤ 31
  narrow = alpha-high c R

  own-length : length Own ≡ bytes c
  own-length =
      let r = small (suc q) (bytes c) t (bytes c) placed (omega arith) in
      length-take-le (bytes c) (drop (q * bytes c) book) (omega (arith, length-drop (q * bytes c) book, suc-mul q (bytes c), filled, r))

  share-new : slipped c v s.index s.change (share c v Own) ≡ share c v (stripe_of c New q)
  share-new = sym (share-slipped R v s.index s.change inside Own own-length) ∙ ap (share c v) (sym (amended-own c book s inside))

  -- the share put over the old one
  share-put : put_at (afresh c v t (m + 1) book) (stripe_at q + 3) (share c v (stripe_of c New q)) ≡ afresh c v t (m + 1) New
  share-put =
      let s₁ = stripes_from c v book 0 q in
      let s₂ = stripes_from c v book (suc q) (t - suc q) in
      let old = share c v Own in
      let new = share c v (stripe_of c New q) in
      let x = code_record c ++ (node_record v t (m + 1) ++ (s₁ ++ (0x44 ∷ digits 2 q))) in
      let n : length old ≡ length new = share-length c v Own ∙ sym (share-length c v (stripe_of c New q)) in
      let l : length x ≡ stripe_at q + 3 =
      omega (
        arith,
        length-append (code_record c) (node_record v t (m + 1) ++ (s₁ ++ (0x44 ∷ digits 2 q))),
        length-append (node_record v t (m + 1)) (s₁ ++ (0x44 ∷ digits 2 q)),
        length-append s₁ (0x44 ∷ digits 2 q),
        length_digits 2 q,
        code-length c long,
        node-length v t (m + 1),
        stripes-length c v book narrow 0 q,
      ) in
      ap (λ (f : List ℕ). put_at f (stripe_at q + 3) new) (whole_split c v t (m + 1) book q placed)
      ∙ put-middle x old new (replicate (31 - length old) 0 ++ s₂) (stripe_at q + 3) l (sym n)
      ∙ ap (λ (k : ℕ). x ++ (new ++ (replicate (31 - k) 0 ++ s₂))) n
      ∙ sym (whole_split c v t (m + 1) New q placed
      ∙ ap₂ (λ (a b : List ℕ). Split c v t (m + 1) q a new b)
      (stripes-same c v book New 0 q (λ j h k. amended-before c book s inside j (omega arith)))
      (stripes-same c v book New (suc q) (t - suc q) (λ j h k. amended-after c book s inside j (omega arith))))

  pub taken-afresh : taken_in (afresh c v t m book) (slip_record (m + 1) s) ≡ afresh c v t (m + 1) New
  taken-afresh =
      let f = afresh c v t m book in
      let p = slip_record (m + 1) s in
      let at = stripe_at q + 3 in
      let u = put_at f 41 (digits 4 (m + 1)) in
      let e = count-put c v t m (m + 1) book long in
      let w = put_at u at (slipped c v s.index s.change (part u at (alpha c))) in
      sym (taken_is f p u w c v s.index s.change (m + 1) at (sym (afresh-code c v t m book long)) (sym (afresh-node c v t m book long))
      (sym (slip-index (m + 1) s (omega (arith, bytes_high c R)))) (sym (slip-change (m + 1) s)) (ap (λ (n : ℕ). stripe_at n + 3) (sym (slip-stripe (m + 1) s (omega arith))))
      (ap (λ (n : ℕ). n + 1) (sym (afresh-count c v t m book long (omega arith)))) refl refl)
      ∙ ap (λ (x : List ℕ). put_at x at (slipped c v s.index s.change (part x at (alpha c)))) e
      ∙ ap (λ (x : List ℕ). put_at (afresh c v t (m + 1) book) at (slipped c v s.index s.change x)) (afresh-share c v t (m + 1) book long narrow q placed)
      ∙ ap (put_at (afresh c v t (m + 1) book) at) share-new ∙ share-put
