-- A share file made afresh: its parts, and what is read off it.
--   code-length, node-length, stripe-length, stripes-length, afresh-length     how long the parts are
--   afresh-head, afresh-mark, afresh-code, afresh-node, afresh-total, afresh-count     what C and N say
--   from-stripe       the file from a D record on
--   afresh-kind, afresh-number, afresh-share, afresh-spare   what a D record says
-- Assumes nothing.
use mathlib.Core.Path.{◌≡◌, ◌∙◌, refl, sym, ap, ap₂}
use mathlib.Core.List.{List, [], ◌∷◌, ◌++◌, append_assoc, map}
use Prim.Native.Nat.{ℕ, zero, suc, ◌+◌, ◌*◌, ◌-◌, ◌<◌, ◌≤◌}
use native.Mathlib.Nat.{mod-eq_of_lt, not-suc-le-zero, le_of_suc-le-suc}
use native.Mathlib.Omega.{arith}
use lib.ListN.{length, get_or, take, drop, replicate, length-append, length-map, length-replicate, get_or-replicate, take-append-drop, get_or-map, get_or-append}
use lib.Seq.{get_or-append-add, drop_at, take_at, drop-drop, get_or-drop, length-take-le}
use Rattle.field.specs.declared.Symbol.{Symbol}
use Rattle.records.specs.Numbers.{number_at, digits}
use Rattle.records.proofs.Digits.{length_digits, number_digits}
use Rattle.codes.specs.Sizes.{none, alpha}
use Rattle.codes.specs.Body.{code_at}
use Rattle.codes.specs.Share.{share}
use Rattle.codes.specs.declared.Code.{Code}
use Rattle.codes.proofs.Symbols.{symbols-are}
use Rattle.codes.proofs.Slip.{share-length}
use Rattle.shares.specs.Fields.{number_of, code_record, node_record, stripe_record, code_in, node_in, stripes_in, count_in, stripe_at, share_in}
use Rattle.shares.specs.Afresh.{stripe_of, stripes_from, afresh}

-- ---- lengths

pub code-length : (c : Code) → length c.points ≡ 32 → length (code_record c) ≡ 37
unfolding code_record
code-length c e = omega (arith, length-map c.points number_of, e)

pub node-length : (v t m : ℕ) → length (node_record v t m) ≡ 8
unfolding node_record
node-length v t m = omega (arith, length-append (digits 2 t) (digits 4 m), length_digits 2 t, length_digits 4 m)

pub stripe-length : (i : ℕ) (s : List ℕ) → length s ≤ 31 → length (stripe_record i s) ≡ 34
unfolding stripe_record
stripe-length i s h =
    let z = replicate {A = ℕ} (31 - length s) 0 in
    omega (arith, length-append (digits 2 i) (s ++ z), length-append s z, length_digits 2 i, length-replicate {A = ℕ} (31 - length s) 0)

module _ (c : Code) (v : ℕ) (book : List ℕ) (narrow : alpha c ≤ 31) where
  share-narrow : (i : ℕ) → length (share c v (stripe_of c book i)) ≤ 31
  share-narrow i = omega (arith, share-length c v (stripe_of c book i))

  abbrev Record : ℕ → List ℕ
  Record i = stripe_record i (share c v (stripe_of c book i))

  record-length : (i : ℕ) → length (Record i) ≡ 34
  record-length i = stripe-length i (share c v (stripe_of c book i)) (share-narrow i)

  pub stripes-length : (i n : ℕ) → length (stripes_from c v book i n) ≡ 34 * n
  unfolding stripes_from
  stripes-length i zero = refl
  stripes-length i (suc n) =
      omega (arith, length-append (Record i) (stripes_from c v book (suc i) n), record-length i, stripes-length (suc i) n)

  -- one stripe more at the end
  pub stripes-more : (i n : ℕ) → stripes_from c v book i (n + 1) ≡ stripes_from c v book i n ++ Record (i + n)
  unfolding stripes_from
  stripes-more i zero = let e : i ≡ i + 0 = omega arith in let f : 0 + 1 ≡ suc zero = refl in ap (stripes_from c v book i) f ∙ nil (Record i) ∙ ap Record e
    where
      nil : (l : List ℕ) → l ++ [] ≡ l
      nil [] = refl
      nil (x ∷ l) = ap (λ (k : List ℕ). x ∷ k) (nil l)
  stripes-more i (suc n) =
      let e : suc n + 1 ≡ suc (n + 1) = omega arith in
      let f : suc i + n ≡ i + suc n = omega arith in
      ap (stripes_from c v book i) e ∙ ap (λ (l : List ℕ). Record i ++ l) (stripes-more (suc i) n ∙ ap (λ (k : ℕ). stripes_from c v book (suc i) n ++ Record k) f)
      ∙ sym (append_assoc (Record i) (stripes_from c v book (suc i) n) (Record (i + suc n)))

  pub stripes-drop : (j i n : ℕ) → i < n → drop (34 * i) (stripes_from c v book j n) ≡ Record (j + i) ++ stripes_from c v book (suc (j + i)) (n - suc i)
  unfolding stripes_from
  stripes-drop j i zero h = absurd (not-suc-le-zero h)
  stripes-drop j zero (suc n) h =
      let e : j ≡ j + 0 = omega arith in
      let f : n ≡ suc n - suc 0 = omega arith in
      ap₂ (λ (a b : ℕ). Record a ++ stripes_from c v book (suc a) b) e f
  stripes-drop j (suc i) (suc n) h =
      let e : 34 * suc i ≡ 34 + 34 * i = omega arith in
      let f : suc j + i ≡ j + suc i = omega arith in
      let g : n - suc i ≡ suc n - suc (suc i) = omega arith in
      ap (λ (k : ℕ). drop k (Record j ++ stripes_from c v book (suc j) n)) e
      ∙ sym (drop-drop (34 * i) 34 (Record j ++ stripes_from c v book (suc j) n))
      ∙ ap (drop (34 * i)) (drop_at (Record j) (stripes_from c v book (suc j) n) 34 (record-length j))
      ∙ stripes-drop (suc j) i n (le_of_suc-le-suc h)
      ∙ ap₂ (λ (a b : ℕ). Record a ++ stripes_from c v book (suc a) b) f g

-- ---- the whole file

module _ (c : Code) (v t m : ℕ) (book : List ℕ) (long : length c.points ≡ 32) where
  abbrev File : List ℕ
  File = afresh c v t m book

  abbrev Stripes : List ℕ
  Stripes = stripes_from c v book 0 t

  pub afresh-length : alpha c ≤ 31 → length File ≡ stripe_at t
  unfolding afresh
  afresh-length h =
      omega (arith, length-append (code_record c) (node_record v t m ++ Stripes), length-append (node_record v t m) Stripes, code-length c long, node-length v t m, stripes-length c v book h 0 t)

  point-byte : (j : ℕ) → j < 32 → (get_or c.points j none).0 ≡ get_or File (5 + j) 0
  unfolding afresh code_record
  point-byte j h =
      let e : suc (suc (suc (suc (suc j)))) ≡ 5 + j = omega arith in
      sym (get_or-map number_of c.points j none)
      ∙ sym (get_or-append (map number_of c.points) (node_record v t m ++ Stripes) 0 j (omega (arith, length-map c.points number_of)))
      ∙ ap (λ (k : ℕ). get_or File k 0) e

  pub afresh-code : code_in File ≡ c
  unfolding code_at afresh code_record
  afresh-code =
      ap (λ (ps : List Symbol). record { kind = c.kind; n = c.n; k = c.k; d = c.d; points = ps })
      (sym (symbols-are 32 File 5 c.points long point-byte))

  -- the kind bytes of C and N
  pub afresh-head : get_or File 0 0 ≡ 0x43
  unfolding afresh code_record
  afresh-head = refl

  pub afresh-mark : get_or File 37 0 ≡ 0x4E
  unfolding afresh node_record
  afresh-mark =
      let e : 37 ≡ length (code_record c) + 0 = omega (arith, code-length c long) in
      ap (λ (k : ℕ). get_or File k 0) e ∙ get_or-append-add (code_record c) (node_record v t m ++ Stripes) 0 0

  pub afresh-node : node_in File ≡ v
  unfolding afresh node_record
  afresh-node =
      let e : 38 ≡ length (code_record c) + 1 = omega (arith, code-length c long) in
      ap (λ (k : ℕ). get_or File k 0) e ∙ get_or-append-add (code_record c) (node_record v t m ++ Stripes) 1 0

  pub afresh-total : t < 65536 → stripes_in File ≡ t
  unfolding afresh node_record
  afresh-total h =
      let b = code_record c ++ (0x4E ∷ v ∷ []) in
      let e : File ≡ b ++ digits 2 t ++ (digits 4 m ++ Stripes) = simp append_assoc in
      let f : 39 ≡ length b = omega (arith, length-append (code_record c) (0x4E ∷ v ∷ []), code-length c long) in
      ap₂ (number_at 2) e f ∙ number_digits 2 t b (digits 4 m ++ Stripes) ∙ mod-eq_of_lt h

  pub afresh-count : m < 4294967296 → count_in File ≡ m
  unfolding afresh node_record
  afresh-count h =
      let b = code_record c ++ (0x4E ∷ v ∷ digits 2 t) in
      let e : File ≡ b ++ digits 4 m ++ Stripes = simp append_assoc in
      let f : 41 ≡ length b = omega (arith, length-append (code_record c) (0x4E ∷ v ∷ digits 2 t), code-length c long, length_digits 2 t) in
      ap₂ (number_at 4) e f ∙ number_digits 4 m b Stripes ∙ mod-eq_of_lt h

  -- ---- from a D record on

  module _ (narrow : alpha c ≤ 31) (i : ℕ) (within : i < t) where
    abbrev Share : List ℕ
    Share = share c v (stripe_of c book i)

    abbrev After : List ℕ
    After = stripes_from c v book (suc (0 + i)) (t - suc i)

    pub from-stripe : drop (stripe_at i) File ≡ stripe_record i Share ++ After
    unfolding afresh
    from-stripe =
        let b = code_record c ++ node_record v t m in
        let e : File ≡ b ++ Stripes = sym (append_assoc (code_record c) (node_record v t m) Stripes) in
        let l : length b ≡ 45 = omega (arith, length-append (code_record c) (node_record v t m), code-length c long, node-length v t m) in
        let f : 0 + i ≡ i = omega arith in
        sym (drop-drop (34 * i) 45 File) ∙ ap (drop (34 * i)) (ap (drop 45) e ∙ drop_at b Stripes 45 l) ∙ stripes-drop c v book narrow 0 i t within
        ∙ ap (λ (k : ℕ). stripe_record k (share c v (stripe_of c book k)) ++ After) f

    byte : (j : ℕ) → get_or File (stripe_at i + j) 0 ≡ get_or (stripe_record i Share ++ After) j 0
    byte j = sym (get_or-drop (stripe_at i) File j 0) ∙ ap (λ (l : List ℕ). get_or l j 0) from-stripe

    pub afresh-kind : get_or File (stripe_at i) 0 ≡ 0x44
    unfolding stripe_record
    afresh-kind = let e : stripe_at i ≡ stripe_at i + 0 = omega arith in ap (λ (k : ℕ). get_or File k 0) e ∙ byte 0

    abbrev Rest : List ℕ
    Rest = replicate (31 - length Share) 0 ++ After

    -- the record by its parts
    parts : stripe_record i Share ++ After ≡ (0x44 ∷ digits 2 i) ++ (Share ++ Rest)
    unfolding stripe_record
    parts = simp append_assoc

    pub from-share : drop (stripe_at i + 3) File ≡ Share ++ Rest
    from-share =
        let l : length (0x44 ∷ digits 2 i) ≡ 3 = omega (arith, length_digits 2 i) in
        sym (drop-drop 3 (stripe_at i) File) ∙ ap (drop 3) (from-stripe ∙ parts) ∙ drop_at (0x44 ∷ digits 2 i) (Share ++ Rest) 3 l

    pub afresh-share : share_in c File i ≡ Share
    afresh-share = ap (take (alpha c)) from-share ∙ take_at Share Rest (alpha c) (share-length c v (stripe_of c book i))

    pub afresh-spare : (j : ℕ) → alpha c ≤ j → j < 31 → get_or File (stripe_at i + 3 + j) 0 ≡ 0
    afresh-spare j h l =
        let e = share-length c v (stripe_of c book i) in
        let n = 31 - length Share in
        let q : j ≡ length Share + (j - alpha c) = omega arith in
        sym (get_or-drop (stripe_at i + 3) File j 0) ∙ ap (λ (k : List ℕ). get_or k j 0) from-share
        ∙ ap (λ (k : ℕ). get_or (Share ++ Rest) k 0) q ∙ get_or-append-add Share Rest (j - alpha c) 0
        ∙ get_or-append (replicate n 0) After 0 (j - alpha c) (omega (arith, length-replicate {A = ℕ} n 0))
        ∙ get_or-replicate n (j - alpha c) 0 0 (omega arith)

    pub afresh-number : i < 65536 → number_at 2 File (stripe_at i + 1) ≡ i
    afresh-number h =
        let front = take (stripe_at i) File in
        let b = front ++ (0x44 ∷ []) in
        let after = Share ++ Rest in
        let l : length front ≡ stripe_at i = length-take-le (stripe_at i) File (omega (arith, afresh-length narrow)) in
        let f : stripe_at i + 1 ≡ length b = omega (arith, length-append front (0x44 ∷ [])) in
        let g : front ++ ((0x44 ∷ digits 2 i) ++ after) ≡ b ++ digits 2 i ++ after = simp append_assoc in
        let e : File ≡ b ++ digits 2 i ++ after = sym (take-append-drop (stripe_at i) File) ∙ ap (λ (k : List ℕ). front ++ k) (from-stripe ∙ parts) ∙ g in
        ap₂ (number_at 2) e f ∙ number_digits 2 i b after ∙ mod-eq_of_lt h
