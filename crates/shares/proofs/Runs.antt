-- Runs of bytes put one after the other.
--   put_next        what is put behind a run that was put is put with it
--   put_all         a run as long as what it is put over takes its place
--   bytes-are       the bytes of a list of symbols
--   node-is, stripe-is, help-is, code_is     the records' bytes
-- Assumes nothing.
use mathlib.Core.Path.{◌≡◌, ◌∙◌, sym, ap, ap₂}
use mathlib.Core.List.{List, [], ◌∷◌, ◌++◌, append_assoc, map}
use Prim.Native.Nat.{ℕ, ◌+◌, ◌<◌, ◌≤◌}
use native.Mathlib.Omega.{arith}
use lib.ListN.{length, get_or, take, drop, replicate, length-append, length-map, get_or-map}
use lib.Seq.{drop-drop, drop-length, ext_get_or}
use borrow.Rule.Slice.PartMut.{put_mid}
use Rattle.std.proofs.lemmas.List.{append-nil, drop-replicate}
use Rattle.records.specs.Numbers.{digits}
use Rattle.records.specs.Writing.{put_at}
use Rattle.records.proofs.Runs.{length-put, drop-put, take_put}
use Rattle.field.specs.declared.Symbol.{Symbol}
use Rattle.codes.specs.Sizes.{none}
use Rattle.codes.specs.declared.Code.{Code}
use Rattle.shares.specs.Fields.{number_of, code_record, node_record, stripe_record, help_record}
use Rattle.shares.proofs.Parts.{put_in}

module _ (o : List ℕ) (at : ℕ) (u w : List ℕ) (h : at + length u + length w ≤ length o) where
  pub put_next : put_at (put_at o at u) (at + length u) w ≡ put_at o at (u ++ w)
  put_next =
      let t = put_at o at u in
      let m = at + length u in
      let f : take m t ≡ take at o ++ u = take_put o at u (omega arith) in
      let e : length u + length w ≡ length (u ++ w) = sym (length-append u w) in
      let n : at + length (u ++ w) ≡ m + length w = omega (arith, e) in
      let g : drop (m + length w) t ≡ drop (m + length w) o =
      sym (drop-drop (length w) m t) ∙ ap (drop (length w)) (drop-put o at u (omega arith)) ∙ drop-drop (length w) m o in
      put_in t m w (omega (arith, length-put o at u))
      ∙ ap₂ (λ (a b : List ℕ). a ++ (w ++ b)) f g
      ∙ append_assoc (take at o) u (w ++ drop (m + length w) o)
      ∙ ap (λ (k : List ℕ). take at o ++ k) (sym (append_assoc u w (drop (m + length w) o)))
      ∙ ap (λ (k : ℕ). take at o ++ ((u ++ w) ++ drop k o)) (sym n)
      ∙ sym (put_in o at (u ++ w) (omega (arith, n)))

pub put_all : (o u : List ℕ) → length u ≡ length o → put_at o 0 u ≡ u
put_all o u e =
    let n : 0 + length u ≡ length o = omega (arith, e) in
    put_in o 0 u (omega arith) ∙ ap (λ (k : ℕ). u ++ drop k o) n ∙ ap (λ (k : List ℕ). u ++ k) (drop-length o) ∙ append-nil u

-- ---- the records

pub bytes-are : (ps : List Symbol) (m : List ℕ) → length ps ≡ 32 → length m ≡ 32 → ((j : ℕ) → j < 32 → get_or m j 0 ≡ (get_or ps j none).0) → m ≡ map number_of ps
bytes-are ps m e f each =
    ext_get_or 0 m (map number_of ps) (f ∙ sym (length-map ps number_of ∙ e)) (λ j h. each j (omega arith) ∙ sym (get_or-map number_of ps j none))

pub node-is : (v t m : ℕ) (a b : List ℕ) → a ≡ digits 2 t → b ≡ digits 4 m
    → 0x4E ∷ v ∷ get_or a 0 0 ∷ get_or a 1 0 ∷ get_or b 0 0 ∷ get_or b 1 0 ∷ get_or b 2 0 ∷ get_or b 3 0 ∷ [] ≡ node_record v t m
unfolding node_record digits
node-is v t m a b e f = rw (e, f)

pub help-is : (f h m i y : ℕ) (a b : List ℕ) → a ≡ digits 4 m → b ≡ digits 2 i
    → 0x48 ∷ f ∷ h ∷ get_or a 0 0 ∷ get_or a 1 0 ∷ get_or a 2 0 ∷ get_or a 3 0 ∷ get_or b 0 0 ∷ get_or b 1 0 ∷ y ∷ [] ≡ help_record f h m i y
unfolding help_record digits
help-is f h m i y a b e g = rw (e, g)

pub stripe-is : (i : ℕ) (a h s t : List ℕ) → a ≡ digits 2 i → h ≡ 0x44 ∷ get_or a 0 0 ∷ get_or a 1 0 ∷ [] → s ≡ t
    → (n : ℕ) → n ≡ length s → put_mid 3 n (h ++ replicate 31 0) s ≡ stripe_record i t
unfolding stripe_record digits
stripe-is i a h s t e f g n l = rw (f, e, l, drop-replicate {X = ℕ} (length s) 31 0, g)

pub code_is : (c : Code) (h p : List ℕ) → h ≡ 0x43 ∷ c.kind ∷ c.n ∷ c.k ∷ c.d ∷ [] → p ≡ map number_of c.points
    → put_mid 5 32 (h ++ replicate 32 0) p ≡ code_record c
unfolding code_record
code_is c h p e f = rw (e, f, append-nil)
