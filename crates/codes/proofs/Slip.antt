-- A slip: one symbol of the message changed moves no more than two bytes of a share; which, and by how much.
-- Assumes nothing.
use mathlib.Core.Path.{◌≡◌, ◌∙◌, refl, sym, ap, ap₂, subst, fun_ext}
use mathlib.Core.List.{List}
use mathlib.Core.Logic.{◌≢◌, by_cases}
use Prim.Native.Nat.{ℕ, ◌+◌, ◌*◌, ◌<◌}
use native.Mathlib.Decide.{ℕ_discrete}
use native.Mathlib.Omega.{arith}
use borrow.Author.Tests.{eq-eqb, ne_eqb}
use lib.Bits.{bit_xor, xor_zero_r}
use lib.ListN.{length, get_or, set, length-set}
use lib.Seq.{ext_get_or, get_or-set_same, get_or-set_other}
use Rattle.algebra.specs.Symbol.{F, symbol, ◌⊕◌, ◌⊗◌, 𝟘}
use Rattle.algebra.specs.Sums.{Vec, Same, unit, left}
use Rattle.algebra.specs.Bytes.{at}
use Rattle.algebra.proofs.Ring.{add_none, mul-none, mul-one, symbol-add, val-add}
use Rattle.algebra.proofs.Sums.{dot-same, unit-self, unit-other}
use Rattle.algebra.proofs.Bytes.{table-length, table_at, at_table}
use Rattle.codes.specs.Sizes.{alpha, bytes, row}
use Rattle.codes.specs.Matrix.{lane, row_of, col_of}
use Rattle.codes.specs.General.{filled, idx_of}
use Rattle.codes.specs.Share.{share_at, share, changed, effect, nudged, slipped}
use Rattle.codes.specs.Rules.{Rules}
use Rattle.codes.specs.declared.Code.{Code}
use Rattle.codes.proofs.Moved.{moved-first, moved-second, moved_none, slip-left}
use Rattle.codes.proofs.Matrix.{layout, rows_all, matrix-filled}
use Rattle.codes.proofs.Linear.{share-linear}

-- ---- the symbols of a share

pub share-length : (c : Code) (v : ℕ) (m : List ℕ) → length (share c v m) ≡ alpha c
unfolding share
share-length c v m = table-length (alpha c) (share_at c v (at m))

pub share-byte : (c : Code) (v : ℕ) (m : List ℕ) (j : ℕ) → j < alpha c → get_or (share c v m) j 0 ≡ (share_at c v (at m) j).val
unfolding share
share-byte c v m = table_at (alpha c) (share_at c v (at m))

pub share-symbol : (c : Code) (v : ℕ) (m : List ℕ) → Same (alpha c) (at (share c v m)) (share_at c v (at m))
unfolding share
share-symbol c v m = at_table (alpha c) (share_at c v (at m))

-- ---- the changed message, and the share's symbols

-- the sum of the message and δ at its symbol b
pub at-changed : (m : List ℕ) (b δ : ℕ) → b < length m → (i : ℕ) → at (changed m b δ) i ≡ at m i ⊕ symbol δ ⊗ unit b i
unfolding changed
at-changed m b δ h i =
    by_cases (ℕ_discrete i b)
    (λ e. ap (λ (n : ℕ). symbol (get_or (set m b (bit_xor (get_or m b 0) δ)) n 0)) e ∙ ap symbol (get_or-set_same m b (bit_xor (get_or m b 0) δ) 0 h) ∙ symbol-add (get_or m b 0) δ
    ∙ sym (ap₂ (λ (n : ℕ) (x : F). symbol (get_or m n 0) ⊕ symbol δ ⊗ x) e (ap (unit b) e ∙ unit-self b) ∙ ap (λ (x : F). symbol (get_or m b 0) ⊕ x) (mul-one (symbol δ))))
    (λ n. ap symbol (get_or-set_other m b i (bit_xor (get_or m b 0) δ) 0 n)
    ∙ sym (add_none (symbol (get_or m i 0)) (mul-none (symbol δ) (unit-other b i (λ e. n (sym e))))))

module _ {c : Code} (R : Rules c) (v b δ : ℕ) (within : b < bytes c) where
  -- what a change 1 of the symbol b gives is its effect
  unit-share : (j : ℕ) → j < alpha c → share_at c v (unit b) j ≡ effect c v b j
  unit-share j x =
      dot-same c.d (λ r y. refl) (λ r y. matrix-filled R (unit b) r j y x)
      ∙ ap (λ (n : ℕ). left n (row c v) (filled (bytes c) (idx_of c) (unit b)) j) (sym (rows_all R))
      ∙ slip-left (layout R) (row c v) b j within x

  pub share_at-slip : (m : List ℕ) → length m ≡ bytes c → (j : ℕ) → j < alpha c
      → share_at c v (at (changed m b δ)) j ≡ share_at c v (at m) j ⊕ symbol δ ⊗ effect c v b j
  share_at-slip m l j x =
      ap (λ (f : Vec). share_at c v f j) (fun_ext (at-changed m b δ (omega arith)))
      ∙ share-linear c v (symbol δ) (at m) (unit b) j
      ∙ ap (λ (y : F). share_at c v (at m) j ⊕ symbol δ ⊗ y) (unit-share j x)

  pub share-slip : (m : List ℕ) → length m ≡ bytes c → (j : ℕ) → j < alpha c
      → at (share c v (changed m b δ)) j ≡ at (share c v m) j ⊕ symbol δ ⊗ effect c v b j
  share-slip m l j x =
      share-symbol c v (changed m b δ) j x ∙ share_at-slip m l j x
      ∙ ap (λ (y : F). y ⊕ symbol δ ⊗ effect c v b j) (sym (share-symbol c v m j x))

-- ---- the same, byte by byte

nudged-length : (s : List ℕ) (j δ : ℕ) (x : F) → length (nudged s j δ x) ≡ length s
unfolding nudged
nudged-length s j δ x = length-set s j (bit_xor (get_or s j 0) (symbol δ ⊗ x).val)

nudged-same : (s : List ℕ) (j δ : ℕ) (x : F) → j < length s → get_or (nudged s j δ x) j 0 ≡ bit_xor (get_or s j 0) (symbol δ ⊗ x).val
unfolding nudged
nudged-same s j δ x h = get_or-set_same s j (bit_xor (get_or s j 0) (symbol δ ⊗ x).val) 0 h

nudged-other : (s : List ℕ) (j δ : ℕ) (x : F) (i : ℕ) → i ≢ j → get_or (nudged s j δ x) i 0 ≡ get_or s i 0
unfolding nudged
nudged-other s j δ x i n = get_or-set_other s j i (bit_xor (get_or s j 0) (symbol δ ⊗ x).val) 0 n

-- no change
unmoved : (n δ : ℕ) {x : F} → x ≡ 𝟘 → n ≡ bit_xor n (symbol δ ⊗ x).val
unfolding 𝟘
unmoved n δ e = sym (ap (λ (y : F). bit_xor n y.val) (mul-none (symbol δ) e) ∙ xor_zero_r n)

module _ (c : Code) (v b δ : ℕ) (s : List ℕ) where
  upper : List ℕ
  upper = nudged s (col_of c b) δ (row c v (lane c b * alpha c + row_of c b))

  slipped-one : row_of c b ≡ col_of c b → slipped c v b δ s ≡ upper
  unfolding slipped upper
  slipped-one e = rw (eq-eqb (row_of c b) (col_of c b) e)

  slipped-two : row_of c b ≢ col_of c b → slipped c v b δ s ≡ nudged upper (row_of c b) δ (row c v (lane c b * alpha c + col_of c b))
  unfolding slipped upper
  slipped-two n = rw (ne_eqb (row_of c b) (col_of c b) n)

  upper-length : length upper ≡ length s
  unfolding upper
  upper-length = nudged-length s (col_of c b) δ (row c v (lane c b * alpha c + row_of c b))

  pub slipped-length : length (slipped c v b δ s) ≡ length s
  slipped-length =
      by_cases (ℕ_discrete (row_of c b) (col_of c b)) (λ e. ap length (slipped-one e) ∙ upper-length)
      (λ n. ap length (slipped-two n) ∙ nudged-length upper (row_of c b) δ (row c v (lane c b * alpha c + col_of c b)) ∙ upper-length)

  upper-same : col_of c b < length s → get_or upper (col_of c b) 0 ≡ bit_xor (get_or s (col_of c b) 0) (symbol δ ⊗ effect c v b (col_of c b)).val
  unfolding upper
  upper-same h =
      nudged-same s (col_of c b) δ (row c v (lane c b * alpha c + row_of c b)) h
      ∙ ap (λ (x : F). bit_xor (get_or s (col_of c b) 0) (symbol δ ⊗ x).val)
      (sym (moved-first (alpha c) (lane c) (row_of c) (col_of c) (row c v) b (col_of c b) refl))

  upper-other : (j : ℕ) → j ≢ col_of c b → get_or upper j 0 ≡ get_or s j 0
  unfolding upper
  upper-other = nudged-other s (col_of c b) δ (row c v (lane c b * alpha c + row_of c b))

  upper-byte : (j : ℕ) → j < length s → (j ≢ col_of c b → j ≢ row_of c b)
      → get_or upper j 0 ≡ bit_xor (get_or s j 0) (symbol δ ⊗ effect c v b j).val
  upper-byte j h f =
      by_cases (ℕ_discrete j (col_of c b))
      (λ e. subst (λ (i : ℕ). i < length s → get_or upper i 0 ≡ bit_xor (get_or s i 0) (symbol δ ⊗ effect c v b i).val) (sym e) upper-same h)
      (λ n. upper-other j n ∙ unmoved (get_or s j 0) δ (moved_none (alpha c) (lane c) (row_of c) (col_of c) (row c v) b j n (f n)))

  lower-byte : (j : ℕ) → j < length s → j ≡ row_of c b → row_of c b ≢ col_of c b
      → get_or (slipped c v b δ s) j 0 ≡ bit_xor (get_or s j 0) (symbol δ ⊗ effect c v b j).val
  lower-byte j h e n =
      ap₂ (λ (l : List ℕ) (i : ℕ). get_or l i 0) (slipped-two n) e
      ∙ nudged-same upper (row_of c b) δ (row c v (lane c b * alpha c + col_of c b)) (omega (arith, upper-length))
      ∙ ap₂ (λ (x : ℕ) (y : F). bit_xor x (symbol δ ⊗ y).val) (upper-other (row_of c b) n ∙ ap (λ (i : ℕ). get_or s i 0) (sym e))
      (sym (moved-second (alpha c) (lane c) (row_of c) (col_of c) (row c v) b j (omega arith) e))

  pub slipped-byte : (j : ℕ) → j < length s → get_or (slipped c v b δ s) j 0 ≡ bit_xor (get_or s j 0) (symbol δ ⊗ effect c v b j).val
  slipped-byte j h =
      by_cases (ℕ_discrete (row_of c b) (col_of c b))
      (λ e. ap (λ (l : List ℕ). get_or l j 0) (slipped-one e) ∙ upper-byte j h (λ n f. n (f ∙ e)))
      (λ n. by_cases (ℕ_discrete j (row_of c b)) (λ e. lower-byte j h e n)
      (λ m. ap (λ (l : List ℕ). get_or l j 0) (slipped-two n) ∙ nudged-other upper (row_of c b) δ (row c v (lane c b * alpha c + col_of c b)) j m
      ∙ upper-byte j h (λ f. m)))

-- SLIP: the share of the changed message is the share with those bytes set
pub share-slipped : {c : Code} → Rules c → (v b δ : ℕ) → b < bytes c → (m : List ℕ) → length m ≡ bytes c
    → share c v (changed m b δ) ≡ slipped c v b δ (share c v m)
share-slipped {c} R v b δ h m l =
    ext_get_or 0 (share c v (changed m b δ)) (slipped c v b δ (share c v m))
    (share-length c v (changed m b δ) ∙ sym (slipped-length c v b δ (share c v m) ∙ share-length c v m))
    (λ j x. let y : j < alpha c = omega (arith, share-length c v (changed m b δ)) in
    share-byte c v (changed m b δ) j y ∙ ap (λ (a : F). a.val) (share_at-slip R v b δ h m l j y)
    ∙ val-add (share_at c v (at m) j) (symbol δ ⊗ effect c v b j)
    ∙ ap (λ (n : ℕ). bit_xor n (symbol δ ⊗ effect c v b j).val) (sym (share-byte c v m j y))
    ∙ sym (slipped-byte c v b δ (share c v m) j (omega (arith, share-length c v m))))
