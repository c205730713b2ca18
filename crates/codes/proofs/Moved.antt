-- SLIP, once for every kind: a message's symbol stands at two places of the matrix, or at one on the diagonal, and nowhere else.
-- Assumes nothing.
use mathlib.Core.Path.{◌≡◌, ◌∙◌, refl, sym, ap, ap₂, subst}
use mathlib.Core.Logic.{◌≢◌, ◌⊎◌, inl, inr, by_cases}
use Prim.Native.Nat.{ℕ, ◌+◌, ◌*◌, ◌-◌, ◌<◌, ◌≤◌}
use native.Mathlib.Nat.{add-sub_of_le}
use native.Mathlib.Decide.{dec_le, dec_lt, ℕ_discrete}
use native.Mathlib.Omega.{arith}
use borrow.Author.Tests.{eq-eqb, ne_eqb}
use Rattle.algebra.specs.Symbol.{𝟘}
use Rattle.algebra.specs.Sums.{Vec, unit, left}
use Rattle.algebra.proofs.Sums.{dot-same, dot-comm, dot-zero, unit-self, unit-other, sum-unit}
use Rattle.codes.specs.General.{Stands, Layout, filled, moved}
use Rattle.codes.proofs.General.{entry-ends}

-- ---- the three cases of a change

pub moved-first : (α : ℕ) (lane row col : ℕ → ℕ) (p : Vec) (b j : ℕ) → j ≡ col b → moved α lane row col p b j ≡ p (lane b * α + row b)
unfolding moved
moved-first α lane row col p b j e = rw (eq-eqb j (col b) e)

pub moved-second : (α : ℕ) (lane row col : ℕ → ℕ) (p : Vec) (b j : ℕ) → j ≢ col b → j ≡ row b → moved α lane row col p b j ≡ p (lane b * α + col b)
unfolding moved
moved-second α lane row col p b j n e = rw (ne_eqb j (col b) n, eq-eqb j (row b) e)

pub moved_none : (α : ℕ) (lane row col : ℕ → ℕ) (p : Vec) (b j : ℕ) → j ≢ col b → j ≢ row b → moved α lane row col p b j ≡ 𝟘
unfolding moved
moved_none α lane row col p b j n e = rw (ne_eqb j (col b) n, ne_eqb j (row b) e)

module _ {k α h B : ℕ} {idx : ℕ → ℕ → ℕ} {lane row col : ℕ → ℕ} (L : Layout k α h B idx lane row col) where
  -- ---- where a symbol stands

  mirror : (b : ℕ) → b < B → idx (lane b * α + col b) (row b) ≡ b
  mirror b a = elim (L.lies b a) [
    | inl s ↦ (let o : row b ≤ col b = L.order b a in
        let e : (n : ℕ) → lane b * α + n ≡ n = λ n. ap (λ (q : ℕ). q * α + n) s.0 ∙ omega arith in
        ap (λ (r : ℕ). idx r (row b)) (e (col b)) ∙ L.top (col b) (row b) s.2 (omega arith) ∙ ap (λ (r : ℕ). idx r (col b)) (sym (e (row b))) ∙ L.back b a)
    | inr s ↦ (let o : row b ≤ col b = L.order b a in
        let e : (n : ℕ) → lane b * α + n ≡ α + n = λ n. ap (λ (q : ℕ). q * α + n) s.0 ∙ omega arith in
        ap (λ (r : ℕ). idx r (row b)) (e (col b)) ∙ L.under (col b) (row b) s.1 (omega arith) ∙ ap (λ (r : ℕ). idx r (col b)) (sym (e (row b))) ∙ L.back b a)
  ]

  -- both are places of the matrix
  pub place-within : (b : ℕ) → b < B → (lane b * α + col b < α + h) × (col b < α)
  place-within b a = elim (L.lies b a) [
    | inl s ↦ (let e : lane b * α ≡ 0 = ap (λ (q : ℕ). q * α) s.0 ∙ omega arith in (omega arith, s.2))
    | inr s ↦ (let e : lane b * α ≡ α = ap (λ (q : ℕ). q * α) s.0 ∙ omega arith in (omega arith, omega (arith, L.room)))
  ]

  abbrev pub At : ℕ → ℕ → ℕ → Type 0
  At r j b = ((r ≡ lane b * α + row b) × (j ≡ col b)) ⊎ ((r ≡ lane b * α + col b) × (j ≡ row b))

  -- the place of an upper entry, and of its mirror image
  stands_up : {b q i j : ℕ} → Stands B lane row col b q i j → At (q * α + i) j b
  stands_up s = inl (sym (ap₂ (λ (x y : ℕ). x * α + y) s.in_lane s.in_row), sym s.in_col)

  stands-down : {b q i j : ℕ} → Stands B lane row col b q i j → At (q * α + j) i b
  stands-down s = inr (sym (ap₂ (λ (x y : ℕ). x * α + y) s.in_lane s.in_col), sym s.in_row)

  only-top : (i j : ℕ) → i < α → j < α → idx i j < B → At i j (idx i j)
  only-top i j a b c =
      subst (λ (r : ℕ). At r j (idx i j)) {x = 0 * α + i} (omega arith)
      (by_cases (dec_le i j)
      (λ d. by_cases (dec_lt i k) (λ e. stands_up (L.upper i j d e b)) (λ n. absurd (omega (arith, L.corner i j (omega arith) a (omega arith) b))))
      (λ n. by_cases (dec_lt j k) (λ e. subst (At (0 * α + i) j) (L.top j i b a) (stands-down (L.upper j i (omega arith) e a)))
      (λ m. absurd (omega (arith, L.corner i j (omega arith) a (omega arith) b)))))

  only_under : (i j : ℕ) → i < h → j < α → idx (α + i) j < B → At (α + i) j (idx (α + i) j)
  only_under i j a b c =
      subst (λ (r : ℕ). At r j (idx (α + i) j)) {x = 1 * α + i} (omega arith)
      (by_cases (dec_lt j h)
      (λ d. by_cases (dec_le i j) (λ e. stands_up (L.lower i j e d))
      (λ n. subst (At (1 * α + i) j) (L.under j i d a) (stands-down (L.lower j i (omega arith) a))))
      (λ n. absurd (omega (arith, L.beside i j a (omega arith) b))))

  pub only : (r j b : ℕ) → r < α + h → j < α → b < B → idx r j ≡ b → At r j b
  only r j b x y z e =
      subst (At r j) e
      (by_cases (dec_lt r α) (λ c. only-top r j c y (omega arith))
      (λ n. let m : α ≤ r = omega arith in
      subst (λ (s : ℕ). idx s j < B → At s j (idx s j)) (add-sub_of_le m) (only_under (r - α) j (omega arith) y) (omega arith)))

  -- ---- the matrix of one symbol

  -- at the column of one of its places
  unit-at : (b n j : ℕ) → b < B → idx n j ≡ b → (r : ℕ) → (idx r j ≡ b → r ≡ n) → filled B idx (unit b) r j ≡ unit n r
  unit-at b n j a e r f =
      entry-ends B (unit b) (λ s c. unit-other b s (omega arith)) (idx r j)
      ∙ by_cases (ℕ_discrete (idx r j) b)
      (λ g. ap (unit b) g ∙ unit-self b ∙ sym (ap (unit n) (f g) ∙ unit-self n))
      (λ g. unit-other b (idx r j) (λ x. g (sym x)) ∙ sym (unit-other n r (λ x. g (ap (λ (s : ℕ). idx s j) (sym x) ∙ e))))

  -- the row p times it
  unit_left : (p : Vec) (b n j : ℕ) → b < B → idx n j ≡ b → n < α + h → ((r : ℕ) → r < α + h → idx r j ≡ b → r ≡ n)
      → left (α + h) p (filled B idx (unit b)) j ≡ p n
  unit_left p b n j a e l f =
      dot-same (α + h) (λ r x. refl) (λ r x. unit-at b n j a e r (f r x)) ∙ dot-comm (α + h) p (unit n) ∙ sum-unit (α + h) n p l

  -- a change of one symbol moves no more than two symbols of the row p times the matrix
  pub slip-left : (p : Vec) (b j : ℕ) → b < B → j < α → left (α + h) p (filled B idx (unit b)) j ≡ moved α lane row col p b j
  slip-left p b j a l = by_cases (ℕ_discrete j (col b)) first (λ n. by_cases (ℕ_discrete j (row b)) (second n) (none n))
    where
      first : j ≡ col b → left (α + h) p (filled B idx (unit b)) j ≡ moved α lane row col p b j
      first e =
          unit_left p b (lane b * α + row b) j a (ap (idx (lane b * α + row b)) e ∙ L.back b a) (omega (arith, (place-within b a).0, L.order b a))
          (λ r x g. elim (only r j b x l a g) [ inl s ↦ s.0 | inr s ↦ omega (arith, s.0, s.1) ])
          ∙ sym (moved-first α lane row col p b j e)

      second : j ≢ col b → j ≡ row b → left (α + h) p (filled B idx (unit b)) j ≡ moved α lane row col p b j
      second n e =
          unit_left p b (lane b * α + col b) j a (ap (idx (lane b * α + col b)) e ∙ mirror b a) (place-within b a).0
          (λ r x g. elim (only r j b x l a g) [ inl s ↦ absurd (n s.1) | inr s ↦ s.0 ])
          ∙ sym (moved-second α lane row col p b j n e)

      none : j ≢ col b → j ≢ row b → left (α + h) p (filled B idx (unit b)) j ≡ moved α lane row col p b j
      none n e =
          dot-zero (α + h) p (λ r x. entry-ends B (unit b) (λ s c. unit-other b s (omega arith)) (idx r j)
          ∙ unit-other b (idx r j) (λ g. elim (only r j b x l a (sym g)) [ inl s ↦ n s.1 | inr s ↦ e s.1 ]))
          ∙ sym (moved_none α lane row col p b j n e)
