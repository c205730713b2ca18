-- Grids that are symmetric in all of their first α rows, as a message's are: when the grid of k shares is one (FIT, PAIR),
-- and the share that helpers' symbols rebuild from one (REB).
use mathlib.Core.Path.{◌≡◌, ◌∙◌, refl, sym, ap, ap₂}
use mathlib.Core.Logic.{by_cases}
use Prim.Native.Nat.{ℕ, suc, ◌+◌, ◌<◌, ◌≤◌}
use native.Mathlib.Decide.{dec_lt}
use native.Mathlib.Omega.{arith}
use Rattle.algebra.specs.Symbol.{F, ◌⊕◌, ◌⊗◌, 𝟘}
use Rattle.algebra.specs.Sums.{Vec, Grid, Same, Symmetric, ◌⊞◌, pick, dot, flip, left, right, form}
use Rattle.algebra.specs.Frame.{Frame, Below}
use Rattle.algebra.specs.Collect.{Shape, Gives, Agree}
use Rattle.algebra.proofs.Ring.{equal, vanish, add_none, mul-none}
use Rattle.algebra.proofs.Sums.{pick-lt, pick-ge, dot-same, dot-comm, dot-zero, assoc, form-flip, form-add, swap, left-right}
use Rattle.algebra.proofs.Frame.{sol-only, form-only}
use Rattle.algebra.proofs.Collect.{sum-span, span-zero, left-scaled}

-- ---- FIT

-- FIT: where k is h + 1 each grid of the shape is symmetric, so any k shares are those of a symmetric one
pub fit : {k α h : ℕ} {W : Grid} → k ≡ suc h → Shape k α h W → Symmetric α W
fit {k} {α} {h} {W} e s i j a b =
    by_cases (dec_lt j h) (s.low i j a)
    (λ m. by_cases (dec_lt i h) (λ c. sym (s.low j i b c))
    (λ n. by_cases (dec_lt j k)
    (λ c. by_cases (dec_lt i k) (λ d. let q : i ≡ j = omega arith in ap₂ W q (sym q)) (λ d. sym (s.high j i b (omega arith) a)))
    (λ c. s.high i j a (omega arith) b)))

-- ---- REB

-- a vector that is 𝟘 from m on
dot-cut : (m n : ℕ) (u v : Vec) → m ≤ n → ((i : ℕ) → m ≤ i → i < n → v i ≡ 𝟘) → dot n u v ≡ dot m u v
dot-cut m n u v a z =
    sum-span m n (λ i. u i ⊗ v i) a ∙ add_none _ (span-zero m n (λ i b c. mul-none (u i) (z i b c)))

module _ {α h : ℕ} {q : Grid} {sol : Vec → Vec} (G : Frame (α + h) (Below (α + h)) q sol) {k : ℕ} {W : Grid} (S : Shape k α h W) (Y : Symmetric α W) where
  -- the helpers' symbols, each its share times the first α entries of the row f, are solved by the grid times those
  solved : (f : Vec) → Same (α + h) (right α W f) (sol (λ t. dot α (left (α + h) (q t) W) f))
  solved f = sol-only G (λ t. dot α (left (α + h) (q t) W) f) (right α W f) (λ t a. sym (assoc (α + h) α (q t) W f))

  -- REB: the solution, with c times its last entries added to its first, is the share of f
  pub rebuilt : (f : Vec) (c : F) → ((i : ℕ) → i < h → f (α + i) ≡ c ⊗ f i) → h ≤ α → (j : ℕ) → j < α
      → sol (λ t. dot α (left (α + h) (q t) W) f) j ⊕ pick j h (c ⊗ sol (λ t. dot α (left (α + h) (q t) W) f) (α + j)) 𝟘 ≡ left (α + h) f W j
  rebuilt f c e r j a =
      sym (left-scaled α h f c e W j
      ∙ ap₂ ◌⊕◌ (left-right α f W Y j a ∙ solved f j (omega arith)) (by_cases (dec_lt j h) below above))
    where
      v : Vec
      v = sol (λ t. dot α (left (α + h) (q t) W) f)

      below : j < h → c ⊗ left h f (λ i. W (α + i)) j ≡ pick j h (c ⊗ v (α + j)) 𝟘
      below b =
          ap (λ (x : F). c ⊗ x)
          (left-right h f (λ i. W (α + i)) S.under j b ∙ dot-comm h (W (α + j)) f
          ∙ sym (dot-cut h α f (W (α + j)) r (λ i d g. S.beside j i b d g)) ∙ dot-comm α f (W (α + j)) ∙ solved f (α + j) (omega arith))
          ∙ sym (pick-lt j h (c ⊗ v (α + j)) 𝟘 b)

      above : ¬ (j < h) → c ⊗ left h f (λ i. W (α + i)) j ≡ pick j h (c ⊗ v (α + j)) 𝟘
      above n =
          mul-none c (dot-zero h f (λ i b. S.beside i j b (omega arith) a))
          ∙ sym (pick-ge j h (c ⊗ v (α + j)) 𝟘 (omega arith))

-- ---- PAIR

module _ {k α : ℕ} {p : Grid} {κ : Vec → Vec} (K : Frame k (Below k) p κ) (w : k ≤ α) {W : Grid} (S : Shape k α 0 W) {C : Grid} (g : Gives k α 0 p C W) where
  -- the symbol that share a gives for row b
  given : (a b : ℕ) → a < k → dot α (C a) (p b) ≡ form α α (p a) W (p b)
  given a b x =
      dot-same α (λ j y. sym (g a j x y) ∙ ap (λ (n : ℕ). left n (p a) W j) (native.Mathlib.Nat.add-zero α)) (λ j y. refl) ∙ assoc α α (p a) W (p b)

  -- W and its transpose together
  abbrev Z : Grid
  Z = λ i. W i ⊞ flip W i

  cut : (a b : ℕ) → form α α (p a) Z (p b) ≡ form k k (p a) Z (p b)
  cut a b =
      dot-same α (λ i x. refl) (λ i x. dot-comm α (Z i) (p b) ∙ dot-cut k α (p b) (Z i) w (λ j y z. vanish (S.high i j x y z)) ∙ dot-comm k (p b) (Z i))
      ∙ dot-cut k α (p a) (right k Z (p b)) w (λ i x y. dot-comm k (Z i) (p b) ∙ dot-zero k (p b) (λ j z. vanish (sym (S.high j i (omega arith) x y))))

  agreed : Agree k α p C → Symmetric k W
  agreed e i j c d =
      equal (form-only K Z (λ a b x y. sym (cut a b) ∙ form-add α α (p a) W (flip W) (p b)
      ∙ vanish (sym (given a b x) ∙ e a b x y ∙ given b a y ∙ form-flip α α (p b) W (p a))) i j c d)

  -- PAIR: without a core the grid of k shares is symmetric exactly when each two of the shares agree
  pub pair : (Agree k α p C → Symmetric α W) × (Symmetric α W → Agree k α p C)
  pair = (
    λ e i j x y. by_cases (dec_lt j k)
        (λ c. by_cases (dec_lt i k) (λ d. agreed e i j d c) (λ n. sym (S.high j i y (omega arith) x)))
        (λ n. S.high i j x (omega arith) y),
    λ s a b x y. given a b x ∙ swap α (p a) W (p b) s ∙ sym (given b a y),
  )
