-- An array or a lent run that a loop fills place by place with the numbers of a vector.
--   Filling n f l i    l has n places, and its first i hold the numbers of f
-- Assumes nothing.
use mathlib.Core.Path.{◌≡◌, ◌∙◌}
use mathlib.Core.List.{List}
use Prim.Native.Nat.{ℕ, ◌+◌, ◌<◌, ◌≤◌}
use native.Mathlib.Omega.{arith}
use borrow.Author.Count.{below_none, below_more}
use lib.ListN.{length, get_or, set, length-set}
use lib.Seq.{get_or-set_same, get_or-set_other}
use Rattle.algebra.specs.Sums.{Vec}
use Rattle.algebra.specs.Bytes.{table}
use Rattle.algebra.proofs.Bytes.{table-ext}

pub record Filling (n : ℕ) (f : Vec) (l : List ℕ) (i : ℕ) : Type 0 where
  pub long : length l ≡ n
  pub each : (e : ℕ) → e < i → get_or l e 0 ≡ (f e).val

module _ (n : ℕ) (f : Vec) (l : List ℕ) where
  pub filling-none : length l ≡ n → Filling n f l 0
  filling-none e = record { long = e; each = below_none (λ e. get_or l e 0 ≡ (f e).val) }

  pub filling-more : (i v : ℕ) → Filling n f l i → i < n → v ≡ (f i).val → Filling n f (set l i v) (i + 1)
  filling-more i v r h e = record {
    long = length-set l i v ∙ r.long;
    each =
        below_more (λ j. get_or (set l i v) j 0 ≡ (f j).val) i (λ j k. get_or-set_other l i j v 0 (λ q. omega arith) ∙ r.each j k)
        (get_or-set_same l i v 0 (omega (arith, r.long)) ∙ e);
  }

  pub filling-whole : (i : ℕ) → Filling n f l i → n ≤ i → l ≡ table n f
  filling-whole i r h = table-ext n f l r.long (λ j k. r.each j (omega arith))
