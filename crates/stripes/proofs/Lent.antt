-- A lent row and a lent table of products: sums of products in a loop, and what the row of a node and the right table give.
--   node_row                      the powers of a node's point are its row
--   term_is                       one product, as the code has it
--   weighed-none, weighed-step    the sum of products in an accumulator;   weighed-same   of equal vectors
--   weighed-row                   by a row of symbols and the right table it is the sum of their products
--   helped-none, helped-is        the two cases of a helper's symbol;   helped-row   by the failed node's row it is the helper's symbol
--   share-row                     by the node's row the share
--   encoded-shapeless, -many, -other, -is      the cases of encoding;   encoded-row   by the node's row the share is written
-- Assumes nothing.
use mathlib.Core.Path.{◌≡◌, ◌∙◌, sym, ap, ap₂}
use mathlib.Core.Bool.{false, ◌&&◌}
use mathlib.Core.List.{List}
use Prim.Native.Nat.{ℕ, ◌+◌, ◌-◌, ◌<◌, ◌≤◌}
use native.Mathlib.Omega.{arith}
use borrow.Author.Tests.{eq-eqb, ne_eqb, le-leb, lt-leb}
use lib.Bits.{bit_xor}
use lib.ListN.{length, get_or}
use Rattle.field.specs.Tables.{tables, by_table}
use Rattle.field.proofs.Laws.{by-tables}
use Rattle.algebra.specs.Symbol.{F, symbol, ◌⊗◌, 𝟘, pow}
use Rattle.algebra.specs.Sums.{Vec, Same, dot}
use Rattle.algebra.specs.Bytes.{at, table}
use Rattle.algebra.proofs.Ring.{symbol-val, val-symbol, symbol-mul, mul_comm}
use Rattle.algebra.proofs.Sums.{sum_same}
use Rattle.algebra.proofs.Bytes.{sum-none, sum-next, table_at, table_same}
use Rattle.codes.specs.Rules.{Known, Sized}
use Rattle.codes.specs.Judge.{known, sized}
use Rattle.codes.specs.Sizes.{none, alpha, point, row}
use Rattle.codes.specs.Matrix.{matrix}
use Rattle.codes.specs.Share.{share, symbol_for}
use Rattle.codes.specs.declared.Code.{Code}
use Rattle.codes.proofs.Tests.{known-when, sized-when}
use Rattle.stripes.specs.Lent.{row_bytes, weighed, helped_by, lent_share, encoded_by}
use Rattle.stripes.proofs.Shapes.{d-most}

pub node_row : (c : Code) (v x : ℕ) → x ≡ (get_or c.points (v - 1) none).0 → table 31 (pow (symbol x)) ≡ row_bytes c v
unfolding row_bytes point
node_row c v x e = ap (λ (n : ℕ). table 31 (pow (symbol n))) e

pub term_is : (w : List ℕ) (a x b r : ℕ) → x ≡ a → b < 256 → r < 256 → r ≡ by_table w x b → r ≡ (symbol (by_table w a (symbol b).val)).val
term_is w a x b r p h k e = sym (val-symbol k) ∙ ap (λ (n : ℕ). (symbol n).val) (e ∙ ap₂ (by_table w) p (sym (val-symbol h)))

module _ (r w : List ℕ) (f : Vec) where
  pub weighed-none : 0 ≡ (weighed 0 r w f).val
  unfolding weighed
  weighed-none = sum-none (λ i. symbol (by_table w (get_or r i 0) (f i).val))

  -- one turn of a loop: the product v of the row's entry x and of the number y is added to acc
  pub weighed-step : (n x y : ℕ) {acc v z : ℕ} → acc ≡ (weighed n r w f).val → v ≡ (symbol (by_table w x (symbol y).val)).val → x ≡ get_or r n 0 → symbol y ≡ f n
      → z ≡ bit_xor acc v → z ≡ (weighed (n + 1) r w f).val
  unfolding weighed
  weighed-step n x y {acc} e g p q k =
      k ∙ ap (bit_xor acc) (g ∙ ap₂ (λ (a : ℕ) (b : F). (symbol (by_table w a b.val)).val) p q)
      ∙ sum-next n (λ i. symbol (by_table w (get_or r i 0) (f i).val)) e

pub weighed-same : (n : ℕ) (r w : List ℕ) {f g : Vec} → Same n f g → weighed n r w f ≡ weighed n r w g
unfolding weighed
weighed-same n r w e = sum_same n (λ i h. ap (λ (x : F). symbol (by_table w (get_or r i 0) x.val)) (e i h))

pub weighed-row : (n : ℕ) (u f : Vec) → n ≤ 31 → weighed n (table 31 u) tables f ≡ dot n u f
unfolding weighed
weighed-row n u f h =
    sum_same n
    (λ i k. ap (λ (a : ℕ). symbol (by_table tables a (f i).val)) (table_at 31 u i (omega arith))
    ∙ ap symbol (by-tables (u i).val (f i).val (u i).small (f i).small)
    ∙ symbol-mul (u i).val (f i).val ∙ ap₂ ◌⊗◌ (symbol-val (u i)) (symbol-val (f i)))

-- ---- a helper's symbol

module _ (r w s : List ℕ) where
  pub helped-none : 31 < length s → 0 ≡ (helped_by r w s).val
  unfolding helped_by 𝟘
  helped-none h = simp (lt-leb (length s) 31 h)

  pub helped-is : length s ≤ 31 → helped_by r w s ≡ weighed (length s) r w (at s)
  unfolding helped_by
  helped-is h = simp (le-leb (length s) 31 h)

pub helped-row : (c : Code) (f : ℕ) (s : List ℕ) → length s ≡ alpha c → alpha c ≤ 31 → helped_by (row_bytes c f) tables s ≡ symbol_for c f s
unfolding row_bytes symbol_for
helped-row c f s e h =
    helped-is (table 31 (row c f)) tables s (omega arith) ∙ ap (λ (n : ℕ). weighed n (table 31 (row c f)) tables (at s)) e
    ∙ weighed-row (alpha c) (row c f) (at s) h ∙ sum_same (alpha c) (λ i k. mul_comm (row c f i) (at s i))

-- ---- a share

pub share-row : (c : Code) (v : ℕ) (m : List ℕ) → c.d ≤ 31 → lent_share c (row_bytes c v) tables m ≡ share c v m
unfolding lent_share row_bytes share
share-row c v m h = table_same (alpha c) (λ j k. weighed-row c.d (row c v) (λ i. matrix c (at m) i j) h)

module _ (c : Code) (r w m o : List ℕ) where
  pub encoded-shapeless : (known c.kind && sized c) ≡ false → o ≡ encoded_by c r w m o
  unfolding encoded_by
  encoded-shapeless e = simp e

  module _ (k : Known c.kind) (s : Sized c) where
    pub encoded-many : 496 < length m → o ≡ encoded_by c r w m o
    unfolding encoded_by
    encoded-many h = simp (known-when c.kind k, sized-when c s, lt-leb (length m) 496 h)

    pub encoded-other : length m ≤ 496 → (length o ≡ alpha c → ⊥) → o ≡ encoded_by c r w m o
    unfolding encoded_by
    encoded-other h n = simp (known-when c.kind k, sized-when c s, le-leb (length m) 496 h, ne_eqb (length o) (alpha c) n)

    pub encoded-is : length m ≤ 496 → length o ≡ alpha c → lent_share c r w m ≡ encoded_by c r w m o
    unfolding encoded_by
    encoded-is h e = simp (known-when c.kind k, sized-when c s, le-leb (length m) 496 h, eq-eqb (length o) (alpha c) e)

pub encoded-row : (c : Code) (v : ℕ) (m o : List ℕ) → Known c.kind → Sized c → length m ≤ 496 → length o ≡ alpha c
    → encoded_by c (row_bytes c v) tables m o ≡ share c v m
encoded-row c v m o k s h e = sym (encoded-is c (row_bytes c v) tables m o k s h e) ∙ share-row c v m (d-most c s)
