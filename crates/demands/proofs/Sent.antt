-- The world's beginnings and its helpers' records are what our operations give.
--   cut-fresh         a book cut gives the fresh share file
--   help-fresh        what a helper tells is the definition's symbol of its share
--   answer-fresh      a station's answer for a failed node is its H records, stripe by stripe
-- Assumes nothing.
use mathlib.Core.Path.{◌≡◌, ◌∙◌, refl, sym, ap, ap₂}
use mathlib.Core.Logic.{◌≢◌}
use mathlib.Core.Bool.{true, not}
use mathlib.Core.List.{List, ◌++◌}
use Prim.Native.Nat.{ℕ, zero, suc, ◌*◌, ◌<◌, ◌≤◌}
use native.Mathlib.Omega.{arith}
use borrow.Author.Tests.{eq-eqb, ne_eqb, le-leb}
use lib.ListN.{length}
use Rattle.codes.specs.Told.{done}
use Rattle.codes.specs.Reasons.{Clear}
use Rattle.codes.specs.Rules.{Rules}
use Rattle.codes.specs.Judge.{pair_in}
use Rattle.codes.specs.Sizes.{bytes}
use Rattle.codes.specs.declared.Code.{Code}
use Rattle.codes.proofs.Bools.{both}
use Rattle.codes.proofs.Told.{clear-done}
use Rattle.stripes.specs.Lists.{within}
use Rattle.shares.specs.Fields.{code_in, stripes_in, stripe_at}
use Rattle.shares.specs.File.{totalled, file_reasons}
use Rattle.shares.specs.Total.{code_reasons}
use Rattle.shares.specs.Afresh.{afresh}
use Rattle.shares.proofs.Answers.{left-done}
use Rattle.shares.proofs.Fresh.{afresh-code, afresh-node, afresh-total}
use Rattle.shares.proofs.Accepted.{clear-append, afresh-clear}
use Rattle.demands.specs.Stored.{Helps, ours as stripes-ours}
use Rattle.demands.proofs.Stored.{demand2}
use Rattle.books.specs.Cut.{cut_reasons, cut_told, cut_leaves}
use Rattle.books.specs.Answer.{answers_from, answer_reasons, answer_told, answer_leaves}
use Rattle.demands.specs.History.{joined, help_of}
use Rattle.demands.proofs.Renewed.{total-clear}

answers-are : (c : Code) (s : List ℕ) (f i n : ℕ) → answers_from c s f i n ≡ joined (λ k. help_of c s f k) i n
unfolding answers_from joined
answers-are c s f i zero = refl
answers-are c s f i (suc n) = ap (λ (l : List ℕ). help_of c s f i ++ l) (answers-are c s f (suc i) n)

module _ {c : Code} (R : Rules c) (v t : ℕ) (few : 1 ≤ t) (many : t ≤ 1024) (first : 1 ≤ v) (last : v ≤ c.n) (book : List ℕ) where
  known : within c v ≡ true
  known = both _ _ (le-leb 1 v first) (le-leb v c.n last)

  cut-clear : (o : List ℕ) → length book ≡ t * bytes c → length o ≡ stripe_at t → Clear (cut_reasons c v t book o)
  unfolding cut_reasons
  cut-clear o e g =
      clear-append (code_reasons c (not (totalled t))) _
      (total-clear c (not (totalled t)) R (ap not (both _ _ (le-leb 1 t few) (le-leb t 1024 many))))
      (ap not (both _ _ (eq-eqb _ _ e) (eq-eqb _ _ g)), (ap not known, tt))

  pub cut-fresh : (o : List ℕ) → length book ≡ t * bytes c → length o ≡ stripe_at t
      → (cut_told c v t book o ≡ done 0) × (cut_leaves c v t book o ≡ afresh c v t 0 book)
  unfolding cut_told cut_leaves
  cut-fresh o e g =
      let h = cut-clear o e g in
      (clear-done (cut_reasons c v t book o) (pair_in c) 0 h, sym (left-done (cut_reasons c v t book o) (afresh c v t 0 book) o h))

  module _ (long : length c.points ≡ 32) (m : ℕ) (counted : m < 4294967296) (f : ℕ) (from : 1 ≤ f) (to : f ≤ c.n) (other : f ≢ v) (o : List ℕ) (room : length o ≡ t * 10) where
    abbrev File : List ℕ
    File = afresh c v t m book

    answer-clear : Clear (answer_reasons File f o)
    unfolding answer_reasons
    answer-clear =
        clear-append (file_reasons File) _ (afresh-clear c R long v t m book few many first last counted) (
          ap not (eq-eqb _ _ (room ∙ ap (λ (k : ℕ). k * 10) (sym (afresh-total c v t m book long (omega arith))))),
          (
            ap not (ap (λ (x : Code). within x f) (afresh-code c v t m book long) ∙ both _ _ (le-leb 1 f from) (le-leb f c.n to)),
            (ne_eqb _ _ (λ e. other (e ∙ afresh-node c v t m book long)), tt),
          ),
        )

    pub answer-fresh : (answer_told File f o ≡ done 0) × (answer_leaves File f o ≡ joined (λ i. help_of c File f i) 0 t)
    unfolding answer_told answer_leaves
    answer-fresh = (
      clear-done (answer_reasons File f o) (pair_in (code_in File)) 0 answer-clear,
      sym (left-done (answer_reasons File f o) (answers_from (code_in File) File f 0 (stripes_in File)) o answer-clear)
          ∙ ap₂ (λ (x : Code) (n : ℕ). answers_from x File f 0 n) (afresh-code c v t m book long) (afresh-total c v t m book long (omega arith))
          ∙ answers-are c File f 0 t,
    )

pub help-fresh : Helps stripes-ours
help-fresh = demand2.helps
