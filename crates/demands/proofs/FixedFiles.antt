-- Demand 1 fixes what an operation on files, books and batches tells and leaves: whatever meets it tells and leaves what ours does.
--   judge-file-fixed, take-slip-fixed, cut-fixed, answer-for-fixed, rebuild-batch-fixed, rebuild-file-fixed      of each
-- Assumes nothing.
use mathlib.Core.Path.{◌≡◌, ◌∙◌, sym, ap}
use mathlib.Core.List.{List}
use Prim.Native.Nat.{ℕ}
use lib.Dec.{eqb}
use borrow.Author.Tests.{eqb-true, eqb-false}
use Rattle.codes.specs.Told.{Told}
use Rattle.codes.specs.declared.Code.{Code}
use Rattle.codes.proofs.Bools.{by-test}
use Rattle.shares.specs.File.{file_told}
use Rattle.shares.specs.Slip.{slip_told, slip_leaves}
use Rattle.books.specs.Cut.{cut_told, cut_leaves}
use Rattle.books.specs.Answer.{answer_told, answer_leaves}
use Rattle.batches.specs.Batch.{batch_told, batch_leaves}
use Rattle.batches.specs.Whole.{whole_told, whole_leaves}
use Rattle.demands.specs.Files.{Bears, Demand1-judge-file, Demand1-take-slip, Demand1-cut, Demand1-answer-for}
use Rattle.demands.specs.Batches.{Demand1-rebuild-batch, Demand1-rebuild-file}
use Rattle.demands.proofs.Files.{file_node, file_stripes, demand1-judge-file, demand1-take-slip, demand1-cut, demand1-answer-for}
use Rattle.demands.proofs.Batches.{demand1-rebuild-batch, demand1-rebuild-file}
use Rattle.demands.proofs.Fixed.{fixed_told, fixed_left, given}

borne : (t u : Told) → t ≡ u → (own x y : ℕ) → Bears t.number own x → Bears u.number own y → x ≡ y
borne t u s own x y a b =
    let n : t.number ≡ u.number = ap (λ (t : Told). t.number) s in
    by-test (eqb t.number 0) (λ e. let f = eqb-true _ _ e in a.accepted f ∙ sym (b.accepted (sym n ∙ f)))
    (λ e. let z = eqb-false _ _ e in a.refused z ∙ sym (b.refused (λ f. z (n ∙ f))))

module _ (tells : List ℕ → Told) (node stripes : List ℕ → ℕ) (d : Demand1-judge-file tells node stripes) where
  pub judge-file-fixed : (s : List ℕ) → (tells s ≡ file_told s) × (node s ≡ file_node s) × (stripes s ≡ file_stripes s)
  judge-file-fixed s =
      let e = fixed_told _ _ _ _ (given _) _ _ (d.answer s) (demand1-judge-file.answer s) in
      (e, borne _ _ e _ _ _ (d.noded s) (demand1-judge-file.noded s), borne _ _ e _ _ _ (d.striped s) (demand1-judge-file.striped s))

module _ (tells : List ℕ → List ℕ → Told) (leaves : List ℕ → List ℕ → List ℕ) (d : Demand1-take-slip tells leaves) where
  pub take-slip-fixed : (s p : List ℕ) → (tells s p ≡ slip_told s p) × (leaves s p ≡ slip_leaves s p)
  take-slip-fixed s p =
      let e = fixed_told _ _ _ _ (given _) _ _ (d.answer s p) (demand1-take-slip.answer s p) in
      (e, fixed_left _ _ e _ _ _ _ (d.file s p) (demand1-take-slip.file s p))

module _ (tells : Code → ℕ → ℕ → List ℕ → List ℕ → Told) (leaves : Code → ℕ → ℕ → List ℕ → List ℕ → List ℕ) where
  pub cut-fixed : Demand1-cut tells leaves → (c : Code) (v t : ℕ) (book o : List ℕ)
      → (tells c v t book o ≡ cut_told c v t book o) × (leaves c v t book o ≡ cut_leaves c v t book o)
  cut-fixed d c v t book o =
      let e = fixed_told c _ _ _ (given _) _ _ (d.answer c v t book o) (demand1-cut.answer c v t book o) in
      (e, fixed_left _ _ e _ _ _ _ (d.output c v t book o) (demand1-cut.output c v t book o))

  pub rebuild-file-fixed : Demand1-rebuild-file tells leaves → (c : Code) (a t : ℕ) (bs o : List ℕ)
      → (tells c a t bs o ≡ whole_told c a t bs o) × (leaves c a t bs o ≡ whole_leaves c a t bs o)
  rebuild-file-fixed d c a t bs o =
      let e = fixed_told c _ _ _ (given _) _ _ (d.answer c a t bs o) (demand1-rebuild-file.answer c a t bs o) in
      (e, fixed_left _ _ e _ _ _ _ (d.output c a t bs o) (demand1-rebuild-file.output c a t bs o))

module _ (tells : List ℕ → ℕ → List ℕ → Told) (leaves : List ℕ → ℕ → List ℕ → List ℕ) (d : Demand1-answer-for tells leaves) where
  pub answer-for-fixed : (s : List ℕ) (f : ℕ) (o : List ℕ) → (tells s f o ≡ answer_told s f o) × (leaves s f o ≡ answer_leaves s f o)
  answer-for-fixed s f o =
      let e = fixed_told _ _ _ _ (given _) _ _ (d.answer s f o) (demand1-answer-for.answer s f o) in
      (e, fixed_left _ _ e _ _ _ _ (d.output s f o) (demand1-answer-for.output s f o))

module _ (tells : Code → ℕ → List ℕ → List ℕ → Told) (leaves : Code → ℕ → List ℕ → List ℕ → List ℕ) (d : Demand1-rebuild-batch tells leaves) where
  pub rebuild-batch-fixed : (c : Code) (a : ℕ) (b o : List ℕ) → (tells c a b o ≡ batch_told c a b o) × (leaves c a b o ≡ batch_leaves c a b o)
  rebuild-batch-fixed c a b o =
      let e = fixed_told c _ _ _ (given _) _ _ (d.answer c a b o) (demand1-rebuild-batch.answer c a b o) in
      (e, fixed_left _ _ e _ _ _ _ (d.output c a b o) (demand1-rebuild-batch.output c a b o))
