-- Two answers that meet a promise are equal. A promise is a public function's own `ensures` as the check reads it (its `Reads.Post`), and no copy of it:
-- a claim of the lifetimes, the arguments, the answer and what stands behind the parameters at exit.
--   Equal n ps r P             two answers that meet P, for the same arguments, are equal
--   EqualLeft n ps r P left    and so are the runs that they leave, where `left` is the one lent run that the function can write
--   EqualRun n ps r P run      of a function that answers a part of a lent run: the answers hold the same bytes
-- What is lent to be read alone cannot be written: nothing is said of it.
-- Assumes nothing.
use Rattle.std.specs.Prelude.{◌≡◌, List, ℕ}
use contract.Lifetimes.{Lfts}
use denote.Triple.Clauses.{AtExit}
use borrow.Fn.Kinds.{ParamKind, ResultKind, Dens, res_t, ended_of, Out}

module _ (n : ℕ) (ps : List (ParamKind n)) (r : ResultKind n) (P : Out n ps r) where
  abbrev pub Equal : Type 0
  Equal = (κs : Lfts n) (a : Dens κs ps) (x y : (res_t r κs).Denot) (s t : AtExit (ended_of n ps r) κs) → P κs a x s → P κs a y t → x ≡ y

  abbrev pub EqualLeft : ((κs : Lfts n) → AtExit (ended_of n ps r) κs → List ℕ) → Type 0
  EqualLeft left =
      (κs : Lfts n) (a : Dens κs ps) (x y : (res_t r κs).Denot) (s t : AtExit (ended_of n ps r) κs) → P κs a x s → P κs a y t
      → (x ≡ y) × (left κs s ≡ left κs t)

  abbrev pub EqualRun : ((κs : Lfts n) → (res_t r κs).Denot → List ℕ) → Type 0
  EqualRun run =
      (κs : Lfts n) (a : Dens κs ps) (x y : (res_t r κs).Denot) (s t : AtExit (ended_of n ps r) κs) → P κs a x s → P κs a y t
      → run κs x ≡ run κs y
