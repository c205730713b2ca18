-- What an answer says, and what a call leaves, by whether a reason for a refusal holds.
--   given-refused, given-done     a value that goes with a done answer
--   left-refused, left-done       what stands in a lent run
--   says-refused, says-good       a refusal, and a done answer, of a judged file
--   says-more                     reasons before those that were judged, none of which holds
-- Assumes nothing.
use mathlib.Core.Path.{◌≡◌, ◌∙◌, sym, ap}
use mathlib.Core.Logic.{◌≢◌}
use mathlib.Core.Bool.{cond}
use mathlib.Core.List.{List, ◌++◌}
use Prim.Native.Nat.{ℕ}
use lib.Dec.{eqb}
use borrow.Author.Tests.{eq-eqb, ne_eqb}
use Rattle.codes.specs.Told.{Told, Reason, refused, done, refusal, answered}
use Rattle.codes.specs.Reasons.{Clear}
use Rattle.codes.specs.Judge.{pair_in}
use Rattle.codes.specs.declared.Refusal.{Refusal}
use Rattle.codes.proofs.Told.{answered-number, number-nonzero, clear, clear-done, answered-goes-on, refusal-goes-on}
use Rattle.shares.specs.Fields.{code_in, node_in, stripes_in, count_in}
use Rattle.shares.specs.File.{given, Says}
use Rattle.shares.specs.Slip.{left_by}
use Rattle.shares.specs.declared.Filed.{Filed}
use Rattle.std.specs.Prelude.{Result, Ok, Err}

module _ (rs : List Reason) where
  pub nonzero : (r : Refusal) (p : ℕ × ℕ) (v : ℕ) → refused r ≡ answered rs p v → refusal rs ≢ 0
  nonzero r p v e z = number-nonzero r (ap (λ (t : Told). t.number) e ∙ answered-number rs p v ∙ z)

  pub given-refused : (w : ℕ) → refusal rs ≢ 0 → 0 ≡ given rs w
  unfolding given
  given-refused w z = rw (ne_eqb (refusal rs) 0 z)

  pub given-done : (w : ℕ) → Clear rs → w ≡ given rs w
  unfolding given
  given-done w h = rw (eq-eqb (refusal rs) 0 (clear rs h))

  pub left-refused : (after before : List ℕ) → refusal rs ≢ 0 → before ≡ left_by rs after before
  unfolding left_by
  left-refused after before z = rw (ne_eqb (refusal rs) 0 z)

  pub left-done : (after before : List ℕ) → Clear rs → after ≡ left_by rs after before
  unfolding left_by
  left-done after before h = rw (eq-eqb (refusal rs) 0 (clear rs h))

  module _ (s : List ℕ) where
    pub says-refused : (r : Refusal) → refused r ≡ answered rs (pair_in (code_in s)) (count_in s) → Says rs s (Err r)
    says-refused r e = let z = nonzero r _ _ e in record { answer = e; node = given-refused _ z; stripes = given-refused _ z }

    pub says-good : (v t m : ℕ) → v ≡ node_in s → t ≡ stripes_in s → m ≡ count_in s → Clear rs
        → Says rs s (Ok (record { node = record { 0 = v }; stripes = t; count = m }))
    says-good v t m e f g h = record {
      answer = ap done g ∙ sym (clear-done rs (pair_in (code_in s)) (count_in s) h);
      node = e ∙ given-done _ h;
      stripes = f ∙ given-done _ h;
    }

pub says-more : (front rs : List Reason) (s : List ℕ) (r : Result Filed Refusal) → Clear front → Says rs s r → Says (front ++ rs) s r
unfolding given
says-more front rs s r h q =
    let e : refusal (front ++ rs) ≡ refusal rs = refusal-goes-on front rs h in
    record {
      answer = q.answer ∙ sym (answered-goes-on front rs (pair_in (code_in s)) (count_in s) h);
      node = q.node ∙ ap (λ (n : ℕ). cond (eqb n 0) (node_in s) 0) (sym e);
      stripes = q.stripes ∙ ap (λ (n : ℕ). cond (eqb n 0) (stripes_in s) 0) (sym e);
    }
