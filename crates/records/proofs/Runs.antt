-- The laws of a run of bytes put at a place.
--
--     put-fits, put-misfit     what is answered and left, by whether the run fits
--     length-put               nothing is made longer or shorter
--     take_put, drop-put       what stands up to the run's end, and after it
use mathlib.Core.Bool.{true, false}
use mathlib.Core.List.{List, ◌++◌}
use mathlib.Core.Logic.{⊎_elim}
use mathlib.Core.Path.{◌≡◌, refl, sym, ap, ◌∙◌}
use Prim.Native.Nat.{ℕ, ◌+◌, ◌<◌, ◌≤◌}
use native.Mathlib.Omega.{arith}
use borrow.Author.Tests.{le-leb, lt-leb, leb-true, leb-false}
use lib.ListN.{length, take, drop}
use lib.Seq.{paste, take-length, length-paste, take-paste, drop-paste}
use Rattle.records.specs.Writing.{fits, put_at}
use Rattle.records.proofs.Flags.{known-or}

module _ (out : List ℕ) (at : ℕ) (bytes : List ℕ) where
  pub put-misfit : length out < at + length bytes → (false ≡ fits out at bytes) × (out ≡ put_at out at bytes)
  put-misfit h = simp (lt-leb _ _ h) (refl, refl)

  module _ (h : at + length bytes ≤ length out) where
    pub put-fits : (true ≡ fits out at bytes) × (paste out at bytes (length bytes) ≡ put_at out at bytes)
    put-fits = simp (le-leb _ _ h, take-length) (refl, refl)

    pub take_put : take (at + length bytes) (put_at out at bytes) ≡ take at out ++ bytes
    take_put = rw (← put-fits.1) (take-paste out at bytes (length bytes) (omega arith) (omega arith) ∙ ap (λ (l : List ℕ). take at out ++ l) (take-length bytes))

    pub drop-put : drop (at + length bytes) (put_at out at bytes) ≡ drop (at + length bytes) out
    drop-put = rw (← put-fits.1) (drop-paste out at bytes (length bytes) (omega arith) (omega arith))

  pub length-put : length (put_at out at bytes) ≡ length out
  length-put =
      ⊎_elim
      (λ t. let h = leb-true _ _ t in rw (← (put-fits h).1) (length-paste out at bytes (length bytes) h (omega arith)))
      (λ t. ap length (sym (put-misfit (leb-false _ _ t)).1))
      (known-or (fits out at bytes))
