-- What a share file's first bytes tell, and what a run with and without room for its answers gives.
-- Assumes nothing.
use mathlib.Core.Path.{◌≡◌, ap}
use mathlib.Core.Bool.{Bool, true, false, and-false}
use mathlib.Core.List.{List}
use Prim.Native.Nat.{ℕ, ◌*◌, ◌<◌, ◌≤◌}
use native.Mathlib.Omega.{arith}
use borrow.Author.Tests.{le-leb, lt-leb, leb-true}
use lib.Dec.{leb}
use lib.ListN.{length, drop, length-append}
use Rattle.codes.proofs.Bools.{both, and_right}
use Rattle.shares.specs.Fields.{stripes_in, stripe_at}
use Rattle.shares.specs.File.{totalled}
use Rattle.streams.specs.Length.{file_length}
use Rattle.streams.specs.Stream.{records, judged_before, answers_to, roomy, begun, Walks, Took}

-- ---- the length of a share file

module _ (s : List ℕ) where
  pub no-head : length s < 45 → 45 ≡ file_length s
  unfolding file_length
  no-head h = rw (lt-leb 45 (length s) h)

  pub no-stripes : totalled (stripes_in s) ≡ false → 45 ≡ file_length s
  unfolding file_length
  no-stripes e = rw (e, and-false (leb 45 (length s)))

  pub whole_length : 45 ≤ length s → totalled (stripes_in s) ≡ true → stripe_at (stripes_in s) ≡ file_length s
  unfolding file_length
  whole_length h e = rw (both _ _ (le-leb _ _ h) e)

  pub few : totalled (stripes_in s) ≡ true → stripes_in s ≤ 1024
  few e = leb-true (stripes_in s) 1024 (and_right (leb 1 (stripes_in s)) (leb (stripes_in s) 1024) e)

-- ---- room for the answers

module _ (s p o : List ℕ) where
  pub no_room : length o < begun (length p) * 2 → Took s p o 0 false s o
  no_room h =
      let e : roomy p o ≡ false = lt-leb _ _ h in
      record { bytes = rw e; end = rw e; file = rw e; answers = rw e; fits = omega arith }

  pub with-room : begun (length p) * 2 ≤ length o → (n : ℕ) (b : Bool) (s' o' : List ℕ) → Walks s p o n b s' o' → Took s p o n b s' o'
  with-room h n b s' o' w =
      let e : roomy p o ≡ true = le-leb _ _ h in
      record { bytes = rw e w.bytes; end = rw e w.end; file = rw e w.file; answers = rw e w.answers; fits = inside }
    where
      inside : n ≤ length o'
      inside =
          let A = answers_to judged_before s (records p) in
          omega (arith, w.bytes, ap length w.answers, length-append A (drop (length A) o))
