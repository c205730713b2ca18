-- The shares of several nodes in one run: its length, and the bytes of each share.
-- Assumes nothing.
use mathlib.Core.Path.{◌≡◌, ◌∙◌, ap, ap₂}
use mathlib.Core.List.{List, [], ◌∷◌, ◌++◌}
use Prim.Native.Nat.{ℕ, zero, suc, ◌+◌, ◌*◌, ◌<◌}
use native.Mathlib.Nat.{suc-mul, not-suc-le-zero, le_of_suc-le-suc}
use native.Mathlib.Omega.{arith}
use lib.ListN.{length, get_or, length-append, get_or-append}
use lib.Seq.{get_or-append-add}
use Rattle.codes.specs.Sizes.{alpha}
use Rattle.codes.specs.Share.{share, shares_of}
use Rattle.codes.specs.declared.Code.{Code}
use Rattle.codes.proofs.Slip.{share-length}

pub run_length : (c : Code) (vs m : List ℕ) → length (shares_of c vs m) ≡ length vs * alpha c
unfolding shares_of
run_length c [] m = omega arith
run_length c (v ∷ vs) m =
    length-append (share c v m) (shares_of c vs m) ∙ ap₂ ◌+◌ (share-length c v m) (run_length c vs m) ∙ omega (arith, suc-mul (length vs) (alpha c))

pub run-byte : (c : Code) (vs m : List ℕ) (t j : ℕ) → t < length vs → j < alpha c
    → get_or (shares_of c vs m) (t * alpha c + j) 0 ≡ get_or (share c (get_or vs t 0) m) j 0
unfolding shares_of
run-byte c [] m t j a b = absurd (not-suc-le-zero a)
run-byte c (v ∷ vs) m zero j a b =
    ap (λ (n : ℕ). get_or (share c v m ++ shares_of c vs m) n 0) (omega arith)
    ∙ get_or-append (share c v m) (shares_of c vs m) 0 j (omega (arith, share-length c v m))
run-byte c (v ∷ vs) m (suc t) j a b =
    ap (λ (n : ℕ). get_or (share c v m ++ shares_of c vs m) n 0) {y = length (share c v m) + (t * alpha c + j)} (omega (arith, suc-mul t (alpha c), share-length c v m))
    ∙ get_or-append-add (share c v m) (shares_of c vs m) (t * alpha c + j) 0
    ∙ run-byte c vs m t j (le_of_suc-le-suc a) b
