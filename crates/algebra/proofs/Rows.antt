-- What a kind supplies: its sizes, and rows that meet what collecting asks of rows. Rows of powers do.
use mathlib.Core.Path.{refl, ap}
use mathlib.Core.Logic.{by_cases}
use Prim.Native.Nat.{ℕ, suc, ◌<◌, ◌≤◌}
use native.Mathlib.Nat.{not-suc-le-zero}
use native.Mathlib.Decide.{dec_lt}
use native.Mathlib.Omega.{arith}
use Rattle.algebra.specs.Symbol.{F, pow}
use Rattle.algebra.specs.Sums.{Vec, Grid}
use Rattle.algebra.specs.Poly.{interp, Distinct}
use Rattle.algebra.specs.Frame.{Frame, Below, off}
use Rattle.algebra.specs.Collect.{Sizes, Rows}
use Rattle.algebra.proofs.Ring.{pow-add}
use Rattle.algebra.proofs.Frame.{frame-powers, frames-powers, frame_off}

-- ---- sizes: without a core, and with one, where k is h + 1

pub sizes-flat : {k α : ℕ} → k ≤ α → Sizes k α 0
sizes-flat l = record { core = λ c. omega arith; room = omega arith; wide = λ c. l }

pub sizes-core : {α h : ℕ} → h ≤ α → Sizes (suc h) α h
sizes-core l = record { core = λ c. refl; room = l; wide = λ c. c }

-- ---- rows

-- without a core a frame of k rows is enough
pub rows-flat : {k α : ℕ} {p : Grid} {κ : Vec → Vec} {without : ℕ → Vec → Vec} {l : Vec} → k ≤ α → Frame k (Below k) p κ → Rows k α 0 p κ without l
rows-flat w K = record {
  sizes = sizes-flat w;
  frame = K;
  frames = λ t a. record { solves = λ y s o. absurd (o.1 (omega arith)); only = λ v e i b. absurd (not-suc-le-zero b) };
  apart = λ i j a b n. absurd (n (omega arith));
  scaled = λ t i a b. absurd (not-suc-le-zero b);
}

-- points whose powers differ differ
pub distinct-points : (n a : ℕ) (xs : Vec) → Distinct n (λ t. pow (xs t) a) → Distinct n xs
distinct-points n a xs d i j h k e c = d i j h k e (ap (λ (x : F). pow x a) c)

-- what differs at the k rows, where there is a core, differs at the h + 1
at-core : {k α h : ℕ} → Sizes k α h → {f : Vec} → (0 < h → Distinct k f) → Distinct (suc h) f
at-core {h} s d i j a b n =
    by_cases (dec_lt 0 h) (λ c. d c i j (omega (arith, s.core c)) (omega (arith, s.core c)) n) (λ m. absurd (n (omega arith)))

-- rows of powers, where the points differ and, with a core, their powers of α too
pub rows-powers : {k α h : ℕ} → Sizes k α h → (xs : Vec) → Distinct k xs → (0 < h → Distinct k (λ t. pow (xs t) α))
    → Rows k α h (λ t. pow (xs t)) (interp k xs) (off (λ f. interp h (λ t. xs (f t)))) (λ t. pow (xs t) α)
rows-powers {k} {α} {h} s xs d e = record {
  sizes = s;
  frame = frame-powers k xs d;
  frames = frame_off (frames-powers (suc h) h xs (at-core s (λ c. d)));
  apart = at-core s e;
  scaled = λ t i a b. pow-add (xs t) α i;
}
