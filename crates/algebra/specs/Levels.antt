-- Interpolation in place: two passes over one array, first the values and last the coefficients.
-- Forward, for t = 0 .. s - 1 and each i above t:    a[i] := (a[i] + a[t]) / (xs i + xs t)
-- Backward, for t = s - 1 .. 0 and i = t .. s - 2:   a[i] := a[i] + xs t * a[i + 1]
--
-- from t xs               xs without its first t entries
-- level t xs ys           the slopes of slopes, t times: what is left to interpolate at the points from t on
-- ahead t xs ys           the array after t rounds forward
-- back s t xs ys          the array after the rounds s - 1 .. t backward
-- Forward s t xs ys A     the first s entries of A are those of ahead t
-- Backward s t xs ys A    the first s entries of A are those of back s t
-- Midway s i old new A    of the first s entries of A those below i are new's, and the others old's
-- ForwardTo, BackwardTo s t i xs ys A   A stands within the round t of its pass, before place i
use Rattle.std.specs.Prelude.{◌≡◌, ℕ, zero, suc, ◌+◌, ◌-◌, ◌<◌, ◌≤◌}
use Rattle.algebra.specs.Sums.{Vec, Same, pick}
use Rattle.algebra.specs.Poly.{slopes, interp}

abbrev pub from : ℕ → Vec → Vec
from t xs = λ i. xs (t + i)

unfoldable pub level : ℕ → Vec → Vec → Vec
level zero xs ys = ys
level (suc t) xs ys = slopes (from t xs) (level t xs ys)

unfoldable pub ahead : ℕ → Vec → Vec → Vec
ahead t xs ys i = pick i t (level i xs ys 0) (level t xs ys (i - t))

unfoldable pub back : ℕ → ℕ → Vec → Vec → Vec
back s t xs ys i = pick i t (level i xs ys 0) (interp (s - t) (from t xs) (level t xs ys) (i - t))

abbrev pub Forward : ℕ → ℕ → Vec → Vec → Vec → Type 0
Forward s t xs ys A = Same s A (ahead t xs ys)

abbrev pub Backward : ℕ → ℕ → Vec → Vec → Vec → Type 0
Backward s t xs ys A = Same s A (back s t xs ys)

pub record Midway (s i : ℕ) (old new A : Vec) : Type 0 where
  pub done : (e : ℕ) → e < i → e < s → A e ≡ new e
  pub left : (e : ℕ) → i ≤ e → e < s → A e ≡ old e

abbrev pub ForwardTo : ℕ → ℕ → ℕ → Vec → Vec → Vec → Type 0
ForwardTo s t i xs ys A = Midway s i (ahead t xs ys) (ahead (t + 1) xs ys) A

abbrev pub BackwardTo : ℕ → ℕ → ℕ → Vec → Vec → Vec → Type 0
BackwardTo s t i xs ys A = Midway s i (back s (t + 1) xs ys) (back s t xs ys) A
