-- Symmetric grids of side h from h + 1 rows φ 0 .. φ h, of which any h are a frame, and from the values off the diagonal.
-- Throughout, without t solves for the h rows other than t, and l t is the factor of row t.
--
-- hollow h without P        where P is symmetric, the grid S with φ t S φ s = P t s for t and s different
-- cross h φ c               at t, s the value c t φ s
-- second l R, first l R     the symmetric grids into which R parts by the factors: R t s = first t s + l t second t s for t and s different
-- core₁, core₂ h φ without l c   the symmetric grids S and T with φ t S + l t φ t T = c t for each of the h + 1 rows
use Rattle.std.specs.Prelude.{ℕ}
use Rattle.algebra.specs.Symbol.{◌⊕◌, ◌⊗◌, inv}
use Rattle.algebra.specs.Sums.{Vec, Grid, dot}

unfoldable pub hollow : ℕ → (ℕ → Vec → Vec) → Grid → Grid
hollow h without P i j = without h (λ t. without t (P t) j) i

unfoldable pub cross : ℕ → Grid → Grid → Grid
cross h φ c t s = dot h (c t) (φ s)

unfoldable pub second : Vec → Grid → Grid
second l R t s = (R t s ⊕ R s t) ⊗ inv (l t ⊕ l s)

unfoldable pub first : Vec → Grid → Grid
first l R t s = R t s ⊕ l t ⊗ second l R t s

unfoldable pub core₁ : ℕ → Grid → (ℕ → Vec → Vec) → Vec → Grid → Grid
core₁ h φ without l c = hollow h without (first l (cross h φ c))

unfoldable pub core₂ : ℕ → Grid → (ℕ → Vec → Vec) → Vec → Grid → Grid
core₂ h φ without l c = hollow h without (second l (cross h φ c))
