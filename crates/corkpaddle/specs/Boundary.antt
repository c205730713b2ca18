-- What the outside boundary answers.
--   Says r t            the answer r, as it crosses, says what t tells: number, pair and count
--   is_code run          the run is as long as a code
--   coded run t         what is told for a code run: t where it is as long as a code, and else refusal 5
--   kept run o l        what stands in an output: l where the code run is as long as a code, and else o, as it was
-- Assumes nothing.
use Rattle.std.specs.Prelude.{◌≡◌, Bool, cond, List, ℕ, eqb, length}
use Rattle.codes.specs.Told.{Told, refused}
use Rattle.codes.specs.declared.Refusal.TheVariants.{Length}
use Rattle.corkpaddle.specs.declared.Answer.{Answer}

pub record Says (r : Answer) (t : Told) : Type 0 where
  pub number : r.number ≡ t.number
  pub first : r.first ≡ t.first
  pub second : r.second ≡ t.second
  pub count : r.count ≡ t.value

abbrev pub is_code : List ℕ → Bool
is_code run = eqb (length run) 36

unfoldable pub coded : List ℕ → Told → Told
coded run t = cond (is_code run) t (refused Length)

unfoldable pub kept : List ℕ → List ℕ → List ℕ → List ℕ
kept run o l = cond (is_code run) l o
