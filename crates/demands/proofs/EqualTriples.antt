-- Two answers that meet a promise are equal (specs/Equal.antt): the theorem for the public function of triples.
-- rebuild_from is lent a list of structs. The check reads no plain claim from its `ensures`; so the theorem says which plain claims they are, in the
-- check's own logic, and that they have one answer and one run left.
-- Assumes nothing.
use mathlib.Core.Path.{◌≡◌, ◌∙◌, refl, sym}
use contract.Lifetimes.{Lfts}
use borrow.Fn.World.{ArgsD, ResD}
use denote.Triple.Clauses.{AtExit}
use base.Logic.{SProp}
use contract.Notation.{connectives}
use contract.Monad.{Fun, fact}
use types.Logic.{Logic}
use seplogic.Ra.Ura.{Ura}
use prog.Memory.{Memory}
use prog.Routine.{Routine}
use Rattle.rebuilds.specs.Rebuild.{rebuild_told, rebuild_leaves, say_counted}
use Rattle.triples.specs.Triples.{nodes_of, symbols_of, counts_of}
use Rattle.triples.specs.contracts.rebuild_from as rebuild-from
use Rattle.demands.proofs.Only.{counted-only}

module _ {M : Type 1} {𝓤 : Ura M} (𝓛 : Logic 𝓤) (mem : Memory → SProp 𝓤) (run : Routine → Fun 𝓤) where
  pub rebuild-from-equal : (κs : Lfts 2) (a : ArgsD rebuild-from.signature κs)
      → (P : ResD rebuild-from.signature κs → Type 0)
      × (Q : AtExit rebuild-from.ended κs → Type 0)
      × ((x : ResD rebuild-from.signature κs) (s : AtExit rebuild-from.ended κs) → (rebuild-from.clauses 𝓛 mem run κs a).ensures tt x s ≡ (connectives 𝓤).◌∗◌ (fact 𝓤 (P x)) (fact 𝓤 (Q s)))
      × ((x y : ResD rebuild-from.signature κs) → P x → P y → x ≡ y)
      × ((s t : AtExit rebuild-from.ended κs) → Q s → Q t → s.1.1.1.0.now ≡ t.1.1.1.0.now)
  rebuild-from-equal κs a =
      let hs = a.1.1.0.now in
      let o = a.1.1.1.0.now in (
        λ x. say_counted x ≡ rebuild_told a.0 a.1.0.0 (nodes_of hs) (symbols_of hs) (counts_of hs) o,
        λ s. s.1.1.1.0.now ≡ rebuild_leaves a.0 a.1.0.0 (nodes_of hs) (symbols_of hs) (counts_of hs) o,
        λ x s. refl,
        λ x y p q. counted-only x y (p ∙ sym q),
        λ s t p q. p ∙ sym q,
      )
