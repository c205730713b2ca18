-- `runs::take_all` meets its contract. The loop's invariant: the answers of the records passed are written, the rest is as it was (Going), and the
-- station is still the file's (Ready).
-- Assumes nothing.
use mathlib.Core.Path.{◌≡◌, ◌∙◌, refl, sym, ap}
use Prim.Native.Nat.{ℕ}
use borrow.Author.Tests.{eqb-true, eqb-false}
use lib.Dec.{eqb}
use Rattle.std.specs.Prelude.{Result, Ok, Err}
use Rattle.std.specs.Result.{result_eq}
use Rattle.codes.specs.Told.{Told}
use Rattle.codes.specs.contracts.RefusalPartialEq.TheImpl.{eq-value}
use Rattle.codes.specs.declared.Refusal.{Refusal}
use Rattle.codes.specs.declared.Refusal.TheVariants.{Record, Kind, Size, Points, Length, Node, Repeat, Mixed, Order, Place}
use Rattle.rebuilds.specs.Rebuild.{say_counted}
use Rattle.streams.proofs.Ready.{ready-stays}
use Rattle.streams.proofs.Steps.{going_done, going-stop, going_on}
use Rattle.streams.proofs.runs.take_all.Goals as goal

-- only the refusal Record has the number 1
record_only : (t : Result ℕ Refusal) → result_eq eqb eq-value.it t (Err Record) ≡ eqb (say_counted t).number 1
record_only (Ok n) = refl
record_only (Err Record) = refl
record_only (Err Kind) = refl
record_only (Err Size) = refl
record_only (Err (Points i j)) = refl
record_only (Err Length) = refl
record_only (Err Node) = refl
record_only (Err Repeat) = refl
record_only (Err Mixed) = refl
record_only (Err Order) = refl
record_only (Err Place) = refl

pub returns-then-eq : goal.returns-then-eq
returns-then-eq c =
    let l = c.loop-slip in
    let i = l.invariant in
    let m = c.in-Some.ensures.steps.1 in
    let e = c.number_told.ensures (λ n. n) in
    going-stop c.args.file.now c.args.run.now c.args.answers.now l.file l.answers _ l.written i.0 _ _ m.0 _ i.1 m.1 m.2
    _ _ _ (e ∙ ap (λ (t : Told). t.number) c.take-taken.ensures.told) c.take-taken.ensures.left c.put.ensures.left
    (e ∙ eqb-true _ _ (sym (record_only _) ∙ sym c.eq.ensures ∙ c.if-eq.true))

pub loop-slip-preserved : goal.loop-slip-preserved
loop-slip-preserved c =
    let l = c.loop-slip in
    let i = l.invariant in
    let s = c.in-Some.ensures.steps in
    let m = s.1 in
    let e = c.number_told.ensures (λ n. n) in (
      going_on c.args.file.now c.args.run.now c.args.answers.now l.file l.answers _ l.written i.0 _ _ m.0 _ i.1 m.1 m.2
          _ _ _ (e ∙ ap (λ (t : Told). t.number) c.take-taken.ensures.told) c.take-taken.ensures.left c.put.ensures.left
          (λ o. eqb-false _ _ (sym (record_only _) ∙ sym c.eq.ensures ∙ c.if-eq.false) (sym e ∙ o)),
      s.0 ∙ i.1,
      ready-stays l.file _ c.take-taken.new.file _ _ c.take-taken.ensures.left i.2,
    )

pub returns : goal.returns
returns c =
    let l = c.loop-slip in
    going_done c.args.file.now c.args.run.now c.args.answers.now l.file l.answers _ l.written l.invariant.0 c.in-None.ensures.steps.1.0
