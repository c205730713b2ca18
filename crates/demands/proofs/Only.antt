-- Two answers that say the same are equal: what an answer says fixes it.
--   encoded-only, helped-only, counted-only     of an operation on a stripe
--   filed-only                                  of the judge of share files
--   answer-only, shown-only                     of the outside boundary, and of its reader
--   products-only                               the right table
--   symbol-only, cell-only                      two symbols, and two places of a message's symbol, by their parts
-- Assumes nothing.
use mathlib.Core.Path.{◌≡◌, ◌∙◌, refl, sym, ap}
use mathlib.Core.HLevel.{is_prop→PathP}
use mathlib.Core.List.{List}
use Prim.Native.Nat.{ℕ}
use Rattle.std.proofs.Props.{props}
use Rattle.std.specs.Prelude.{Result, Ok, Err}
use Rattle.field.specs.Tables.{tables}
use Rattle.field.specs.declared.Symbol.{Symbol}
use Rattle.field.specs.declared.products.Products.{Products}
use Rattle.codes.specs.Told.{Told, refused, done}
use Rattle.codes.specs.declared.Refusal.{Refusal}
use Rattle.codes.specs.declared.cells.Cell.{Cell}
use Rattle.codes.proofs.Told.{number-nonzero, told-only}
use Rattle.codes.proofs.Only.{judged-only}
use Rattle.stripes.specs.Encode.{say_encoded}
use Rattle.stripes.specs.Help.{say_helped}
use Rattle.rebuilds.specs.Rebuild.{say_counted}
use Rattle.shares.specs.File.{say_filed, node_told, stripes_told}
use Rattle.shares.specs.declared.Filed.{Filed}
use Rattle.corkpaddle.specs.Boundary.{Says}
use Rattle.corkpaddle.specs.declared.Answer.{Answer}
use Rattle.corkpaddle.specs.Reader.{Shows}
use Rattle.corkpaddle.specs.declared.reader.Record.{Record}
use Rattle.records.specs.Reading.{Read}

-- done is no refusal
unrefused : {A : Type 0} (v : ℕ) (r : Refusal) → done v ≡ refused r → A
unrefused v r e = absurd (number-nonzero r (sym (ap (λ (t : Told). t.number) e)))

pub encoded-only : (r s : Result Unit Refusal) → say_encoded r ≡ say_encoded s → r ≡ s
encoded-only r s e = judged-only (λ a b. refl) r s e

pub helped-only : (r s : Result Symbol Refusal) → say_helped r ≡ say_helped s → r ≡ s
helped-only (Ok a) (Ok b) e = ap (λ (n : ℕ). Ok (record { 0 = n })) (ap (λ (t : Told). t.value) e)
helped-only (Ok a) (Err s) e = unrefused a.0 s e
helped-only (Err r) (Ok b) e = unrefused b.0 r (sym e)
helped-only (Err r) (Err s) e = ap Err (told-only r s e)

pub counted-only : (r s : Result ℕ Refusal) → say_counted r ≡ say_counted s → r ≡ s
counted-only (Ok a) (Ok b) e = ap Ok (ap (λ (t : Told). t.value) e)
counted-only (Ok a) (Err s) e = unrefused a s e
counted-only (Err r) (Ok b) e = unrefused b r (sym e)
counted-only (Err r) (Err s) e = ap Err (told-only r s e)

pub filed-only : (r s : Result Filed Refusal) → say_filed r ≡ say_filed s → node_told r ≡ node_told s → stripes_told r ≡ stripes_told s → r ≡ s
filed-only (Ok a) (Ok b) e f g = λ i. Ok (record { node = record { 0 = f i }; stripes = g i; count = ap (λ (t : Told). t.value) e i })
filed-only (Ok a) (Err s) e f g = unrefused a.count s e
filed-only (Err r) (Ok b) e f g = unrefused b.count r (sym e)
filed-only (Err r) (Err s) e f g = ap Err (told-only r s e)

pub answer-only : (r s : Answer) (t : Told) → Says r t → Says s t → r ≡ s
answer-only r s t p q = λ i. record {
  number = (p.number ∙ sym q.number) i;
  first = (p.first ∙ sym q.first) i;
  second = (p.second ∙ sym q.second) i;
  count = (p.count ∙ sym q.count) i;
}

pub shown-only : (r s : Record) (x : Read) → Shows r x → Shows s x → r ≡ s
shown-only r s x p q = λ i. record {
  number = (p.number ∙ sym q.number) i;
  start = (p.start ∙ sym q.start) i;
  end = (p.end ∙ sym q.end) i;
  next = (p.next ∙ sym q.next) i;
}

right-prop : (bs : List ℕ) → IsProp (bs ≡ tables)
right-prop bs = hlevel props

pub products-only : (a b : Products) → a ≡ b
products-only a b = λ i. record {
  bytes = (a.right ∙ sym b.right) i;
  right = is_prop→PathP (λ j. (a.right ∙ sym b.right) j ≡ tables) (λ j. right-prop ((a.right ∙ sym b.right) j)) a.right b.right i;
}

pub symbol-only : (a b : Symbol) → a.0 ≡ b.0 → a ≡ b
symbol-only a b e = λ i. record { 0 = e i }

pub cell-only : (a b : Cell) → a.lane ≡ b.lane → a.row ≡ b.row → a.col ≡ b.col → a ≡ b
cell-only a b e f g = λ i. record { lane = e i; row = f i; col = g i }
