-- `cutting::cut` meets its contract: each refusal is the first reason that holds, and else the file is written.
-- Assumes nothing.
use mathlib.Core.Path.{◌∙◌, sym, ap, ap₂, subst}
use Prim.Native.Nat.{ℕ, ◌*◌}
use native.Mathlib.Omega.{arith}
use Rattle.codes.specs.Rules.{Rules}
use Rattle.codes.specs.declared.Code.{Code}
use Rattle.codes.specs.declared.Node.{Node}
use Rattle.codes.proofs.Told.{handed-on}
use Rattle.codes.proofs.Sizes.{bytes_high, small}
use Rattle.shares.specs.Afresh.{afresh}
use Rattle.books.proofs.Ladders.{cut-code, code-good, cut-total, cut-book, cut-output, cut-node, cut-done}
use Rattle.books.proofs.cutting.cut.Goals.{then-book-stripes-via-then-book-stripes, then-book-stripes-via-else-book-stripes+then-output-stripe_at}
use Rattle.books.proofs.cutting.cut.Goals as goal

pub returns-in_err-accepted : goal.returns-in_err-accepted
returns-in_err-accepted c =
    let a = c.args in
    let u = cut-code a.code a.node.0 a.stripes a.book.now a.output.now _ c.in_err-accepted.ensures.answer in
    record { told = handed-on _ c.from_residual.result _ c.from_residual.ensures.1 u.0; left = u.1 }

pub overflow_cast-total : goal.overflow_cast-total
overflow_cast-total c =
    let a = c.args in
    let h = code-good a.code a.node.0 a.stripes a.book.now a.output.now c.in_ok-accepted.ensures.answer in
    omega (arith, cut-total a.code a.node.0 a.stripes a.book.now a.output.now h)

pub overflow_mul-stripes : goal.overflow_mul-stripes
overflow_mul-stripes c =
    let a = c.args in
    let h = code-good a.code a.node.0 a.stripes a.book.now a.output.now c.in_ok-accepted.ensures.answer in
    let r = subst Rules c.in_ok-accepted.ensures.same c.in_ok-accepted.accepted.rules in
    let t = cut-total a.code a.node.0 a.stripes a.book.now a.output.now h in
    omega (arith, small a.stripes c.bytes.result 1024 496 t (omega (arith, c.bytes.ensures, bytes_high a.code r)))

pub returns-then-book-stripes : goal.returns-then-book-stripes
returns-then-book-stripes c =
    let a = c.args in
    let h = code-good a.code a.node.0 a.stripes a.book.now a.output.now c.in_ok-accepted.ensures.answer in
    elim c.then-book-stripes.branch [
      | then-book-stripes-via-then-book-stripes w ↦
          let b = ap (λ (n : ℕ). a.stripes * n) (sym c.bytes.ensures) in
          let u = cut-book a.code a.node.0 a.stripes a.book.now a.output.now h (λ e. w.if-book-stripes.true (e ∙ b)) in
          record { told = u.0; left = u.1 }
      | then-book-stripes-via-else-book-stripes+then-output-stripe_at w ↦
          let b = sym w.stripe_at.ensures.0 in
          let u = cut-output a.code a.node.0 a.stripes a.book.now a.output.now h (λ e. w.if-output-stripe_at.true (e ∙ b)) in
          record { told = u.0; left = u.1 }
    ]

pub returns-then-not-is_within : goal.returns-then-not-is_within
returns-then-not-is_within c =
    let a = c.args in
    let h = code-good a.code a.node.0 a.stripes a.book.now a.output.now c.in_ok-accepted.ensures.answer in
    let p = c.if-book-stripes.false ∙ ap (λ (i : ℕ). a.stripes * i) c.bytes.ensures in
    let q = c.if-output-stripe_at.false ∙ c.stripe_at.ensures.0 in
    let u = cut-node a.code a.node.0 a.stripes a.book.now a.output.now h p q (sym c.is_within.ensures ∙ c.if-not-is_within.true) in
    record { told = u.0; left = u.1 }

pub write_file-requires-clause-few : goal.write_file-requires-clause-few
write_file-requires-clause-few c =
    let a = c.args in
    let h = code-good a.code a.node.0 a.stripes a.book.now a.output.now c.in_ok-accepted.ensures.answer in
    cut-total a.code a.node.0 a.stripes a.book.now a.output.now h

pub returns : goal.returns
returns c =
    let a = c.args in
    let h = code-good a.code a.node.0 a.stripes a.book.now a.output.now c.in_ok-accepted.ensures.answer in
    let p = c.if-book-stripes.false ∙ ap (λ (i : ℕ). a.stripes * i) c.bytes.ensures in
    let q = c.if-output-stripe_at.false ∙ c.stripe_at.ensures.0 in
    let y = c.new.ensures.0 ∙ c.in_ok-accepted.ensures.same in
    let x = c.write_file.ensures ∙ ap₂ (λ (k : Code) (v : Node). afresh k v.0 a.stripes 0 a.book.now) y c.new.ensures.1 in
    let u = cut-done a.code a.node.0 a.stripes a.book.now a.output.now h p q (sym c.is_within.ensures ∙ c.if-not-is_within.false) _ x in
    record { told = u.0; left = u.1 }
