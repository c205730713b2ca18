-- Two answers that meet a promise are equal (specs/Equal.antt): the theorem FUNCTION-equal for each public function of field.
-- Assumes nothing.
use mathlib.Core.Path.{◌∙◌, sym}
use Rattle.field.proofs.Symbol.of.Kinds as of-kinds
use Rattle.field.proofs.Symbol.of.Reads as of-reads
use Rattle.field.proofs.Symbol.generated.Kinds as generated-kinds
use Rattle.field.proofs.Symbol.generated.Reads as generated-reads
use Rattle.field.proofs.Symbol.plus.Kinds as plus-kinds
use Rattle.field.proofs.Symbol.plus.Reads as plus-reads
use Rattle.field.proofs.Symbol.times.Kinds as times-kinds
use Rattle.field.proofs.Symbol.times.Reads as times-reads
use Rattle.field.proofs.Symbol.over.Kinds as over-kinds
use Rattle.field.proofs.Symbol.over.Reads as over_reads
use Rattle.field.proofs.Symbol.power.Kinds as power-kinds
use Rattle.field.proofs.Symbol.power.Reads as power-reads
use Rattle.field.proofs.tables.Kinds as tables-kinds
use Rattle.field.proofs.tables.Reads as tables-reads
use Rattle.field.proofs.Symbol.times_by.Kinds as times-by-kinds
use Rattle.field.proofs.Symbol.times_by.Reads as times-by-reads
use Rattle.field.proofs.Symbol.over_by.Kinds as over-by-kinds
use Rattle.field.proofs.Symbol.over_by.Reads as over-by-reads
use Rattle.field.proofs.Products.new.Kinds as products-new-kinds
use Rattle.field.proofs.Products.new.Reads as products-new-reads
use Rattle.field.proofs.Products.times.Kinds as products-times-kinds
use Rattle.field.proofs.Products.times.Reads as products-times-reads
use Rattle.field.proofs.Products.over.Kinds as products-over-kinds
use Rattle.field.proofs.Products.over.Reads as products-over-reads
use Rattle.field.proofs.Products.raised.Kinds as products-raised-kinds
use Rattle.field.proofs.Products.raised.Reads as products-raised-reads
use Rattle.field.proofs.Products.slope.Kinds as products-slope-kinds
use Rattle.field.proofs.Products.slope.Reads as products-slope-reads
use Rattle.demands.specs.Equal.{Equal}
use Rattle.demands.proofs.Only.{products-only, symbol-only}

pub of-equal : Equal 0 of-kinds.ps of-kinds.r of-reads.Post
of-equal κs a x y s t p q = symbol-only x y (p ∙ sym q)

pub generated-equal : Equal 0 generated-kinds.ps generated-kinds.r generated-reads.Post
generated-equal κs a x y s t p q = symbol-only x y (p ∙ sym q)

pub plus-equal : Equal 0 plus-kinds.ps plus-kinds.r plus-reads.Post
plus-equal κs a x y s t p q = symbol-only x y (p ∙ sym q)

pub times-equal : Equal 0 times-kinds.ps times-kinds.r times-reads.Post
times-equal κs a x y s t p q = symbol-only x y (p ∙ sym q)

pub over_equal : Equal 0 over-kinds.ps over-kinds.r over_reads.Post
over_equal κs a x y s t p q = symbol-only x y (p ∙ sym q)

pub power-equal : Equal 0 power-kinds.ps power-kinds.r power-reads.Post
power-equal κs a x y s t p q = symbol-only x y (p ∙ sym q)

pub tables-equal : Equal 0 tables-kinds.ps tables-kinds.r tables-reads.Post
tables-equal κs a x y s t p q = p ∙ sym q

pub times-by-equal : Equal 1 times-by-kinds.ps times-by-kinds.r times-by-reads.Post
times-by-equal κs a x y s t p q = symbol-only x y (p ∙ sym q)

pub over-by-equal : Equal 1 over-by-kinds.ps over-by-kinds.r over-by-reads.Post
over-by-equal κs a x y s t p q = symbol-only x y (p ∙ sym q)

-- ---- the right table

pub products-new-equal : Equal 0 products-new-kinds.ps products-new-kinds.r products-new-reads.Post
products-new-equal κs a x y s t p q = products-only x y

pub products-times-equal : Equal 1 products-times-kinds.ps products-times-kinds.r products-times-reads.Post
products-times-equal κs a x y s t p q = symbol-only x y (p ∙ sym q)

pub products-over-equal : Equal 1 products-over-kinds.ps products-over-kinds.r products-over-reads.Post
products-over-equal κs a x y s t p q = symbol-only x y (p ∙ sym q)

pub products-raised-equal : Equal 1 products-raised-kinds.ps products-raised-kinds.r products-raised-reads.Post
products-raised-equal κs a x y s t p q = p ∙ sym q

pub products-slope-equal : Equal 1 products-slope-kinds.ps products-slope-kinds.r products-slope-reads.Post
products-slope-equal κs a x y s t p q = p ∙ sym q
