-- Two answers that meet a promise are equal (specs/Equal.antt): the theorem FUNCTION-equal for each public function of codes and solver.
-- Assumes nothing.
use mathlib.Core.Path.{◌∙◌, sym}
use Rattle.codes.proofs.judge.Kinds as judge-kinds
use Rattle.codes.proofs.judge.Reads as judge-reads
use Rattle.codes.proofs.Code.alpha.Kinds as alpha-kinds
use Rattle.codes.proofs.Code.alpha.Reads as alpha-reads
use Rattle.codes.proofs.Code.bytes.Kinds as bytes-kinds
use Rattle.codes.proofs.Code.bytes.Reads as bytes-reads
use Rattle.codes.proofs.Code.point.Kinds as point-kinds
use Rattle.codes.proofs.Code.point.Reads as point-reads
use Rattle.codes.proofs.Code.cell.Kinds as cell-kinds
use Rattle.codes.proofs.Code.cell.Reads as cell-reads
use Rattle.codes.proofs.is_known.Kinds as is-known-kinds
use Rattle.codes.proofs.is_known.Reads as is-known-reads
use Rattle.codes.proofs.is_sized.Kinds as is-sized-kinds
use Rattle.codes.proofs.is_sized.Reads as is-sized-reads
use Rattle.codes.proofs.code_at.Kinds as code-at-kinds
use Rattle.codes.proofs.code_at.Reads as code-at-reads
use Rattle.codes.proofs.Refusal.number.Kinds as number-kinds
use Rattle.codes.proofs.Refusal.number.Reads as number-reads
use Rattle.codes.proofs.Refusal.first.Kinds as first-kinds
use Rattle.codes.proofs.Refusal.first.Reads as first_reads
use Rattle.codes.proofs.Refusal.second.Kinds as second-kinds
use Rattle.codes.proofs.Refusal.second.Reads as second_reads
use Rattle.solver.proofs.basis.Kinds as basis-kinds
use Rattle.solver.proofs.basis.Reads as basis-reads
use Rattle.codes.proofs.Only.{accepted-only}
use Rattle.demands.specs.Equal.{Equal}
use Rattle.demands.proofs.Only.{cell-only, symbol-only}

-- ---- codes

pub judge-equal : Equal 0 judge-kinds.ps judge-kinds.r judge-reads.Post
judge-equal κs a x y s t p q = accepted-only _ x y p.1 q.1 (p.0 ∙ sym q.0)

pub alpha-equal : Equal 0 alpha-kinds.ps alpha-kinds.r alpha-reads.Post
alpha-equal κs a x y s t p q = p ∙ sym q

pub bytes-equal : Equal 0 bytes-kinds.ps bytes-kinds.r bytes-reads.Post
bytes-equal κs a x y s t p q = p ∙ sym q

pub point-equal : Equal 0 point-kinds.ps point-kinds.r point-reads.Post
point-equal κs a x y s t p q = symbol-only x y (p ∙ sym q)

pub cell-equal : Equal 0 cell-kinds.ps cell-kinds.r cell-reads.Post
cell-equal κs a x y s t p q = cell-only x y (p.0 ∙ sym q.0) (p.1 ∙ sym q.1) (p.2 ∙ sym q.2)

pub is-known-equal : Equal 0 is-known-kinds.ps is-known-kinds.r is-known-reads.Post
is-known-equal κs a x y s t p q = p ∙ sym q

pub is-sized-equal : Equal 0 is-sized-kinds.ps is-sized-kinds.r is-sized-reads.Post
is-sized-equal κs a x y s t p q = p ∙ sym q

pub code-at-equal : Equal 1 code-at-kinds.ps code-at-kinds.r code-at-reads.Post
code-at-equal κs a x y s t p q = p ∙ sym q

pub number-equal : Equal 0 number-kinds.ps number-kinds.r number-reads.Post
number-equal κs a x y s t p q = p ∙ sym q

pub first-equal : Equal 0 first-kinds.ps first-kinds.r first_reads.Post
first-equal κs a x y s t p q = p ∙ sym q

pub second-equal : Equal 0 second-kinds.ps second-kinds.r second_reads.Post
second-equal κs a x y s t p q = p ∙ sym q

-- ---- solver

pub basis-equal : Equal 0 basis-kinds.ps basis-kinds.r basis-reads.Post
basis-equal κs a x y s t p q = p ∙ sym q
