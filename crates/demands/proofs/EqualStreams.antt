-- Two answers that meet a promise are equal (specs/Equal.antt): the theorem FUNCTION-equal for each public function of streams.
-- take_run writes two lent runs: take-run-equal speaks of the file, take-run-answers-equal of the answers' run.
-- Assumes nothing.
use mathlib.Core.Path.{◌≡◌, ◌∙◌, sym}
use Rattle.streams.specs.declared.runs.Walked.{Walked}
use Rattle.streams.proofs.file_length.Kinds as file-length-kinds
use Rattle.streams.proofs.file_length.Reads as file-length-reads
use Rattle.streams.proofs.refusal_of.Kinds as refusal-of-kinds
use Rattle.streams.proofs.refusal_of.Reads as refusal-of-reads
use Rattle.streams.proofs.take_run.Kinds as take-run-kinds
use Rattle.streams.proofs.take_run.Reads as take-run-reads
use Rattle.demands.specs.Equal.{Equal, EqualLeft}

pub file-length-equal : Equal 1 file-length-kinds.ps file-length-kinds.r file-length-reads.Post
file-length-equal κs a x y s t p q = p.0 ∙ sym q.0

pub refusal-of-equal : Equal 1 refusal-of-kinds.ps refusal-of-kinds.r refusal-of-reads.Post
refusal-of-equal κs a x y s t p q = p ∙ sym q

walked-only : (a b : Walked) → a.written ≡ b.written → a.ended ≡ b.ended → a ≡ b
walked-only a b e f = λ i. record { written = e i; ended = f i }

pub take-run-equal : EqualLeft 3 take-run-kinds.ps take-run-kinds.r take-run-reads.Post (λ κs s. s.0.now)
take-run-equal κs a x y s t p q = (walked-only x y (p.bytes ∙ sym q.bytes) (p.end ∙ sym q.end), p.file ∙ sym q.file)

pub take-run-answers-equal : EqualLeft 3 take-run-kinds.ps take-run-kinds.r take-run-reads.Post (λ κs s. s.1.1.0.now)
take-run-answers-equal κs a x y s t p q = (walked-only x y (p.bytes ∙ sym q.bytes) (p.end ∙ sym q.end), p.answers ∙ sym q.answers)
