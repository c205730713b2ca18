-- Two answers that meet a promise are equal (specs/Equal.antt): the theorem FUNCTION-equal for each public function of readers.
-- `next` moves its reader: next-equal speaks of the answer, and of the reader that stands there after it.
-- Assumes nothing.
use mathlib.Core.Path.{◌≡◌, ◌∙◌, sym}
use contract.Lifetimes.{Lfts}
use denote.Triple.Clauses.{AtExit}
use borrow.Fn.Kinds.{Dens, res_t, ended_of}
use Rattle.readers.proofs.Reader.open.Kinds as open-kinds
use Rattle.readers.proofs.Reader.open.Reads as open-reads
use Rattle.readers.proofs.Reader.next.Kinds as next-kinds
use Rattle.readers.proofs.Reader.next.Reads as next-reads
use Rattle.readers.proofs.read_nth.Kinds as read-nth-kinds
use Rattle.readers.proofs.read_nth.Reads as read-nth-reads
use Rattle.readers.specs.declared.Reader.{Reader}
use Rattle.demands.specs.Equal.{Equal}

pub read-nth-equal : Equal 1 read-nth-kinds.ps read-nth-kinds.r read-nth-reads.Post
read-nth-equal κs a x y s t p q = p.0 ∙ sym q.0

pub open-equal : Equal 1 open-kinds.ps open-kinds.r open-reads.Post
open-equal κs a x y s t p q = p ∙ sym q

pub next-equal : (κs : Lfts 2) (a : Dens κs next-kinds.ps) (x y : (res_t next-kinds.r κs).Denot) (s t : AtExit (ended_of 2 next-kinds.ps next-kinds.r) κs)
    → next-reads.Post κs a x s → next-reads.Post κs a y t → (x ≡ y) × (◌≡◌ {A = Reader} s.0.now t.0.now)
next-equal κs a x y s t p q = (p.0 ∙ sym q.0, p.1.0 ∙ sym q.1.0)
