-- Two answers that meet a promise are equal (specs/Equal.antt): the theorem FUNCTION-equal for each public function of records.
-- Assumes nothing.
use mathlib.Core.Path.{◌∙◌, sym}
use Rattle.records.proofs.kinds.body_of.Kinds as body-of-kinds
use Rattle.records.proofs.kinds.body_of.Reads as body-of-reads
use Rattle.records.proofs.reading.read_at.Kinds as read-at-kinds
use Rattle.records.proofs.reading.read_at.Reads as read-at-reads
use Rattle.records.proofs.reading.read_as.Kinds as read-as-kinds
use Rattle.records.proofs.reading.read_as.Reads as read-as-reads
use Rattle.records.proofs.reading.body.Kinds as body-kinds
use Rattle.records.proofs.reading.body.Reads as body-Reads
use Rattle.records.proofs.numbers.number2.Kinds as number2-kinds
use Rattle.records.proofs.numbers.number2.Reads as number2-reads
use Rattle.records.proofs.numbers.number4.Kinds as number4-kinds
use Rattle.records.proofs.numbers.number4.Reads as number4-reads
use Rattle.records.proofs.numbers.bytes2.Kinds as bytes2-kinds
use Rattle.records.proofs.numbers.bytes2.Reads as bytes2-reads
use Rattle.records.proofs.numbers.bytes4.Kinds as bytes4-kinds
use Rattle.records.proofs.numbers.bytes4.Reads as bytes4-reads
use Rattle.records.proofs.writing.put.Kinds as put-kinds
use Rattle.records.proofs.writing.put.Reads as put_reads
use Rattle.demands.specs.Equal.{Equal, EqualLeft, EqualRun}

pub body-of-equal : Equal 0 body-of-kinds.ps body-of-kinds.r body-of-reads.Post
body-of-equal κs a x y s t p q = p ∙ sym q

pub read-at-equal : Equal 1 read-at-kinds.ps read-at-kinds.r read-at-reads.Post
read-at-equal κs a x y s t p q = p.0 ∙ sym q.0

pub read-as-equal : Equal 1 read-as-kinds.ps read-as-kinds.r read-as-reads.Post
read-as-equal κs a x y s t p q = p.0 ∙ sym q.0

pub body-equal : EqualRun 1 body-kinds.ps body-kinds.r body-Reads.Post (λ κs x. x.now)
body-equal κs a x y s t p q = p ∙ sym q

pub number2-equal : Equal 1 number2-kinds.ps number2-kinds.r number2-reads.Post
number2-equal κs a x y s t p q = p ∙ sym q

pub number4-equal : Equal 1 number4-kinds.ps number4-kinds.r number4-reads.Post
number4-equal κs a x y s t p q = p ∙ sym q

pub bytes2-equal : Equal 0 bytes2-kinds.ps bytes2-kinds.r bytes2-reads.Post
bytes2-equal κs a x y s t p q = p ∙ sym q

pub bytes4-equal : Equal 0 bytes4-kinds.ps bytes4-kinds.r bytes4-reads.Post
bytes4-equal κs a x y s t p q = p ∙ sym q

pub put-equal : EqualLeft 2 put-kinds.ps put-kinds.r put_reads.Post (λ κs s. s.0.now)
put-equal κs a x y s t p q = (p.0 ∙ sym q.0, p.1 ∙ sym q.1)
