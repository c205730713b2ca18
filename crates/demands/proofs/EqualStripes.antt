-- Two answers that meet a promise are equal (specs/Equal.antt): the theorem FUNCTION-equal for each public function of stripes, rebuilds and collects.
-- Assumes nothing.
use mathlib.Core.Path.{◌∙◌, refl, sym}
use Rattle.stripes.proofs.lists.is_within.Kinds as is-within-kinds
use Rattle.stripes.proofs.lists.is_within.Reads as is-within-reads
use Rattle.stripes.proofs.lists.all_within.Kinds as all-within-kinds
use Rattle.stripes.proofs.lists.all_within.Reads as all-within-reads
use Rattle.stripes.proofs.lists.has.Kinds as has-kinds
use Rattle.stripes.proofs.lists.has.Reads as has-reads
use Rattle.stripes.proofs.lists.repeats.Kinds as repeats-kinds
use Rattle.stripes.proofs.lists.repeats.Reads as repeats-reads
use Rattle.stripes.proofs.lists.differ.Kinds as differ-kinds
use Rattle.stripes.proofs.lists.differ.Reads as differ-reads
use Rattle.stripes.proofs.encode.Kinds as encode-kinds
use Rattle.stripes.proofs.encode.Reads as encode-reads
use Rattle.stripes.proofs.help.Kinds as help-kinds
use Rattle.stripes.proofs.help.Reads as help-reads
use Rattle.stripes.proofs.row.Kinds as row-kinds
use Rattle.stripes.proofs.row.Reads as row_reads
use Rattle.stripes.proofs.help_by.Kinds as help-by-kinds
use Rattle.stripes.proofs.help_by.Reads as help-by-reads
use Rattle.stripes.proofs.encode_by.Kinds as encode-by-kinds
use Rattle.stripes.proofs.encode_by.Reads as encode-by-reads
use Rattle.rebuilds.proofs.points.point_of.Kinds as point-of-kinds
use Rattle.rebuilds.proofs.points.point_of.Reads as point-of-reads
use Rattle.rebuilds.proofs.points.points_of.Kinds as points-of-kinds
use Rattle.rebuilds.proofs.points.points_of.Reads as points-of-reads
use Rattle.rebuilds.proofs.plan.Kinds as plan-kinds
use Rattle.rebuilds.proofs.plan.Reads as plan-reads
use Rattle.rebuilds.proofs.rebuild_by.Kinds as rebuild-by-kinds
use Rattle.rebuilds.proofs.rebuild_by.Reads as rebuild-by-reads
use Rattle.rebuilds.proofs.rebuild.Kinds as rebuild-kinds
use Rattle.rebuilds.proofs.rebuild.Reads as rebuild-reads
use Rattle.collects.proofs.collect.Kinds as collect-kinds
use Rattle.collects.proofs.collect.Reads as collect-reads
use Rattle.demands.specs.Equal.{Equal, EqualLeft}
use Rattle.demands.proofs.Only.{counted-only, encoded-only, helped-only, symbol-only}

-- ---- stripes

pub is-within-equal : Equal 0 is-within-kinds.ps is-within-kinds.r is-within-reads.Post
is-within-equal κs a x y s t p q = p ∙ sym q

pub all-within-equal : Equal 1 all-within-kinds.ps all-within-kinds.r all-within-reads.Post
all-within-equal κs a x y s t p q = p ∙ sym q

pub has_equal : Equal 1 has-kinds.ps has-kinds.r has-reads.Post
has_equal κs a x y s t p q = p ∙ sym q

pub repeats-equal : Equal 1 repeats-kinds.ps repeats-kinds.r repeats-reads.Post
repeats-equal κs a x y s t p q = p ∙ sym q

pub differ-equal : Equal 1 differ-kinds.ps differ-kinds.r differ-reads.Post
differ-equal κs a x y s t p q = p ∙ sym q

pub encode-equal : EqualLeft 2 encode-kinds.ps encode-kinds.r encode-reads.Post (λ κs s. s.1.1.1.0.now)
encode-equal κs a x y s t p q = (encoded-only x y (p.0 ∙ sym q.0), p.1 ∙ sym q.1)

pub help-equal : Equal 1 help-kinds.ps help-kinds.r help-reads.Post
help-equal κs a x y s t p q = helped-only x y (p ∙ sym q)

pub row-equal : Equal 0 row-kinds.ps row-kinds.r row_reads.Post
row-equal κs a x y s t p q = p ∙ sym q

pub help-by-equal : Equal 3 help-by-kinds.ps help-by-kinds.r help-by-reads.Post
help-by-equal κs a x y s t p q = symbol-only x y (p ∙ sym q)

pub encode-by-equal : EqualLeft 4 encode-by-kinds.ps encode-by-kinds.r encode-by-reads.Post (λ κs s. s.1.1.1.1.0.now)
encode-by-equal κs a x y s t p q = (refl, p ∙ sym q)

-- ---- rebuilds

pub point-of-equal : Equal 0 point-of-kinds.ps point-of-kinds.r point-of-reads.Post
point-of-equal κs a x y s t p q = p ∙ sym q

pub points-of-equal : Equal 1 points-of-kinds.ps points-of-kinds.r points-of-reads.Post
points-of-equal κs a x y s t p q = p ∙ sym q

pub plan-equal : Equal 1 plan-kinds.ps plan-kinds.r plan-reads.Post
plan-equal κs a x y s t p q = p ∙ sym q

pub rebuild-by-equal : EqualLeft 4 rebuild-by-kinds.ps rebuild-by-kinds.r rebuild-by-reads.Post (λ κs s. s.1.1.1.0.now)
rebuild-by-equal κs a x y s t p q = (refl, p ∙ sym q)

pub rebuild-equal : EqualLeft 4 rebuild-kinds.ps rebuild-kinds.r rebuild-reads.Post (λ κs s. s.1.1.1.1.1.0.now)
rebuild-equal κs a x y s t p q = (counted-only x y (p.0 ∙ sym q.0), p.1 ∙ sym q.1)

-- ---- collects

pub collect-equal : EqualLeft 4 collect-kinds.ps collect-kinds.r collect-reads.Post (λ κs s. s.1.1.1.1.0.now)
collect-equal κs a x y s t p q = (counted-only x y (p.0 ∙ sym q.0), p.1 ∙ sym q.1)
