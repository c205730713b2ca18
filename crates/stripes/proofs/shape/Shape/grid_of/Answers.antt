-- The outer invariant: the first i rows are filled; the inner one: so are the first j entries of row i. Each store changes one entry.
use mathlib.Core.Path.{◌≡◌, ◌∙◌, sym, ap}
use Prim.Native.Nat.{◌<◌}
use native.Mathlib.Omega.{arith}
use borrow.Author.Count.{below_more, below_none}
use lib.ListN.{length}
use Rattle.field.specs.declared.Symbol.{Symbol}
use Rattle.algebra.specs.Symbol.{symbol}
use Rattle.codes.specs.Sizes.{none, alpha}
use Rattle.stripes.specs.Arrays.{symbol_at}
use Rattle.stripes.proofs.Shapes.{d-most, alpha-most}
use Rattle.stripes.proofs.Vectors.{symbol-zero}
use Rattle.stripes.proofs.Grids.{upto-store, along-store, shape-replicate, shape-set2}
use borrow.Author.Rules.{rules}
use borrow.Author.Tests.{tests}
use lib.ListN.{get_or}
use Rattle.std.specs.Prelude.{ℕ, List, Option, Some, None}
use Rattle.std.specs.Option.{MatchOption}
use Rattle.algebra.specs.Symbol.{F}
use Rattle.algebra.specs.Sums.{Vec}
use Rattle.stripes.specs.Arrays.{Placed}
use Rattle.codes.specs.Matrix.{matrix}
use Rattle.stripes.proofs.shape.Shape.grid_of.Goals as goal
use Rattle.stripes.proofs.shape.Shape.grid_of.Invariants.{Right}

-- what is read of the room where the entry is placed, and 𝟘 where it is not
entry-read : (room : List Symbol) (x : Symbol) (entry : Vec → F) (o : Option ℕ) → Placed entry o
    → MatchOption o (x ≡ none) (λ p. x ≡ get_or room p none) → symbol x.0 ≡ entry (symbol_at room)
entry-read room x entry (Some p) h r = ap (λ (y : Symbol). symbol y.0) r ∙ h.1 (symbol_at room)
entry-read room x entry None h r = ap (λ (y : Symbol). symbol y.0) r ∙ symbol-zero ∙ sym (h (symbol_at room))

pub loop-i-init : goal.loop-i-init
loop-i-init c = (shape-replicate 31 31 _, below_none _)

pub loop-j-init : goal.loop-j-init
loop-j-init c = (c.loop-i.invariant.0, c.loop-i.invariant.1, below_none _)

pub place_of-requires : goal.place_of-requires
place_of-requires c = (omega arith, omega (arith, c.alpha-j-end.ensures))

pub offset_bounds-grid-i : goal.offset_bounds-grid-i
offset_bounds-grid-i c = omega (arith, d-most _ c.args.self.now.sized)

pub bounds-grid-j : goal.bounds-grid-j
bounds-grid-j c = let s = c.args.self.now in omega (arith, c.alpha-j-end.ensures, alpha-most _ s.sized s.known)

pub loop-j-preserved : goal.loop-j-preserved
loop-j-preserved c =
    let l = c.loop-j in
    let i = c.loop-i.i in
    let s = c.args.self.now in
    let room = c.args.room in
    let P = Right s.code room in
    let long : length room ≡ 496 = search rules in
    let low : i < 31 = omega (arith, d-most _ s.sized) in
    let placed : Placed (λ f. matrix s.code f i l.j) c.place_of.result = c.place_of.ensures in
    let read : MatchOption c.place_of.result (c.map_or.result ≡ none) (λ p. c.map_or.result ≡ get_or room p none) = search (rules, tests) in
    let e : P i l.j c.map_or.result = entry-read room c.map_or.result (λ f. matrix s.code f i l.j) c.place_of.result placed read in (
      shape-set2 31 31 l.grid i l.j _ low l.invariant.0,
      upto-store P none (alpha s.code) l.grid i l.j _ l.invariant.1,
      along-store P none l.grid i l.j _ (omega (arith, l.invariant.0.rows))
          (omega (arith, l.invariant.0.cols i low, c.alpha-j-end.ensures, alpha-most _ s.sized s.known)) l.invariant.2 e,
    )

pub loop-i-preserved : goal.loop-i-preserved
loop-i-preserved c =
    let l = c.loop-j in
    (l.invariant.0, below_more _ _ l.invariant.1 (λ q h. l.invariant.2 q (omega (arith, c.alpha-j-end.ensures))))

pub returns : goal.returns
returns c = λ p h. c.loop-i.invariant.1 p (omega arith)
