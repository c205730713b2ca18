-- `codes::body::points_at` meets its contract, byte by byte.
--   padded     the front of a run, put over zeros, reads as the run itself
-- Assumes nothing.
use mathlib.Core.Path.{◌≡◌, ◌∙◌, sym, ap}
use mathlib.Core.List.{List, ◌++◌}
use Prim.Native.Nat.{ℕ, ◌+◌, ◌-◌, ◌<◌, min}
use native.Mathlib.Omega.{arith}
use borrow.Author.Rules.{rules}
use borrow.Author.Tests.{ltb-true, ltb-false}
use lib.Dec.{ltb}
use lib.ListN.{length, take, drop, get_or, replicate}
use Rattle.std.proofs.lemmas.List.{get_or-take, get_or-drop, get_or-replicate, get_or_past, get_or_append_left, get_or-append_right, length-take-le}
use Rattle.codes.specs.Sizes.{none}
use Rattle.codes.proofs.Arrays.{from_fn-at}
use Rattle.codes.proofs.Bools.{by-test}
use Rattle.codes.proofs.Symbols.{symbols-are}
use Rattle.codes.proofs.body.points_at.Goals as goal

module _ (r w : List ℕ) (n j : ℕ) (e : w ≡ take n r) (m : n ≡ min (length r) 32) (h : j < 32) where
  long : length w ≡ n
  long = ap length e ∙ length-take-le n r (omega (arith, m))

  padded : get_or (w ++ drop n (replicate 32 0)) j 0 ≡ get_or r j 0
  padded =
      by-test (ltb j n)
      (λ t. let l = ltb-true j n t in
      get_or_append_left w (drop n (replicate 32 0)) 0 j (omega (arith, long, l)) ∙ ap (λ (x : List ℕ). get_or x j 0) e ∙ get_or-take n r j 0 l)
      (λ t. let l = ltb-false j n t in
      let k : n + (j - n) ≡ j = omega (arith, l) in
      get_or-append_right w (drop n (replicate 32 0)) n j 0 long l
      ∙ get_or-drop n (replicate 32 0) (j - n) 0
      ∙ ap (λ (i : ℕ). get_or (replicate 32 0) i 0) k
      ∙ get_or-replicate 32 j 0 0 h
      ∙ sym (get_or_past r j 0 (omega (arith, m, l, h))))

beyond : (s : List ℕ) (at i : ℕ) → get_or (drop 4 (drop at s)) i 0 ≡ get_or s (at + 4 + i) 0
beyond s at i = get_or-drop 4 (drop at s) i 0 ∙ get_or-drop at s (4 + i) 0 ∙ ap (λ (n : ℕ). get_or s n 0) (omega arith)

pub returns : goal.returns
returns c =
    let s = c.args.s.now in
    let at = c.args.at in
    let r = c.rest_from-rest.result.now in
    let e : r ≡ drop 4 (drop at s) = c.rest_from-rest.ensures ∙ ap (drop 4) c.rest_from.ensures in
    let n = c.min-n.result in
    let w = c.copy_from_slice.new.self in
    let items = c.from_fn.ensures.items in
    symbols-are 32 s (at + 4) c.from_fn.result items.long
    (λ j h. ap (λ x. x.0) (from_fn-at _ _ (λ i. record { 0 = get_or (w ++ drop n (replicate 32 0)) i 0 }) (λ i y q k. search rules) c.from_fn.result none 32 items j h)
    ∙ padded r w n j c.copy_from_slice.ensures.after c.min-n.ensures h ∙ ap (λ (x : List ℕ). get_or x j 0) e ∙ beyond s at j)
