-- Our rebuild and our collection meet demand 2: chosen nodes at one count pass every test, and what is written is what was encoded.
--   demand2-rebuild, demand2-collect, demand2-fits
-- Assumes nothing.
use mathlib.Core.Path.{◌≡◌, ◌∙◌, sym, ap}
use mathlib.Core.Logic.{inl, inr}
use mathlib.Core.Bool.{Bool, true, false, not, ◌&&◌}
use mathlib.Core.List.{List}
use Prim.Native.Nat.{ℕ, ◌*◌, ◌<◌, ◌≤◌}
use native.Mathlib.Omega.{arith}
use lib.ListN.{length, get_or}
use borrow.Author.Tests.{eq-eqb}
use Rattle.algebra.proofs.Bytes.{table-length}
use Rattle.codes.specs.Told.{done}
use Rattle.codes.specs.Sizes.{alpha}
use Rattle.codes.specs.Judge.{pair_in, judged}
use Rattle.codes.specs.Share.{share, symbol_for, symbols_for, shares_of}
use Rattle.codes.specs.Rules.{Rules, Chosen}
use Rattle.codes.specs.Rebuild.{rebuilt}
use Rattle.codes.specs.Collect.{collected}
use Rattle.codes.specs.declared.Code.{Code}
use Rattle.codes.proofs.Bools.{fails}
use Rattle.codes.proofs.Rules.{accepted}
use Rattle.codes.proofs.Run.{run_length}
use Rattle.stripes.specs.Lists.{every, has, repeats, differ, within}
use Rattle.stripes.proofs.Ladder.{judged-done, done-leaves}
use Rattle.rebuilds.specs.Rebuild.{rebuild_reasons, rebuild_told, rebuild_leaves}
use Rattle.collects.specs.Collect.{collect_reasons, collect_told, collect_leaves}
use Rattle.demands.specs.Inputs.{Among, Outside, Twice, Differing}
use Rattle.demands.specs.Rebuild.{rebuild-share}
use Rattle.demands.proofs.Collect.{collect-share, collect-fits}
use Rattle.demands.specs.Honest.{Counts, Asked, Gathers, Demand2-rebuild, Demand2-collect, Demand2-fits}
use Rattle.demands.proofs.Inputs.{outside-says, every-says, has-says, repeats-says, differ-says}

-- ---- chosen nodes and equal counts pass the tests

module _ (c : Code) {s : ℕ} {vs : List ℕ} (N : Chosen c.n s vs) where
  inside : Among (Outside c) vs → ⊥
  inside a = out a.is
    where
      low : a.place < s
      low = omega (arith, N.long, a.within)

      out : Outside c (get_or vs a.place 0) → ⊥
      out (inl l) = omega (arith, N.from a.place low)
      out (inr l) = omega (arith, N.to a.place low)

  once : Twice vs → ⊥
  once t = N.differ t.first t.second t.order (omega (arith, N.long, t.within)) t.are

  pub all-within : not (every (within c) vs) ≡ false
  all-within = fails _ (λ e. inside ((every-says (within c) (Outside c) (outside-says c) vs).0 e))

  pub none-twice : repeats vs ≡ false
  none-twice = fails _ (λ e. once ((repeats-says vs).0 e))

pub none_differ : {ns : List ℕ} {s n : ℕ} → Counts ns s n → differ ns ≡ false
none_differ {ns} C = fails _ (λ e. apart ((differ-says ns).0 e))
  where
    apart : Differing ns → ⊥
    apart t = t.are (C.equal.all t.first (omega (arith, t.order, t.within)) ∙ sym (C.equal.all t.second t.within))

pub is_within : (c : Code) (f : ℕ) → 1 ≤ f → f ≤ c.n → not (within c f) ≡ false
is_within c f a b = fails _ (λ e. out ((outside-says c f).0 e))
  where
    out : Outside c f → ⊥
    out (inl l) = omega arith
    out (inr l) = omega arith

-- ---- rebuilding

pub not-both : (a b : Bool) → not a ≡ false → not b ≡ false → not (a && b) ≡ false
not-both true b e d = d
not-both false b e d = e

module _ {c : Code} (R : Rules c) (m : List ℕ) {f : ℕ} {hs ns : List ℕ} {n : ℕ} {o : List ℕ} (A : Asked c f hs ns n o) where
  ys : List ℕ
  ys = symbols_for c f hs m

  accepted-code : done 0 ≡ judged c
  accepted-code = sym (accepted c R)

  among-helpers : has f hs ≡ false
  among-helpers = fails _ (λ e. A.other ((has-says f hs).0 e))

  rebuild-done : done (get_or ns 0 0) ≡ rebuild_told c f hs ys ns o
  unfolding ys rebuild_told rebuild_reasons
  rebuild-done =
      judged-done c accepted-code _ (get_or ns 0 0) (
        simp (eq-eqb _ _ A.helpers.long, eq-eqb _ _ (table-length c.d (λ t. symbol_for c f (share c (get_or hs t 0) m))), eq-eqb _ _ A.counts.long, eq-eqb _ _ A.room),
        (
          not-both (within c f) (every (within c) hs) (is_within c f A.from A.to) (all-within c A.helpers),
          (simp (among-helpers, none-twice c A.helpers), (none_differ A.counts, tt)),
        ),
      )

  rebuild-told : rebuild_told c f hs ys ns o ≡ done n
  rebuild-told = sym rebuild-done ∙ ap done (A.counts.equal.all 0 A.counts.equal.some)

  rebuild-left : rebuild_leaves c f hs ys ns o ≡ share c f m
  unfolding rebuild_leaves rebuild_told ys
  rebuild-left =
      sym (done-leaves (rebuild_reasons c f hs ys ns o) (pair_in c) (get_or ns 0 0) (rebuilt c f hs ys) o (get_or ns 0 0) rebuild-done)
      ∙ rebuild-share R A.helpers f m

pub demand2-rebuild : Demand2-rebuild rebuild_told rebuild_leaves
unfolding ys
demand2-rebuild c R m f hs ns n o A = (rebuild-told R m A, rebuild-left R m A)

-- ---- collecting

module _ {c : Code} (R : Rules c) {vs ns : List ℕ} {n : ℕ} {o : List ℕ} (G : Gathers c vs ns n o) (s : List ℕ) (l : length s ≡ c.k * alpha c) where
  collect-done : done (get_or ns 0 0) ≡ collect_told c vs ns s o
  unfolding collect_told collect_reasons
  collect-done =
      judged-done c (sym (accepted c R)) _ (get_or ns 0 0) (
        simp (eq-eqb _ _ G.nodes.long, eq-eqb _ _ G.counts.long, eq-eqb _ _ l, eq-eqb _ _ G.room),
        (all-within c G.nodes, (none-twice c G.nodes, (none_differ G.counts, tt))),
      )

  collect-told : collect_told c vs ns s o ≡ done n
  collect-told = sym collect-done ∙ ap done (G.counts.equal.all 0 G.counts.equal.some)

  collect-left : collect_leaves c vs ns s o ≡ collected c vs s
  unfolding collect_leaves collect_told
  collect-left =
      sym (done-leaves (collect_reasons c vs ns s o) (pair_in c) (get_or ns 0 0) (collected c vs s) o (get_or ns 0 0) collect-done)

run-whole : (c : Code) {vs : List ℕ} → Chosen c.n c.k vs → (m : List ℕ) → length (shares_of c vs m) ≡ c.k * alpha c
run-whole c {vs} N m = run_length c vs m ∙ ap (λ (i : ℕ). i * alpha c) N.long

pub demand2-collect : Demand2-collect collect_told collect_leaves
demand2-collect c R m M vs ns n o G =
    let l = run-whole c G.nodes m in
    (collect-told R G (shares_of c vs m) l, collect-left R G (shares_of c vs m) l ∙ collect-share R G.nodes M)

pub demand2-fits : Demand2-fits collect_leaves
demand2-fits c R two s M vs ns n o G = ap (shares_of c vs) (collect-left R G s M.long) ∙ collect-fits R G.nodes two s M
