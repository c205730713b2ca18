-- Demand 1 fixes what an operation on a stripe tells and leaves: whatever meets it tells and leaves what ours does.
--   names-only, told_same       what refusal 4 names, and all that is told, by its parts
--   fixed_told, fixed_left      what is told, and what is left, once for every operation
--   given                       a value that is given by an equation
--   encode-fixed, help-fixed, rebuild-fixed, collect-fixed      of each
-- Assumes nothing.
use mathlib.Core.Path.{◌≡◌, ◌∙◌, sym, ap₂, subst}
use mathlib.Core.Logic.{inl, inr}
use mathlib.Core.List.{List}
use Prim.Native.Nat.{ℕ, ◌≤◌}
use native.Mathlib.Omega.{arith}
use lib.Dec.{eqb}
use borrow.Author.Tests.{eqb-true, eqb-false}
use Rattle.codes.specs.Told.{Told}
use Rattle.codes.specs.declared.Code.{Code}
use Rattle.codes.proofs.Bools.{by-test}
use Rattle.stripes.specs.Encode.{encoded, encode_leaves}
use Rattle.stripes.specs.Help.{helped}
use Rattle.rebuilds.specs.Rebuild.{rebuild_told, rebuild_leaves}
use Rattle.collects.specs.Collect.{collect_told, collect_leaves}
use Rattle.demands.specs.Words.{Word}
use Rattle.demands.specs.Judge.{Offends, Names}
use Rattle.demands.specs.Answer.{Tells, Leaves}
use Rattle.demands.specs.Stripes.{Demand1-encode, Demand1-help, Demand1-rebuild, Demand1-collect}
use Rattle.demands.proofs.Inputs.{common-one}
use Rattle.demands.proofs.Words.{decided-only}
use Rattle.demands.proofs.Stripes.{demand1-encode, demand1-help, demand1-rebuild, demand1-collect}

names-only : (c : Code) (i j a b : ℕ) → Names c i j → Names c a b → (i ≡ a) × (j ≡ b)
names-only c i j a b (inl p) (inl q) =
    let x : i ≤ a = p.smallest a b q.offends in
    let y : a ≤ i = q.smallest i j p.offends in
    let e : i ≡ a = omega arith in
    let u : j ≤ b = p.nearest b (subst (λ (z : ℕ). Offends c z b) (sym e) q.offends) in
    let v : b ≤ j = q.nearest j (subst (λ (z : ℕ). Offends c z j) e p.offends) in
    (e, omega arith)
names-only c i j a b (inl p) (inr q) = absurd (q.0.alone i j p.offends)
names-only c i j a b (inr p) (inl q) = absurd (p.0.alone a b q.offends)
names-only c i j a b (inr p) (inr q) =
    let x : i ≤ a = p.0.smallest a q.0.spoils in
    let y : a ≤ i = q.0.smallest i p.0.spoils in
    (omega arith, omega (arith, p.1, q.1))

told_same : (t u : Told) → t.number ≡ u.number → (t.first ≡ u.first) × (t.second ≡ u.second) → t.value ≡ u.value → t ≡ u
told_same t u n p v =
    ap₂ {C = Told} (λ (x y : ℕ). record { number = x; first = t.first; second = t.second; value = y }) n v
    ∙ ap₂ {C = Told} (λ (x y : ℕ). record { number = u.number; first = x; second = y; value = u.value }) p.0 p.1

module _ (c : Code) (ws : List Word) (ns : List ℕ) (Val : ℕ → Type 0) (one : (a b : ℕ) → Val a → Val b → a ≡ b) (t u : Told) where
  pub fixed_told : Tells c ws ns Val t → Tells c ws ns Val u → t ≡ u
  fixed_told a b =
      let n : t.number ≡ u.number = decided-only ws t.number u.number a.decided b.decided in
      told_same t u n
      (by-test (eqb t.number 4)
      (λ e. let f = eqb-true _ _ e in names-only c _ _ _ _ (a.named f) (b.named (sym n ∙ f)))
      (λ e. let z = eqb-false _ _ e in let x = a.nothing z in let y = b.nothing (λ f. z (n ∙ f)) in (x.0 ∙ sym y.0, x.1 ∙ sym y.1)))
      (by-test (eqb t.number 0)
      (λ e. let f = eqb-true _ _ e in one _ _ (a.carried f) (b.carried (sym n ∙ f)))
      (λ e. let z = eqb-false _ _ e in a.empty z ∙ sym (b.empty (λ f. z (n ∙ f)))))

pub fixed_left : (t u : Told) → t ≡ u → (before whole x y : List ℕ) → Leaves t.number before whole x → Leaves u.number before whole y → x ≡ y
fixed_left t u s before whole x y a b =
    let n : t.number ≡ u.number = cc in
    by-test (eqb t.number 0) (λ e. let f = eqb-true _ _ e in a.written f ∙ sym (b.written (sym n ∙ f)))
    (λ e. let z = eqb-false _ _ e in a.kept z ∙ sym (b.kept (λ f. z (n ∙ f))))

-- a value that is given by an equation
pub given : (w a b : ℕ) → a ≡ w → b ≡ w → a ≡ b
given w a b x y = x ∙ sym y

module _ (tells : Code → ℕ → List ℕ → List ℕ → Told) (leaves : Code → ℕ → List ℕ → List ℕ → List ℕ) (d : Demand1-encode tells leaves) where
  pub encode-fixed : (c : Code) (v : ℕ) (m o : List ℕ) → (tells c v m o ≡ encoded c v m o) × (leaves c v m o ≡ encode_leaves c v m o)
  encode-fixed c v m o =
      let e = fixed_told c _ _ _ (given 0) _ _ (d.answer c v m o) (demand1-encode.answer c v m o) in
      (e, fixed_left _ _ e _ _ _ _ (d.output c v m o) (demand1-encode.output c v m o))

pub help-fixed : (tells : Code → ℕ → ℕ → List ℕ → Told) → Demand1-help tells → (c : Code) (h f : ℕ) (s : List ℕ) → tells c h f s ≡ helped c h f s
help-fixed tells d c h f s = fixed_told c _ _ _ (given _) _ _ (d.answer c h f s) (demand1-help.answer c h f s)

module _ (tells : Code → ℕ → List ℕ → List ℕ → List ℕ → List ℕ → Told) (leaves : Code → ℕ → List ℕ → List ℕ → List ℕ → List ℕ → List ℕ)
    (d : Demand1-rebuild tells leaves) where
  pub rebuild-fixed : (c : Code) (f : ℕ) (hs ys ns o : List ℕ)
      → (tells c f hs ys ns o ≡ rebuild_told c f hs ys ns o) × (leaves c f hs ys ns o ≡ rebuild_leaves c f hs ys ns o)
  rebuild-fixed c f hs ys ns o =
      let e = fixed_told c _ _ _ (common-one ns) _ _ (d.answer c f hs ys ns o) (demand1-rebuild.answer c f hs ys ns o) in
      (e, fixed_left _ _ e _ _ _ _ (d.output c f hs ys ns o) (demand1-rebuild.output c f hs ys ns o))

module _ (tells : Code → List ℕ → List ℕ → List ℕ → List ℕ → Told) (leaves : Code → List ℕ → List ℕ → List ℕ → List ℕ → List ℕ)
    (d : Demand1-collect tells leaves) where
  pub collect-fixed : (c : Code) (vs ns s o : List ℕ) → (tells c vs ns s o ≡ collect_told c vs ns s o) × (leaves c vs ns s o ≡ collect_leaves c vs ns s o)
  collect-fixed c vs ns s o =
      let e = fixed_told c _ _ _ (common-one ns) _ _ (d.answer c vs ns s o) (demand1-collect.answer c vs ns s o) in
      (e, fixed_left _ _ e _ _ _ _ (d.output c vs ns s o) (demand1-collect.output c vs ns s o))
