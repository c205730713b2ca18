-- Our calls with a code run meet demand 1 of the outside boundary: demand1-out-judge, demand1-out-encode, demand1-out-help, demand1-out-rebuild,
-- demand1-out-collect, demand1-out-batch, demand1-out-file, demand1-out-cut.
--   skip, stop             one reason more before the others: it does not hold, and the others decide; or it holds, and decides
--   run-crosses, total-crosses     a call with a code run, and with a stripe total beside it, from what the core tells and leaves
-- Assumes nothing.
use mathlib.Core.Path.{◌≡◌, refl, ap}
use mathlib.Core.Logic.{inl, inr, ⊎_elim, ◌≢◌}
use mathlib.Core.Bool.{true, false, not}
use mathlib.Core.List.{List, [], ◌∷◌, ◌++◌}
use Prim.Native.Nat.{ℕ}
use native.Mathlib.Omega.{arith}
use lib.ListN.{length}
use borrow.Author.Tests.{eqb-true, eqb-false, not-true}
use Rattle.codes.specs.Told.{Told}
use Rattle.codes.specs.Body.{code_at}
use Rattle.codes.specs.Judge.{judge_reasons, judged, pair_in}
use Rattle.codes.specs.Sizes.{alpha}
use Rattle.codes.specs.Share.{symbol_for}
use Rattle.codes.specs.declared.Code.{Code}
use Rattle.codes.proofs.Bools.{apart, by-test}
use Rattle.stripes.specs.Lists.{within}
use Rattle.stripes.specs.Encode.{encoded, encode_leaves}
use Rattle.rebuilds.specs.Rebuild.{rebuild_told, rebuild_leaves}
use Rattle.collects.specs.Collect.{collect_told, collect_leaves}
use Rattle.shares.specs.File.{totalled}
use Rattle.books.specs.Cut.{cut_told, cut_leaves}
use Rattle.batches.specs.Batch.{batch_told, batch_leaves}
use Rattle.batches.specs.Whole.{whole_told, whole_leaves}
use Rattle.corkpaddle.specs.Boundary.{is_code, coded, kept}
use Rattle.corkpaddle.specs.Totals.{misfit, coded_for}
use Rattle.corkpaddle.specs.Help.{help_reasons, help_told, help_leaves}
use Rattle.demands.specs.Words.{Word, ◌because◌}
use Rattle.demands.specs.Answer.{Tells, Answers, Leaves}
use Rattle.demands.specs.Crossing.{NoCode, run_words, run_total, Crosses, outside_help, Demand1-out-judge, Demand1-out-encode, Demand1-out-help, Demand1-out-rebuild, Demand1-out-collect, Demand1-out-batch, Demand1-out-file, Demand1-out-cut}
use Rattle.demands.proofs.Says.{off-says, eqb-says}
use Rattle.demands.proofs.Inputs.{among-cons, among-uncons, lengths-says, outside-says}
use Rattle.demands.proofs.Words.{end, step}
use Rattle.demands.proofs.Answer.{answers, leaves, demand1-judge}
use Rattle.demands.proofs.Stripes.{demand1-encode, demand1-rebuild, demand1-collect}
use Rattle.demands.proofs.Files.{total-says, demand1-cut}
use Rattle.demands.proofs.Batches.{demand1-rebuild-batch, demand1-rebuild-file}

-- ---- one reason more

module _ (c : Code) (w : Word) (ws : List Word) (ns : List ℕ) (Val : ℕ → Type 0) (t : Told) where
  skip : (w.holds → ⊥) → Tells c ws ns Val t → Tells c (w ∷ ws) (w.number ∷ ns) Val t
  skip out x = record {
    decided = record {
      given = λ n z. (λ e. inr (out, (x.decided.given n z).0 e), λ h. ⊎_elim (λ a. absurd (out a.0)) (λ a. (x.decided.given n z).1 a.1) h);
      done = (λ e. (out, x.decided.done.0 e), λ h. x.decided.done.1 h.1);
    };
    only = ⊎_elim (λ p. among-cons _ 0 (w.number ∷ ns) (inl p)) (λ a. among-cons _ 0 (w.number ∷ ns) (inr (among-cons _ w.number ns (inr a)))) (among-uncons _ 0 ns x.only);
    named = x.named;
    nothing = x.nothing;
    carried = x.carried;
    empty = x.empty;
  }

-- a refusal that names nothing
module _ (c : Code) (n : ℕ) (P : Type 0) (ws : List Word) (ns : List ℕ) (Val : ℕ → Type 0) (some : n ≢ 0) (bare : n ≢ 4) where
  stop : P → Tells c ((n because P) ∷ ws) (n ∷ ns) Val (record { number = n; first = 0; second = 0; value = 0 })
  stop p = record {
    decided = record {
      given = λ k z. (λ e. inl (p, e), λ h. ⊎_elim (λ a. a.1) (λ a. absurd (a.0 p)) h);
      done = (λ e. absurd (some e), λ h. absurd (h.0 p));
    };
    only = among-cons _ 0 (n ∷ ns) (inr (among-cons _ n ns (inl refl)));
    named = λ e. absurd (bare e);
    nothing = λ _. (refl, refl);
    carried = λ e. absurd (some e);
    empty = λ _. refl;
  }

-- ---- a code run

module _ (run : List ℕ) where
  is-code : is_code run ≡ true → NoCode run → ⊥
  is-code e n = n (eqb-true _ _ e)

  no_code : is_code run ≡ false → NoCode run
  no_code e = eqb-false _ _ e

  module _ (c : Code) (ws : List Word) (ns : List ℕ) (Val : ℕ → Type 0) (x : Told) where
    run-tells : Tells c ws ns Val x → Tells c (run_words run ++ ws) (5 ∷ ns) Val (coded run x)
    unfolding coded
    run-tells a =
        by-test (is_code run) (λ e. rw e (skip c (5 because NoCode run) ws ns Val x (is-code e) a))
        (λ e. rw e (stop c 5 (NoCode run) ws ns Val (λ z. omega arith) (λ z. omega arith) (no_code e)))

    total-tells : (t : ℕ) → Tells c ws ns Val x → Tells c (run_total run t ++ ws) (3 ∷ 5 ∷ ns) Val (coded_for run t x)
    unfolding coded_for misfit
    total-tells t a =
        by-test (is_code run)
        (λ e. rw e (skip c _ ((5 because NoCode run) ∷ ws) (5 ∷ ns) Val x (λ h. is-code e h.0) (skip c (5 because NoCode run) ws ns Val x (is-code e) a)))
        (λ e. by-test (totalled t)
        (λ f. rw (e, f) (skip c _ ((5 because NoCode run) ∷ ws) (5 ∷ ns) Val _ (λ h. apart (totalled t) f (not-true _ ((total-says t).1 h.1)))
        (stop c 5 (NoCode run) ws ns Val (λ z. omega arith) (λ z. omega arith) (no_code e))))
        (λ f. rw (e, f) (stop c 3 _ ((5 because NoCode run) ∷ ws) (5 ∷ ns) Val (λ z. omega arith) (λ z. omega arith) (no_code e, (total-says t).0 (ap not f)))))

    -- ---- what is left

    module _ (before whole after : List ℕ) where
      run-leaves : Leaves x.number before whole after → Leaves (coded run x).number before whole (kept run before after)
      unfolding coded kept
      run-leaves l = by-test (is_code run) (λ e. rw e l) (λ e. rw e (record { kept = λ _. refl; written = λ z. absurd (omega arith) }))

      total-leaves : (t : ℕ) → Leaves x.number before whole after → Leaves (coded_for run t x).number before whole (kept run before after)
      unfolding coded_for misfit kept
      total-leaves t l =
          by-test (is_code run) (λ e. rw e l)
          (λ e. by-test (totalled t) (λ f. rw (e, f) (record { kept = λ _. refl; written = λ z. absurd (omega arith) }))
          (λ f. rw (e, f) (record { kept = λ _. refl; written = λ z. absurd (omega arith) })))

      run-crosses : Tells c ws ns Val x → Leaves x.number before whole after
          → Crosses (run_words run) (5 ∷ []) c ws ns Val before whole (coded run x) (kept run before after)
      run-crosses a l = record { answer = run-tells a; output = run-leaves l }

      total-crosses : (t : ℕ) → Tells c ws ns Val x → Leaves x.number before whole after
          → Crosses (run_total run t) (3 ∷ 5 ∷ []) c ws ns Val before whole (coded_for run t x) (kept run before after)
      total-crosses t a l = record { answer = total-tells t a; output = total-leaves t l }

-- ---- a code run alone

pub demand1-out-judge : Demand1-out-judge (λ run. coded run (judged (code_at run 0)))
demand1-out-judge run = run-tells run (code_at run 0) _ _ _ (judged (code_at run 0)) (demand1-judge (code_at run 0))

pub demand1-out-encode : Demand1-out-encode (λ run v m o. coded run (encoded (code_at run 0) v m o)) (λ run v m o. kept run o (encode_leaves (code_at run 0) v m o))
demand1-out-encode run v m o =
    let c = code_at run 0 in
    run-crosses run c _ _ _ (encoded c v m o) o _ (encode_leaves c v m o) (demand1-encode.answer c v m o) (demand1-encode.output c v m o)

help-answers : (c : Code) (h f : ℕ) (s o : List ℕ) → Answers c (outside_help c h f s o) (5 ∷ 6 ∷ 7 ∷ []) (λ x. x ≡ 0) (help_told c h f s o)
unfolding help_told help_reasons judge_reasons
help-answers c h f s o =
    answers c _ (outside_help c h f s o) (λ x. x ≡ 0) 0 refl refl
    (step refl (lengths-says (length o, 1) ((length s, alpha c) ∷ []))
    (λ _. step refl (off-says (within c h) (within c f) (outside-says c h) (outside-says c f))
    (λ _. step refl (eqb-says h f)
    (λ _. end))))
    (λ _. refl)

help-output : (c : Code) (h f : ℕ) (s o : List ℕ) → Leaves (help_told c h f s o).number o ((symbol_for c f s).val ∷ []) (help_leaves c h f s o)
unfolding help_told help_leaves
help-output c h f s o = leaves (help_reasons c h f s o) (pair_in c) 0 o ((symbol_for c f s).val ∷ [])

pub demand1-out-help : Demand1-out-help (λ run h f s o. coded run (help_told (code_at run 0) h f s o)) (λ run h f s o. kept run o (help_leaves (code_at run 0) h f s o))
demand1-out-help run h f s o =
    let c = code_at run 0 in
    run-crosses run c _ _ _ (help_told c h f s o) o _ (help_leaves c h f s o) (help-answers c h f s o) (help-output c h f s o)

pub demand1-out-rebuild :
    Demand1-out-rebuild (λ run f hs ys ns o. coded run (rebuild_told (code_at run 0) f hs ys ns o)) (λ run f hs ys ns o. kept run o (rebuild_leaves (code_at run 0) f hs ys ns o))
demand1-out-rebuild run f hs ys ns o =
    let c = code_at run 0 in
    run-crosses run c _ _ _ (rebuild_told c f hs ys ns o) o _ (rebuild_leaves c f hs ys ns o) (demand1-rebuild.answer c f hs ys ns o) (demand1-rebuild.output c f hs ys ns o)

pub demand1-out-collect :
    Demand1-out-collect (λ run vs ns s o. coded run (collect_told (code_at run 0) vs ns s o)) (λ run vs ns s o. kept run o (collect_leaves (code_at run 0) vs ns s o))
demand1-out-collect run vs ns s o =
    let c = code_at run 0 in
    run-crosses run c _ _ _ (collect_told c vs ns s o) o _ (collect_leaves c vs ns s o) (demand1-collect.answer c vs ns s o) (demand1-collect.output c vs ns s o)

pub demand1-out-batch : Demand1-out-batch (λ run a b o. coded run (batch_told (code_at run 0) a b o)) (λ run a b o. kept run o (batch_leaves (code_at run 0) a b o))
demand1-out-batch run a b o =
    let c = code_at run 0 in
    run-crosses run c _ _ _ (batch_told c a b o) o _ (batch_leaves c a b o) (demand1-rebuild-batch.answer c a b o) (demand1-rebuild-batch.output c a b o)

-- ---- a code run and a stripe total

pub demand1-out-file :
    Demand1-out-file (λ run a t bs o. coded_for run t (whole_told (code_at run 0) a t bs o)) (λ run a t bs o. kept run o (whole_leaves (code_at run 0) a t bs o))
demand1-out-file run a t bs o =
    let c = code_at run 0 in
    total-crosses run c _ _ _ (whole_told c a t bs o) o _ (whole_leaves c a t bs o) t (demand1-rebuild-file.answer c a t bs o) (demand1-rebuild-file.output c a t bs o)

pub demand1-out-cut :
    Demand1-out-cut (λ run v t book o. coded_for run t (cut_told (code_at run 0) v t book o)) (λ run v t book o. kept run o (cut_leaves (code_at run 0) v t book o))
demand1-out-cut run v t book o =
    let c = code_at run 0 in
    total-crosses run c _ _ _ (cut_told c v t book o) o _ (cut_leaves c v t book o) t (demand1-cut.answer c v t book o) (demand1-cut.output c v t book o)
