-- Our operations on a stripe meet demand 1: demand1-encode, demand1-help, demand1-rebuild, demand1-collect.
-- Assumes nothing.
use mathlib.Core.Path.{◌≡◌, refl}
use mathlib.Core.Logic.{inl, inr, ◌≢◌}
use mathlib.Core.Bool.{not}
use mathlib.Core.List.{List, [], ◌∷◌}
use Prim.Native.Nat.{ℕ, ◌*◌, ◌<◌}
use native.Mathlib.Omega.{arith}
use lib.ListN.{length, get_or}
use Rattle.codes.specs.Sizes.{alpha, bytes}
use Rattle.codes.specs.Share.{share, symbol_for}
use Rattle.codes.specs.Rebuild.{rebuilt}
use Rattle.codes.specs.Collect.{collected}
use Rattle.codes.specs.Judge.{sized, judge_reasons, pair_in}
use Rattle.codes.specs.Rules.{Sized}
use Rattle.codes.specs.declared.Code.{Code}
use Rattle.codes.proofs.Bools.{apart, by-test}
use Rattle.codes.proofs.Tests.{sized-when, sized-only}
use Rattle.stripes.specs.Lists.{every, has, repeats, within}
use Rattle.stripes.specs.Encode.{encode_reasons, encoded, encode_leaves}
use Rattle.stripes.specs.Help.{help_reasons, helped}
use Rattle.rebuilds.specs.Rebuild.{rebuild_reasons, rebuild_told, rebuild_leaves}
use Rattle.collects.specs.Collect.{collect_reasons, collect_told, collect_leaves}
use Rattle.demands.specs.Inputs.{Among, Outside, Differing, Common}
use Rattle.demands.specs.Stripes.{encode_words, help_words, rebuild_words, collect_words, Demand1-encode, Demand1-help, Demand1-rebuild, Demand1-collect}
use Rattle.demands.proofs.Says.{Says, or-says, off-says, eqb-says}
use Rattle.demands.proofs.Inputs.{lengths-says, outside-says, every-says, has-says, repeats-says, differ-says, agree, common}
use Rattle.demands.proofs.Words.{end, step}
use Rattle.demands.proofs.Answer.{answers, leaves}

pub demand1-encode : Demand1-encode encoded encode_leaves
unfolding encoded encode_leaves encode_reasons judge_reasons
demand1-encode = record {
  answer = λ c v m o. answers c _ (encode_words c v m o) (λ x. x ≡ 0) 0 refl refl
      (step refl (lengths-says (length m, bytes c) ((length o, alpha c) ∷ []))
      (λ _. step refl (outside-says c v)
      (λ _. end)))
      (λ _. refl);
  output = λ c v m o. leaves (encode_reasons c v m o) (pair_in c) 0 o (share c v m);
}

pub demand1-help : Demand1-help helped
unfolding helped help_reasons judge_reasons
demand1-help = record {
  answer = λ c h f s. answers c _ (help_words c h f s) (λ x. x ≡ (symbol_for c f s).val) (symbol_for c f s).val refl refl
      (step refl (lengths-says (length s, alpha c) [])
      (λ _. step refl (off-says (within c h) (within c f) (outside-says c h) (outside-says c f))
      (λ _. step refl (eqb-says h f)
      (λ _. end))))
      (λ _. refl);
}

-- a list of nodes, one of which is outside
all-says : (c : Code) (vs : List ℕ) → Says (not (every (within c) vs)) (Among (Outside c) vs)
all-says c vs = every-says (within c) (Outside c) (outside-says c) vs

-- the counts of an accepted code's helpers or shares, where none differ
counts : (c : Code) (ns : List ℕ) (s : ℕ) → ((Sized c → ⊥) → ⊥) → (Sized c → 0 < s) → (length ns ≢ s → ⊥) → (Differing ns → ⊥) → Common ns (get_or ns 0 0)
counts c ns s e h l d =
    let z : 0 < s = by-test (sized c) (λ t. h (sized-only c t)) (λ t. absurd (e (λ r. apart _ (sized-when c r) t))) in
    common ns (omega (arith, agree (length ns) s l)) d

pub demand1-rebuild : Demand1-rebuild rebuild_told rebuild_leaves
unfolding rebuild_told rebuild_leaves rebuild_reasons judge_reasons
demand1-rebuild = record {
  answer = λ c f hs ys ns o. answers c _ (rebuild_words c f hs ys ns o) (Common ns) (get_or ns 0 0) refl refl
      (step refl (lengths-says (length hs, c.d) ((length ys, c.d) ∷ (length ns, c.d) ∷ (length o, alpha c) ∷ []))
      (λ _. step refl (off-says (within c f) (every (within c) hs) (outside-says c f) (all-says c hs))
      (λ _. step refl (or-says (has f hs) (repeats hs) (has-says f hs) (repeats-says hs))
      (λ _. step refl (differ-says ns)
      (λ _. end)))))
      (λ h. counts c ns c.d h.1.0 (λ z. omega arith) (λ n. h.1.1.1.0 (inr (inr (inl n)))) h.1.1.1.1.1.1.0);
  output = λ c f hs ys ns o. leaves (rebuild_reasons c f hs ys ns o) (pair_in c) (get_or ns 0 0) o (rebuilt c f hs ys);
}

pub demand1-collect : Demand1-collect collect_told collect_leaves
unfolding collect_told collect_leaves collect_reasons judge_reasons
demand1-collect = record {
  answer = λ c vs ns s o. answers c _ (collect_words c vs ns s o) (Common ns) (get_or ns 0 0) refl refl
      (step refl (lengths-says (length vs, c.k) ((length ns, c.k) ∷ (length s, c.k * alpha c) ∷ (length o, bytes c) ∷ []))
      (λ _. step refl (all-says c vs)
      (λ _. step refl (repeats-says vs)
      (λ _. step refl (differ-says ns)
      (λ _. end)))))
      (λ h. counts c ns c.k h.1.0 (λ z. omega arith) (λ n. h.1.1.1.0 (inr (inl n))) h.1.1.1.1.1.1.0);
  output = λ c vs ns s o. leaves (collect_reasons c vs ns s o) (pair_in c) (get_or ns 0 0) o (collected c vs s);
}
