-- Our operations on a stripe meet demand 2: what our encoder leaves is collected and rebuilt.
--   gathered-shares, sent-symbols     runs and symbols of the published shares
--   demand2                           the demand
-- Assumes nothing.
use mathlib.Core.Path.{◌≡◌, ◌∙◌, refl, sym, ap, ap₂}
use mathlib.Core.Logic.{◌≢◌}
use mathlib.Core.List.{List, [], ◌∷◌, ◌++◌, map}
use Prim.Native.Nat.{ℕ, suc, ◌<◌, ◌≤◌}
use native.Mathlib.Omega.{arith}
use lib.ListN.{length, get_or}
use borrow.Author.Tests.{eq-eqb, ne_eqb}
use Rattle.algebra.specs.Symbol.{F}
use Rattle.algebra.specs.Bytes.{table}
use Rattle.codes.specs.Told.{Told, done}
use Rattle.codes.specs.Judge.{pair_in, judged}
use Rattle.codes.specs.Sizes.{alpha}
use Rattle.codes.specs.Share.{share, symbol_for, symbols_for, shares_of}
use Rattle.codes.specs.declared.Code.{Code}
use Rattle.codes.proofs.Rules.{accepted}
use Rattle.codes.proofs.Slip.{share-length}
use Rattle.stripes.specs.Lists.{within}
use Rattle.stripes.specs.Encode.{encode_reasons, encoded, encode_leaves}
use Rattle.stripes.specs.Help.{help_reasons, helped}
use Rattle.stripes.proofs.Ladder.{judged-done, done-leaves}
use Rattle.rebuilds.specs.Rebuild.{rebuild_told, rebuild_leaves}
use Rattle.collects.specs.Collect.{collect_told, collect_leaves}
use Rattle.demands.specs.Honest.{Asked, Gathers}
use Rattle.demands.specs.Stored.{ours, stored, gathered, sent, Given, Demand2}
use Rattle.demands.proofs.Honest.{is_within, not-both, demand2-rebuild, demand2-collect}

-- ---- runs and symbols of the published shares

pub gathered-shares : (c : Code) (m : List ℕ) (g : ℕ → List ℕ) (vs : List ℕ)
    → ((t : ℕ) → t < length vs → g (get_or vs t 0) ≡ share c (get_or vs t 0) m) → gathered g vs ≡ shares_of c vs m
unfolding gathered shares_of
gathered-shares c m g [] h = refl
gathered-shares c m g (v ∷ vs) h =
    ap₂ (λ (x y : List ℕ). x ++ y) (h 0 (omega arith)) (gathered-shares c m g vs (λ t l. h (suc t) (omega arith)))

pub sent-symbols : (p : ℕ → ℕ) (y : ℕ → F) (hs : List ℕ)
    → ((t : ℕ) → t < length hs → p (get_or hs t 0) ≡ (y (get_or hs t 0)).val) → map p hs ≡ table (length hs) (λ t. y (get_or hs t 0))
unfolding table
sent-symbols p y [] e = refl
sent-symbols p y (h ∷ hs) e =
    ap₂ (λ (x : ℕ) (xs : List ℕ). x ∷ xs) (e 0 (omega arith)) (sent-symbols p y hs (λ t l. e (suc t) (omega arith)))

-- ---- encoding and helping

module _ {c : Code} {m : List ℕ} {r : ℕ → List ℕ} (G : Given c m r) where
  good : done 0 ≡ judged c
  good = sym (accepted c G.rules)

  module _ (v : ℕ) (from : 1 ≤ v) (to : v ≤ c.n) where
    encode-done : done 0 ≡ encoded c v m (r v)
    unfolding encoded encode_reasons
    encode-done =
        judged-done c good _ 0 (simp (eq-eqb _ _ G.message.long, eq-eqb _ _ (G.rooms v)), (is_within c v from to, tt))

    encode-left : encode_leaves c v m (r v) ≡ share c v m
    unfolding encode_leaves encoded
    encode-left = sym (done-leaves (encode_reasons c v m (r v)) (pair_in c) 0 (share c v m) (r v) 0 encode-done)

  module _ (h f : ℕ) (h-from : 1 ≤ h) (h-to : h ≤ c.n) (f-from : 1 ≤ f) (f-to : f ≤ c.n) (other : h ≢ f) where
    help-done : (s : List ℕ) → length s ≡ alpha c → done (symbol_for c f s).val ≡ helped c h f s
    unfolding helped help_reasons
    help-done s l =
        judged-done c good _ (symbol_for c f s).val (
          simp (eq-eqb _ _ l),
          (not-both (within c h) (within c f) (is_within c h h-from h-to) (is_within c f f-from f-to), (ne_eqb h f other, tt)),
        )

    help-told : helped c h f (encode_leaves c h m (r h)) ≡ done (symbol_for c f (share c h m)).val
    help-told = ap (helped c h f) (encode-left h h-from h-to) ∙ sym (help-done (share c h m) (share-length c h m))

  -- ---- collecting

  module _ {vs ns : List ℕ} {n : ℕ} {o : List ℕ} (A : Gathers c vs ns n o) where
    run : gathered (stored ours c m r) vs ≡ shares_of c vs m
    run =
        gathered-shares c m (stored ours c m r) vs
        (λ t l. encode-left (get_or vs t 0) (A.nodes.from t (omega (arith, A.nodes.long))) (A.nodes.to t (omega (arith, A.nodes.long))))

    collected-back : (collect_told c vs ns (gathered (stored ours c m r) vs) o ≡ done n) × (collect_leaves c vs ns (gathered (stored ours c m r) vs) o ≡ m)
    collected-back =
        let d = demand2-collect c G.rules m G.message vs ns n o A in
        (ap (λ (s : List ℕ). collect_told c vs ns s o) run ∙ d.0, ap (λ (s : List ℕ). collect_leaves c vs ns s o) run ∙ d.1)

  -- ---- rebuilding

  module _ {f : ℕ} {hs ns : List ℕ} {n : ℕ} {o : List ℕ} (A : Asked c f hs ns n o) where
    told-symbol : (t : ℕ) → t < length hs → (helped c (get_or hs t 0) f (encode_leaves c (get_or hs t 0) m (r (get_or hs t 0)))).value ≡ (symbol_for c f (share c (get_or hs t 0) m)).val
    told-symbol t l =
        ap (λ (x : Told). x.value)
        (help-told (get_or hs t 0) f (A.helpers.from t (omega (arith, A.helpers.long))) (A.helpers.to t (omega (arith, A.helpers.long))) A.from A.to
        (λ e. A.other (record { place = t; within = l; is = sym e })))

    symbols : sent ours c m r f hs ≡ symbols_for c f hs m
    symbols =
        sent-symbols (λ (h : ℕ). (helped c h f (encode_leaves c h m (r h))).value) (λ (h : ℕ). symbol_for c f (share c h m)) hs told-symbol
        ∙ ap (λ (i : ℕ). table i (λ t. symbol_for c f (share c (get_or hs t 0) m))) A.helpers.long

    rebuilt-back : (rebuild_told c f hs (sent ours c m r f hs) ns o ≡ done n) × (rebuild_leaves c f hs (sent ours c m r f hs) ns o ≡ stored ours c m r f)
    rebuilt-back =
        let d = demand2-rebuild c G.rules m f hs ns n o A in (
          ap (λ (ys : List ℕ). rebuild_told c f hs ys ns o) symbols ∙ d.0,
          ap (λ (ys : List ℕ). rebuild_leaves c f hs ys ns o) symbols ∙ d.1 ∙ sym (encode-left f A.from A.to),
        )

pub demand2 : Demand2 ours
demand2 = record {
  encodes = λ c m r G v from to. sym (encode-done G v from to);
  collects = λ c m r G vs ns n o A. collected-back G A;
  helps = λ c m r G h f h-from h-to f-from f-to other. help-told G h f h-from h-to f-from f-to other;
  rebuilds = λ c m r G f hs ns n o A. rebuilt-back G A;
  publishes = λ c m r G v from to. encode-left G v from to;
}
