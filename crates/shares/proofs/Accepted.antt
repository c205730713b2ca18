-- Accepted share files: what is known of one, and that a file made afresh is one.
--   clear-append      no reason of two lists holds
--   Facts, facts      what is known of an accepted file;   good-count, good-value    what the judge's answer says of it
--   code-stands, node-stands, stripe-stands, stripe-good     records that stand in their places
--   judged-afresh     a file made afresh of an accepted code is accepted, with its count
-- Assumes nothing.
use mathlib.Core.Path.{◌≡◌, ◌∙◌, sym, ap, ap₂, subst}
use mathlib.Core.Bool.{true, not, or-true}
use mathlib.Core.List.{List, [], ◌∷◌, ◌++◌}
use mathlib.Core.Logic.{by_cases}
use Prim.Native.Nat.{ℕ, ◌+◌, ◌<◌, ◌≤◌}
use native.Mathlib.Decide.{dec_lt}
use native.Mathlib.Omega.{arith}
use borrow.Author.Tests.{eq-eqb, le-leb, lt-ltb, eqb-true, not-false}
use lib.ListN.{length, get_or}
use Rattle.records.specs.Kinds.{body_of}
use Rattle.records.specs.Numbers.{number_at}
use Rattle.records.specs.Reading.{whole_as}
use Rattle.records.proofs.Whole.{reads_as}
use Rattle.codes.specs.Told.{Told, Reason, done, answered}
use Rattle.codes.specs.Reasons.{Clear}
use Rattle.codes.specs.Rules.{Rules}
use Rattle.codes.specs.Sizes.{alpha}
use Rattle.codes.specs.Judge.{judge_reasons, judged, pair_in}
use Rattle.codes.specs.declared.Code.{Code}
use Rattle.codes.proofs.Bools.{both}
use Rattle.codes.proofs.Rules.{rules, accepted, judge-numbered}
use Rattle.codes.proofs.Sizes.{alpha-high}
use Rattle.codes.proofs.Told.{done-clear, clear-done}
use Rattle.stripes.specs.Lists.{within}
use Rattle.shares.specs.Fields.{code_in, node_in, stripes_in, count_in, stripe_at}
use Rattle.shares.specs.File.{below, zero_past, spare, stripe_good, totalled, node_reasons, file_reasons, file_told, given}
use Rattle.shares.specs.Afresh.{afresh}
use Rattle.shares.proofs.Below.{below_each}
use Rattle.shares.proofs.Answers.{given-done}
use Rattle.shares.proofs.Stripes.{is_read}
use Rattle.shares.proofs.Ladder.{node-clear}
use Rattle.shares.proofs.Fresh.{afresh-length, afresh-code, afresh-node, afresh-total, afresh-count, afresh-head, afresh-mark, afresh-kind, afresh-number, afresh-spare}

pub clear-append : (rs more : List Reason) → Clear rs → Clear more → Clear (rs ++ more)
clear-append [] more h k = k
clear-append (r ∷ rs) more h k = (h.0, clear-append rs more h.1 k)

pub code-clear : (c : Code) → Rules c → Clear (judge_reasons c)
unfolding judged
code-clear c r = done-clear (judge_reasons c) (pair_in c) 0 0 (judge-numbered c) (sym (accepted c r))

pub file-clear-when : (s : List ℕ) → whole_as s 0 0x43 ≡ true → Clear (judge_reasons (code_in s)) → Clear (node_reasons s) → Clear (file_reasons s)
unfolding file_reasons
file-clear-when s w h k = (ap not w, clear-append (judge_reasons (code_in s)) (node_reasons s) h k)

pub accepted-told : (s : List ℕ) → Clear (file_reasons s) → file_told s ≡ done (count_in s)
unfolding file_told
accepted-told s h = clear-done (file_reasons s) (pair_in (code_in s)) (count_in s) h

-- ---- what is known of an accepted file

clear_first : (rs more : List Reason) → Clear (rs ++ more) → Clear rs
clear_first [] more h = tt
clear_first (r ∷ rs) more h = (h.0, clear_first rs more h.1)

clear-last : (rs more : List Reason) → Clear (rs ++ more) → Clear more
clear-last [] more h = h
clear-last (r ∷ rs) more h = clear-last rs more h.1

pub record Facts (s : List ℕ) : Type 0 where
  pub rules : Rules (code_in s)
  pub total : totalled (stripes_in s) ≡ true
  pub node : within (code_in s) (node_in s) ≡ true
  pub long : length s ≡ stripe_at (stripes_in s)

module _ (s : List ℕ) (h : Clear (file_reasons s)) where
  pub judge-part : Clear (judge_reasons (code_in s))
  unfolding file_reasons
  judge-part = clear_first (judge_reasons (code_in s)) (node_reasons s) h.1

  pub node-part : Clear (node_reasons s)
  unfolding file_reasons
  node-part = clear-last (judge_reasons (code_in s)) (node_reasons s) h.1

  pub facts : Facts s
  unfolding judged node_reasons
  facts =
      let n = node-part in
      record {
        rules = rules (code_in s) (clear-done (judge_reasons (code_in s)) (pair_in (code_in s)) 0 judge-part);
        total = not-false _ n.1.0;
        node = not-false _ n.1.1.0;
        long = eqb-true (length s) (stripe_at (stripes_in s)) (not-false _ n.1.1.1.1.0);
      }

  -- what a done answer of the judge says
  pub good-count : (m : ℕ) → done m ≡ answered (file_reasons s) (pair_in (code_in s)) (count_in s) → m ≡ count_in s
  good-count m e = ap (λ (t : Told). t.value) (e ∙ clear-done (file_reasons s) (pair_in (code_in s)) (count_in s) h)

  pub good-value : (w v : ℕ) → w ≡ given (file_reasons s) v → w ≡ v
  good-value w v e = e ∙ sym (given-done (file_reasons s) v h)

stands-as : (s : List ℕ) (place kind : ℕ) → get_or s place 0 ≡ kind → (body_of kind ≡ 0 → ⊥) → place + 1 + body_of kind ≤ length s → whole_as s place kind ≡ true
stands-as s place kind e n h = is_read s place kind _ _ _ (reads_as s place kind e n h)

module _ (s : List ℕ) where
  pub code-stands : get_or s 0 0 ≡ 0x43 → 37 ≤ length s → whole_as s 0 0x43 ≡ true
  unfolding body_of
  code-stands e h = stands-as s 0 0x43 e (λ z. omega (arith, z)) h

  pub node-stands : get_or s 37 0 ≡ 0x4E → 45 ≤ length s → whole_as s 37 0x4E ≡ true
  unfolding body_of
  node-stands e h = stands-as s 37 0x4E e (λ z. omega (arith, z)) h

  pub stripe-stands : (place : ℕ) → get_or s place 0 ≡ 0x44 → place + 34 ≤ length s → whole_as s place 0x44 ≡ true
  unfolding body_of
  stripe-stands place e h = stands-as s place 0x44 e (λ z. omega (arith, z)) (omega arith)

  pub stripe-good : (a i : ℕ) → whole_as s (stripe_at i) 0x44 ≡ true → number_at 2 s (stripe_at i + 1) ≡ i
      → ((j : ℕ) → a ≤ j → j < 31 → get_or s (stripe_at i + 3 + j) 0 ≡ 0) → stripe_good a s i ≡ true
  unfolding stripe_good spare
  stripe-good a i w n z =
      both _ _ (both _ _ w (eq-eqb _ _ n))
      (below_each 31 (zero_past a s (stripe_at i + 3))
      (λ j h. by_cases (dec_lt j a) (λ l. simp (lt-ltb j a l)) (λ l. simp (eq-eqb _ _ (z j (omega arith) h), or-true))))

module _ (c : Code) (R : Rules c) (long : length c.points ≡ 32) (v t m : ℕ) (book : List ℕ)
    (few : 1 ≤ t) (many : t ≤ 1024) (first : 1 ≤ v) (last : v ≤ c.n) (counted : m < 4294967296) where
  abbrev File : List ℕ
  File = afresh c v t m book

  narrow : alpha c ≤ 31
  narrow = alpha-high c R

  stripe : (i : ℕ) → i < t → stripe_good (alpha c) File i ≡ true
  stripe i h =
      stripe-good File (alpha c) i
      (stripe-stands File (stripe_at i) (afresh-kind c v t m book long narrow i h) (omega (arith, afresh-length c v t m book long narrow)))
      (afresh-number c v t m book long narrow i h (omega arith)) (afresh-spare c v t m book long narrow i h)

  pub afresh-clear : Clear (file_reasons File)
  afresh-clear =
      let l = afresh-length c v t m book long narrow in
      let q = afresh-code c v t m book long in
      let n = afresh-node c v t m book long in
      let e = afresh-total c v t m book long (omega arith) in
      let w = ap₂ within q n ∙ both _ _ (le-leb 1 v first) (le-leb v c.n last) in
      let u = ap totalled e ∙ both _ _ (le-leb 1 t few) (le-leb t 1024 many) in
      let b = ap₂ (λ (i : ℕ) (x : Code). below i (stripe_good (alpha x) File)) e q ∙ below_each t (stripe_good (alpha c) File) stripe in
      file-clear-when File (code-stands File (afresh-head c v t m book long) (omega (arith, l)))
      (subst (λ (x : Code). Clear (judge_reasons x)) (sym q) (code-clear c R))
      (node-clear File (node-stands File (afresh-mark c v t m book long) (omega (arith, l))) u w b (l ∙ ap stripe_at (sym e)))

  pub judged-afresh : file_told File ≡ done m
  judged-afresh = accepted-told File afresh-clear ∙ ap done (afresh-count c v t m book long counted)
