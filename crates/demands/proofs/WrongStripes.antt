-- Wrong operations on a stripe do not meet demand 2. Each falls by the part that encodes and collects, whatever the published code is:
-- an encoder beside any collector at all, and a collector beside any encoder at all.
--   blind-encoder     an encoder whose share does not depend on the message
--   zeros-encoded     an encoder that gives zeros
--   first-copied      a collector that gives the first share
--   first-over        a collector that writes the first share over the first bytes of the output
-- The codes are document 01's smallest, with the messages 9 and 8, and its code A, with its message.
-- Assumes nothing.
use mathlib.Core.Path.{◌≡◌, ◌∙◌, refl, sym, ap}
use mathlib.Core.Logic.{◌≢◌}
use mathlib.Core.List.{List, [], ◌∷◌, ◌++◌}
use Prim.Native.Nat.{ℕ, zero, suc, ◌+◌, ◌<◌, ◌≤◌}
use native.Mathlib.Omega.{arith}
use lib.ListN.{length, get_or, replicate, take, drop, length-replicate, get_or-replicate, length-append, length-take}
use lib.Seq.{get_or-append-add}
use Rattle.codes.specs.Told.{Told, done, refusal, tell, answered}
use Rattle.codes.specs.First.{first}
use Rattle.codes.specs.Sizes.{alpha, bytes}
use Rattle.codes.specs.Judge.{known, sized, mark, marks, pair_first, pair_second, unused_at, pointed, judge_reasons, judged}
use Rattle.codes.specs.declared.Code.{Code}
use Rattle.codes.proofs.Rules.{rules}
use Rattle.demands.specs.Honest.{Counts, Gathers}
use Rattle.demands.specs.Stored.{Stripes, stored, gathered, Given, Encodes, Collects}
use Rattle.demands.proofs.Wrong.{smallest, good, one_byte}

-- counts that are all 0, and outputs that hold zeros

long : (k : ℕ) → length (replicate {A = ℕ} k 0) ≡ k
long k = length-replicate {A = ℕ} k 0

fresh : (k : ℕ) → 0 < k → Counts (replicate k 0) k 0
fresh k h = record {
  long = long k;
  equal = record { some = omega (arith, long k); all = λ i l. get_or-replicate {A = ℕ} k i 0 0 (omega (arith, long k)) };
}

abbrev Room : Code → ℕ → List ℕ
Room c v = replicate (alpha c) 0

abbrev Output : Code → List ℕ
Output c = replicate (bytes c) 0

-- ---- the encoder: the smallest code, whose message has one byte

small-given : (x : ℕ) → x < 256 → Given smallest (x ∷ []) (Room smallest)
small-given x l = record {
  rules = rules smallest good;
  message = record { long = sym one_byte; byte = byte };
  rooms = λ v. long (alpha smallest);
}
  where
    byte : (i : ℕ) → i < bytes smallest → get_or (x ∷ []) i 0 < 256
    byte zero h = l
    byte (suc i) h = absurd (omega (arith, one_byte))

small-gathers : Gathers smallest (1 ∷ []) (replicate 1 0) 0 (Output smallest)
small-gathers = record {
  nodes = record { long = refl; from = at_least; to = at_most; differ = λ i j a b. absurd (omega arith) };
  counts = fresh 1 (omega arith);
  room = long (bytes smallest);
}
  where
    at_least : (t : ℕ) → t < 1 → 1 ≤ get_or (1 ∷ []) t 0
    at_least zero h = omega arith
    at_least (suc t) h = absurd (omega arith)

    at_most : (t : ℕ) → t < 1 → get_or (1 ∷ []) t 0 ≤ 2
    at_most zero h = omega arith
    at_most (suc t) h = absurd (omega arith)

module _ (O : Stripes) (E : Encodes O) (C : Collects O) where
  told : (x : ℕ) → x < 256 → (O.encode_tells smallest 1 (x ∷ []) (Room smallest 1)).number ≡ 0
  told x l = ap (λ (t : Told). t.number) (E smallest (x ∷ []) (Room smallest) (small-given x l) 1 (omega arith) (omega arith))

  back : (x : ℕ) → x < 256
      → O.collect_gives smallest (1 ∷ []) (replicate 1 0) (O.encode_gives smallest 1 (x ∷ []) (Room smallest 1) ++ []) (Output smallest) ≡ x ∷ []
  unfolding gathered
  back x l = (C smallest (x ∷ []) (Room smallest) (small-given x l) (1 ∷ []) (replicate 1 0) 0 (Output smallest) small-gathers).1

  pub blind-encoder : ((c : Code) (v : ℕ) (m n o : List ℕ) → (O.encode_tells c v m o).number ≡ 0 → (O.encode_tells c v n o).number ≡ 0
      → O.encode_gives c v m o ≡ O.encode_gives c v n o) → ⊥
  blind-encoder h =
      let e = h smallest 1 (9 ∷ []) (8 ∷ []) (Room smallest 1) (told 9 (omega arith)) (told 8 (omega arith)) in
      let f : ◌≡◌ {A = List ℕ} (9 ∷ []) (8 ∷ []) =
      sym (back 9 (omega arith)) ∙ ap (λ (s : List ℕ). O.collect_gives smallest (1 ∷ []) (replicate 1 0) (s ++ []) (Output smallest)) e ∙ back 8 (omega arith) in
      omega (arith, ap (λ (s : List ℕ). get_or s 0 0) f)

  pub zeros-encoded : ((c : Code) (v : ℕ) (m o : List ℕ) → (O.encode_tells c v m o).number ≡ 0 → O.encode_gives c v m o ≡ replicate (length o) 0) → ⊥
  zeros-encoded z = blind-encoder (λ c v m n o a b. z c v m o a ∙ sym (z c v n o b))

-- ---- the collector: code A, whose share has 3 bytes and whose message has 5

abbrev code_a : Code
code_a = record {
  kind = 1;
  n = 4;
  k = 2;
  d = 3;
  points = record { 0 = 1 } ∷ record { 0 = 2 } ∷ record { 0 = 3 } ∷ record { 0 = 4 } ∷ replicate 28 (record { 0 = 0 });
}

abbrev message_a : List ℕ
message_a = 1 ∷ 2 ∷ 3 ∷ 4 ∷ 5 ∷ []

abbrev nodes_a : List ℕ
nodes_a = 1 ∷ 2 ∷ []

good_a : judged code_a ≡ done 0
unfolding judged judge_reasons answered tell refusal known sized pointed marks mark pair_first pair_second unused_at first
good_a = refl

three : alpha code_a ≡ 3
unfolding alpha
three = refl

five : bytes code_a ≡ 5
unfolding bytes
five = refl

given-A : Given code_a message_a (Room code_a)
given-A = record {
  rules = rules code_a good_a;
  message = record { long = sym five; byte = byte };
  rooms = λ v. long (alpha code_a);
}
  where
    byte : (i : ℕ) → i < bytes code_a → get_or message_a i 0 < 256
    byte zero h = omega arith
    byte (suc zero) h = omega arith
    byte (suc (suc zero)) h = omega arith
    byte (suc (suc (suc zero))) h = omega arith
    byte (suc (suc (suc (suc zero)))) h = omega arith
    byte (suc (suc (suc (suc (suc i))))) h = absurd (omega (arith, five))

gathers-A : Gathers code_a nodes_a (replicate 2 0) 0 (Output code_a)
gathers-A = record {
  nodes = record { long = refl; from = at_least; to = at_most; differ = apart };
  counts = fresh 2 (omega arith);
  room = long (bytes code_a);
}
  where
    at_least : (t : ℕ) → t < 2 → 1 ≤ get_or nodes_a t 0
    at_least zero h = omega arith
    at_least (suc zero) h = omega arith
    at_least (suc (suc t)) h = absurd (omega arith)

    at_most : (t : ℕ) → t < 2 → get_or nodes_a t 0 ≤ 4
    at_most zero h = omega arith
    at_most (suc zero) h = omega arith
    at_most (suc (suc t)) h = absurd (omega arith)

    apart : (i j : ℕ) → i < j → j < 2 → get_or nodes_a i 0 ≢ get_or nodes_a j 0
    apart zero zero a b = absurd (omega arith)
    apart zero (suc zero) a b = λ e. omega arith
    apart zero (suc (suc j)) a b = absurd (omega arith)
    apart (suc i) j a b = absurd (omega arith)

-- the message does not end in two zeros
ends : (xs : List ℕ) → message_a ≡ xs ++ (0 ∷ 0 ∷ []) → ⊥
ends xs e =
    let l : 5 ≡ length xs + 2 = ap (λ (s : List ℕ). length s) e ∙ length-append xs (0 ∷ 0 ∷ []) in
    let n : 4 ≡ length xs + 1 = omega arith in
    let z : get_or message_a (length xs + 1) 0 ≡ 0 = ap (λ (s : List ℕ). get_or s (length xs + 1) 0) e ∙ get_or-append-add xs (0 ∷ 0 ∷ []) 1 0 in
    let b : 5 ≡ get_or message_a (length xs + 1) 0 = ap (λ (i : ℕ). get_or message_a i 0) n in
    omega (arith, b ∙ z)

module _ (O : Stripes) (C : Collects O) where
  abbrev Run : List ℕ
  Run = gathered (stored O code_a message_a (Room code_a)) nodes_a

  collected-A : (O.collect_tells code_a nodes_a (replicate 2 0) Run (Output code_a) ≡ done 0)
      × (O.collect_gives code_a nodes_a (replicate 2 0) Run (Output code_a) ≡ message_a)
  collected-A = C code_a message_a (Room code_a) given-A nodes_a (replicate 2 0) 0 (Output code_a) gathers-A

  done-A : (O.collect_tells code_a nodes_a (replicate 2 0) Run (Output code_a)).number ≡ 0
  done-A = ap (λ (t : Told). t.number) collected-A.0

  pub first-copied : ((c : Code) (vs ns s o : List ℕ) → (O.collect_tells c vs ns s o).number ≡ 0 → O.collect_gives c vs ns s o ≡ take (alpha c) s) → ⊥
  first-copied h =
      let e : message_a ≡ take (alpha code_a) Run = sym collected-A.1 ∙ h code_a nodes_a (replicate 2 0) Run (Output code_a) done-A in
      let l : 5 ≡ length (take (alpha code_a) Run) = ap (λ (s : List ℕ). length s) e in
      omega (arith, length-take (alpha code_a) Run, three)

  pub first-over : ((c : Code) (vs ns s o : List ℕ) → (O.collect_tells c vs ns s o).number ≡ 0
      → O.collect_gives c vs ns s o ≡ take (alpha c) s ++ drop (alpha c) o) → ⊥
  first-over h =
      ends (take 3 Run)
      (sym collected-A.1 ∙ h code_a nodes_a (replicate 2 0) Run (Output code_a) done-A
      ∙ ap (λ (a : ℕ). take a Run ++ drop a (Output code_a)) three ∙ ap (λ (b : ℕ). take 3 Run ++ drop 3 (replicate b 0)) five)
