-- Demand 3: what may happen to the shares of a book, and what is then so of each share that is held.
--   Operations              taking a slip and rebuilding a file: what each tells, and what it leaves in the file or the output
--   ours                    those that the promises cite
--   Setting, Fair           one code, one stripe total, one book and one numbered list of slips, and what is asked of them
--   slip_at, record_at S i    the slip i + 1 of the list, and its P record
--   book_at S m              the book with the first m slips applied once each
--   fresh_at S v m           the share of the station v at count m, encoded afresh from that book
--   sent_again S s m n       the file s after the slips m + 1 to m + n of the list are delivered to it in turn
--   Slot, World             a station's share file, or none; and that of each station
--   first_world S            fresh shares of the book at the stations 1 to n
--   joined g i n            the runs g i, g (i + 1), .., n of them, end to end
--   help_of c s f i          the H record of the station with the share file s, for the failed station f and the stripe i
--   batches_of S w f hs      the H records of each stripe's helpers, stripe by stripe: hs i lists those of the stripe i
--   Call, tells, leaves     a call that may be refused with a share file in its hands: any operation that writes in a lent run
--   Event, after            what happens, and the world after it;   Allowed    when it may happen
--   HeldAt, Helped          a share held at a count; what a rebuild takes: for each stripe d different other stations, all at one count for all stripes
--   Reached                 a world that some sequence of events leads to
--   Touched c i s u         u is the file s with its count one more and at most two share bytes of the stripe i changed
--   Next, Kept, Renewed, Demand3     the demand, of any operations
-- Assumes nothing.
use Rattle.std.specs.Prelude.{◌≡◌, ◌⊎◌, ◌≢◌, cond, List, [], ◌++◌, ℕ, zero, suc, ◌+◌, ◌*◌, ◌<◌, ◌≤◌, eqb, length, get_or, take}
use Rattle.codes.specs.Told.{Told, done, refused}
use Rattle.codes.specs.Rules.{Rules, Chosen}
use Rattle.codes.specs.Sizes.{alpha, bytes}
use Rattle.codes.specs.Share.{symbol_for}
use Rattle.codes.specs.declared.Code.{Code}
use Rattle.codes.specs.declared.Refusal.TheVariants.{Order}
use Rattle.stripes.specs.Lists.{within}
use Rattle.stripes.specs.Encode.{encoded, encode_leaves}
use Rattle.rebuilds.specs.Rebuild.{rebuild_told, rebuild_leaves}
use Rattle.collects.specs.Collect.{collect_told, collect_leaves}
use Rattle.shares.specs.Fields.{help_record, node_in, count_in, stripe_at, share_in}
use Rattle.shares.specs.Slip.{slip_number, slip_told, slip_leaves}
use Rattle.shares.specs.Afresh.{afresh, Slip, slip_record, amended_by}
use Rattle.books.specs.Cut.{cut_told, cut_leaves}
use Rattle.books.specs.Answer.{answer_told, answer_leaves}
use Rattle.batches.specs.Batch.{batch_told, batch_leaves}
use Rattle.batches.specs.Whole.{whole_told, whole_leaves}
use Rattle.corkpaddle.specs.Help.{help_told, help_leaves}

-- ---- the operations

pub record Operations : Type 0 where
  -- a share file, then a slip record
  pub slip_tells : List ℕ → List ℕ → Told
  pub slip_gives : List ℕ → List ℕ → List ℕ
  -- the code, the asked node, the stripe total, the batches and the output
  pub whole_tells : Code → ℕ → ℕ → List ℕ → List ℕ → Told
  pub whole_gives : Code → ℕ → ℕ → List ℕ → List ℕ → List ℕ

abbrev pub ours : Operations
ours = record { slip_tells = slip_told; slip_gives = slip_leaves; whole_tells = whole_told; whole_gives = whole_leaves }

-- ---- the setting

pub record Setting : Type 0 where
  pub code : Code
  pub total : ℕ
  pub book : List ℕ
  pub slips : List Slip

abbrev pub slip_at : Setting → ℕ → Slip
slip_at S i = get_or S.slips i (record { stripe = 0; index = 0; change = 0 })

abbrev pub record_at : Setting → ℕ → List ℕ
record_at S i = slip_record (i + 1) (slip_at S i)

-- nothing is asked of single numbers: the demand holds whether or not they are bytes
pub record Fair (S : Setting) : Type 0 where
  -- the code is accepted, and has its 32 points
  pub rules : Rules S.code
  pub points : length S.code.points ≡ 32
  pub some : 1 ≤ S.total
  pub most : S.total ≤ 1024
  pub long : length S.book ≡ S.total * bytes S.code
  -- each slip names a place in the book, and a count can number them all
  pub places : (i : ℕ) → i < length S.slips → ((slip_at S i).stripe < S.total) × ((slip_at S i).index < bytes S.code)
  pub few : length S.slips < 4294967296

abbrev pub book_at : Setting → ℕ → List ℕ
book_at S m = amended_by S.code S.book (take m S.slips)

abbrev pub fresh_at : Setting → ℕ → ℕ → List ℕ
fresh_at S v m = afresh S.code v S.total m (book_at S m)

unfoldable pub sent_again : Setting → List ℕ → ℕ → ℕ → List ℕ
sent_again S s m zero = s
sent_again S s m (suc n) = slip_leaves (sent_again S s m n) (record_at S (m + n))

-- ---- worlds

pub data Slot : Type 0 where
  lost : Slot
  holds : List ℕ → Slot

abbrev pub World : Type 0
World = ℕ → Slot

-- the world with another slot at the station v
abbrev pub put_in : World → ℕ → Slot → World
put_in w v x u = cond (eqb u v) x (w u)

abbrev pub first_world : Setting → World
first_world S v = cond (within S.code v) (holds (afresh S.code v S.total 0 S.book)) lost

abbrev pub file_of : Slot → List ℕ
file_of lost = []
file_of (holds s) = s

-- a call on the file in a slot: none where the share is lost
abbrev pub on_file : (List ℕ → List ℕ) → Slot → Slot
on_file f lost = lost
on_file f (holds s) = holds (f s)

-- ---- the helpers' records

unfoldable pub joined : (ℕ → List ℕ) → ℕ → ℕ → List ℕ
joined g i zero = []
joined g i (suc n) = g i ++ joined g (suc i) n

abbrev pub help_of : Code → List ℕ → ℕ → ℕ → List ℕ
help_of c s f i = help_record f (node_in s) (count_in s) i (symbol_for c f (share_in c s i)).val

abbrev pub batches_of : Setting → World → ℕ → (ℕ → List ℕ) → List ℕ
batches_of S w f hs = joined (λ i. joined (λ r. help_of S.code (file_of (w (get_or (hs i) r 0))) f i) 0 S.code.d) 0 S.total

-- ---- what happens

-- a slip with any record at all; with the share file as the output: a message encoded, a helper's symbol written, a share rebuilt,
-- a message collected, a book cut, an answer written, a batch or a file rebuilt
pub data Call : Type 0 where
  slip : List ℕ → Call
  encode : Code → ℕ → List ℕ → Call
  help : Code → ℕ → ℕ → List ℕ → Call
  restore : Code → ℕ → List ℕ → List ℕ → List ℕ → Call
  collect : Code → List ℕ → List ℕ → List ℕ → Call
  cut : Code → ℕ → ℕ → List ℕ → Call
  answer : List ℕ → ℕ → Call
  batch : Code → ℕ → List ℕ → Call
  whole : Code → ℕ → ℕ → List ℕ → Call

abbrev pub tells : Operations → Call → List ℕ → Told
tells O (slip p) s = O.slip_tells s p
tells O (encode c v m) s = encoded c v m s
tells O (help c h f u) s = help_told c h f u s
tells O (restore c f hs ys ns) s = rebuild_told c f hs ys ns s
tells O (collect c vs ns r) s = collect_told c vs ns r s
tells O (cut c v t book) s = cut_told c v t book s
tells O (answer u f) s = answer_told u f s
tells O (batch c f b) s = batch_told c f b s
tells O (whole c f t bs) s = O.whole_tells c f t bs s

abbrev pub leaves : Operations → Call → List ℕ → List ℕ
leaves O (slip p) s = O.slip_gives s p
leaves O (encode c v m) s = encode_leaves c v m s
leaves O (help c h f u) s = help_leaves c h f u s
leaves O (restore c f hs ys ns) s = rebuild_leaves c f hs ys ns s
leaves O (collect c vs ns r) s = collect_leaves c vs ns r s
leaves O (cut c v t book) s = cut_leaves c v t book s
leaves O (answer u f) s = answer_leaves u f s
leaves O (batch c f b) s = batch_leaves c f b s
leaves O (whole c f t bs) s = O.whole_gives c f t bs s

-- deliver the slip i + 1 of the list to a station; make a call that is refused; lose a share;
-- rebuild the share of a station, lost or still held, into an output
pub data Event : Type 0 where
  deliver : (station i : ℕ) → Event
  refuse : (station : ℕ) → Call → Event
  lose : (station : ℕ) → Event
  rebuild : (station : ℕ) → (helpers : ℕ → List ℕ) → (output : List ℕ) → Event

abbrev pub after : Operations → Setting → World → Event → World
after O S w (deliver v i) = put_in w v (on_file (λ s. O.slip_gives s (record_at S i)) (w v))
after O S w (refuse v x) = put_in w v (on_file (leaves O x) (w v))
after O S w (lose v) = put_in w v lost
after O S w (rebuild f hs o) = put_in w f (holds (O.whole_gives S.code f S.total (batches_of S w f hs) o))

abbrev pub HeldAt : World → ℕ → ℕ → Type 0
HeldAt w v m = (s : List ℕ) × (w v ≡ holds s) × (count_in s ≡ m)

pub record Helped (S : Setting) (w : World) (f : ℕ) (hs : ℕ → List ℕ) (o : List ℕ) (m : ℕ) : Type 0 where
  pub from : 1 ≤ f
  pub to : f ≤ S.code.n
  pub room : length o ≡ stripe_at S.total
  pub chosen : (i : ℕ) → i < S.total → Chosen S.code.n S.code.d (hs i)
  pub others : (i r : ℕ) → i < S.total → r < S.code.d → get_or (hs i) r 0 ≢ f
  pub held : (i r : ℕ) → i < S.total → r < S.code.d → HeldAt w (get_or (hs i) r 0) m

abbrev pub Allowed : Operations → Setting → World → Event → Type 0
Allowed O S w (deliver v i) = i < length S.slips
Allowed O S w (refuse v x) = (s : List ℕ) → w v ≡ holds s → (tells O x s).number ≢ 0
Allowed O S w (lose v) = Unit {0}
Allowed O S w (rebuild f hs o) = (m : ℕ) × Helped S w f hs o m

pub data Reached (O : Operations) (S : Setting) : World → Type 0 where
  first : Reached O S (first_world S)
  then : {w : World} → Reached O S w → (e : Event) → Allowed O S w e → Reached O S (after O S w e)

-- ---- the demand

pub record Touched (c : Code) (i : ℕ) (s u : List ℕ) : Type 0 where
  pub long : length u ≡ length s
  pub counted : count_in u ≡ count_in s + 1
  -- two places in a share
  pub one : ℕ
  pub two : ℕ
  pub one-small : one < alpha c
  pub two-small : two < alpha c
  -- each byte but the count's four and those two
  pub kept : (q : ℕ) → (q < 41) ⊎ (45 ≤ q) → q ≢ stripe_at i + 3 + one → q ≢ stripe_at i + 3 + two → get_or u q 0 ≡ get_or s q 0

-- the slip m + 1 of the list is taken by the share s of the station v
pub record Next (O : Operations) (S : Setting) (v : ℕ) (s : List ℕ) (m : ℕ) : Type 0 where
  pub told : O.slip_tells s (record_at S m) ≡ done (m + 1)
  pub given : O.slip_gives s (record_at S m) ≡ fresh_at S v (m + 1)
  pub touched : Touched S.code (slip_at S m).stripe s (O.slip_gives s (record_at S m))

pub record Kept (O : Operations) (S : Setting) (v : ℕ) (s : List ℕ) : Type 0 where
  pub count : ℕ
  pub counted : count_in s ≡ count
  pub listed : count ≤ length S.slips
  pub same : s ≡ fresh_at S v count
  -- it takes its slip count + 1
  pub next : count < length S.slips → Next O S v s count
  -- and no other: not a record with another number, and of the list none with another place
  pub only : (p : List ℕ) → (O.slip_tells s p).number ≡ 0 → slip_number p ≡ count + 1
  pub others : (i : ℕ) → i < length S.slips → i ≢ count
      → (O.slip_tells s (record_at S i) ≡ refused Order) × (O.slip_gives s (record_at S i) ≡ s)

-- a rebuild tells its helpers' count, and gives the share at that count
pub record Renewed (O : Operations) (S : Setting) (w : World) (f : ℕ) (hs : ℕ → List ℕ) (o : List ℕ) (m : ℕ) : Type 0 where
  pub told : O.whole_tells S.code f S.total (batches_of S w f hs) o ≡ done m
  pub given : O.whole_gives S.code f S.total (batches_of S w f hs) o ≡ fresh_at S f m

pub record Demand3 (O : Operations) : Type 0 where
  pub held : (S : Setting) → Fair S → (w : World) → Reached O S w → (v : ℕ) (s : List ℕ) → w v ≡ holds s → Kept O S v s
  pub rebuilt : (S : Setting) → Fair S → (w : World) → Reached O S w
      → (f : ℕ) (hs : ℕ → List ℕ) (o : List ℕ) (m : ℕ) → Helped S w f hs o m → Renewed O S w f hs o m
