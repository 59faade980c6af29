-- Databases over logs that calls of their store left.
use Rattle.std.proofs.Common.{◌≡◌, ◌≢◌, ◌⊎◌, ◌∙◌, ◌≤◌, ◌-◌, ℕ, List, take_all, ap, sym, subst, refl, inl, inr, arith, map, Option, Some, None, IfSome, Result, Ok, Err, IfOk, IfErr}
use Rattle.std.specs.Prelude.{IsSome}
use Rattle.std.specs.Prelude.{if◌then◌else◌, nat_lt, length, ◌+◌, ◌*◌, ◌/◌, ◌<◌, max, drop, replicate, false, true, Bool, ◌++◌, []}
use Rattle.std.proofs.Math.Nat.{div-mul-le_self, max-eq_left, max-eq_right, sub-eq-zero_of_le}
use Rattle.std.proofs.Math.Seq.{drop-append-add}
use Rattle.std.proofs.lemmas.Bool.{ltb-false, ltb-true, le-ltb, lt-ltb}
use Rattle.std.proofs.lemmas.List.{length-drop, length-replicate}
use Rattle.qm_model.specs.Bits.{bits}
use Rattle.qm_model.specs.Live.{floor}
use Rattle.qm_model.specs.Step.{IsGood}
use Rattle.qm_bits.specs.Bitmaps.{Bitmap, all_bits, bit_count}
use Rattle.qm_bits.proofs.Activity.{activity_is}
use Rattle.qm_model.specs.Operations.{Bytes, Operation}
use Rattle.qm_model.specs.Forms.{spelling}
use Rattle.qm_model.specs.StoreModel.{Stored, end_of, left_at, pruned, settled, IsOldOrNew, ReadsAs, Turns, Becomes}
use Rattle.qm_base.specs.declared.error.Error.{Error}
use Rattle.qm_store.specs.declared.Store as store
use Rattle.qm_store.specs.declared.log.LogGiven.{LogGiven}
use Rattle.qm_store.specs.declared.log.LogGiven.TheVariants as variants
use Rattle.qm_store.specs.declared.log.LogRefusal.{LogRefusal}
use Rattle.qm_store.specs.declared.refusal.Refusal.{Refusal}
use Rattle.qm_store.specs.Log as logs
use Rattle.qm_store.specs.Log.{Log, IsLog, IsRefused}
use Rattle.qm_any.specs.Layouts.{Hashing, Layout}
use Rattle.qm_any.specs.Databases.{Database, State, IsDatabase, over}
use Rattle.qm_model.proofs.Stores.{fails-unmoved}
use Rattle.qm_any.specs.Lasting.{bits_from, cut_to, given_up, over_log, FailsPrune, HasLasted, HasLeftPruned, HasPruned, HasPrunedLog, IsGivenUp, IsHeadAt}

-- what holds if both do
pub ok-two : {X E : Type 0} {P Q R : X → Type 0} (r : Result X E) → IfOk r P → IfOk r Q → ((x : X) → P x → Q x → R x) → IfOk r R
ok-two (Ok x) p q join = join x p q
ok-two (Err e) p q join = tt

pub ok-three : {X E : Type 0} {P Q R S : X → Type 0} (r : Result X E) → IfOk r P → IfOk r Q → IfOk r R → ((x : X) → P x → Q x → R x → S x) → IfOk r S
ok-three (Ok x) p q s join = join x p q s
ok-three (Err e) p q s join = tt

-- a store that became another still tells what it holds, if it did
pub still-told : (o new : Option Stored) (f : Stored → Stored) → Becomes o new f → IsSome o → IsSome new
still-told None new f becomes some = absurd (cc some)
still-told (Some s) None f becomes some = absurd becomes
still-told (Some s) (Some t) f becomes some = refl

-- what becomes of it after another call
pub turns-behind : (o middle new : Option Stored) (f : Stored → Stored) (R : Stored → Stored → Type 0) → Becomes o middle f → Turns middle new R → Turns o new (λ s. R (f s))
turns-behind None middle new f R becomes turns = subst (λ m. Turns m new R) becomes turns
turns-behind (Some s) None new f R becomes turns = absurd becomes
turns-behind (Some s) (Some t) None f R becomes turns = turns
turns-behind (Some s) (Some t) (Some u) f R becomes turns = subst (λ x. R x u) becomes turns

-- a store all of which is stable reads as itself
pub reads-itself : (f : Stored → Stored) (s : Stored) → s.stable ≡ end_of s → ReadsAs s.stable (IsOldOrNew f s) s
reads-itself f s all = record {
  image = s;
  left = inl (record { to = end_of s; may = record { stable = omega (arith, all); within = omega arith }; same = same });
  reads = refl;
  least_stable = omega arith;
  within = omega (arith, all);
}
  where
    same : s ≡ left_at (end_of s) s
    same = ap (λ n. record s { stable = n }) all ∙ ap (λ xs. record s { items = xs; stable = end_of s }) (sym (take_all (end_of s - s.start) s.items (omega arith)))

-- what is dropped first, and what is dropped after it, are all that is dropped
passed : (p q w : ℕ) → p ≤ q → p * w + (q - p) * w ≡ q * w
passed p q w low = spread p (q - p) w ∙ ap (λ n. n * w) (omega (arith, low))
  where
    spread : (p d w : ℕ) → p * w + d * w ≡ (p + d) * w
    spread p d w = omega arith

no-chunks : (w : ℕ) → 0 * w ≡ 0
no-chunks w = omega arith

-- no bit of a good list is forgotten by what is dropped below its floor
pub bits-kept : (chunk to : ℕ) (map : Bitmap) (ops : List Operation) → IsGood ops → to ≤ floor ops → all_bits chunk map ≡ bits ops → all_bits chunk (bits_from chunk to map) ≡ bits ops
bits-kept chunk to map ops good low is = cases (nat_lt map.pruned whole) refl
  where
    span : ℕ
    span = 8 * chunk

    whole : ℕ
    whole = to / span

    below : whole * span ≤ to
    below = div-mul-le_self to span

    cases : (t : Bool) → nat_lt map.pruned whole ≡ t → all_bits chunk (bits_from chunk to map) ≡ bits ops
    cases true h =
        let less : map.pruned < whole = ltb-true map.pruned whole h in
        let last : max map.pruned whole ≡ whole = max-eq_right (omega (arith, less)) in
        let zeros = replicate (map.pruned * span) false in
        let long = length-replicate {A = Bool} (map.pruned * span) false in
        let reached : length zeros + (whole - map.pruned) * span ≡ max map.pruned whole * span =
        ap (λ n. n + (whole - map.pruned) * span) long ∙ passed map.pruned whole span (omega (arith, less)) ∙ ap (λ n. n * span) (sym last) in
        activity_is chunk (bits_from chunk to map) ops good (record {
          bits_are = sym (drop-append-add zeros map.kept ((whole - map.pruned) * span)) ∙ ap (λ n. drop n (zeros ++ map.kept)) reached ∙ ap (drop (max map.pruned whole * span)) is;
          below = subst (λ n. n * span ≤ floor ops) (sym last) (omega (arith, below, low));
        })
    cases false h =
        let least : whole ≤ map.pruned = ltb-false map.pruned whole h in
        ap (all_bits chunk) (ap (λ n. record { pruned = n; kept = drop ((whole - map.pruned) * span) map.kept }) (max-eq_left least)
        ∙ ap (λ n. record { pruned = map.pruned; kept = drop (n * span) map.kept }) (sub-eq-zero_of_le least) ∙ ap (λ n. record { pruned = map.pruned; kept = drop n map.kept }) (no-chunks span)) ∙ is

-- and there are as many bits as before
pub count-kept : (chunk to : ℕ) (map : Bitmap) → to ≤ bit_count chunk map → bit_count chunk (bits_from chunk to map) ≡ bit_count chunk map
count-kept chunk to map within = cases (nat_lt map.pruned whole) refl
  where
    span : ℕ
    span = 8 * chunk

    whole : ℕ
    whole = to / span

    below : whole * span ≤ to
    below = div-mul-le_self to span

    sum : (a n b l : ℕ) → a + n ≡ b → b ≤ a + l → b + (l - n) ≡ a + l
    sum a n b l gone fits = omega (arith, gone, fits)

    cases : (t : Bool) → nat_lt map.pruned whole ≡ t → bit_count chunk (bits_from chunk to map) ≡ bit_count chunk map
    cases true h =
        let less : map.pruned < whole = ltb-true map.pruned whole h in
        let last : max map.pruned whole ≡ whole = max-eq_right (omega (arith, less)) in
        let gone = passed map.pruned whole span (omega (arith, less)) in
        ap (λ n. n * span + length (drop ((whole - map.pruned) * span) map.kept)) last ∙ ap (λ n. whole * span + n) (length-drop ((whole - map.pruned) * span) map.kept)
        ∙ sum (map.pruned * span) ((whole - map.pruned) * span) (whole * span) (length map.kept) gone (omega (arith, below, within))
    cases false h =
        let least : whole ≤ map.pruned = ltb-false map.pruned whole h in
        ap (λ n. n * span + length (drop ((whole - map.pruned) * span) map.kept)) (max-eq_left least)
        ∙ ap (λ n. map.pruned * span + length (drop (n * span) map.kept)) (sub-eq-zero_of_le least) ∙ ap (λ n. map.pruned * span + length (drop n map.kept)) (no-chunks span)

-- what a database has beside its log, with bits dropped
abbrev pub cut : ℕ → ℕ → State → State
cut chunk to state = record state { activity = bits_from chunk to state.activity }

-- a store that is not pruned is what it was
itself : (start to : ℕ) (o : Option Stored) → to ≤ start → Becomes o o (cut_to start to [])
itself start to None low = refl
itself start to (Some s) low = sym (ap (λ t. if t then pruned to [] s else s) (le-ltb start to low))

-- and one that is, if it is pruned
become : (start to : ℕ) (head : Bytes) (o new : Option Stored) → start < to → Becomes o new (pruned to head) → Becomes o new (cut_to start to head)
become start to head None new less is = is
become start to head (Some s) None less is = is
become start to head (Some s) (Some t) less is = is ∙ sym (ap (λ c. if c then pruned to head s else s) (lt-ltb start to less))

module _ {C D : Type 0} (members : store.Ghosts C) where
  -- what holds of the database over a log, or of the store that is given up, holds of what a call answers
  pub ok-over : (state : State) (done : Result (Log C D) (LogRefusal (Log C D) C)) (result : Result (Database C D) (Refusal (Database C D) C)) (P : Database C D → Type 0) → result ≡ over_log state done
      → IfOk done (λ log. P (over state log)) → IfOk result P
  ok-over state done result P is h = subst (λ r. IfOk r P) (sym is) (by done h)
    where
      by : (done : Result (Log C D) (LogRefusal (Log C D) C)) → IfOk done (λ log. P (over state log)) → IfOk (over_log state done) P
      by (Ok log) h = h
      by (Err r) h = tt

  pub err-over : (state : State) (done : Result (Log C D) (LogRefusal (Log C D) C)) (result : Result (Database C D) (Refusal (Database C D) C)) (P : Refusal (Database C D) C → Type 0) → result ≡ over_log state done
      → IfErr done (λ r. P (given_up r)) → IfErr result P
  err-over state done result P is h = subst (λ r. IfErr r P) (sym is) (by done h)
    where
      by : (done : Result (Log C D) (LogRefusal (Log C D) C)) → IfErr done (λ r. P (given_up r)) → IfErr (over_log state done) P
      by (Ok log) h = tt
      by (Err r) h = h

  -- a log that a call left is one of the same database
  pub joined : (state : State) (old new : Log C D) → state.commitment.size ≡ old.tree.leaves → members.«end» old.store ≡ old.tree.leaves → new.tree ≡ old.tree → members.«end» new.store ≡ members.«end» old.store
      → (state.commitment.size ≡ new.tree.leaves) × (members.«end» new.store ≡ new.tree.leaves)
  joined state old new size end tree kept = let leaves = ap (λ t. t.leaves) (sym tree) in (size ∙ leaves, kept ∙ (end ∙ leaves))

  -- a database stands over another log, that starts no later than its floor, for the list that it stood for
  pub relogged : (layout : Layout D) (state : State) (old new : Log C D) (list : List Operation) → new.tree.start ≤ floor list → (IsSome (members.told old.store) → IsSome (members.told new.store))
      → IsLog members layout.hashing.shape layout.hashing.bytes layout.hashing.hash new (map (spelling layout.hashing.form) list)
      → IsDatabase members layout (over state old) list → IsDatabase members layout (over state new) list
  relogged layout state old new list low tells logged is = record {
    told = tells is.told;
    lent = record { indexed = is.lent.indexed; logged = logged; of = is.lent.of };
    commitment = is.commitment;
    low = low;
    floor = is.floor;
    live = is.live;
    metadata = is.metadata;
    active = is.active;
    good = is.good;
    ring = is.ring;
  }

  pub lasted : (hashing : Hashing D) (f : Stored → Stored) (self : Database C D) (state : State) (old new : Log C D) → self ≡ over state old
      → ((items : List Bytes) → IsLog members hashing.shape hashing.bytes hashing.hash old items → IsLog members hashing.shape hashing.bytes hashing.hash new items) → new.tree ≡ old.tree → logs.HasBecome members old.store new.store f → members.faults old.store ≤ members.faults new.store
      → HasLasted members hashing f self (over state new)
  lasted hashing f self state old new whole stands tree store later = subst (λ db. HasLasted members hashing f db (over state new)) (sym whole) (record { rest = refl; stands = stands; tree = tree; store = store; later = later })

  -- a call that never gives back the log gives up the store
  pub given-up : (Left : C → C → Type 0) (self : Database C D) (state : State) (old : Log C D) (r : LogRefusal (Log C D) C) → self ≡ over state old → IsRefused members Left old r.given r.error → ((log : Log C D) → r.given ≢ variants.Log log)
      → IsGivenUp members {X = Database C D} Left self.log.store (given_up r)
  given-up Left self state old r whole refused never = subst (λ db. IsGivenUp members {X = Database C D} Left db.log.store (given_up r)) (sym whole) (by r.given r.error refused never)
    where
      by : (given : LogGiven (Log C D) C) (error : Error) → IsRefused members Left old given error → ((log : Log C D) → given ≢ variants.Log log) → IsGivenUp members {X = Database C D} Left old.store (given_up (record { given = given; error = error }))
      by (variants.Log log) error refused never = absurd (never log refl)
      by (variants.Store s) error refused never = record { store = s; given = refl; left = refused.left s refl; never = refused.never; cause = refused.cause }

  -- a prune gives up the store, also if memory lacked before its store was called
  pub cut-given-up : (hashing : Hashing D) (to : ℕ) (head : Bytes) (self : Database C D) (state : State) (old : Log C D) (r : LogRefusal (Log C D) C) → self ≡ over state old → IfSome (members.told self.log.store) (λ s. s.stable ≡ end_of s)
      → old.tree.start < to → IsRefused members (logs.HasLeftPruned members to head) old r.given r.error → IsHeadAt members hashing to old head
      → IsGivenUp members {X = Database C D} (λ _. HasLeftPruned members hashing (λ s. s) to self.log) self.log.store (given_up r)
  cut-given-up hashing to head self state old r whole all past refused heads =
      subst (λ db. IsGivenUp members {X = Database C D} (λ _. HasLeftPruned members hashing (λ s. s) to db.log) db.log.store (given_up r)) (sym whole)
      (by r.given r.error refused)
    where
      stable : IfSome (members.told old.store) (λ s. s.stable ≡ end_of s)
      stable = subst (λ db. IfSome (members.told db.log.store) (λ s. s.stable ≡ end_of s)) whole all

      itself : (o : Option Stored) → IfSome o (λ s. s.stable ≡ end_of s) → Turns o o (FailsPrune to head)
      itself None h = refl
      itself (Some s) h = fails-unmoved _ _ s (reads-itself (pruned to head) s h)

      by : (given : LogGiven (Log C D) C) (error : Error) → IsRefused members (logs.HasLeftPruned members to head) old given error
          → IsGivenUp members {X = Database C D} (λ _. HasLeftPruned members hashing (λ s. s) to old) old.store (given_up (record { given = given; error = error }))
      by (variants.Log log) error refused =
          let same = (refused.back log refl).0 in
          record {
            store = log.store;
            given = refl;
            left = subst (λ l. HasLeftPruned members hashing (λ s. s) to old l.store) (sym same) (record { past = past; within = omega arith; head = head; heads = heads; told = itself (members.told old.store) stable });
            never = refused.never;
            cause = refused.cause;
          }
      by (variants.Store s) error refused =
          let left = refused.left s refl in
          record { store = s; given = refl; left = record { past = past; within = left.within; head = head; heads = heads; told = left.told }; never = refused.never; cause = refused.cause }

  pub cut-is : (chunk : ℕ) (v b : State) (a : Bitmap) (to : ℕ) (log : Log C D) (db : Database C D) → db ≡ over (record v { activity = a }) log → a ≡ bits_from chunk to v.activity → v ≡ b → db ≡ over (cut chunk to b) log
  cut-is chunk v b a to log db is same view = is ∙ ap (λ a. over (record v { activity = a }) log) same ∙ ap (λ v. over (cut chunk to v) log) view

  -- a database without what stands below a location up to its floor stands for the list that it stood for
  pub cut-stands : (layout : Layout D) (to : ℕ) (state : State) (old new : Log C D) (list : List Operation) → to ≤ floor list → new.tree.start ≤ floor list → (IsSome (members.told old.store) → IsSome (members.told new.store))
      → IsLog members layout.hashing.shape layout.hashing.bytes layout.hashing.hash new (map (spelling layout.hashing.form) list)
      → IsDatabase members layout (over state old) list → IsDatabase members layout (over (cut layout.chunk to state) new) list
  cut-stands layout to state old new list low from tells logged is =
      let moved = relogged layout state old new list from tells logged is in
      record {
        told = moved.told;
        lent = moved.lent;
        commitment = moved.commitment;
        low = moved.low;
        floor = moved.floor;
        live = moved.live;
        metadata = moved.metadata;
        active = bits-kept layout.chunk to state.activity list is.good low is.active;
        good = moved.good;
        ring = moved.ring;
      }

  pub has-kept : (hashing : Hashing D) (to : ℕ) (self : Database C D) (state : State) (old : Log C D) → self ≡ over state old → to ≤ old.tree.start → HasPrunedLog members hashing to self (over state old)
  has-kept hashing to self state old whole low = subst (λ db. HasPrunedLog members hashing to db (over state old)) (sym whole) (record {
    rest = refl;
    start = sym (max-eq_left low);
    size = refl;
    head = [];
    heads = λ less. absurd (omega (arith, less, low));
    told = itself old.tree.start to (members.told old.store) low;
    later = omega arith;
  })

  pub has-pruned : (hashing : Hashing D) (to : ℕ) (self : Database C D) (state : State) (old new : Log C D) (head : Bytes) → self ≡ over state old → old.tree.start < to → new.tree.start ≡ to → new.tree.leaves ≡ old.tree.leaves
      → Becomes (members.told old.store) (members.told new.store) (pruned to head) → IsHeadAt members hashing to old head → members.faults old.store ≤ members.faults new.store
      → HasPrunedLog members hashing to self (over state new)
  has-pruned hashing to self state old new head whole less first size told heads later = subst (λ db. HasPrunedLog members hashing to db (over state new)) (sym whole) (record {
    rest = refl;
    start = first ∙ sym (max-eq_right (omega (arith, less)));
    size = size;
    head = head;
    heads = λ _. heads;
    told = become old.tree.start to head (members.told old.store) (members.told new.store) less told;
    later = later;
  })

  -- a prune of the log of a database whose bits were dropped is one of the database
  pub bits-first : (layout : Layout D) (to : ℕ) (self middle db : Database C D) → middle ≡ record self { activity = bits_from layout.chunk to self.activity } → HasPrunedLog members layout.hashing to middle db → HasPruned members layout (λ s. s) to self db
  bits-first layout to self middle db is cut = by (subst (λ m. HasPrunedLog members layout.hashing to m db) is cut)
    where
      by : HasPrunedLog members layout.hashing to (record self { activity = bits_from layout.chunk to self.activity }) db → HasPruned members layout (λ s. s) to self db
      by cut = record { rest = cut.rest; start = cut.start; size = cut.size; head = cut.head; heads = cut.heads; told = cut.told; later = cut.later }

  -- a prune of what became of a database is one of the database
  pub pruned-behind : (layout : Layout D) (f : Stored → Stored) (to : ℕ) (self middle db : Database C D) → HasLasted members layout.hashing f self middle → HasPruned members layout (λ s. s) to middle db → HasPruned members layout f to self db
  pruned-behind layout f to self middle db last cut = record {
    rest = cut.rest ∙ ap (λ (x : Database C D). record x { log = db.log; activity = bits_from layout.chunk to x.activity }) last.rest;
    start = cut.start ∙ ap (λ t. max t.start to) last.tree;
    size = cut.size ∙ ap (λ t. t.leaves) last.tree;
    head = cut.head;
    heads = λ less items logged. cut.heads (omega (arith, less, ap (λ t. t.start) last.tree)) items (last.stands items logged);
    told = subst (λ n. Becomes (members.told self.log.store) (members.told db.log.store) (λ s. cut_to n to cut.head (f s))) (ap (λ t. t.start) last.tree)
        (turns-behind (members.told self.log.store) (members.told middle.log.store) (members.told db.log.store) f (λ s t. t ≡ cut_to middle.log.tree.start to cut.head s) last.store.told cut.told);
    later = omega (arith, last.later, cut.later);
  }

  -- and so is one that failed
  pub given-behind : {X : Type 0} (hashing : Hashing D) (f : Stored → Stored) (to : ℕ) (self middle : Database C D) (r : Refusal X C) (Before : C → C → Type 0) → HasLasted members hashing f self middle
      → IsGivenUp members (λ _. HasLeftPruned members hashing (λ s. s) to middle.log) middle.log.store r → IsGivenUp members (λ old new. Before old new ⊎ HasLeftPruned members hashing f to self.log new) self.log.store r
  given-behind hashing f to self middle r Before last given = record {
    store = given.store;
    given = given.given;
    left = inr (record {
      past = omega (arith, given.left.past, ap (λ t. t.start) last.tree);
      within = omega (arith, given.left.within, last.store.end);
      head = given.left.head;
      heads = λ items logged. given.left.heads items (last.stands items logged);
      told = turns-behind (members.told self.log.store) (members.told middle.log.store) (members.told given.store) f (FailsPrune to given.left.head) last.store.told given.left.told;
    });
    never = given.never;
    cause = record { later = omega (arith, last.later, given.cause.later); failed = λ fault. omega (arith, last.later, given.cause.failed fault) };
  }

-- all of a store is stable that was settled
pub all-stable : (o new : Option Stored) → Becomes o new settled → IfSome new (λ s. s.stable ≡ end_of s)
all-stable None new is = subst (λ n. IfSome n (λ s. s.stable ≡ end_of s)) (sym is) tt
all-stable (Some s) None is = absurd is
all-stable (Some s) (Some t) is = ap (λ x. x.stable) is ∙ sym (ap end_of is)
