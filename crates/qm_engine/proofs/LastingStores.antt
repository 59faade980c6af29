-- Stores and their logs: what each call of a store makes of the log that it has, and what is left of one that failed.
use Rattle.std.proofs.Common.{◌≡◌, ◌⊎◌, inl, inr, ℕ, zero, suc, ◌*◌, ◌-◌, ◌<◌, ◌≤◌, ◌^◌, ◌/◌, Bool, true, false, cond, List, [], ◌∷◌, ◌++◌, length, take, drop, map, Option, Some, None, refl, sym, ap, ◌∙◌, subst, arith, append-nil, append_assoc, take_all, le_refl, length-take-le}
use Rattle.std.specs.Prelude.{min, max, ◌==◌, option_map, IfSome, nat_lt, not, is_none, filter, bytes_eq, if◌then◌else◌, ⊤}
use Rattle.std.specs.Option.{option_map_or}
use Rattle.std.specs.List.{concat, drop-map, list_any}
use Rattle.std.proofs.Math.Seq.{drop-append_seam, take-append_seam}
use Rattle.std.proofs.lemmas.Bool.{cases_lt, eqb-true, lt-ltb, le-ltb, ltb-false}
use Rattle.std.proofs.lemmas.Nat.{div-add-mod', mul-le, pow_pos}
use Rattle.std.proofs.lemmas.List.{length-map, length-take, length-drop, map-append, take-map, take-take, take-append-le, drop-append-le, drop_all, drop-take, drop-drop}
use Rattle.qm_model.specs.Operations.{Bytes, Operation, fresh}
use Rattle.qm_model.specs.Forms.{spelling}
use Rattle.qm_model.specs.Trees.{peaks}
use Rattle.qm_model.specs.Proofs.{pins_at}
use Rattle.qm_model.specs.Policies.{policies}
use Rattle.qm_model.specs.Grafted.{grafted_pins, metadata}
use Rattle.qm_model.specs.Batches.{Begins}
use Rattle.qm_model.specs.Own.{Log, no_log, taken_up}
use Rattle.qm_model.specs.Own as own
use Rattle.qm_model.specs.Refused.{CountNotValid, CountTooLarge, MissingPin, InvalidPin}
use Rattle.qm_model.specs.Opening.{Chunks, opened_list, entries_of, count_bytes, count_in, pins_found, pruned_bits, is_wrong_size, when}
use Rattle.qm_model.specs.StoreModel.{Entry, Named, Rest, Stored, empty, metadata_in, with_metadata, end_of, found_by, appended, settled, rewound, pruned, left_at, restarted, destroyed, IsImage, IsOldOrNew, ReadsAs, RewindLeaves, HasAppended, HasRestarted, DestroyLeaves, Turns, Becomes}
use Rattle.qm_model.specs.Schemes.{Grafts, Scheme, IsOver, chunks_of, chunks_after, engine_of}
use Rattle.qm_model.specs.Taken.{head_at, taken, LeavesOpening, counted_in, with_count, StayNamed, StaysBeside, before_prune, after_prune, LeavesSync, LeavesPrune}
use Rattle.qm_model.proofs.Chains.{Begins-through}
use Rattle.qm_model.proofs.Crashes.{settled-in, settled-within}
use Rattle.qm_model.proofs.LastWrites.{bytes_same}
use Rattle.qm_model.proofs.Metadata.{metadata-counted}
use Rattle.qm_model.proofs.Speaking.{peaks_few}
use Rattle.qm_model.proofs.Openings.{empty-own, begins_take, begins_both, all_pass, not_when}
use Rattle.qm_machine.specs.Machine as machine
use Rattle.qm_engine.specs.Stores.{HasLog, HasEnds, least, MayBe, grown, cut, counted, moved, emptied, IsLeft}

-- Options that turn into others.

pub turned : (o new : Option Stored) (old : Stored) (R : Stored → Stored → Type 0) → o ≡ Some old → Turns o new R → (t : Stored) × (new ≡ Some t) × R old t
turned o new old R is made = by new (subst (λ p. Turns p new R) is made)
  where
    by : (new : Option Stored) → Turns (Some old) new R → (t : Stored) × (new ≡ Some t) × R old t
    by None made = absurd made
    by (Some t) made = (t, refl, made)

pub became : (o new : Option Stored) (f : Stored → Stored) (R : Stored → Stored → Type 0) → ((s : Stored) → R s (f s)) → Becomes o new f → Turns o new R
became None new f R each is = is
became (Some s) None f R each is = absurd is
became (Some s) (Some t) f R each is = subst (R s) (sym is) (each s)

pub turned-each : (o new : Option Stored) (R Q : Stored → Stored → Type 0) → ((s t : Stored) → R s t → Q s t) → Turns o new R → Turns o new Q
turned-each None new R Q each is = is
turned-each (Some s) None R Q each is = absurd is
turned-each (Some s) (Some t) R Q each is = each s t is

pub between : (o new : Option Stored) (s t : Stored) (R : Stored → Stored → Type 0) → o ≡ Some s → new ≡ Some t → Turns o new R → R s t
between o new s t R is now made = subst (λ p. Turns (Some s) p R) now (subst (λ p. Turns p new R) is made)

-- What stands beside the items.

stay-self : (chunks : Option Chunks) (ms : List Named) → StayNamed chunks ms ms
stay-self None ms = refl
stay-self (Some c) ms = λ name other. refl

pub stay-same : (chunks : Option Chunks) (old new : List Named) → new ≡ old → StayNamed chunks old new
stay-same chunks old new same = subst (StayNamed chunks old) (sym same) (stay-self chunks old)

stay-through : (chunks : Option Chunks) (a b c : List Named) → StayNamed chunks a b → StayNamed chunks b c → StayNamed chunks a c
stay-through None a b c one two = two ∙ one
stay-through (Some k) a b c one two = λ name other. two name other ∙ one name other

pub beside-self : {Destroyed : Type 0} (chunks : Option Chunks) (s : Stored) → HasEnds chunks Destroyed [] s s
beside-self chunks s = record { metadata = inl (stay-self chunks s.metadata); ends = sym (append-nil s.ends) }

pub beside-through : {A B D : Type 0} (chunks : Option Chunks) (a b : List ℕ) (s t u : Stored) → (A → D) → (B → D) → HasEnds chunks A a s t → HasEnds chunks B b t u → HasEnds chunks D (a ++ b) s u
beside-through chunks a b s t u before behind one two = record {
  metadata = elim two.metadata [
    | inl later ↦ elim one.metadata [
      | inl stays ↦ inl (stay-through chunks s.metadata t.metadata u.metadata stays later)
      | inr none ↦ inr (before none.0, stay-through chunks [] t.metadata u.metadata none.1 later)
    ]
    | inr none ↦ inr (behind none.0, none.1)
  ];
  ends = two.ends ∙ ap (λ xs. xs ++ b) one.ends ∙ append_assoc s.ends a b;
}

pub turns-self : (Destroyed : Type 0) (chunks : Option Chunks) (o : Option Stored) → Turns o o (HasEnds chunks Destroyed [])
turns-self Destroyed chunks None = refl
turns-self Destroyed chunks (Some s) = beside-self chunks s

pub turns-same : (Destroyed : Type 0) (chunks : Option Chunks) (o new : Option Stored) → new ≡ o → Turns o new (HasEnds chunks Destroyed [])
turns-same Destroyed chunks o new same = subst (λ p. Turns o p (HasEnds chunks Destroyed [])) (sym same) (turns-self Destroyed chunks o)

-- it may be that the store was destroyed, if what tells so follows
looser : {A B S T : Type 0} → (A → B) → S ⊎ (A × T) → S ⊎ (B × T)
looser follows (inl s) = inl s
looser follows (inr (a, t)) = inr (follows a, t)

pub turns-looser : {A B : Type 0} (chunks : Option Chunks) (more : List ℕ) (o new : Option Stored) → (A → B) → Turns o new (HasEnds chunks A more) → Turns o new (HasEnds chunks B more)
turns-looser {A} {B} chunks more o new follows is = turned-each o new (HasEnds chunks A more) (HasEnds chunks B more) (λ s t r. record { metadata = looser follows r.metadata; ends = r.ends }) is

pub turns-through : {A B D : Type 0} (chunks : Option Chunks) (a b : List ℕ) (o p q : Option Stored) → (A → D) → (B → D) → Turns o p (HasEnds chunks A a) → Turns p q (HasEnds chunks B b) → Turns o q (HasEnds chunks D (a ++ b))
turns-through {A} {B} chunks a b None p q before behind one two = by p one two
  where
    by : (p : Option Stored) → p ≡ None → Turns p q (HasEnds chunks B b) → q ≡ None
    by None e two = two
    by (Some t) e two = absurd (cc)
turns-through chunks a b (Some s) None q before behind one two = absurd one
turns-through chunks a b (Some s) (Some t) None before behind one two = absurd two
turns-through chunks a b (Some s) (Some t) (Some u) before behind one two = beside-through chunks a b s t u before behind one two

-- the ends tell which these are
cancelled : (xs a b : List ℕ) → xs ++ a ≡ xs ++ b → a ≡ b
cancelled xs a b e = sym (drop-append_seam xs a) ∙ ap (drop (length xs)) e ∙ drop-append_seam xs b

pub turns-told : (A B : Type 0) (chunks : Option Chunks) (a b : List ℕ) (s : Stored) (new : Option Stored) → Turns (Some s) new (HasEnds chunks A a) → Turns (Some s) new (HasEnds chunks B b) → a ≡ b
turns-told A B chunks a b s None one two = absurd one
turns-told A B chunks a b s (Some t) one two = cancelled s.ends a b (sym one.ends ∙ two.ends)

-- what is as beside the items, and only there
pub turns-beside : (Destroyed : Type 0) (chunks : Option Chunks) (o new : Option Stored) (R : Stored → Stored → Type 0) → ((s t : Stored) → R s t → (t.metadata ≡ s.metadata) × (t.ends ≡ s.ends)) → Turns o new R → Turns o new (HasEnds chunks Destroyed [])
turns-beside Destroyed chunks o new R each is =
    turned-each o new R (HasEnds chunks Destroyed []) (λ s t r. let same = each s t r in record { metadata = inl (stay-same chunks s.metadata t.metadata same.0); ends = same.1 ∙ sym (append-nil s.ends) }) is

-- the same of a call that may write the metadata that counts chunks
pub stays-beside : (Destroyed : Type 0) (m : Scheme) (o new : Option Stored) → Turns o new (StaysBeside m) → Turns o new (HasEnds (chunks_of m) Destroyed [])
stays-beside Destroyed m o new is = turned-each o new (StaysBeside m) (HasEnds (chunks_of m) Destroyed []) (λ s t r. record { metadata = inl r.metadata; ends = r.ends ∙ sym (append-nil s.ends) }) is

-- Logs.

-- the items of a list from its start on, with more after them, and up to a location that is not before the start
drop-more : {A B : Type 0} (f : A → B) (start : ℕ) (list more : List A) → start ≤ length list → map f (drop start list) ++ map f more ≡ map f (drop start (list ++ more))
drop-more f start list more low = sym (map-append f (drop start list) more) ∙ ap (map f) (sym (drop-append-le start list more low))

drop-cut : {A B : Type 0} (f : A → B) (start to : ℕ) (list : List A) → start ≤ to → take (to - start) (map f (drop start list)) ≡ map f (drop start (take to list))
drop-cut f start to list low = take-map f (to - start) (drop start list) ∙ ap (map f) (sym (drop-take start (to - start) list) ∙ ap (λ n. drop start (take n list)) (omega (arith, low)))

-- the pins before a location are of what stands there alone
pub head-like : (m : Scheme) (n : ℕ) (a b : List Operation) → take n a ≡ take n b → head_at m a n ≡ head_at m b n
head-like m n a b same = ap (λ list. concat (pins_at m.hash m.shape m.form list n)) same

-- nothing has no peaks
abbrev pub IsBare : Scheme → Type 0
IsBare m = peaks m.shape 0 ≡ []

-- what metadata counts of a log that goes on from what is settled of this one, it counts of each that does
abbrev pub Counts : Scheme → Log → Type 0
Counts m low = own.KeepsCount (engine_of m policies) low

-- a log goes on from what is settled of another one, with as many chunks pruned
pub record GoesOn (low log : Log) : Type 0 where
  pub same : low.chunks ≡ log.chunks
  pub front : Begins (own.settled_list low) log.list

-- each log goes on from what is settled of it
pub goes-on : (log : Log) → GoesOn log log
goes-on log = record { same = refl; front = settled-in log }

-- the first operations of a log up to a location go on, as it does, from what is settled of a log of which metadata counts the same of each
-- that does
record FrontCounts (m : Scheme) (log : Log) (to : ℕ) : Type 0 where
  low : Log
  counts : Counts m low
  on : GoesOn low log
  begins : Begins (own.settled_list low) (take to log.list)

-- as a log does itself, from its stable length on
front-stable : (m : Scheme) (log : Log) (to : ℕ) → Counts m log → log.stable ≤ to → FrontCounts m log to
front-stable m log to counts stays = record { low = log; counts = counts; on = goes-on log; begins = settled-within log to stays }

-- metadata may count this number of chunks, and an any database has none
abbrev MayCount : Option Chunks → ℕ → Type 0
MayCount None n = n ≡ 0
MayCount (Some c) n = n * 2 ^ c.height ≤ 2 ^ 62

-- a prune to a location of a list that is not too long counts no more
may-after : (grafts : Option Grafts) (n to : ℕ) → to ≤ 2 ^ 62 → MayCount (option_map (λ (g : Grafts). g.chunks) grafts) n → MayCount (option_map (λ (g : Grafts). g.chunks) grafts) (chunks_after grafts n to)
may-after None n to few may = may
may-after (Some g) n to few may = elim (cases_lt n (to / 2 ^ g.chunks.height)) [
  | inl more ↦
      let split = div-add-mod' to (2 ^ g.chunks.height) in
      let most : max n (to / 2 ^ g.chunks.height) ≡ to / 2 ^ g.chunks.height = omega (arith, more) in
      subst (λ k. k * 2 ^ g.chunks.height ≤ 2 ^ 62) (sym most) (omega (arith, split, few))
  | inr same ↦
      let most : max n (to / 2 ^ g.chunks.height) ≡ n = omega (arith, same) in
      subst (λ k. k * 2 ^ g.chunks.height ≤ 2 ^ 62) (sym most) may
]

-- no fewer are pruned after a prune
more-after : (grafts : Option Grafts) (n to : ℕ) → n ≤ chunks_after grafts n to
more-after None n to = le_refl n
more-after (Some g) n to = omega arith

-- a log after a prune to a location, but for its start
abbrev pub before-start : Scheme → ℕ → Log → Log
before-start m to log = record (machine.settled log) { chunks = chunks_after m.grafts log.chunks to }

module _ (m : Scheme) (bare : IsBare m) where
  abbrev MetadataIs : Option Chunks → Log → Stored → Type 0
  MetadataIs chunks log s = own.MetadataIs (engine_of m policies) chunks log s

  -- metadata counts the same of the same list
  counts-alike : (chunks : Option Chunks) (log new : Log) (s t : Stored) → new.list ≡ log.list → new.chunks ≡ log.chunks → t.metadata ≡ s.metadata → MetadataIs chunks log s → MetadataIs chunks new t
  counts-alike None log new s t list same metas is = same ∙ is
  counts-alike (Some c) log new s t list same metas is =
      subst (λ ms. own.IsCounted (engine_of m policies) c new (metadata_in ms c.name)) (sym metas) record {
        readable = is.readable;
        count = is.count ∙ sym same;
        pins = subst (λ n. pins_found m.shape entries n ≡ map (λ pin. Some pin) (pins_of new.list n)) (sym same) (subst (λ ops. pins_found m.shape entries log.chunks ≡ map (λ pin. Some pin) (pins_of ops log.chunks)) (sym list) is.pins);
      }
    where
      entries : List Entry
      entries = metadata_in s.metadata c.name

      pins_of : List Operation → ℕ → List Bytes
      pins_of ops n = grafted_pins m.hash m.shape c.height m.form ops n

  -- a store and its log
  module _ (log : Log) (s : Stored) (is : own.IsStored (engine_of m policies) log s) where
    -- with another stable length
    pub stored-stable : (k : ℕ) (past : List Rest) → own.IsStored (engine_of m policies) (record log { stable = k }) (record s { stable = k; past = past })
    stored-stable k past = record { start = is.start; items = is.items; head = is.head; metadata = counts-alike (chunks_of m) log _ s _ refl refl refl is.metadata; stable = refl }

    -- with another past
    pub stored-past : (past : List Rest) → own.IsStored (engine_of m policies) log (record s { past = past })
    stored-past past = record { start = is.start; items = is.items; head = is.head; metadata = counts-alike (chunks_of m) log log s _ refl refl refl is.metadata; stable = is.stable }

    -- its items up to a location
    pub items-cut : (to : ℕ) → log.start ≤ to → take (to - s.start) s.items ≡ map (spelling m.form) (drop log.start (take to log.list))
    items-cut to low = ap (λ n. take (to - n) s.items) is.start ∙ (ap (take (to - log.start)) is.items ∙ drop-cut (spelling m.form) log.start to log.list low)

    -- and its head, which is before it
    pub head-cut : (to : ℕ) → log.start ≤ to → s.head ≡ head_at m (take to log.list) log.start
    head-cut to low = is.head ∙ head-like m log.start log.list (take to log.list) (sym (take-take log.start to log.list low))

    -- as many chunks are counted as the log says
    pub counted-is : counted_in m s ≡ log.chunks
    counted-is = by (chunks_of m) is.metadata
      where
        by : (chunks : Option Chunks) → MetadataIs chunks log s → option_map_or (λ (c : Chunks). count_in (metadata_in s.metadata c.name)) chunks 0 ≡ log.chunks
        by None none = sym none
        by (Some c) says = says.count

    -- and no more than trees have leaves
    few-counted : MayCount (chunks_of m) log.chunks
    few-counted = by (chunks_of m) refl is.metadata
      where
        by : (chunks : Option Chunks) → chunks_of m ≡ chunks → own.MetadataIs (engine_of m policies) chunks log s → MayCount chunks log.chunks
        by None same none = none
        by (Some c) same says =
            let entries = metadata_in s.metadata c.name in
            let checks = when (not (length (count_bytes entries) == 8)) CountNotValid
            ∷ when (nat_lt (2 ^ 62) (pruned_bits (chunks_of m) (count_in entries))) CountTooLarge
            ∷ when (list_any is_none (pins_found m.shape entries (count_in entries))) MissingPin
            ∷ when (list_any (is_wrong_size m.digest_size) (pins_found m.shape entries (count_in entries))) InvalidPin
            ∷ [] in
            let bits = ltb-false (2 ^ 62) (pruned_bits (chunks_of m) (count_in entries)) (not_when (nat_lt (2 ^ 62) (pruned_bits (chunks_of m) (count_in entries))) CountTooLarge (all_pass checks 1 says.readable)) in
            subst (λ n. n * 2 ^ c.height ≤ 2 ^ 62) says.count (subst (λ chunks. pruned_bits chunks (count_in entries) ≤ 2 ^ 62) same bits)

    -- after a prune to a location that is not before the start, with the head of what stands before it
    pub stored-pruned : (to : ℕ) (head : Bytes) (past : List Rest) → log.start ≤ to → head ≡ head_at m log.list to → own.IsStored (engine_of m policies) (record log { start = to }) (record (pruned to head s) { past = past })
    stored-pruned to head past later head_is = record {
      start = refl;
      items = ap (λ n. drop (to - n) s.items) is.start ∙ (ap (drop (to - log.start)) is.items ∙ (drop-map (spelling m.form) (to - log.start) (drop log.start log.list)
          ∙ ap (map (spelling m.form)) (drop-drop (to - log.start) log.start log.list ∙ ap (λ n. drop n log.list) (omega (arith, later)))));
      head = head_is;
      metadata = counts-alike (chunks_of m) log _ s _ refl refl refl is.metadata;
      stable = is.stable;
    }

    -- with metadata that counts this number of chunks
    pub stored-counted : IfSome (chunks_of m) (IsOver m.hash m.shape m.digest_size) → (n : ℕ) → MayCount (chunks_of m) n → own.IsStored (engine_of m policies) (record log { chunks = n }) (with_count m log.list n s)
    stored-counted over n may = by (chunks_of m) refl over may
      where
        by : (chunks : Option Chunks) → chunks_of m ≡ chunks → IfSome chunks (IsOver m.hash m.shape m.digest_size) → MayCount chunks n
            → own.IsStored (engine_of m policies) (record log { chunks = n }) (option_map_or (λ (c : Chunks). with_metadata c.name (entries_of (metadata m.hash m.shape c.height m.form log.list n)) s) chunks s)
        by None same over may = record { start = is.start; items = is.items; head = is.head; metadata = subst (λ chunks. MetadataIs chunks (record log { chunks = n }) s) (sym same) may; stable = is.stable }
        by (Some c) same over may = record {
          start = is.start;
          items = is.items;
          head = is.head;
          metadata = subst (λ chunks. MetadataIs chunks (record log { chunks = n }) (with_metadata c.name (entries_of (metadata m.hash m.shape c.height m.form log.list n)) s)) (sym same)
              (subst (λ es. own.IsCounted (engine_of m policies) c (record log { chunks = n }) es) (sym found)
              (metadata-counted (engine_of m policies) c (record log { chunks = n }) same may over.sized few small));
          stable = is.stable;
        }
          where
            found : metadata_in (with_metadata c.name (entries_of (metadata m.hash m.shape c.height m.form log.list n)) s).metadata c.name ≡ entries_of (metadata m.hash m.shape c.height m.form log.list n)
            found = ap (λ t. if t then entries_of (metadata m.hash m.shape c.height m.form log.list n) else metadata_in (filter (λ x. not (bytes_eq c.name x.name)) s.metadata) c.name) (bytes_same c.name)

            within : n ≤ 2 ^ 62
            within = let up = mul-le n 1 n (2 ^ c.height) (le_refl n) (pow_pos c.height) in omega (arith, may, up)

            small : n < 2 ^ 64
            small = omega (arith, within)

            few : length (peaks m.shape n) ≤ 2 ^ 64
            few = omega (arith, within, peaks_few m.shape over.births over.trees.family over.trees.peaked n within)

    -- a log that starts within its list
    module _ (inside : log.start ≤ length log.list) where
      pub end-whole : end_of s ≡ length log.list
      end-whole =
          omega (arith, inside, is.start, ap length is.items, length-map (drop log.start log.list) (spelling m.form), length-drop log.start log.list)

      -- after a commit
      pub stored-settled : own.IsStored (engine_of m policies) (machine.settled log) (settled s)
      stored-settled = record { start = is.start; items = is.items; head = is.head; metadata = counts-alike (chunks_of m) log _ s _ refl refl refl is.metadata; stable = end-whole }

    -- one that goes on from what is settled of another log, of which metadata counts the same of each that does
    module _ (low : Log) (counts : Counts m low) (on : GoesOn low log) where
      counts-on : (new : Log) (t : Stored) → new.chunks ≡ log.chunks → Begins (own.settled_list low) new.list → t.metadata ≡ s.metadata → MetadataIs (chunks_of m) new t
      counts-on new t same front metas = counts log new s t on.same same on.front front metas is.metadata

      -- up to a location
      pub stored-cut : (to k : ℕ) (past : List Rest) → log.start ≤ to → Begins (own.settled_list low) (take to log.list) → own.IsStored (engine_of m policies) (record log { list = take to log.list; stable = k }) (record (left_at to s) { stable = k; past = past })
      stored-cut to k past later front = record { start = is.start; items = items-cut to later; head = head-cut to later; metadata = counts-on _ _ refl front refl; stable = refl }

      -- after a restart there
      pub stored-restarted : (to : ℕ) → log.start ≤ to → Begins (own.settled_list low) (take to log.list) → own.IsStored (engine_of m policies) (record log { list = take to log.list; stable = to }) (restarted to s)
      stored-restarted to later front = record { start = is.start; items = items-cut to later; head = head-cut to later; metadata = counts-on _ _ refl front refl; stable = refl }

      -- with more operations
      pub stored-appended : (more : List Operation) → log.start ≤ length log.list → own.IsStored (engine_of m policies) (record log { list = log.list ++ more }) (appended (map (spelling m.form) more) s)
      stored-appended more inside = record {
        start = is.start;
        items = ap (λ xs. xs ++ map (spelling m.form) more) is.items ∙ drop-more (spelling m.form) log.start log.list more inside;
        head = is.head ∙ head-like m log.start log.list (log.list ++ more) (sym (take-append-le log.start log.list more inside));
        metadata = counts-on _ _ refl (Begins-through (own.settled_list low) log.list (log.list ++ more) on.front (take-append_seam log.list more)) refl;
        stable = is.stable;
      }

  -- a store without items, and without metadata
  stored-none : (s : Stored) → s.start ≡ 0 → s.items ≡ [] → s.head ≡ [] → s.metadata ≡ [] → s.stable ≡ 0 → own.IsStored (engine_of m policies) no_log s
  stored-none s start items head metas stable =
      let none = (empty-own (engine_of m policies) bare).stored in
      record { start = start; items = items; head = head ∙ none.head; metadata = counts-alike (chunks_of m) no_log no_log empty s refl refl metas none.metadata; stable = stable }

  -- an emptied store
  pub stored-empty : (s : Stored) → own.IsStored (engine_of m policies) no_log (destroyed s)
  stored-empty s = stored-none (destroyed s) refl refl refl refl refl

  -- a store before its prune to a location, and after it
  module _ (over : IfSome (chunks_of m) (IsOver m.hash m.shape m.digest_size)) (log : Log) (s : Stored) (is : own.IsStored (engine_of m policies) log s) (inside : log.start ≤ length log.list) (few : length log.list ≤ 2 ^ 62) where
    pub stored-synced : own.IsStored (engine_of m policies) (machine.settled log) (with_count m log.list (counted_in m s) (settled s))
    stored-synced =
        subst (λ n. own.IsStored (engine_of m policies) (machine.settled log) (with_count m log.list n (settled s))) (sym (counted-is log s is))
        (stored-counted (machine.settled log) (settled s) (stored-settled log s is inside) over log.chunks (few-counted log s is))

    pub stored-before : (to : ℕ) → to ≤ length log.list → own.IsStored (engine_of m policies) (before-start m to log) (before_prune m log.list to s)
    stored-before to far =
        subst (λ n. own.IsStored (engine_of m policies) (before-start m to log) (with_count m log.list (chunks_after m.grafts n to) (settled s))) (sym (counted-is log s is))
        (stored-counted (machine.settled log) (settled s) (stored-settled log s is inside) over (chunks_after m.grafts log.chunks to) (may-after m.grafts log.chunks to (omega (arith, far, few)) (few-counted log s is)))

    pub stored-after : (start to : ℕ) (head : Bytes) → start ≡ log.start → to ≤ length log.list → (log.start < to → head ≡ head_at m log.list to) → own.IsStored (engine_of m policies) (machine.pruned m.grafts to log) (after_prune m log.list start to head s)
    stored-after start to head first far heads =
        subst (λ n. own.IsStored (engine_of m policies) (machine.pruned m.grafts to log) (after_prune m log.list n to head s)) (sym first) (by (cases_lt log.start to))
      where
        Pruned : Stored → Type 0
        Pruned = own.IsStored (engine_of m policies) (machine.pruned m.grafts to log)

        by : (log.start < to) ⊎ (to ≤ log.start) → Pruned (after_prune m log.list log.start to head s)
        by (inl later) =
            subst (λ b. Pruned (cond b (pruned to head (before_prune m log.list to s)) (before_prune m log.list to s))) (sym (lt-ltb log.start to later))
            (subst (λ n. own.IsStored (engine_of m policies) (record (before-start m to log) { start = n }) (pruned to head (before_prune m log.list to s))) (omega (arith, later))
            (stored-pruned (before-start m to log) (before_prune m log.list to s) (stored-before to far) to head (found_by (before_prune m log.list to s)) (omega (arith, later)) (heads later)))
        by (inr here) =
            subst (λ b. Pruned (cond b (pruned to head (before_prune m log.list to s)) (before_prune m log.list to s))) (sym (le-ltb log.start to here))
            (subst (λ n. own.IsStored (engine_of m policies) (record (before-start m to log) { start = n }) (before_prune m log.list to s)) (omega (arith, here)) (stored-before to far))

  -- What calls make of the log that a store has.

  -- what a call makes of the store, if that has a log
  pub has-become : (told new : Option Stored) (log after : Log) (f : Stored → Stored) → HasLog m told log → Becomes told new f → ((s : Stored) → own.IsStored (engine_of m policies) log s → own.IsStored (engine_of m policies) after (f s)) → HasLog m new after
  has-become told new log after f has made each =
      let t = turned told new has.stored (λ s t. t ≡ f s) has.is made in
      record { stored = t.0; is = t.1; has = subst (own.IsStored (engine_of m policies) after) (sym t.2) (each has.stored has.has) }

  pub has-appended : (told new : Option Stored) (log : Log) (more : List Operation) → Counts m log → HasLog m told log → log.start ≤ length log.list → Becomes told new (appended (map (spelling m.form) more)) → HasLog m new (record log { list = log.list ++ more })
  has-appended told new log more counts has low made =
      has-become told new log (record log { list = log.list ++ more }) (appended (map (spelling m.form) more)) has made (λ s is. stored-appended log s is log counts (goes-on log) more low)

  pub has-emptied : (told new : Option Stored) (log : Log) → HasLog m told log → Becomes told new destroyed → HasLog m new no_log
  has-emptied told new log has made = has-become told new log no_log destroyed has made (λ s is. stored-empty s)

  -- if a restart chose this end
  pub has-restarted : (told new : Option Stored) (log : Log) (more rest : List ℕ) → Counts m log → HasLog m told log → log.start ≤ log.stable → log.stable ≤ length log.list → Turns told new HasRestarted → Turns told new (HasEnds (chunks_of m) ⊤ more)
      → (to : ℕ) × (log.stable ≤ to) × (to ≤ length log.list) × (more ≡ to ∷ []) × HasLog m new (record log { list = take to log.list; stable = to })
  has-restarted told new log more rest counts has start within made told_more =
      let t = turned told new has.stored HasRestarted has.is made in
      let r = t.2 in
      let ends = turned told new has.stored (HasEnds (chunks_of m) ⊤ more) has.is told_more in
      let same : t.0 ≡ ends.0 = some-same (sym t.1 ∙ ends.1) in
      let low = r.may.stable in
      let high = r.may.within in
      let stays : log.stable ≤ r.to = omega (arith, low, has.has.stable) in
      let stored = subst (own.IsStored (engine_of m policies) (record log { list = take r.to log.list; stable = r.to })) (sym r.same)
      (stored-restarted log has.stored has.has log counts (goes-on log) r.to (omega (arith, start, stays)) (settled-within log r.to stays)) in
      let end = end-whole log has.stored has.has (omega (arith, start, within)) in
      (r.to, stays, omega (arith, high, end), cancelled has.stored.ends more (r.to ∷ []) (sym ends.2.ends ∙ (ap (λ x. x.ends) (sym same) ∙ ap (λ x. x.ends) r.same)), record { stored = t.0; is = t.1; has = stored })
    where
      some-same : {a b : Stored} → Some a ≡ Some b → a ≡ b
      some-same e = cc

  -- What is left.

  pub left_appended : (told left : Option Stored) (before after : Log) (more : List Operation) → Counts m before → HasLog m told before → before.start ≤ before.stable → before.stable ≤ length before.list → drop (length before.list) after.list ≡ more
      → Turns told left (HasAppended (map (spelling m.form) more)) → (map (spelling m.form) more ≡ [] → Turns told left (λ s t. t.stable ≡ s.stable)) → IsLeft m left before after
  left_appended told left before after more counts has start within grows made still =
      let t = turned told left has.stored (HasAppended (map (spelling m.form) more)) has.is made in
      let a = t.2 in
      let log = record before { list = before.list ++ take a.count more; stable = t.0.stable } in
      let part : own.IsStored (engine_of m policies) log (record (appended (map (spelling m.form) (take a.count more)) has.stored) { stable = t.0.stable; past = t.0.past }) =
      stored-stable (record before { list = before.list ++ take a.count more }) (appended (map (spelling m.form) (take a.count more)) has.stored)
      (stored-appended before has.stored has.has before counts (goes-on before) (take a.count more) (omega (arith, start, within))) t.0.stable t.0.past in
      record {
        log = log;
        has = record { stored = t.0; is = t.1; has = subst (own.IsStored (engine_of m policies) log) (ap (λ xs. record (appended xs has.stored) { stable = t.0.stable; past = t.0.past }) (sym (take-map (spelling m.form) a.count more)) ∙ sym a.reads) part };
        may = subst (λ xs. MayBe before after (record before { list = before.list ++ take a.count xs; stable = t.0.stable })) grows
            (grown a.count t.0.stable (let low = a.least_stable in omega (arith, low, has.has.stable))
            (λ same.
            let none : more ≡ [] = sym grows ∙ ap (λ (l : Log). drop (length before.list) l.list) same ∙ drop_all (length before.list) before.list (le_refl (length before.list)) in
            let stays = between told left has.stored t.0 (λ s t. t.stable ≡ s.stable) has.is t.1 (still (ap (map (spelling m.form)) none)) in
            omega (arith, stays, has.has.stable)));
      }

  -- a beginning of the list that has what was stable and stays
  may_cut : (before after : Log) (to stable : ℕ) → before.stable ≤ length before.list → after.stable ≡ length after.list → least before after ≤ to → least before after ≤ stable → stable ≤ length before.list
      → MayBe before after (record before { list = take to before.list; stable = stable })
  may_cut before after to stable within whole low low_stable high = by (cases_lt before.stable after.stable) (cases_lt (length after.list) (length before.list))
    where
      all : before.stable ≡ length before.list → length after.list ≡ length before.list → before.stable ≤ least before after
      all full same = at (length after.list == 0)
        where
          at : (b : Bool) → before.stable ≤ cond b before.stable (min before.stable (length after.list))
          at true = le_refl before.stable
          at false = omega (arith, same, full)

      by : (before.stable < after.stable) ⊎ (after.stable ≤ before.stable) → (length after.list < length before.list) ⊎ (length before.list ≤ length after.list) → MayBe before after (record before { list = take to before.list; stable = stable })
      by (inl more) shorter = cut to stable (inl more) low low_stable
      by (inr same) (inl shorter) = cut to stable (inr shorter) low low_stable
      by (inr same) (inr longer) =
          let full : before.stable ≡ length before.list = omega (arith, within, whole, same, longer) in
          let least_is = all full (omega (arith, within, whole, same, longer)) in
          subst (λ xs. MayBe before after (record before { list = xs; stable = stable })) (append-nil before.list ∙ sym (take_all to before.list (omega (arith, low, least_is, full))))
          (grown 0 stable (omega (arith, low_stable, least_is)) (λ same. omega (arith, low_stable, least_is, full, high)))

  -- such a one of a store that was cut there
  left_cut : (left : Option Stored) (before after : Log) (s t : Stored) (to : ℕ) → FrontCounts m before to → own.IsStored (engine_of m policies) before s → before.start ≤ to → before.start ≤ length before.list → before.stable ≤ length before.list → after.stable ≡ length after.list
      → left ≡ Some t → t ≡ record (left_at to s) { stable = t.stable; past = t.past } → t.stable ≤ end_of t → least before after ≤ to → least before after ≤ t.stable → IsLeft m left before after
  left_cut left before after s t to front has later inside within whole told same high low low_stable = record {
    log = record before { list = take to before.list; stable = t.stable };
    has = record { stored = t; is = told; has = subst (own.IsStored (engine_of m policies) (record before { list = take to before.list; stable = t.stable })) (sym same) (stored-cut before s has front.low front.counts front.on to t.stable t.past later front.begins) };
    may = may_cut before after to t.stable within whole low low_stable
        (let end = end-whole before s has inside in omega (arith, high, end, ap (λ (x : Stored). x.start) same, ap (λ (x : Stored). length x.items) same, length-take (to - s.start) s.items));
  }

  least-stable : (before after : Log) → least before after ≤ before.stable
  least-stable before after = at (length after.list == 0)
    where
      at : (b : Bool) → cond b before.stable (min before.stable (length after.list)) ≤ before.stable
      at true = le_refl before.stable
      at false = omega arith

  -- a commit or a restart failed
  pub left_imaged : (told left : Option Stored) (before after : Log) → Counts m before → HasLog m told before → before.start ≤ before.stable → before.stable ≤ length before.list → after.stable ≡ length after.list
      → Turns told left (λ s. ReadsAs s.stable (IsImage s)) → IsLeft m left before after
  left_imaged told left before after counts has start within whole made =
      let t = turned told left has.stored (λ s. ReadsAs s.stable (IsImage s)) has.is made in
      let r = t.2 in
      let i = r.left in
      let low = i.may.stable in
      let low_stable = r.least_stable in
      let least_is = least-stable before after in
      left_cut left before after has.stored t.0 i.to (front-stable m before i.to counts (omega (arith, low, has.has.stable))) has.has (omega (arith, start, low, has.has.stable)) (omega (arith, start, within)) within whole t.1 (r.reads ∙ ap (λ (x : Stored). record x { stable = t.0.stable; past = t.0.past }) i.same)
      r.within (omega (arith, low, least_is, has.has.stable)) (omega (arith, low_stable, least_is, has.has.stable))

  -- a restart chose an end
  pub left_restarted : (told left : Option Stored) (before after : Log) → Counts m before → HasLog m told before → before.start ≤ before.stable → before.stable ≤ length before.list → after.stable ≡ length after.list
      → Turns told left HasRestarted → IsLeft m left before after
  left_restarted told left before after counts has start within whole made =
      let t = turned told left has.stored HasRestarted has.is made in
      let r = t.2 in
      let low = r.may.stable in
      let least_is = least-stable before after in
      record {
        log = record before { list = take r.to before.list; stable = r.to };
        has = record { stored = t.0; is = t.1; has = subst (own.IsStored (engine_of m policies) (record before { list = take r.to before.list; stable = r.to })) (sym r.same) (stored-restarted before has.stored has.has before counts (goes-on before) r.to (omega (arith, start, low, has.has.stable)) (settled-within before r.to (omega (arith, low, has.has.stable)))) };
        may = may_cut before after r.to r.to within whole (omega (arith, low, least_is, has.has.stable)) (omega (arith, low, least_is, has.has.stable))
            (let high = r.may.within in let end = end-whole before has.stored has.has (omega (arith, start, within)) in omega (arith, high, end));
      }

  -- a destroy failed
  pub left_destroyed : (told left : Option Stored) (before : Log) → Counts m before → HasLog m told before → before.start ≤ before.stable → before.stable ≤ length before.list
      → Turns told left DestroyLeaves → IsLeft m left before no_log
  left_destroyed told left before counts has start within made = by (turned told left has.stored DestroyLeaves has.is made)
    where
      by : (t : Stored) × (left ≡ Some t) × DestroyLeaves has.stored t → IsLeft m left before no_log
      by (t, told, inl r) =
          let i = r.left in
          let low = i.may.stable in
          let low_stable = r.least_stable in
          left_cut left before no_log has.stored t i.to (front-stable m before i.to counts (omega (arith, low, has.has.stable))) has.has (omega (arith, start, low, has.has.stable)) (omega (arith, start, within)) within refl told (r.reads ∙ ap (λ (x : Stored). record x { stable = t.stable; past = t.past }) i.same)
          r.within (omega (arith, low, has.has.stable)) (omega (arith, low_stable, has.has.stable))
      by (t, told, inr r) =
          let i = r.left in
          let none : i.to ≡ 0 = let high = i.may.within in omega (arith, high) in
          let short = r.within in
          let bare_items : t.items ≡ [] = ap (λ x. x.items) (r.reads ∙ ap (λ (x : Stored). record x { stable = t.stable; past = t.past }) i.same) ∙ nothing (i.to - 0) in
          let none_start : t.start ≡ 0 = ap (λ x. x.start) (r.reads ∙ ap (λ (x : Stored). record x { stable = t.stable; past = t.past }) i.same) in
          let head : t.head ≡ [] = ap (λ x. x.head) (r.reads ∙ ap (λ (x : Stored). record x { stable = t.stable; past = t.past }) i.same) in
          let metas : t.metadata ≡ [] = ap (λ x. x.metadata) (r.reads ∙ ap (λ (x : Stored). record x { stable = t.stable; past = t.past }) i.same) in
          record { log = no_log; has = record { stored = t; is = told; has = stored-none t none_start bare_items head metas (omega (arith, short, none_start, ap length bare_items)) }; may = emptied refl }
        where
          nothing : (n : ℕ) → take {A = Bytes} n [] ≡ []
          nothing zero = refl
          nothing (suc n) = refl

  -- The list, all of it stable, with this number of chunks counted.
  abbrev Whole : Log → ℕ → Log
  Whole before n = record (machine.settled before) { chunks = n }

  -- a store that reads as an image of one that holds it, and has as much of it stable, holds it
  read-whole : (log : Log) (s t : Stored) → own.IsStored (engine_of m policies) log s → log.start ≤ length log.list → log.stable ≡ length log.list → ReadsAs (length log.list) (IsImage s) t → own.IsStored (engine_of m policies) log t
  read-whole log s t is inside whole r =
      let i = r.left in
      let end = end-whole log s is inside in
      let low = i.may.stable in
      let high = i.may.within in
      let least_stable = r.least_stable in
      let within = r.within in
      let size : length s.items ≡ length log.list - log.start = ap length is.items ∙ (length-map (drop log.start log.list) (spelling m.form) ∙ length-drop log.start log.list) in
      let all : take (i.to - s.start) s.items ≡ s.items = take_all (i.to - s.start) s.items (omega (arith, size, low, is.stable, whole, is.start)) in
      let as_read : t ≡ record s { stable = t.stable; past = t.past } =
      r.reads ∙ (ap (λ (x : Stored). record x { stable = t.stable; past = t.past }) i.same ∙ ap (λ (xs : List Bytes). record s { items = xs; stable = t.stable; past = t.past }) all) in
      let stays : t.stable ≡ s.stable = omega (arith, least_stable, within, ap (λ (x : Stored). x.start) as_read, ap (λ (x : Stored). length x.items) as_read, size, is.start, is.stable, whole, inside) in
      subst (own.IsStored (engine_of m policies) log) (sym (as_read ∙ ap (λ n. record s { stable = n; past = t.past }) stays)) (stored-past log s is t.past)

  -- the list may be left whole, with as many chunks as before, or with as many as after the prune
  may-whole : (before after : Log) → before.stable ≤ length before.list → after.stable ≡ length after.list → length before.list ≤ length after.list → MayBe before after (machine.settled before)
  may-whole before after within whole long =
      subst (λ xs. MayBe before after (record before { list = xs; stable = length before.list })) (take_all (length before.list) before.list (le_refl (length before.list)))
      (may_cut before after (length before.list) (length before.list) within whole (let low = least-stable before after in omega (arith, low, within)) (let low = least-stable before after in omega (arith, low, within)) (le_refl (length before.list)))

  pub may-before : (before : Log) (to : ℕ) → before.stable ≤ length before.list → MayBe before (machine.pruned m.grafts to before) (before-start m to before)
  may-before before to within = by (cases_lt before.chunks (chunks_after m.grafts before.chunks to))
    where
      by : (before.chunks < chunks_after m.grafts before.chunks to) ⊎ (chunks_after m.grafts before.chunks to ≤ before.chunks) → MayBe before (machine.pruned m.grafts to before) (before-start m to before)
      by (inl more) = counted more (omega arith)
      by (inr same) =
          let more = more-after m.grafts before.chunks to in
          subst (λ n. MayBe before (machine.pruned m.grafts to before) (record (machine.settled before) { chunks = n })) (omega (arith, more, same)) (may-whole before (machine.pruned m.grafts to before) within refl (le_refl (length before.list)))

  -- What a failed call leaves of a store that has this log and tells so.
  module _ (over : IfSome (chunks_of m) (IsOver m.hash m.shape m.digest_size)) (told left : Option Stored) (before : Log) (counts : Counts m before) (has : HasLog m told before) (start : before.start ≤ before.stable) (within : before.stable ≤ length before.list)
      (few : length before.list ≤ 2 ^ 62) where
    inside : before.start ≤ length before.list
    inside = omega (arith, start, within)

    end : end_of has.stored ≡ length before.list
    end = end-whole before has.stored has.has inside

    settled-has : own.IsStored (engine_of m policies) (machine.settled before) (settled has.stored)
    settled-has = stored-settled before has.stored has.has inside

    reads-end : (Leaves : Stored → Type 0) (t : Stored) → ReadsAs (end_of has.stored) Leaves t → ReadsAs (length before.list) Leaves t
    reads-end Leaves t r = subst (λ n. ReadsAs n Leaves t) end r

    -- a sync failed
    pub left_synced : Turns told left (LeavesSync m before.list) → IsLeft m left before (machine.settled before)
    left_synced made = by (turned told left has.stored (LeavesSync m before.list) has.is made)
      where
        whole-left : (t : Stored) → left ≡ Some t → own.IsStored (engine_of m policies) (machine.settled before) t → IsLeft m left before (machine.settled before)
        whole-left t is stored = record { log = machine.settled before; has = record { stored = t; is = is; has = stored }; may = may-whole before (machine.settled before) within refl (le_refl (length before.list)) }

        by : (t : Stored) × (left ≡ Some t) × LeavesSync m before.list has.stored t → IsLeft m left before (machine.settled before)
        by (t, is, inl r) = left_imaged told left before (machine.settled before) counts has start within refl (subst (λ o. Turns o left (λ s. ReadsAs s.stable (IsImage s))) (sym has.is) (subst (λ o. Turns (Some has.stored) o (λ s. ReadsAs s.stable (IsImage s))) (sym is) r))
        by (t, is, inr r) = old_or_new r.left
          where
            so : (Leaves : Stored → Type 0) → Leaves r.image → ReadsAs (length before.list) Leaves t
            so Leaves i = reads-end Leaves t record { image = r.image; left = i; reads = r.reads; least_stable = r.least_stable; within = r.within }

            old_or_new : IsOldOrNew (with_count m before.list (counted_in m has.stored)) (settled has.stored) r.image → IsLeft m left before (machine.settled before)
            old_or_new (inl i) = whole-left t is (read-whole (machine.settled before) (settled has.stored) t settled-has inside refl (so (IsImage (settled has.stored)) i))
            old_or_new (inr i) =
                whole-left t is (read-whole (machine.settled before) (with_count m before.list (counted_in m has.stored) (settled has.stored)) t (stored-synced over before has.stored has.has inside few) inside refl
                (so (IsImage (with_count m before.list (counted_in m has.stored) (settled has.stored))) i))

    -- a prune failed
    pub left_pruned : (first to : ℕ) (IsHead : Bytes → Type 0) → first ≡ before.start → to ≤ length before.list → ((head : Bytes) → IsHead head → head ≡ head_at m before.list to)
        → Turns told left (LeavesPrune m before.list first IsHead to) → IsLeft m left before (machine.pruned m.grafts to before)
    left_pruned first to IsHead starts far heads made = by (turned told left has.stored (LeavesPrune m before.list first IsHead to) has.is made)
      where
        after : Log
        after = machine.pruned m.grafts to before

        -- what it is before the prune itself
        before-has : own.IsStored (engine_of m policies) (before-start m to before) (before_prune m before.list to has.stored)
        before-has = stored-before over before has.stored has.has inside few to far

        left-before : (t : Stored) → left ≡ Some t → ReadsAs (length before.list) (IsImage (before_prune m before.list to has.stored)) t → IsLeft m left before (machine.pruned m.grafts to before)
        left-before t is r = record {
          log = before-start m to before;
          has = record { stored = t; is = is; has = read-whole (before-start m to before) (before_prune m before.list to has.stored) t before-has inside refl r };
          may = may-before before to within;
        }

        by : (t : Stored) × (left ≡ Some t) × LeavesPrune m before.list first IsHead to has.stored t → IsLeft m left before (machine.pruned m.grafts to before)
        by (t, is, inl r) = left_imaged told left before (machine.pruned m.grafts to before) counts has start within refl (subst (λ o. Turns o left (λ s. ReadsAs s.stable (IsImage s))) (sym has.is) (subst (λ o. Turns (Some has.stored) o (λ s. ReadsAs s.stable (IsImage s))) (sym is) r))
        by (t, is, inr (inl r)) = old_or_new r.left
          where
            so : (Leaves : Stored → Type 0) → Leaves r.image → ReadsAs (length before.list) Leaves t
            so Leaves i = reads-end Leaves t record { image = r.image; left = i; reads = r.reads; least_stable = r.least_stable; within = r.within }

            old_or_new : IsOldOrNew (with_count m before.list (chunks_after m.grafts (counted_in m has.stored) to)) (settled has.stored) r.image → IsLeft m left before (machine.pruned m.grafts to before)
            old_or_new (inl i) = record {
              log = machine.settled before;
              has = record { stored = t; is = is; has = read-whole (machine.settled before) (settled has.stored) t settled-has inside refl (so (IsImage (settled has.stored)) i) };
              may = may-whole before (machine.pruned m.grafts to before) within refl (le_refl (length before.list));
            }
            old_or_new (inr i) = left-before t is (so (IsImage (before_prune m before.list to has.stored)) i)
        by (t, is, inr (inr (later, head, is_head, r))) = old_or_new r.left
          where
            past_start : before.start < to
            past_start = subst (λ n. n < to) starts later

            so : (Leaves : Stored → Type 0) → Leaves r.image → ReadsAs (length before.list) Leaves t
            so Leaves i = reads-end Leaves t record { image = r.image; left = i; reads = r.reads; least_stable = r.least_stable; within = r.within }

            there : own.IsStored (engine_of m policies) (record (before-start m to before) { start = to }) (pruned to head (before_prune m before.list to has.stored))
            there = stored-pruned (before-start m to before) (before_prune m before.list to has.stored) before-has to head (found_by (before_prune m before.list to has.stored)) (omega (arith, past_start)) (heads head is_head)

            old_or_new : IsOldOrNew (pruned to head) (before_prune m before.list to has.stored) r.image → IsLeft m left before (machine.pruned m.grafts to before)
            old_or_new (inl i) = left-before t is (so (IsImage (before_prune m before.list to has.stored)) i)
            old_or_new (inr i) =
                let stored = read-whole (record (before-start m to before) { start = to }) (pruned to head (before_prune m before.list to has.stored)) t there far refl (so (IsImage (pruned to head (before_prune m before.list to has.stored))) i) in
                record {
                  log = machine.pruned m.grafts to before;
                  has = record { stored = t; is = is; has = subst (λ n. own.IsStored (engine_of m policies) (record (before-start m to before) { start = n }) t) (omega (arith, past_start)) stored };
                  may = moved (omega (arith, past_start));
                }

  -- What an opening makes of it.

  -- of which log an opening's metadata counts the same: the store's own, if it is empty, and that which is taken up
  abbrev TakenCounts : Log → ℕ → Type 0
  TakenCounts log n = Counts m log × Counts m (taken_up (opened_list n log.list) log)

  -- what is taken up of a log goes on from it
  front-taken : (log : Log) (j to : ℕ) → Counts m (taken_up (take (suc j) log.list) log) → suc j ≤ to → FrontCounts m log to
  front-taken log j to counts far =
      let list = take (suc j) log.list in
      let low = taken_up list log in
      record {
        low = low;
        counts = counts;
        on = record { same = refl; front = Begins-through (own.settled_list low) list log.list (settled-in low) (begins_take (suc j) log.list) };
        begins = Begins-through (own.settled_list low) list (take to log.list) (settled-in low) (begins_both (suc j) to log.list far);
      }

  front-opened : (log : Log) (j to : ℕ) → TakenCounts log (suc j) → min log.stable (suc j) ≤ to → FrontCounts m log to
  front-opened log j to counts low = by (cases_lt log.stable (suc j))
    where
      by : (log.stable < suc j) ⊎ (suc j ≤ log.stable) → FrontCounts m log to
      by (inl less) = front-stable m log to counts.0 (omega (arith, less, low))
      by (inr more) = front-taken log j to counts.1 (omega (arith, more, low))

  -- the store after an opening that takes up the first n of the log's operations, or the fresh list of an empty one
  pub stored-taken : (log : Log) (s : Stored) (n : ℕ) → TakenCounts log n → own.IsStored (engine_of m policies) log s → log.start ≤ n → (n ≡ 0 → log.list ≡ []) → n ≤ length log.list → own.IsStored (engine_of m policies) (taken_up (opened_list n log.list) log) (taken m n s)
  stored-taken log s zero counts is low none few =
      let begun : own.IsStored (engine_of m policies) (record log { list = fresh }) (appended (map (spelling m.form) fresh) s) =
      subst (λ xs. own.IsStored (engine_of m policies) (record log { list = xs ++ fresh }) (appended (map (spelling m.form) fresh) s)) (none refl) (stored-appended log s is log counts.0 (goes-on log) fresh (omega (arith, low))) in
      stored-settled (record log { list = fresh }) (appended (map (spelling m.form) fresh) s) begun (omega (arith, low))
  stored-taken log s (suc j) counts is low none few =
      let front = front-taken log j (suc j) counts.1 (le_refl (suc j)) in
      stored-settled (record log { list = take (suc j) log.list; stable = min s.stable (suc j) }) (rewound (suc j) s)
      (stored-cut log s is front.low front.counts front.on (suc j) (min s.stable (suc j)) (rewound (suc j) s).past low front.begins) (omega (arith, low, length-take-le (suc j) log.list few))

  least-within : (before after : Log) → 0 < length after.list → least before after ≤ length after.list
  least-within before after some = at (length after.list == 0) refl
    where
      at : (b : Bool) → (length after.list == 0) ≡ b → cond b before.stable (min before.stable (length after.list)) ≤ length after.list
      at true e = absurd (omega (arith, some, eqb-true (length after.list) 0 e))
      at false e = omega arith

  pub left_taken : (told left : Option Stored) (log : Log) (n : ℕ) → HasLog m told log → log.stable ≤ length log.list → (n ≡ 0 → log.list ≡ []) → n ≤ length log.list
      → HasLog m left (taken_up (opened_list n log.list) log) → IsLeft m left log (taken_up (opened_list n log.list) log)
  left_taken told left log zero has within none few new = record {
    log = taken_up fresh log;
    has = new;
    may = subst (λ xs. MayBe (record log { list = xs }) (taken_up fresh log) (taken_up fresh log)) (sym (none refl)) (grown 1 1 (omega (arith, within, ap length (none refl))) (λ same. absurd (omega (arith, ap (λ (l : Log). length l.list) same))));
  }
  left_taken told left log (suc j) has within none few new =
      let after = taken_up (take (suc j) log.list) log in
      let size = length-take-le (suc j) log.list few in
      let low = least-within log after (omega (arith, size)) in
      record { log = after; has = new; may = may_cut log after (suc j) (length (take (suc j) log.list)) within refl (omega (arith, low, size)) low (omega (arith, size, few)) }

  pub left_opening : (told left : Option Stored) (log : Log) (n : ℕ) → TakenCounts log n → HasLog m told log → log.start ≤ log.stable → log.stable ≤ length log.list → log.start ≤ n → (n ≡ 0 → log.list ≡ []) → n ≤ length log.list
      → Turns told left (LeavesOpening m n) → IsLeft m left log (taken_up (opened_list n log.list) log)
  left_opening told left log zero counts has start within behind none few made =
      left_appended told left log (taken_up fresh log) fresh counts.0 has start within (ap (λ xs. drop (length xs) fresh) (none refl)) made (λ bare. absurd (omega (arith, ap length bare)))
  left_opening told left log (suc j) counts has start within behind none few made =
      let after = taken_up (take (suc j) log.list) log in
      let t = turned told left has.stored (λ s. ReadsAs (min s.stable (suc j)) (RewindLeaves (suc j) s)) has.is made in
      let r = t.2 in
      let i = r.left in
      let size = length-take-le (suc j) log.list few in
      let low = least-within log after (omega (arith, size)) in
      let low_stable = least-stable log after in
      let from = i.may.stable in
      let stays = r.least_stable in
      left_cut left log after has.stored t.0 i.to (front-opened log j i.to counts (omega (arith, from, has.has.stable))) has.has (omega (arith, start, behind, from, has.has.stable)) (omega (arith, start, within)) within refl t.1 (r.reads ∙ ap (λ (x : Stored). record x { stable = t.0.stable; past = t.0.past }) i.same)
      r.within (omega (arith, low, low_stable, from, size, has.has.stable)) (omega (arith, low, low_stable, stays, size, has.has.stable))
