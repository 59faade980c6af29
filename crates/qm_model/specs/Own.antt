-- Own stores: those that a database of one kind, family and spelling leaves.
use Rattle.std.specs.Prelude.{◌≡◌, ◌⊎◌, ◌≤◌, ◌<◌, ℕ, suc, min, ◌*◌, ◌/◌, ◌^◌, List, [], ◌++◌, length, map, take, drop, All, Option, None, Some, IfSome, ⊤}
use Rattle.std.specs.List.{concat}
use Rattle.qm_model.specs.Operations.{Bytes, Operation, fresh, IsCommitEnded}
use Rattle.qm_model.specs.Forms.{Form, IsOf, spelling}
use Rattle.qm_model.specs.Live.{floor}
use Rattle.qm_model.specs.Trees.{Shape, peaks}
use Rattle.qm_model.specs.Proofs.{pins_at}
use Rattle.qm_model.specs.Grafted.{boundary, chunk_node, needed_size, pair_absorption_threshold, grafted_pins}
use Rattle.qm_model.specs.Walk.{Rules}
use Rattle.qm_model.specs.Step.{Kind, Made}
use Rattle.qm_model.specs.Batches.{Begins}
use Rattle.qm_model.specs.StoreModel.{Entry, Rest, Stored, metadata_in, at_rest, IsImage, IsCrash, HasRestarted, HasAppended, IsOldOrNew, RewindLeaves, DestroyLeaves, ReadsAs, Fails, appended, settled, rewound, pruned, with_metadata, destroyed}
use Rattle.qm_model.specs.Opening.{Chunks, Layout, Found, opens, size_of, last_commit, metadata_refusal, count_in, pins_found, opened_list, opening, found}

-- what makes the lists of a database, and how they lie in a store
pub record Engine (P : Type 0) : Type 0 where
  pub kind : Kind
  pub rules : Rules P
  pub hash : Bytes → Bytes
  pub layout : Layout

-- an engine of any databases, which have no chunks
abbrev pub any_engine : {P : Type 0} → Kind → Rules P → (Bytes → Bytes) → Form → Shape → ℕ → Engine P
any_engine kind rules hash form shape digest_size =
    record { kind = kind; rules = rules; hash = hash; layout = record { form = form; shape = shape; digest_size = digest_size; chunks = None } }

-- an engine of current databases with these chunks
abbrev pub current_engine : {P : Type 0} → Kind → Rules P → (Bytes → Bytes) → Form → Shape → ℕ → Chunks → Engine P
current_engine kind rules hash form shape digest_size c =
    record { kind = kind; rules = rules; hash = hash; layout = record { form = form; shape = shape; digest_size = digest_size; chunks = Some c } }

-- a store by its list: from which location on it has the operations, how many chunks of bits are pruned, and up to which
-- size the list outlives a crash
pub record Log : Type 0 where
  pub list : List Operation
  pub start : ℕ
  pub chunks : ℕ
  pub stable : ℕ

-- the empty store
abbrev pub no_log : Log
no_log = record { list = []; start = 0; chunks = 0; stable = 0 }

-- no node over a chunk waits whose pair is born with its last location
abbrev pub ArePrompt : Option Chunks → Shape → Type 0
ArePrompt None shape = ⊤
ArePrompt (Some c) shape = (k : ℕ) → pair_absorption_threshold shape c.height (suc k) ≡ None → shape.birth (chunk_node c.height k) ≤ suc k * 2 ^ c.height

-- more chunks need no smaller size to go
abbrev pub NeedsRise : Option Chunks → Shape → Type 0
NeedsRise None shape = ⊤
NeedsRise (Some c) shape = (a b : ℕ) → a ≤ b → needed_size shape c.height (suc a) ≤ needed_size shape c.height (suc b)

-- after an opening that takes up this list
abbrev pub taken_up : List Operation → Log → Log
taken_up list log = record log { list = list; stable = length list }

-- after a crash that left the operations up to this end
abbrev pub left_at : ℕ → Log → Log
left_at to log = record log { list = take to log.list; stable = to }

-- the size of the longest beginning of a list that ends with a commit, 0 if none does
abbrev pub ended_size : List Operation → ℕ
ended_size list = size_of (last_commit 0 None (map (λ op. Some op) list))

-- that beginning
abbrev pub ended_part : List Operation → List Operation
ended_part list = take (ended_size list) list

-- the longest commit-ended list that outlives every crash
abbrev pub settled_list : Log → List Operation
settled_list log = ended_part (take log.stable log.list)

module _ {P : Type 0} (e : Engine P) where
  -- What a store holds of a list.

  -- the metadata is readable, and has the count of pruned chunks and the pins of the list's grafted tree there; none means no chunk
  pub record IsCounted (c : Chunks) (log : Log) (entries : List Entry) : Type 0 where
    pub readable : metadata_refusal e.layout entries ≡ None
    pub count : count_in entries ≡ log.chunks
    pub pins : pins_found e.layout.shape entries log.chunks ≡ map (λ pin. Some pin) (grafted_pins e.hash e.layout.shape c.height e.layout.form log.list log.chunks)

  -- an any database has no pruned chunk, and looks at no metadata
  abbrev pub MetadataIs : Option Chunks → Log → Stored → Type 0
  MetadataIs None log s = log.chunks ≡ 0
  MetadataIs (Some c) log s = IsCounted c log (metadata_in s.metadata c.name)

  -- the pins of what stands before the start, one after another
  abbrev pub head_of : Log → Bytes
  head_of log = concat (pins_at e.hash e.layout.shape e.layout.form (take log.start log.list) log.start)

  -- the bytes of a store are those of the list from its start on, with the pins of what is before it
  pub record IsStored (log : Log) (s : Stored) : Type 0 where
    pub start : s.start ≡ log.start
    pub items : s.items ≡ map (spelling e.layout.form) (drop log.start log.list)
    pub head : s.head ≡ head_of log
    pub metadata : MetadataIs e.layout.chunks log s
    pub stable : s.stable ≡ log.stable

  -- What metadata counts of a list, it counts of each list with as many pruned chunks, if both go on from what is settled of this log.
  abbrev pub KeepsCount : Log → Type 0
  KeepsCount low = (log other : Log) (s t : Stored) → low.chunks ≡ log.chunks → other.chunks ≡ log.chunks → Begins (settled_list low) log.list → Begins (settled_list low) other.list
      → t.metadata ≡ s.metadata → MetadataIs e.layout.chunks log s → MetadataIs e.layout.chunks other t

  -- Which lists, starts and counts a database leaves.

  -- a beginning of a list that steps made, of operations of the database's form
  pub record IsPartMade (list : List Operation) : Type 0 where
    pub whole : List Operation
    pub made : Made e.kind e.rules whole
    pub begins : Begins list whole
    pub of_form : All (IsOf e.layout.form) list

  -- no more whole chunks stand below the start than are pruned, and these end within the settled list's boundary
  abbrev pub ArePruned : Option Chunks → Log → Type 0
  ArePruned None log = ⊤
  ArePruned (Some c) log = (log.start / 2 ^ c.height ≤ log.chunks) × (log.chunks * 2 ^ c.height ≤ boundary e.layout.shape c.height (settled_list log))

  -- no settled commit needs an operation below the start, and all that is stable is there
  pub record IsKept (log : Log) : Type 0 where
    pub made : IsPartMade log.list
    pub start : log.start ≤ floor (settled_list log)
    pub stable : log.stable ≤ length log.list
    pub chunks : ArePruned e.layout.chunks log

  -- a store of this engine
  pub record IsOwn (log : Log) (s : Stored) : Type 0 where
    pub stored : IsStored log s
    pub kept : IsKept log

  -- What an opening makes of an own store.

  -- what an opening finds in a store, by its list
  abbrev pub found_in : Log → Found
  found_in log = record { start = log.start; items = map (λ op. Some op) (drop log.start log.list); head = head_of log; metadata = None; count = log.chunks }

  -- an accepted opening takes up a list of this size: a beginning of the store's list or, of an empty store, the fresh
  -- list. It ends with a commit, is the longest that does within the bound, and the store stays own.
  pub record Takes (log : Log) (bound : Option ℕ) (size : ℕ) : Type 0 where
    pub kept : IsKept (taken_up (opened_list size log.list) log)
    pub part : Begins (opened_list size log.list) log.list ⊎ ((log.list ≡ []) × (opened_list size log.list ≡ fresh))
    pub ended : IsCommitEnded (opened_list size log.list)
    pub bounded : IfSome bound (λ b. size ≤ b)
    pub longest : (n : ℕ) → log.start < n → n ≤ length log.list → IfSome bound (λ b. n ≤ b) → IsCommitEnded (take n log.list) → n ≤ size

  -- each accepted opening does
  abbrev pub OpensParts : Type 0
  OpensParts = (log : Log) (bound : Option ℕ) (size : ℕ) → IsKept log → opening e.layout (found_in log) bound ≡ opens size → Takes log bound size

  -- without a bound it is opened, to a list that is no shorter than what is settled
  pub record OpensWhole (log : Log) : Type 0 where
    pub size : ℕ
    pub accepted : opening e.layout (found_in log) None ≡ opens size
    pub settled : length (settled_list log) ≤ size

  -- What a crash leaves of an own store, while a call makes one log of the other.

  -- as much as is settled before stays, as far as the call keeps the list; or nothing does, if the call leaves nothing
  abbrev pub Stays : Log → Log → Log → Type 0
  Stays before after log =
      (min (length (settled_list before)) (length after.list) ≤ length (settled_list log)) × ((after ≡ no_log) → (length (settled_list before) ≤ length (settled_list log)) ⊎ (log ≡ no_log))

  -- an own store, of a beginning of one of the two lists
  pub record IsBetween (before after : Log) (s : Stored) : Type 0 where
    pub log : Log
    pub own : IsOwn log s
    pub part : Begins log.list before.list ⊎ Begins log.list after.list
    pub stays : Stays before after log

  -- It is opened without a bound, to a commit-ended beginning of one of the two lists or to the fresh list, that is no shorter than what stays.
  pub record OpensBetween (before after : Log) (s : Stored) : Type 0 where
    pub log : Log
    pub own : IsOwn log s
    pub size : ℕ
    pub accepted : opening e.layout (found e.layout s) None ≡ opens size
    pub ended : IsCommitEnded (opened_list size log.list)
    pub part : Begins (opened_list size log.list) before.list ⊎ (Begins (opened_list size log.list) after.list ⊎ (opened_list size log.list ≡ fresh))
    pub stays : (min (length (settled_list before)) (length after.list) ≤ size) × ((after ≡ no_log) → (length (settled_list before) ≤ size) ⊎ (log ≡ no_log))

-- What a crash may have found, since the first of two stores and now, is each between two logs.
abbrev pub AreBetween : {P : Type 0} → Engine P → Log → Log → List Rest → Type 0
AreBetween e before after rests = All (λ r. IsBetween e before after (at_rest r)) rests

-- every crash since a store was the older one, or now, leaves one between these two logs
abbrev pub CrashesBetween : {P : Type 0} → Engine P → Log → Log → Stored → Stored → Type 0
CrashesBetween e before after old new = (image : Stored) → IsCrash old new image → IsBetween e before after image

-- the same log with so many chunks pruned
abbrev pub counted : ℕ → Log → Log
counted count log = record log { chunks = count }

-- What crashes leave of own stores inside each call, and inside one call after another.
pub record CrashLaws {P : Type 0} (e : Engine P) : Type 0 where
  pub commit : (log : Log) (s : Stored) → IsOwn e log s → CrashesBetween e log (record log { stable = length log.list }) s (settled s)
  pub failed_commit : (log : Log) (s new : Stored) → IsOwn e log s → Fails (λ s. ReadsAs s.stable (IsImage s)) (λ s. ReadsAs s.stable (IsImage s)) s new → CrashesBetween e log (record log { stable = length log.list }) s new
  pub append : (log : Log) (s : Stored) (more : List Operation) → IsOwn e log s → IsKept e (record log { list = log.list ++ more })
      → CrashesBetween e log (record log { list = log.list ++ more }) s (appended (map (spelling e.layout.form) more) s)
  pub failed_append : (log : Log) (s new : Stored) (more : List Operation) → IsOwn e log s → IsKept e (record log { list = log.list ++ more })
      → Fails (HasAppended (map (spelling e.layout.form) more)) (λ s. IsImage (appended (map (spelling e.layout.form) more) s)) s new → CrashesBetween e log (record log { list = log.list ++ more }) s new
  pub restart : (log : Log) (s new : Stored) → IsOwn e log s → (r : HasRestarted s new) → CrashesBetween e log (left_at r.to log) s new
  -- metadata that counts so many chunks of the same list
  pub put_meta : (log : Log) (s : Stored) (count : ℕ) (name : Bytes) (entries : List Entry) → IsOwn e log s → IsKept e (counted count log) → MetadataIs e e.layout.chunks (counted count log) (with_metadata name entries s)
      → CrashesBetween e log (counted count log) s (with_metadata name entries s)
  pub failed_put_meta : (log : Log) (s new : Stored) (count : ℕ) (name : Bytes) (entries : List Entry) → IsOwn e log s → IsKept e (counted count log) → MetadataIs e e.layout.chunks (counted count log) (with_metadata name entries s)
      → Fails (λ s. ReadsAs s.stable (IsOldOrNew (with_metadata name entries) s)) (λ s. ReadsAs s.stable (IsOldOrNew (with_metadata name entries) s)) s new → CrashesBetween e log (counted count log) s new
  -- a prune, which commits first
  pub prune : (log : Log) (s : Stored) (to : ℕ) (head : Bytes) → IsOwn e log s → log.start ≤ to → IsKept e (record log { start = to; stable = length log.list }) → head ≡ head_of e (record log { start = to })
      → CrashesBetween e log (record log { start = to; stable = length log.list }) s (pruned to head (settled s))
  -- one that fails after its commit
  pub failed_prune : (log : Log) (s new : Stored) (to : ℕ) (head : Bytes) → IsOwn e log s → log.start ≤ to → IsKept e (record log { start = to; stable = length log.list }) → head ≡ head_of e (record log { start = to })
      → Fails (λ u. ReadsAs u.stable (IsOldOrNew (pruned to head) u)) (λ u. ReadsAs u.stable (IsOldOrNew (pruned to head) u)) (settled s) new → CrashesBetween e log (record log { start = to; stable = length log.list }) s new
  -- of a database with chunks: a prune that commits first, and then counts the chunks that it prunes
  pub counted_prune : (log : Log) (s : Stored) (count : ℕ) (name : Bytes) (entries : List Entry) (to : ℕ) (head : Bytes) → IsOwn e log s → IsKept e (record log { chunks = count; stable = length log.list })
      → MetadataIs e e.layout.chunks (record log { chunks = count; stable = length log.list }) (with_metadata name entries (settled s)) → log.start ≤ to → IsKept e (record log { start = to; chunks = count; stable = length log.list })
      → head ≡ head_of e (record log { start = to }) → CrashesBetween e log (record log { start = to; chunks = count; stable = length log.list }) s (pruned to head (with_metadata name entries (settled s)))
  -- an opening, of the list up to a commit, or of an empty store
  pub opening : (log : Log) (s : Stored) (n : ℕ) → IsOwn e log s → n ≤ length log.list → IsCommitEnded (take n log.list) → IsKept e (taken_up (take n log.list) log) → CrashesBetween e log (taken_up (take n log.list) log) s (settled (rewound n s))
  pub failed_opening : (log : Log) (s new : Stored) (n : ℕ) → IsOwn e log s → n ≤ length log.list → IsCommitEnded (take n log.list) → IsKept e (taken_up (take n log.list) log)
      → Fails (λ s. ReadsAs (min s.stable n) (RewindLeaves n s)) (λ s. ReadsAs (min s.stable n) (RewindLeaves n s)) s new → CrashesBetween e log (taken_up (take n log.list) log) s new
  pub fresh : (log : Log) (s : Stored) → IsOwn e log s → log.list ≡ [] → log.start ≡ 0 → CrashesBetween e log (taken_up fresh log) s (settled (appended (map (spelling e.layout.form) fresh) s))
  pub destroy : (log : Log) (s : Stored) → peaks e.layout.shape 0 ≡ [] → IsOwn e log s → CrashesBetween e log no_log s (destroyed s)
  pub failed_destroy : (log : Log) (s new : Stored) → peaks e.layout.shape 0 ≡ [] → IsOwn e log s → Fails DestroyLeaves DestroyLeaves s new → CrashesBetween e log no_log s new
  pub through : (before after : Log) (s t u : Stored) (first second : List Rest) → t.past ≡ first ++ s.past → u.past ≡ second ++ t.past
      → CrashesBetween e before after s t → CrashesBetween e before after t u → CrashesBetween e before after s u
