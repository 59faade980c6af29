-- The machine: databases and batches are operation lists, and each command is a function of the state.
use Rattle.std.specs.Prelude.{ℕ, ◌+◌, min, max, nat_lt, ◌==◌, ◌&&◌, Bool, true, if◌then◌else◌, List, [], ◌∷◌, ◌++◌, length, map, take, drop, slice_index_or, slice_set, Option, Some, None, option_map}
use Rattle.std.specs.List.{concat}
use Rattle.qm_model.specs.Operations.{Bytes, Operation}
use Rattle.qm_model.specs.Live.{Live, live, live_of, live_keys, floor, value_of, last_metadata}
use Rattle.qm_model.specs.Ranges.{Limit, key_above, key_below, span_of, keys_in, pairs_in}
use Rattle.qm_model.specs.Writes.{Write, read_through}
use Rattle.qm_model.specs.Slots.{slotted}
use Rattle.qm_model.specs.Slots as slots
use Rattle.qm_model.specs.Walk.{Rules}
use Rattle.qm_model.specs.Step as steps
use Rattle.qm_model.specs.Proofs.{pins_at}
use Rattle.qm_model.specs.Checks.{Checks}
use Rattle.qm_model.specs.Opening.{Found, Opening, refuses, opens, opening, opened_list}
use Rattle.qm_model.specs.Own.{Log, no_log, taken_up}
use Rattle.qm_model.specs.Batches.{Chain, begun_on, child_of, commitment, fits, readable, own_operations}
use Rattle.qm_machine.specs.Lines.{Line, Open, Batch, Child, Tip, Put, Del, Merkleize, Stage, Expand, Resolve, Apply, Ops, Evicted, Get, Many, Next, Prev, Span, All, Range, Keys, Info, BatchInfo, Root, BatchRoot, BatchProof, Meta, Prove, Pins, Question, Held, Absent, Witness, Current, Prune, Commit, Sync, Close, Destroy, Crash, Answer, Opened, Started, Done, Merkleized, Applied, Listed, Read, Expanded, Neighbour, Spanning, Whole, Ranged, Keyed, Told, BatchTold, Rooted, Metadata, Proved, BatchProved, Pinned, HeldAt, AbsentAt, Chunked, Witnessed, Dropped, Refuses}
use Rattle.qm_machine.specs.Lines as lines
use Rattle.qm_model.specs.Refused.{Refused, NotOffered, NoDatabase, NoSuchHandle, SlotCount, StaleBatch, StaleRead, KeyNotFound, KeyExists, PruneBeyondMinRequired}
use Rattle.qm_model.specs.Refusals.{tip_refusal, proof_refusal, proof_count, range_refusal}
use Rattle.qm_model.specs.Held.{pins_lacked, proof_lacked}
use Rattle.qm_model.specs.Schemes.{Grafts, Scheme, kind_of, layout_of, takes, chunks_after}

-- a batch number: used up; a batch with the chain of its parent, which made its base, and its writes; the same with the
-- keys that were staged; a merkleized batch with its tip list, and the keys that its step evicted, in the order of the walk, each
-- with the value that it had. The parent of a batch that was begun on a database is that as a merkleized batch.
pub data Slot : Type 0 where
  gone : Slot
  writing : Chain → Chain → List Write → Slot
  staged : Chain → Chain → List Write → List Bytes → Slot
  merkleized : Chain → List Operation → List (Bytes × Bytes) → Slot

pub record State : Type 0 where
  -- the open database's list, which is then the store's
  pub database : Option (List Operation)
  pub log : Log
  -- by number; no batch has the number 0
  pub table : List Slot
  -- how many openings were accepted
  pub opened : ℕ
  -- each list that a database or a batch of this run has had
  pub had : List (List Operation)
  -- the ends that the store will choose at crashes, in their order
  pub choices : List ℕ

-- no database, over a store that will choose these ends
abbrev pub initial : Log → List ℕ → State
initial log choices = record { database = None; log = log; table = gone ∷ []; opened = 0; had = []; choices = choices }

abbrev pub slot_at : List Slot → ℕ → Slot
slot_at table h = slice_index_or table h gone

abbrev pub refuse : State → Refused → Answer × State
refuse s r = (Refuses r, s)

abbrev pub with_slot : State → ℕ → Slot → State
with_slot s h slot = record s { table = slice_set s.table h slot }

-- the answer, unless it is refused
abbrev pub unless : State → Option Refused → Answer → Answer × State
unless s None answer = (answer, s)
unless s (Some r) answer = refuse s r

-- what a command that needs a database does without one
abbrev pub with_database : State → Option (List Operation) → (List Operation → Answer × State) → Answer × State
with_database s None f = refuse s NoDatabase
with_database s (Some list) f = f list

-- the database is gone
abbrev pub closed : State → State
closed s = record s { database = None }

-- the store after a commit or a sync
abbrev pub settled : Log → Log
settled log = record log { stable = length log.list }

-- the store after a prune to a location, which makes the list stable first; neither the start nor the count of pruned chunks falls
abbrev pub pruned : Option Grafts → ℕ → Log → Log
pruned grafts to log = record (settled log) { start = max log.start to; chunks = chunks_after grafts log.chunks to }

-- the store after a crash at which it chose this end: one from the stable length to the list's
abbrev pub restarted : ℕ → Log → Log
restarted chosen log = let to = max log.stable (min (length log.list) chosen) in record log { list = take to log.list; stable = to }

-- the database takes the list that is opened, and the store is cut to it
abbrev pub opened_as : State → Opening → Answer × State
opened_as s (refuses r) = refuse s r
opened_as s (opens size) =
    let list = opened_list size s.log.list in
    (Opened (s.opened + 1) s.log.start (length list), record s { database = Some list; log = taken_up list s.log; opened = s.opened + 1; had = list ∷ s.had })

abbrev pub commit : State → Answer × State
commit s = with_database s s.database (λ list. (Done, record s { log = settled s.log }))

abbrev pub close : State → Answer × State
close s = with_database s s.database (λ list. (Done, closed s))

abbrev pub destroy : State → Answer × State
destroy s = with_database s s.database (λ list. (Done, record (closed s) { log = no_log }))

-- the store chooses the first of the ends to come
abbrev pub crash : State → Answer × State
crash s = (Done, record (closed s) { log = restarted (slice_index_or s.choices 0 0) s.log; choices = drop 1 s.choices })

-- a batch gets the next number
abbrev pub started : State → Slot → Answer × State
started s slot = (Started (length s.table), record s { table = s.table ++ slot ∷ [] })

-- a batch is of the database's instance: the number of its opening, the last one
abbrev pub start_batch : State → Answer × State
start_batch s = with_database s s.database (λ list. started s (writing (begun_on s.opened list) (begun_on s.opened list) []))

abbrev pub start_child : State → ℕ → Option ℕ → Slot → Answer × State
start_child s h keep (merkleized chain tip evicted) = started s (writing (child_of keep chain tip) chain [])
start_child s h keep gone = refuse s (NoSuchHandle h)
start_child s h keep (staged chain parent ws keys) = refuse s (NoSuchHandle h)
start_child s h keep (writing chain parent ws) = refuse s (NoSuchHandle h)

abbrev pub child : State → ℕ → Option ℕ → Answer × State
child s h keep = start_child s h keep (slot_at s.table h)

abbrev pub start_tip : State → Answer × State
start_tip s = with_database s s.database (λ list. started s (merkleized (begun_on s.opened list) list []))

abbrev pub put_in : State → ℕ → Write → Slot → Answer × State
put_in s h w (writing chain parent ws) = (Done, with_slot s h (writing chain parent (ws ++ w ∷ [])))
put_in s h w gone = refuse s (NoSuchHandle h)
put_in s h w (staged chain parent ws keys) = refuse s (NoSuchHandle h)
put_in s h w (merkleized chain tip evicted) = refuse s (NoSuchHandle h)

abbrev pub put : State → ℕ → Bytes → Bytes → Answer × State
put s h key value = put_in s h (record { key = key; value = Some value }) (slot_at s.table h)

abbrev pub del : State → ℕ → Bytes → Answer × State
del s h key = put_in s h (record { key = key; value = None }) (slot_at s.table h)

abbrev pub list_operations : State → ℕ → Slot → Answer × State
list_operations s h (merkleized chain tip evicted) = (Listed (length chain.base) (own_operations chain tip), s)
list_operations s h gone = refuse s (NoSuchHandle h)
list_operations s h (staged chain parent ws keys) = refuse s (NoSuchHandle h)
list_operations s h (writing chain parent ws) = refuse s (NoSuchHandle h)

abbrev pub ops : State → ℕ → Answer × State
ops s h = list_operations s h (slot_at s.table h)

-- the keys that a merkleized batch's step evicted
abbrev pub list_evicted : State → ℕ → Slot → Answer × State
list_evicted s h (merkleized chain tip evicted) = (Dropped evicted, s)
list_evicted s h gone = refuse s (NoSuchHandle h)
list_evicted s h (staged chain parent ws keys) = refuse s (NoSuchHandle h)
list_evicted s h (writing chain parent ws) = refuse s (NoSuchHandle h)

abbrev pub evicted : State → ℕ → Answer × State
evicted s h = list_evicted s h (slot_at s.table h)

-- the metadata of the list's last commit
abbrev pub meta : State → Answer × State
meta s = with_database s s.database (λ list. (Metadata (last_metadata list), s))

-- the batch gets its tip list and what was evicted, or is used up if that is refused
abbrev pub merkleize_tip : State → ℕ → Chain → List Operation → List (Bytes × Bytes) → Option Refused → Answer × State
merkleize_tip s h chain tip evicted None =
    (Merkleized h (length chain.base) (length tip) (floor tip), record (with_slot s h (merkleized chain tip evicted)) { had = tip ∷ s.had })
merkleize_tip s h chain tip evicted (Some r) = refuse (with_slot s h gone) r

-- what only an any database offers, open or not
abbrev pub if_any : State → Option Grafts → Answer × State → Answer × State
if_any s None offered = offered
if_any s (Some g) offered = refuse s NotOffered

-- what only a current one does
abbrev pub if_current : State → Option Grafts → (Grafts → Answer × State) → Answer × State
if_current s None offered = refuse s NotOffered
if_current s (Some g) offered = offered g

-- what only an ordered current one does
abbrev pub if_absences : State → Option (List Operation → Bytes → ℕ × Bool) → ((List Operation → Bytes → ℕ × Bool) → Answer × State) → Answer × State
if_absences s None offered = refuse s NotOffered
if_absences s (Some check) offered = offered check

-- the proof of a key's live update, checked against the root
abbrev pub held_at : State → Checks → List Operation → Option Live → Answer × State
held_at s checks list None = refuse s KeyNotFound
held_at s checks list (Some e) = (HeldAt e.location (checks.held list e), s)

-- the proof that a key is absent, checked
abbrev pub absent_at : State → ℕ × Bool → Option Live → Answer × State
absent_at s proved None = (AbsentAt proved.0 proved.1, s)
absent_at s proved (Some e) = refuse s KeyExists

-- up to `max` operations from `start` on with their chunks, and their proof, checked
abbrev pub chunks_in : State → Grafts → Checks → ℕ → ℕ → List Operation → Answer × State
chunks_in s g checks start max list =
    let n = proof_count (length list) start max in
    let proved = checks.range list start (start + n) in
    unless s (range_refusal g.chunks.height s.log.chunks s.log.start list start) (Chunked n proved.0 proved.1)

-- what only one does that offers proofs of keys and ranges
abbrev pub if_checked : State → Option Checks → (Checks → Answer × State) → Answer × State
if_checked s None offered = refuse s NotOffered
if_checked s (Some checks) offered = offered checks

-- the answer to a question, by these checks
abbrev pub asked : State → Grafts → Checks → Question → Answer × State
asked s g checks (Held key) = with_database s s.database (λ list. held_at s checks list (live_of (live list) key))
asked s g checks (Absent key) = if_absences s checks.absent (λ check. with_database s s.database (λ list. absent_at s (check list key) (live_of (live list) key)))
asked s g checks (lines.Chunks start max) = with_database s s.database (chunks_in s g checks start max)
asked s g checks Witness = with_database s s.database (λ list. (Witnessed (checks.witness list), s))

-- that to a question that only a current database is asked
abbrev pub answered : State → Grafts → Question → Answer × State
answered s g question = if_checked s g.checks (λ checks. asked s g checks question)

module _ (m : Scheme) where
  -- what an opening finds in a store, by its list
  abbrev pub found_in : Log → Found
  found_in log = record { start = log.start; items = map (λ op. Some op) (drop log.start log.list); head = concat (pins_at m.hash m.shape m.form (take log.start log.list) log.start); metadata = None; count = log.chunks }

  -- up to a bound, if there is one; an open database is closed first
  abbrev pub open_store : State → Option ℕ → Answer × State
  open_store s bound = opened_as (closed s) (opening (layout_of m) (found_in s.log) bound)

  -- the database and its store take the tip list
  abbrev pub apply_in : State → ℕ → List Operation → Slot → Answer × State
  apply_in s h list (merkleized chain tip evicted) =
      if fits m.root (commitment m.root list) chain
      then (Applied (length tip), record s { database = Some tip; log = record s.log { list = tip } })
      else refuse s StaleBatch
  apply_in s h list gone = refuse s (NoSuchHandle h)
  apply_in s h list (staged chain parent ws keys) = refuse s (NoSuchHandle h)
  apply_in s h list (writing chain parent ws) = refuse s (NoSuchHandle h)

  abbrev pub apply : State → ℕ → Answer × State
  apply s h = with_database s s.database (λ list. apply_in s h list (slot_at s.table h))

  -- the answer, unless the database is at no state of the batch's chain
  abbrev pub if_readable : State → List Operation → Chain → List Operation → Answer → Answer × State
  if_readable s list chain tip answer = if readable m.root (commitment m.root list) chain tip then (answer, s) else refuse s StaleRead

  -- the values of keys through a batch
  abbrev pub read_in : State → ℕ → List Bytes → List Operation → Slot → Answer × State
  read_in s h keys list (writing chain parent ws) = if_readable s list parent chain.base (Read (map (read_through chain.base ws) keys))
  read_in s h keys list (merkleized chain tip evicted) = if_readable s list chain tip (Read (map (value_of tip) keys))
  read_in s h keys list gone = refuse s (NoSuchHandle h)
  read_in s h keys list (staged chain parent ws ks) = refuse s (NoSuchHandle h)

  -- the answer, with this in the batch's place, which is used up if the database is at no state of the batch's parent
  abbrev pub if_staged : State → ℕ → List Operation → Chain → Chain → Answer → Slot → Answer × State
  if_staged s h list chain parent answer slot =
      if readable m.root (commitment m.root list) parent chain.base then (answer, with_slot s h slot) else refuse (with_slot s h gone) StaleRead

  -- the values of keys through a batch, which becomes a staged one
  abbrev pub stage_in : State → ℕ → List Bytes → List Operation → Slot → Answer × State
  stage_in s h keys list (writing chain parent ws) = if_staged s h list chain parent (Read (map (read_through chain.base ws) keys)) (staged chain parent ws keys)
  stage_in s h keys list gone = refuse s (NoSuchHandle h)
  stage_in s h keys list (staged chain parent ws ks) = refuse s (NoSuchHandle h)
  stage_in s h keys list (merkleized chain tip evicted) = refuse s (NoSuchHandle h)

  abbrev pub stage : State → ℕ → List Bytes → Answer × State
  stage s h keys = with_database s s.database (λ list. stage_in s h keys list (slot_at s.table h))

  -- those of more keys, after the staged ones
  abbrev pub expand_in : State → ℕ → List Bytes → List Operation → Slot → Answer × State
  expand_in s h keys list (staged chain parent ws ks) =
      if_staged s h list chain parent (Expanded (length ks) (length ks + length keys) (map (read_through chain.base ws) keys)) (staged chain parent ws (ks ++ keys))
  expand_in s h keys list gone = refuse s (NoSuchHandle h)
  expand_in s h keys list (writing chain parent ws) = refuse s (NoSuchHandle h)
  expand_in s h keys list (merkleized chain tip evicted) = refuse s (NoSuchHandle h)

  abbrev pub expand : State → ℕ → List Bytes → Answer × State
  expand s h keys = with_database s s.database (λ list. expand_in s h keys list (slot_at s.table h))

  -- the values of keys, through a batch if one is given
  abbrev pub read : State → List Bytes → Option ℕ → Answer × State
  read s keys None = with_database s s.database (λ list. (Read (map (value_of list) keys), s))
  read s keys (Some h) = with_database s s.database (λ list. read_in s h keys list (slot_at s.table h))

  -- what only an ordered database offers, open or not
  abbrev pub if_ordered : State → Answer × State → Answer × State
  if_ordered s offered = if m.form.ordered then offered else refuse s NotOffered

  -- the neighbour of a key on the list that a merkleized batch makes
  abbrev pub neighbour_in : State → ℕ → (List Bytes → Option Bytes) → List Operation → Slot → Answer × State
  neighbour_in s h beside list (merkleized chain tip evicted) = if_readable s list chain tip (Neighbour (beside (live_keys tip)))
  neighbour_in s h beside list gone = refuse s (NoSuchHandle h)
  neighbour_in s h beside list (writing chain parent ws) = refuse s (NoSuchHandle h)
  neighbour_in s h beside list (staged chain parent ws ks) = refuse s (NoSuchHandle h)

  -- the same, or on the database's list if no batch is given
  abbrev pub neighbour_of : State → (List Bytes → Option Bytes) → Option ℕ → Answer × State
  neighbour_of s beside None = with_database s s.database (λ list. (Neighbour (beside (live_keys list)), s))
  neighbour_of s beside (Some h) = with_database s s.database (λ list. neighbour_in s h beside list (slot_at s.table h))

  -- the nearest live keys above and below a key
  abbrev pub next : State → Bytes → Option ℕ → Answer × State
  next s key from = if_ordered s (neighbour_of s (λ keys. key_above keys key) from)

  abbrev pub prev : State → Bytes → Option ℕ → Answer × State
  prev s key from = if_ordered s (neighbour_of s (λ keys. key_below keys key) from)

  -- the live update whose span holds a key
  abbrev pub span : State → Bytes → Answer × State
  span s key = if_ordered s (with_database s s.database (λ list. (Spanning (span_of list key), s)))

  -- a key's value, and the next key
  abbrev pub all : State → Bytes → Answer × State
  all s key = if_ordered s (with_database s s.database (λ list. (Whole (option_map (λ e. (e.value, e.next)) (live_of (live list) key)), s)))

  -- the live keys in a range, with their values or without
  abbrev pub range : State → Limit → Limit → Answer × State
  range s low high = if_ordered s (with_database s s.database (λ list. (Ranged (pairs_in low high list), s)))

  abbrev pub keys : State → Limit → Limit → Answer × State
  keys s low high = if_ordered s (with_database s s.database (λ list. (Keyed (keys_in low high list), s)))

  abbrev pub info : State → Answer × State
  info s = with_database s s.database (λ list. (Told s.log.start (length list) (floor list) (m.boundary list) (nat_lt 0 (length (live list))), s))

  -- the numbers of a merkleized batch
  abbrev pub info_in : State → ℕ → Slot → Answer × State
  info_in s h (merkleized chain tip evicted) = (BatchTold (length chain.base) (length tip) (floor tip) (m.boundary tip), s)
  info_in s h gone = refuse s (NoSuchHandle h)
  info_in s h (staged chain parent ws keys) = refuse s (NoSuchHandle h)
  info_in s h (writing chain parent ws) = refuse s (NoSuchHandle h)

  abbrev pub batch_info : State → ℕ → Answer × State
  batch_info s h = info_in s h (slot_at s.table h)

  -- the root and the operations root
  abbrev pub root : State → Answer × State
  root s = with_database s s.database (λ list. (Rooted (m.canonical list) (m.root list), s))

  abbrev pub root_in : State → ℕ → Slot → Answer × State
  root_in s h (merkleized chain tip evicted) = (Rooted (m.canonical tip) (m.root tip), s)
  root_in s h gone = refuse s (NoSuchHandle h)
  root_in s h (staged chain parent ws keys) = refuse s (NoSuchHandle h)
  root_in s h (writing chain parent ws) = refuse s (NoSuchHandle h)

  abbrev pub batch_root : State → ℕ → Answer × State
  batch_root s h = root_in s h (slot_at s.table h)

  -- the proof of a merkleized batch's own operations in its tip list, and the pins at its base
  abbrev pub proof_in : State → ℕ → List Operation → Slot → Answer × State
  proof_in s h list (merkleized chain tip evicted) =
      if readable m.root (commitment m.root list) chain tip
      then unless s (proof_lacked m.shape s.log.start list chain tip) (BatchProved (m.proof tip (length chain.base) (length tip)) (m.pins tip (length chain.base)))
      else refuse s StaleRead
  proof_in s h list gone = refuse s (NoSuchHandle h)
  proof_in s h list (staged chain parent ws keys) = refuse s (NoSuchHandle h)
  proof_in s h list (writing chain parent ws) = refuse s (NoSuchHandle h)

  abbrev pub batch_proof : State → ℕ → Answer × State
  batch_proof s h = if_any s m.grafts (with_database s s.database (λ list. proof_in s h list (slot_at s.table h)))

  -- up to `max` operations from `start` on, and their proof among the list's first `size` operations
  abbrev pub prove : State → ℕ → ℕ → ℕ → Answer × State
  prove s size start max = with_database s s.database (λ list. let n = proof_count size start max in
      unless s (proof_refusal s.log.start list size start) (Proved (m.proof (take size list) start (start + n)) (take n (drop start list))))

  abbrev pub pins : State → ℕ → Answer × State
  pins s n = with_database s s.database (λ list. unless s (pins_lacked m.shape s.log.start list n) (Pinned (m.pins list n)))

  -- up to the list's boundary
  abbrev pub prune_in : State → ℕ → List Operation → Answer × State
  prune_in s to list =
      if nat_lt (m.boundary list) to then refuse s (PruneBeyondMinRequired to (m.boundary list)) else (Done, record s { log = pruned m.grafts to s.log })

  abbrev pub prune : State → ℕ → Answer × State
  prune s to = with_database s s.database (λ list. prune_in s to list)

  abbrev pub current : State → Question → Answer × State
  current s question = if_current s m.grafts (λ g. answered s g question)

-- what a command leaves of the choices to come: a crash takes the first, and no other command takes one
abbrev pub choices_after : {P : Type 0} → Line P → List ℕ → List ℕ
choices_after (Crash keep) choices = drop 1 choices
choices_after line choices = choices

-- under policies with these rules
module _ (m : Scheme) {P : Type 0} (rules : Rules P) where
  -- writes make a batch's tip list; the batch is also used up if it is of another instance, or the database has moved on
  abbrev pub merkleize_writes : State → ℕ → P → Option Bytes → List Operation → Chain → List Write → Answer × State
  merkleize_writes s h policy meta list chain ws =
      let tip = steps.step (kind_of m) rules chain.base ws policy meta in
      let evicted = steps.evicted_by (kind_of m) rules chain.base ws policy in
      if takes m.grafts s.opened chain.instance && fits m.root (commitment m.root list) chain
      then merkleize_tip s h chain tip evicted (tip_refusal m.form chain tip)
      else refuse (with_slot s h gone) StaleBatch

  abbrev pub merkleize_in : State → ℕ → P → Option Bytes → List Operation → Slot → Answer × State
  merkleize_in s h policy meta list (writing chain parent ws) = merkleize_writes s h policy meta list chain ws
  merkleize_in s h policy meta list gone = refuse s (NoSuchHandle h)
  merkleize_in s h policy meta list (staged chain parent ws keys) = refuse s (NoSuchHandle h)
  merkleize_in s h policy meta list (merkleized chain tip evicted) = refuse s (NoSuchHandle h)

  abbrev pub merkleize : State → ℕ → P → Option Bytes → Answer × State
  merkleize s h policy meta = with_database s s.database (λ list. merkleize_in s h policy meta list (slot_at s.table h))

  -- the recorded writes, then the slots of the staged keys, then the others make a batch's tip list; there are as many slots as keys
  abbrev pub resolve_in : State → ℕ → P → Option Bytes → List slots.Slot → List Write → List Operation → Slot → Answer × State
  resolve_in s h policy meta given others list (staged chain parent ws keys) =
      if length keys == length given
      then merkleize_writes s h policy meta list chain (slotted ws keys given others)
      else refuse s (SlotCount (length keys) (length given))
  resolve_in s h policy meta given others list gone = refuse s (NoSuchHandle h)
  resolve_in s h policy meta given others list (writing chain parent ws) = refuse s (NoSuchHandle h)
  resolve_in s h policy meta given others list (merkleized chain tip evicted) = refuse s (NoSuchHandle h)

  abbrev pub resolve : State → ℕ → P → Option Bytes → List slots.Slot → List Write → Answer × State
  resolve s h policy meta given others = with_database s s.database (λ list. resolve_in s h policy meta given others list (slot_at s.table h))

  -- one command: the answer, and the state after it
  abbrev pub turn : State → Line P → Answer × State
  turn s (Open bound) = open_store m s bound
  turn s Batch = start_batch s
  turn s (Child h keep) = child s h keep
  turn s Tip = start_tip s
  turn s (Put h key value) = put s h key value
  turn s (Del h key) = del s h key
  turn s (Merkleize h policy meta) = merkleize s h policy meta
  turn s (Stage h keys) = stage m s h keys
  turn s (Expand h keys) = expand m s h keys
  turn s (Resolve h policy meta given others) = resolve s h policy meta given others
  turn s (Apply h) = apply m s h
  turn s (Ops h) = ops s h
  turn s (Evicted h) = evicted s h
  turn s (Get key from) = read m s (key ∷ []) from
  turn s (Many keys from) = read m s keys from
  turn s (Next key from) = next m s key from
  turn s (Prev key from) = prev m s key from
  turn s (Span key) = span m s key
  turn s (All key) = all m s key
  turn s (Range low high) = range m s low high
  turn s (Keys low high) = keys m s low high
  turn s Info = info m s
  turn s (BatchInfo h) = batch_info m s h
  turn s Root = root m s
  turn s (BatchRoot h) = batch_root m s h
  turn s (BatchProof h) = batch_proof m s h
  turn s Meta = meta s
  turn s (Prove size start max) = prove m s size start max
  turn s (Pins n) = pins m s n
  turn s (Current question) = current m s question
  turn s (Prune to) = prune m s to
  turn s Commit = commit s
  turn s Sync = commit s
  turn s Close = close s
  turn s Destroy = destroy s
  turn s (Crash keep) = crash s

  -- the answers to commands in order, and the state after them
  abbrev pub answers : State → List (Line P) → List Answer
  answers s [] = []
  answers s (line ∷ lines) = (turn s line).0 ∷ answers (turn s line).1 lines

  abbrev pub state_after : State → List (Line P) → State
  state_after s [] = s
  state_after s (line ∷ lines) = state_after (turn s line).1 lines
