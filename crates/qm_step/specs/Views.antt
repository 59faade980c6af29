-- The program's writes, layers and plans over byte strings, and the plan of a step.
use Rattle.std.specs.Prelude.{◌≡◌, ℕ, List, length, map, drop, All, Option, Some, None, option_map}
use Rattle.qm_model.specs.Operations.{Bytes, Operation}
use Rattle.qm_model.specs.Live.{live, floor}
use Rattle.qm_model.specs.Writes.{Write}
use Rattle.qm_model.specs.Slots.{slotted}
use Rattle.qm_model.specs.Walk.{Rules}
use Rattle.qm_model.specs.Forms.{Form}
use Rattle.qm_model.specs.Step.{step, policy_after, evicted_by}
use Rattle.qm_step.specs.Kinds.{kind_of}
use Rattle.qm_chain.specs.declared.diff.DiffEntry.{DiffEntry}
use Rattle.qm_chain.specs.declared.diff.DiffEntry.TheVariants.{Active, Deleted}
pub use Rattle.qm_base.specs.Slots.{write_view}
use Rattle.qm_base.specs.Slots.{slot_views}
use Rattle.qm_step.specs.Changes.{Change, Changes, AreChanges, update_of}
use Rattle.qm_step.specs.declared.found.Stands as stands
use Rattle.qm_step.specs.declared.wanted.Read as read
use Rattle.qm_step.specs.declared.wanted.Wanted as wanted

-- what an entry of a diff does to its key
abbrev pub change_view : {F V : Type 0} → (V → Bytes) → DiffEntry F V → Change
change_view value (Active v loc old) = record { now = Some (loc, value v); before = old }
change_view value (Deleted old) = record { now = None; before = old }

module _ {K V : Type 0} (key : K → Bytes) (value : V → Bytes) where
  -- a diff
  abbrev pub changes_view : {F : Type 0} → List (K × DiffEntry F V) → Changes
  changes_view entries = map (λ e. (key e.0, change_view value e.1)) entries

-- a live update with its location
abbrev pub read_view : {U : Type 0} → (U → Operation) → ℕ × U → ℕ × Operation
read_view update_view found = (found.0, update_view found.1)

-- where a key's live update stands, and the key that it names
abbrev pub stands_view : {K : Type 0} → (K → Bytes) → stands.Stands K → ℕ × Option Bytes
stands_view key s = (s.at, option_map key s.next)

-- the keys of reads
abbrev pub keys_of : {F U K V : Type 0} → (K → Bytes) → List (read.Read F U K V) → List Bytes
keys_of key reads = map (λ r. key r.key) reads

-- reads: each key, and its live update with its location
abbrev pub reads_view : {F U K V : Type 0} → (U → Operation) → (K → Bytes) → List (read.Read F U K V) → List (Bytes × Option (ℕ × Operation))
reads_view update_view key reads = map (λ r. (key r.key, option_map (read_view update_view) r.found)) reads

-- the reads are those of this list: each key's live update there, or none
abbrev pub AreReads : {F U K V : Type 0} → (U → Operation) → (K → Bytes) → List (read.Read F U K V) → List Operation → Type 0
AreReads update_view key reads base = All (λ r. option_map (read_view update_view) r.found ≡ update_of base (key r.key)) reads

-- the writes that are wanted
abbrev pub wanted_view : {F U K V : Type 0} → (K → Bytes) → (V → Bytes) → wanted.Wanted F U K V → List Write
wanted_view key value w =
    slotted (map (write_view key value) w.writes.now) (keys_of key w.reads.now) (slot_views value w.slots.now) (map (write_view key value) w.others.now)

-- what a batch makes of its base list: the operations that it appends to it, what these do to keys, floor and count of live
-- keys afterwards, and the keys that the walk evicted, each with the value that it had
pub record Plan : Type 0 where
  pub operations : List Operation
  pub changes : Changes
  pub floor : ℕ
  pub live : ℕ
  pub evicted : List (Bytes × Bytes)

-- the plan is that of the step from the base list to the tip list, which evicts these keys
pub record IsPlan (plan : Plan) (base tip : List Operation) (evicted : List (Bytes × Bytes)) : Type 0 where
  pub operations : plan.operations ≡ drop (length base) tip
  pub changes : AreChanges plan.changes base tip
  pub floor : plan.floor ≡ floor tip
  pub live : plan.live ≡ length (live tip)
  pub told : plan.evicted ≡ evicted

-- the list that writes and metadata make of a base list of a database of this form, under a policy
abbrev pub stepped : {P : Type 0} → Form → Rules P → List Operation → List Write → P → Option Bytes → List Operation
stepped form rules base ws policy meta = step (kind_of form) rules base ws policy meta

-- the keys that this evicts, each with the value that it had
abbrev pub evicted_after : {P : Type 0} → Form → Rules P → List Operation → List Write → P → List (Bytes × Bytes)
evicted_after form rules base ws policy = evicted_by (kind_of form) rules base ws policy

-- the policy that this leaves
abbrev pub left_after : {P : Type 0} → Form → Rules P → List Operation → List Write → P → P
left_after form rules base ws policy = policy_after (kind_of form) rules base ws policy
