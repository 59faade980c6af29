-- The commands that lines are read as.
use Rattle.std.specs.Prelude.{◌≡◌, ℕ, ⊤, if◌then◌else◌, List, [], ◌∷◌, ◌++◌, Option, Some, None, Result, Ok, Err, map, option_map, option_and_then}
use Rattle.std.specs.Borrow.{Bor}
use Rattle.std.specs.declared.ops.Bound.{Bound}
use Rattle.qm_model.specs.Operations.{Bytes}
use Rattle.qm_model.specs.Policies.{Policy}
use Rattle.qm_model.specs.Ranges.{Limit}
use Rattle.qm_model.specs.Walk as walks
use Rattle.qm_model.specs.Slots as model
use Rattle.qm_model.specs.Writes as writes
use Rattle.qm_base.specs.Slots.{slot_view, write_view}
use Rattle.qm_base.specs.declared.slot.Slot.{Slot}
use Rattle.qm_base.specs.declared.write.Write.{Write}
use Rattle.qm_chain.specs.declared.policy.Limits.{Limits}
use Rattle.qm_machine.specs.Lines.{Line}
use Rattle.qm_machine.specs.Lines as lines
use Rattle.qm_machine.specs.Grammar as grammar
use Rattle.qm_machine.specs.Grammar.{number_of, policy_of, metadata_of, Reading, begins_with, behind}
use Rattle.qm_lines.specs.declared.policy.AnyPolicy.{AnyPolicy}
use Rattle.qm_lines.specs.declared.command.Command.{Command}
use Rattle.qm_base.specs.declared.slot.Resolution.{Resolution}
use Rattle.qm_lines.specs.declared.parse.unread.Unread.{Unread}
use Rattle.qm_lines.specs.declared.parse.unread.Unread.TheVariants as unreads
use Rattle.qm_lines.specs.declared.parse.commands.ReadForm.{ReadForm}
use Rattle.qm_lines.specs.declared.parse.commands.ReadForm.TheVariants as reads
use Rattle.qm_lines.specs.declared.parse.commands.KeyForm.{KeyForm}
use Rattle.qm_lines.specs.declared.parse.commands.KeyForm.TheVariants as keys
use Rattle.qm_lines.specs.declared.parse.ranges.RangeForm.{RangeForm}
use Rattle.qm_lines.specs.declared.parse.ranges.RangeForm.TheVariants as ranges
use Rattle.qm_lines.specs.declared.parse.staged.KeyedForm.{KeyedForm}
use Rattle.qm_lines.specs.declared.parse.staged.KeyedForm.TheVariants as keyeds
use Rattle.qm_lines.specs.Policies.{policy_view}
use Rattle.qm_base.specs.Views.{limit_of}
use Rattle.qm_lines.specs.Views.{line_view}

-- a command whose keys and values are seen as their bytes
abbrev pub byte_line : Command Bytes Bytes AnyPolicy → Line Policy
byte_line = line_view (λ k. k) (λ v. v) policy_view

-- words that are lent
abbrev pub lent : List (Bor Bytes) → List Bytes
lent words = map (λ (w : Bor Bytes). w.now) words

-- what is read of a text that is read as this: none if it is malformed, and nothing is said if memory is wanting
abbrev pub Unreads : {A : Type 0} → Unread → Option A → Type 0
Unreads unreads.Malformed o = None ≡ o
Unreads unreads.Memory o = ⊤

abbrev pub Reads : {T A : Type 0} → (T → A) → Result T Unread → Option A → Type 0
Reads view (Ok found) o = Some (view found) ≡ o
Reads view (Err e) o = Unreads e o

-- a slot, and a write, whose keys and values are seen as their bytes
abbrev pub byte_slot : Slot Bytes → model.Slot
byte_slot = slot_view (λ v. v)

abbrev pub byte_write : Write Bytes Bytes → writes.Write
byte_write = write_view (λ k. k) (λ v. v)

-- where a range of such keys begins or ends
abbrev pub byte_bound : Bound Bytes → Limit
byte_bound = limit_of (λ k. k)

abbrev pub resolution_view : Resolution Bytes Bytes → grammar.Resolution
resolution_view r = (map byte_slot r.slots.items, map byte_write r.others.items)

-- a resolution with these slots before its own
abbrev pub with_slots : List model.Slot → grammar.Resolution → grammar.Resolution
with_slots before (slots, others) = (before ++ slots, others)

-- the batch, the policy and the metadata that words are
abbrev pub merkleizing_of : Bytes → Bytes → Bytes → Option (ℕ × Policy × Option Bytes)
merkleizing_of a b c = option_and_then (λ h. option_and_then (λ p. option_map (λ meta. (h, p, meta)) (metadata_of c)) (policy_of b)) (number_of a)

-- a reading with these keys before its own
abbrev pub with_keys : List Bytes → Reading → Reading
with_keys before (keys, from) = (before ++ keys, from)

-- limits, as those of the definitions
abbrev pub limits_view : Limits → walks.Limits
limits_view l = record { entries = l.entries; skips = l.skips }

-- what follows the name that the first part begins with, and the parts after it
abbrev pub first_named : Bytes → List Bytes → Option (Bytes × List Bytes)
first_named name [] = None
first_named name (part ∷ parts) = if begins_with name part then Some (behind name part, parts) else None

-- the lines of the forms that several names share
abbrev pub read_line : ReadForm → Bytes → Option ℕ → Line Policy
read_line reads.Get = lines.Get
read_line reads.Next = lines.Next
read_line reads.Prev = lines.Prev

abbrev pub key_line : KeyForm → Bytes → Line Policy
key_line keys.Span = lines.Span
key_line keys.All = lines.All
key_line keys.Held = λ key. lines.Current (lines.Held key)
key_line keys.Absent = λ key. lines.Current (lines.Absent key)

abbrev pub range_line : RangeForm → Limit → Limit → Line Policy
range_line ranges.Range = lines.Range
range_line ranges.Keys = lines.Keys

abbrev pub keyed_line : KeyedForm → ℕ → List Bytes → Line Policy
keyed_line keyeds.Stage = lines.Stage
keyed_line keyeds.Expand = lines.Expand
