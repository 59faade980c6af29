-- The program's parts of a plan over byte strings.
use Rattle.std.specs.Prelude.{◌≡◌, ℕ, Bool, false, List, map, All, Option, None, option_map}
use Rattle.std.specs.BTreeMap.{BTreeMap, get_by}
use Rattle.std.specs.Cmp.Lexicographic.{slice_cmp}
use Rattle.std.specs.Ordering.{nat_cmp}
use denote.Ref.{Bor}
use Rattle.qm_model.specs.Operations.{Bytes, Operation, update}
use Rattle.qm_model.specs.Forms.{Form}
use Rattle.qm_model.specs.Writes.{Write}
use Rattle.qm_base.specs.Views.{pair_view}
use Rattle.qm_operations.specs.Views.{operation_view}
use Rattle.qm_operations.specs.declared.operation.Operation as operation
use Rattle.qm_operations.specs.declared.update.Unordered.{Unordered}
use Rattle.qm_step.specs.declared.touch.Touch as declared
use Rattle.qm_step.specs.declared.writes.LastWrite as last_write
use Rattle.qm_step.specs.declared.site.Site as site
use Rattle.qm_step.specs.declared.wanted.Read as read
use Rattle.qm_step.specs.declared.diff.Noted as noted
use Rattle.qm_step.specs.declared.decided.Decided as decided
use Rattle.qm_step.specs.Changes.{Change, change_of, place_in, update_of}
use Rattle.qm_step.specs.Going.{Decided}
use Rattle.qm_step.specs.Touches.{Touch}
use Rattle.qm_step.specs.Views.{read_view, stands_view}

-- a write by its key
abbrev pub keyed : Write → Bytes × Write
keyed w = (w.key, w)

-- a write, and where its key stands
abbrev pub site_in : List Operation → Write → Write × Option ℕ
site_in base w = (w, place_in base w.key)

-- keys, each with what was read of it in this list
abbrev pub AreKnown : {F U K V : Type 0} → (U → Operation) → List Operation → List (Bor Bytes × Bor (read.Read F U K V)) → Type 0
AreKnown update_view base known = All (λ e. option_map (read_view update_view) e.1.now.found ≡ update_of base e.0.now) known

-- what is noted of a key
abbrev pub noted_view : {V : Type 0} → (V → Bytes) → noted.Noted V → Change
noted_view value n = record { now = option_map (λ p. (p.0, value p.1.now)) n.now; before = n.before }

-- the notes are what the step from the base list to the list does to keys
abbrev pub IsNoted : {V : Type 0} → (V → Bytes) → BTreeMap (Bor Bytes) (noted.Noted V) → List Operation → List Operation → Type 0
IsNoted value notes base list = (key : Bytes) → option_map (noted_view value) (get_by (λ k. slice_cmp nat_cmp key k.now) notes) ≡ change_of base list key

module _ {K V : Type 0} (key : K → Bytes) (value : V → Bytes) where
  -- a last write
  abbrev pub last_write_view : last_write.LastWrite K V → Write
  last_write_view w = record { key = key w.key.now; value = option_map (λ v. value v.now) w.value }

  -- an entry of the last writes by key
  abbrev pub last_view : Bor Bytes × last_write.LastWrite K V → Bytes × Write
  last_view e = (e.0.now, last_write_view e.1)

  -- a write with where its key stands
  abbrev pub site_view : site.Site K V → Write × Option ℕ
  site_view s = (last_write_view s.write, option_map (λ t. t.at) s.stands)

  -- and with the key that the live update there names
  abbrev pub linked_view : site.Site K V → Write × Option (ℕ × Option Bytes)
  linked_view s = (last_write_view s.write, option_map (stands_view key) s.stands)

  -- decisions
  abbrev pub decided_view : decided.Decided K V → Decided
  decided_view d = record { key = key d.key; value = option_map value d.value; next = option_map key d.next; before = d.before }

  abbrev pub decided_views : List (decided.Decided K V) → List Decided
  decided_views ds = map decided_view ds

  -- keys with values
  abbrev pub pair_views : List (K × V) → List (Bytes × Bytes)
  pair_views pairs = map (pair_view key value) pairs

module _ {U K V : Type 0} (update_view : U → Operation) (key : K → Bytes) (value : V → Bytes) where
  -- an operation of a step
  abbrev pub touch_view : {F : Type 0} → declared.Touch F U K V → Touch
  touch_view t = record { operation = operation_view update_view key value t.operation; before = t.before }

  -- a list of them
  abbrev pub touch_views : {F : Type 0} → List (declared.Touch F U K V) → List Touch
  touch_views touches = map touch_view touches

-- how operations of an unordered database are spelled
abbrev pub unordered_form : (Bytes → Bool) → (Bytes → Bool) → Option (ℕ × ℕ) → Form
unordered_form is_key is_value sizes = record { ordered = false; sizes = sizes; is_key = is_key; is_value = is_value }

-- operations by location
abbrev pub located_views : {O : Type 0} → (O → Operation) → List (ℕ × O) → List (ℕ × Operation)
located_views view entries = map (λ e. (e.0, view e.1)) entries

module _ {K E V : Type 0} (key : K → Bytes) (value : V → Bytes) where
  -- an update that names no next key
  abbrev pub unordered_update : Unordered K E V → Operation
  unordered_update u = update (key u.0) (value u.1) None

  -- an operation of an unordered database
  abbrev pub unordered_view : {F : Type 0} → operation.Operation F (Unordered K E V) K V → Operation
  unordered_view op = operation_view unordered_update key value op

  -- an operation of a step of one
  abbrev pub unordered_touch : {F : Type 0} → declared.Touch F (Unordered K E V) K V → Touch
  unordered_touch t = touch_view unordered_update key value t

  abbrev pub unordered_touches : {F : Type 0} → List (declared.Touch F (Unordered K E V) K V) → List Touch
  unordered_touches touches = map unordered_touch touches
