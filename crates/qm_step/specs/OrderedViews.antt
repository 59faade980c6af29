-- The program's parts of an ordered step over byte strings.
use Rattle.std.specs.Prelude.{ℕ, Bool, true, List, map, Option, Some, option_map}
use Rattle.qm_model.specs.Operations.{Bytes, Operation, update}
use Rattle.qm_model.specs.Forms.{Form}
use Rattle.qm_operations.specs.declared.update.Ordered.{Ordered}
use Rattle.qm_step.specs.declared.touch.Touch as declared
use Rattle.qm_step.specs.declared.neighbour.Neighbour as neighbour
use Rattle.qm_step.specs.PlanViews.{touch_view}
use Rattle.qm_step.specs.Touches.{Touch}
use Rattle.qm_step.specs.Views.{read_view}

-- how operations of an ordered database are spelled
abbrev pub ordered_form : (Bytes → Bool) → (Bytes → Bool) → Option (ℕ × ℕ) → Form
ordered_form is_key is_value sizes = record { ordered = true; sizes = sizes; is_key = is_key; is_value = is_value }

module _ {K E V : Type 0} (key : K → Bytes) (value : V → Bytes) where
  -- an update that names the next key
  abbrev pub ordered_update : Ordered K E V → Operation
  ordered_update u = update (key u.key) (value u.value) (Some (key u.next_key))

  -- an operation of a step
  abbrev pub ordered_touch : {F : Type 0} → declared.Touch F (Ordered K E V) K V → Touch
  ordered_touch t = touch_view ordered_update key value t

  abbrev pub ordered_touches : {F : Type 0} → List (declared.Touch F (Ordered K E V) K V) → List Touch
  ordered_touches touches = map ordered_touch touches

-- a key, and the live update before it
abbrev pub neighbour_view : {F U K V : Type 0} → (U → Operation) → (K → Bytes) → neighbour.Neighbour F U K V → Bytes × Option (ℕ × Operation)
neighbour_view update_view key n = (key n.key.now, option_map (read_view update_view) n.before)
