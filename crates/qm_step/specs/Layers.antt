-- Kept steps, and the lists that they lead through.
use Rattle.std.specs.Prelude.{◌≡◌, ◌-◌, ℕ, Option, None, option_map, option_and_then, List, [], ◌∷◌, ◌++◌, length, Contains, ⊤}
use Rattle.qm_model.specs.Operations.{Bytes, Operation}
use Rattle.qm_step.specs.Changes.{Change, Changes, AreChanges, change_in, update_at}
use Rattle.std.specs.Option.{option_or}

-- a kept step: the size of its base list, the operations that it appends to that, and what it does to keys
pub record Layer : Type 0 where
  pub base : ℕ
  pub operations : List Operation
  pub changes : Changes

-- the layer is the step from the base list to the tip list
pub record IsStep (layer : Layer) (base tip : List Operation) : Type 0 where
  pub size : layer.base ≡ length base
  pub list : tip ≡ base ++ layer.operations
  pub changes : AreChanges layer.changes base tip

-- the live update that a layer leaves a key to which it does this, with its location
abbrev pub update_by : Layer → Change → Option (ℕ × Operation)
update_by layer change = option_and_then (λ p. option_map (λ op. (p.0, op)) (update_at layer.operations (p.0 - layer.base))) change.now

-- the first of the layers that do anything to a key, and what it does
abbrev pub nearest_layer : List Layer → Bytes → Option (Layer × Change)
nearest_layer [] key = None
nearest_layer (newest ∷ older) key = option_or (option_map (λ change. (newest, change)) (change_in newest.changes key)) (nearest_layer older key)

-- the layers, newest first, lead to this list through the older ones, newest first
abbrev pub LeadThrough : List Layer → List Operation → List (List Operation) → Type 0
LeadThrough [] list [] = ⊤
LeadThrough [] list (base ∷ older) = ⊥
LeadThrough (layer ∷ layers) list [] = ⊥
LeadThrough (layer ∷ layers) list (base ∷ older) = IsStep layer base list × LeadThrough layers base older

-- the layers lead to a base list over the lent one, which is that or one on the way
pub record LeadOver (layers : List Layer) (lent base : List Operation) : Type 0 where
  pub older : List (List Operation)
  pub steps : LeadThrough layers base older
  pub among : Contains (base ∷ older) lent
