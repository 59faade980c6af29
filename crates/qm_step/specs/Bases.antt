-- What is known of the list that a batch stands on.
use Rattle.std.specs.Prelude.{◌≡◌, ℕ, List, length, map}
use Rattle.qm_model.specs.Live.{live, floor}
use Rattle.qm_model.specs.Operations.{Operation}
use Rattle.qm_step.specs.declared.base.Base as declared
use Rattle.qm_step.specs.Layers.{Layer, LeadOver}

-- what is known of a base list: the layers that lead to it, its size, its floor, and how many keys are live in it
pub record Base : Type 0 where
  pub layers : List Layer
  pub size : ℕ
  pub floor : ℕ
  pub live : ℕ

-- this is known of the list, to which the layers lead over the lent one
pub record IsBase (base : Base) (lent list : List Operation) : Type 0 where
  pub leads : LeadOver base.layers lent list
  pub size : base.size ≡ length list
  pub floor : base.floor ≡ floor list
  pub live : base.live ≡ length (live list)

-- the program's
abbrev pub base_view : {F U K V : Type 0} → declared.Base F U K V → Base
base_view b = record { layers = map (λ l. l.value) b.layers.now; size = b.size; floor = b.floor; live = b.live }
