-- Actions, limits and rules of the program over byte strings.
use Rattle.std.specs.Prelude.{◌≡◌, ℕ, Bool, false}
use Rattle.qm_model.specs.Operations.{Bytes}
use Rattle.qm_model.specs.Walk as walks
use Rattle.qm_model.specs.Walk.{Rules, write, stop, evict}
use Rattle.qm_chain.specs.declared.entry.Action as declared
use Rattle.qm_chain.specs.declared.entry.Action.TheVariants.{Write, Stop, Evict}

abbrev pub action_view : {V : Type 0} → (V → Bytes) → declared.Action V → walks.Action
action_view value (Write v) = write (value v)
action_view value Stop = stop
action_view value Evict = evict

-- the policy does not evict, and neither does what it becomes
pub record Keeps {P : Type 0} (rules : Rules P) (evicts : P → Bool) (p : P) (location remaining : ℕ) (key value : Bytes) : Type 0 where
  pub not_evicted : (rules.decide p location remaining key value).0 ≡ evict → ⊥
  pub kept : evicts (rules.decide p location remaining key value).1 ≡ false
