-- What a step does to the map of a list.
use Rattle.std.specs.Prelude.{◌≡◌, List, Option}
use Rattle.qm_model.specs.Operations.{Bytes, Operation}
use Rattle.qm_model.specs.Live.{value_of}
use Rattle.qm_model.specs.Writes.{Write, last_writes, write_of, overwritten}
use Rattle.qm_model.specs.Walk.{Rules}
use Rattle.qm_model.specs.Step.{Kind, step}

-- each key has the value of its last write, and the one before if there is none
abbrev pub KeepsTheMap : {P : Type 0} → Kind → Rules P → Type 0
KeepsTheMap {P} kind rules = (ops : List Operation) (ws : List Write) (policy : P) (meta : Option Bytes) (key : Bytes) →
    value_of (step kind rules ops ws policy meta) key ≡ overwritten (write_of (last_writes ws) key) (value_of ops key)
