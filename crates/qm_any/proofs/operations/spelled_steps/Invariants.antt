use Rattle.std.proofs.Common.{◌≡◌, drop, map}
use Rattle.qm_model.specs.Forms.{spelling}
use Rattle.qm_any.specs.Databases.{operations_in}
use Rattle.qm_any.proofs.operations.spelled_steps.Given as goal

-- the spellings of the older steps
abbrev pub invariant-loop-at : goal.invariant-loop-at
invariant-loop-at g l = map (λ v. v.items) l.items.items ≡ map (spelling g.U.Update.form) (operations_in (map (λ s. s.value) (drop l.at l.steps)))
