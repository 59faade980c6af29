use Rattle.std.proofs.Common.{◌≡◌, drop, map}
use Rattle.qm_model.specs.Refusals.{too_long}
use Rattle.qm_any.proofs.operations.refuse.Given as goal

-- what is too long is among the items that are left
abbrev pub invariant-loop-item : goal.invariant-loop-item
invariant-loop-item l = too_long (map (λ v. v.items) (drop l.item-index l.items)) ≡ too_long (map (λ v. v.items) l.items)
