use Rattle.std.proofs.Common.{◌≡◌, take}
use Rattle.qm_graft.proofs.grafted.GraftedFamily.nodes_to_pin.Given as goal

abbrev pub invariant-loop-place : goal.invariant-loop-place
invariant-loop-place g l = l.found.items ≡ take l.place-index l.place-items
