use Rattle.std.proofs.Common.{◌≡◌, ◌++◌, take}
use Rattle.std.specs.Vec.{vec_capacity}
use Rattle.qm_merkle.proofs.mem.Mem.append_to.Given as goal

abbrev pub invariant-loop-node : goal.invariant-loop-node
invariant-loop-node g l = record { items : l.nodes.items ≡ l.initial.nodes.items ++ take l.node-index l.self.nodes; capacity : vec_capacity l.nodes ≡ vec_capacity l.initial.nodes }
