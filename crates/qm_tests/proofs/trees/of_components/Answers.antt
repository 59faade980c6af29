use Rattle.std.proofs.Common.{arith}
use Rattle.qm_tests.proofs.Pruned.{one_pin, one_node}
use Rattle.qm_tests.proofs.trees.of_components.Goals as goal

pub from_components-requires-clause-pins : goal.from_components-requires-clause-pins
from_components-requires-clause-pins c = rw c.in_ok-pins.ensures.items (rw c.new.ensures (omega (arith, one_pin)))

pub from_components-requires-clause-size : goal.from_components-requires-clause-size
from_components-requires-clause-size c = (3, omega arith, rw c.new.ensures (rw c.in_ok-nodes.ensures.items one_node))
