use Rattle.std.proofs.Common.{◌≤◌, arith}
use Rattle.qm_merkle.proofs.Numbering.{sizes}
use Rattle.qm_merkle.proofs.mem.Mem.make_room.Goals as goal

pub overflow_sub-room : goal.overflow_sub-room
overflow_sub-room g c =
    let shape = g.F.Family.shape in
    let less : c.self.inside.leaves ≤ c.new-leaves.result = omega (arith, c.new-leaves.ensures, c.get.ensures) in
    omega (arith, sizes shape g.F.Family.births g.met.F.Family.numbered c.self.inside.leaves c.new-leaves.result less, c.get-size.ensures, c.location_to_position.ensures.size, c.get-2.ensures, c.location_to_position-2.ensures.size)
