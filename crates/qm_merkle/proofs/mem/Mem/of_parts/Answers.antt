use Rattle.std.proofs.Common.{◌≡◌, ◌≤◌, ap, arith}
use Rattle.qm_merkle.proofs.Numbering.{sizes_tell}
use Rattle.qm_merkle.proofs.mem.Mem.of_parts.Goals as goal

pub invariant_of-result : goal.invariant_of-result
invariant_of-result g c =
    let r = c.requires.size in
    let shape = g.F.Family.shape in
    let leaves : c.leaves_past-leaves.result ≡ r.0 = c.leaves_past-leaves.ensures r.0 (omega (arith, r.2, c.len.ensures, c.args.nodes.ok.0)) in
    let order : c.args.start ≤ r.0 = sizes_tell shape g.F.Family.births g.met.F.Family.numbered c.args.start r.0 (omega (arith, r.2)) in
    (c.requires.positions, record { order = omega arith; few = omega (arith, r.1); pinned = c.requires.pins; full = omega (arith, r.2, ap shape.size leaves) })
