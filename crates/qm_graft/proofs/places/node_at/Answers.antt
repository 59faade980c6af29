use Rattle.std.proofs.Common.{suc, ◌<◌, ◌-◌, ◌+◌, ◌≡◌, arith, ap, ◌∙◌}
use Rattle.qm_model.specs.Families.{Births}
use Rattle.qm_model.specs.Trees.{Shape}
use Rattle.qm_merkle.proofs.Numbering.{birth-born}
use Rattle.qm_graft.proofs.places.node_at.Goals as goal

pub returns-clause-born : goal.returns-clause-born
returns-clause-born g c =
    let shape = g.F.Family.shape in
    let family = g.met.F.Family.numbered in
    let n = c.last_leaf-with.result in
    let k = c.get-3.result - c.get-first.result in
    let plus : n + 1 ≡ suc n = omega arith in
    let next : Shape.size shape (n + 1) ≡ Shape.size shape n + Births.count g.F.Family.births n = ap shape.size plus ∙ family.sized n in
    let low : k < Births.count g.F.Family.births n = omega (arith, next, c.last_leaf-with.ensures.first, c.last_leaf-with.ensures.next, c.get-3.ensures, c.get-first.ensures, c.location_to_position-2.ensures.size) in
    rw c.born_at.ensures (omega (arith, birth-born shape g.F.Family.births family n k low, c.last_leaf-with.ensures.within))
