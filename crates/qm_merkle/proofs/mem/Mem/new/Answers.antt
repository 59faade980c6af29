use Rattle.qm_merkle.proofs.Standing.{whole-new, stands-new}
use Rattle.qm_merkle.proofs.mem.Mem.new.Goals as goal

pub invariant_of-result : goal.invariant_of-result
invariant_of-result g c =
    whole-new g.F.Family.shape g.F.Family.births g.met.F.Family.numbered g.met.F.Family.peaked
    (record { start = c.new.result; leaves = c.new-2.result; pins = c.new-4.result.items; nodes = c.new-5.result.items }) c.new-3.result.items
    c.new.ensures c.new-2.ensures c.new-4.ensures.items c.new-5.ensures.items c.new-3.ensures.items

pub returns-clause-stands : goal.returns-clause-stands
returns-clause-stands g c = λ hash.
    stands-new g.F.Family.shape g.F.Family.births g.met.F.Family.numbered g.met.F.Family.peaked g.D.Digest.bytes hash
    (record { start = c.new.result; leaves = c.new-2.result; pins = c.new-4.result.items; nodes = c.new-5.result.items })
    c.new.ensures c.new-2.ensures c.new-4.ensures.items
