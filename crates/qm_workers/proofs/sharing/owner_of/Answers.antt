use Rattle.std.proofs.Common.{◌≡◌, ◌+◌, ◌-◌, ◌*◌, ◌/◌, suc, true, subst, arith}
use Rattle.qm_routed.specs.Routed.{has_partition}
use Rattle.qm_routed.proofs.Ranges.{owner-has}
use Rattle.qm_workers.proofs.sharing.owner_of.Goals as goal

pub returns-clause-own : goal.returns-clause-own
returns-clause-own c =
    let next : suc c.args.partition ≡ c.args.partition + 1 = omega arith in
    subst (λ n. has_partition c.args.partitions c.args.workers ((n * c.args.workers - 1) / c.args.partitions) c.args.partition ≡ true) next
    (owner-has c.args.partitions c.args.workers c.args.partition c.requires.workers.some c.requires.below).1
