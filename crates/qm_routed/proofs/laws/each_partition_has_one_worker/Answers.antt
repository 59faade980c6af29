use Rattle.qm_routed.proofs.Ranges.{one-owner, owner-has}
use Rattle.qm_routed.proofs.laws.each_partition_has_one_worker.Goals as goal

pub returns-clause-one : goal.returns-clause-one
returns-clause-one c = one-owner

pub returns-clause-whose : goal.returns-clause-whose
returns-clause-whose c = owner-has
