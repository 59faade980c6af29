use Rattle.std.proofs.Common.{sym}
use Rattle.std.specs.Prelude.{option_map}
use Rattle.qm_index.specs.Partitioned.{joined_parts}
use Rattle.qm_index.specs.Ways.{Up}
use Rattle.qm_index.proofs.Ways.{way_up, first-clause, end-none}
use Rattle.qm_index.proofs.partitioned.IndexOrdered.first_bucket.Goals as goal

pub returns-clause-value : goal.returns-clause-value
returns-clause-value g c = sym (first-clause way_up (joined_parts c.args.self.now) (option_map (λ b. b.now) c.first.result) c.first.ensures.value)

pub returns-clause-none : goal.returns-clause-none
returns-clause-none g c = end-none (λ b. b.now) (joined_parts c.args.self.now) Up c.first.result c.first.ensures.value
