use Rattle.std.proofs.Common.{◌≤◌, inr, arith, subst}
use Rattle.std.specs.Prelude.{option_map}
use Rattle.qm_index.specs.Buckets.{IsIndex}
use Rattle.qm_index.specs.Partitioned.{joined_parts}
use Rattle.qm_index.specs.Ways.{Up, FirstIs}
use Rattle.qm_index.proofs.Partitions.{joined-index}
use Rattle.qm_index.proofs.Ways.{way_up, first-joined}
use Rattle.qm_index.proofs.partitioned.Index.first.Goals as goal

pub returns-clause-value : goal.returns-clause-value
returns-clause-value g c =
    subst (λ parts. FirstIs Up (joined_parts parts) (option_map (λ b. b.now) c.first.result)) c.self.view_is
    (first-joined way_up c.self.inside.first c.self.inside.parts c.self.invariant.0.indices (λ j. 0 ≤ j) (option_map (λ b. b.now) c.first.result) (λ j. inr (omega arith)) c.first.ensures)

pub returns-clause-index : goal.returns-clause-index
returns-clause-index g c = subst (λ parts. IsIndex (joined_parts parts)) c.self.view_is (joined-index c.self.inside.first c.self.inside.parts c.self.invariant.0.indices)
