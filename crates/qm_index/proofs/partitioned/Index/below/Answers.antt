use Rattle.std.proofs.Common.{◌≡◌, ◌+◌, ◌-◌, ◌*◌, ◌^◌, ◌<◌, ◌≤◌, None, arith, subst}
use Rattle.std.specs.Prelude.{option_map}
use Rattle.qm_index.specs.Buckets.{IsIndex}
use Rattle.qm_index.specs.Partitioned.{joined_parts}
use Rattle.qm_index.specs.Ways.{Down, NextIs}
use Rattle.qm_index.proofs.Partitions.{joined-index}
use Rattle.qm_index.proofs.Ways.{low-down}
use Rattle.qm_index.proofs.partitioned.Index.below.Goals as goal

pub returns-then-partition-self-clause-value : goal.returns-then-partition-self-clause-value
returns-then-partition-self-clause-value g c =
    let low : c.args.partition * 2 ^ 64 + c.args.index_key < c.self.inside.first * 2 ^ 64 = let less = c.if-partition-self.true in omega (arith, less) in
    subst (λ parts. NextIs Down (joined_parts parts) (c.args.partition * 2 ^ 64 + c.args.index_key) None) c.self.view_is
    (low-down c.self.inside.first (c.args.partition * 2 ^ 64 + c.args.index_key) c.self.inside.parts low)

pub returns-then-partition-self-clause-index : goal.returns-then-partition-self-clause-index
returns-then-partition-self-clause-index g c = subst (λ parts. IsIndex (joined_parts parts)) c.self.view_is (joined-index c.self.inside.first c.self.inside.parts c.self.invariant.0.indices)

pub returns-clause-value : goal.returns-clause-value
returns-clause-value g c =
    let up : c.self.inside.first ≤ c.args.partition = c.if-partition-self.false in
    let whole : (c.self.inside.first + (c.args.partition - c.self.inside.first)) * 2 ^ 64 + c.args.index_key ≡ c.args.partition * 2 ^ 64 + c.args.index_key = omega (arith, up) in
    subst (λ parts. NextIs Down (joined_parts parts) (c.args.partition * 2 ^ 64 + c.args.index_key) (option_map (λ b. b.now) c.below.result)) c.self.view_is
    (subst (λ k. NextIs Down (joined_parts (record { range = record { first = c.self.inside.first; count = c.self.inside.count }; parts = c.self.inside.parts })) k (option_map (λ b. b.now) c.below.result)) whole
    (c.below.ensures c.self.inside.first c.self.invariant.0.indices))

pub returns-clause-index : goal.returns-clause-index
returns-clause-index g c = subst (λ parts. IsIndex (joined_parts parts)) c.self.view_is (joined-index c.self.inside.first c.self.inside.parts c.self.invariant.0.indices)
