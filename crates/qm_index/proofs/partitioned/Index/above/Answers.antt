use Rattle.std.proofs.Common.{◌≡◌, ◌+◌, ◌-◌, ◌*◌, ◌^◌, ◌<◌, ◌≤◌, arith, sym, subst}
use Rattle.std.specs.Prelude.{option_map}
use Rattle.qm_index.specs.Buckets.{IsIndex}
use Rattle.qm_index.specs.Partitioned.{joined_parts}
use Rattle.qm_index.specs.Ways.{Up, FirstIs, NextIs}
use Rattle.qm_index.proofs.Partitions.{joined-index}
use Rattle.qm_index.proofs.Ways.{low-up}
use Rattle.qm_index.proofs.partitioned.Index.above.Goals as goal

pub returns-then-partition-self-clause-value : goal.returns-then-partition-self-clause-value
returns-then-partition-self-clause-value g c =
    let low : c.args.partition * 2 ^ 64 + c.args.index_key < c.self.inside.first * 2 ^ 64 = let less = c.if-partition-self.true in omega (arith, less) in
    subst (λ parts. NextIs Up (joined_parts parts) (c.args.partition * 2 ^ 64 + c.args.index_key) (option_map (λ b. b.now) c.first.result)) c.self.view_is
    (low-up c.self.inside.first (c.args.partition * 2 ^ 64 + c.args.index_key) c.self.inside.parts (option_map (λ b. b.now) c.first.result) low
    (subst (λ parts. FirstIs Up (joined_parts parts) (option_map (λ b. b.now) c.first.result)) (sym c.self.view_is) c.first.ensures.value))

pub returns-clause-value : goal.returns-clause-value
returns-clause-value g c =
    let up : c.self.inside.first ≤ c.args.partition = c.if-partition-self.false in
    let whole : (c.self.inside.first + (c.args.partition - c.self.inside.first)) * 2 ^ 64 + c.args.index_key ≡ c.args.partition * 2 ^ 64 + c.args.index_key = omega (arith, up) in
    subst (λ parts. NextIs Up (joined_parts parts) (c.args.partition * 2 ^ 64 + c.args.index_key) (option_map (λ b. b.now) c.above.result)) c.self.view_is
    (subst (λ k. NextIs Up (joined_parts (record { range = record { first = c.self.inside.first; count = c.self.inside.count }; parts = c.self.inside.parts })) k (option_map (λ b. b.now) c.above.result)) whole
    (c.above.ensures c.self.inside.first c.self.invariant.0.indices))

pub returns-clause-index : goal.returns-clause-index
returns-clause-index g c = subst (λ parts. IsIndex (joined_parts parts)) c.self.view_is (joined-index c.self.inside.first c.self.inside.parts c.self.invariant.0.indices)
