use Rattle.std.proofs.Common.{◌*◌, ◌+◌, ◌^◌, refl, sym, ap, ◌∙◌}
use Rattle.qm_index.specs.Buckets.{bucket_at}
use Rattle.qm_index.specs.Partitioned.{joined_parts}
use Rattle.qm_index.proofs.Partitions.{part-bucket, none-bucket, low-bucket, if-some, if-none}
use Rattle.qm_index.proofs.partitioned.Index.part.Goals as goal

pub returns-then-partition-self : goal.returns-then-partition-self
returns-then-partition-self g c = record {
  some = tt;
  none = λ k small. ap (λ parts. bucket_at (joined_parts parts) (c.args.partition * 2 ^ 64 + k)) (sym c.self.view_is) ∙ low-bucket c.self.inside.first c.args.partition k (c.args.partition * 2 ^ 64 + k) c.self.inside.parts c.self.invariant.0.indices small refl c.if-partition-self.true;
}

pub returns-clause-some : goal.returns-clause-some
returns-clause-some g c = if-some c.get.result (λ table found k small.
    ap (λ parts. bucket_at (joined_parts parts) (c.args.partition * 2 ^ 64 + k)) (sym c.self.view_is) ∙ part-bucket c.self.inside.first c.args.partition k (c.args.partition * 2 ^ 64 + k) c.self.inside.parts c.self.invariant.0.indices small refl c.if-partition-self.false
    ∙ ap (λ es. bucket_at es k) (sym found.1)) c.get.ensures.some

pub returns-clause-none : goal.returns-clause-none
returns-clause-none g c = if-none c.get.result (λ past k small.
    ap (λ parts. bucket_at (joined_parts parts) (c.args.partition * 2 ^ 64 + k)) (sym c.self.view_is) ∙ none-bucket c.self.inside.first c.args.partition k (c.args.partition * 2 ^ 64 + k) c.self.inside.parts c.self.invariant.0.indices small refl (λ up. past)) c.get.ensures.none
