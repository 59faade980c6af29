use Rattle.std.proofs.Common.{◌^◌, ◌<◌, arith, sym, ap, ◌∙◌, subst}
use Rattle.qm_index.specs.Buckets.{bucket_at, IsIndex}
use Rattle.qm_index.specs.Partitioned.{joined_parts}
use Rattle.qm_index.proofs.Partitions.{whole-key, joined-index}
use Rattle.qm_index.proofs.partitioned.IndexUnordered.bucket.Goals as goal

pub returns-in-Some : goal.returns-in-Some
returns-in-Some g c =
    let whole = whole-key g.P.Prefix.WIDTH g.T.Translator.index_key c.args.key.now c.rest_of.result.now c.capped-partition.result c.index_key-index_key.result c.width.result c.width-2.result c.capped-partition.ensures.value c.width.ensures c.index_key-index_key.ensures c.rest_of.ensures c.width-2.ensures in
    let small : c.index_key-index_key.result < 2 ^ 64 = omega arith in
    record {
      value = c.bucket.ensures.value ∙ sym (c.in-Some.ensures.some c.index_key-index_key.result small) ∙ ap (bucket_at (joined_parts c.args.self.now)) whole;
      index = subst (λ parts. IsIndex (joined_parts parts)) c.self.view_is (joined-index c.self.inside.first c.self.inside.parts c.self.invariant.0.indices);
    }

pub returns-in-None : goal.returns-in-None
returns-in-None g c =
    let whole = whole-key g.P.Prefix.WIDTH g.T.Translator.index_key c.args.key.now c.rest_of.result.now c.capped-partition.result c.index_key-index_key.result c.width.result c.width-2.result c.capped-partition.ensures.value c.width.ensures c.index_key-index_key.ensures c.rest_of.ensures c.width-2.ensures in
    let small : c.index_key-index_key.result < 2 ^ 64 = omega arith in
    record {
      value = sym (c.in-None.ensures.none c.index_key-index_key.result small) ∙ ap (bucket_at (joined_parts c.args.self.now)) whole;
      index = subst (λ parts. IsIndex (joined_parts parts)) c.self.view_is (joined-index c.self.inside.first c.self.inside.parts c.self.invariant.0.indices);
    }
