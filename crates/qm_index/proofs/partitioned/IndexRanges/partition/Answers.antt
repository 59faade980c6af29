use Rattle.std.proofs.Common.{◌^◌, ◌<◌, arith, sym, ap, ◌∙◌, subst}
use Rattle.qm_index.specs.Partitioned.{Parts, partition_of, joined_parts, IsWithin}
use Rattle.qm_index.proofs.Partitions.{whole-key, partition-whole, within}
use Rattle.qm_index.proofs.partitioned.IndexRanges.partition.Goals as goal

pub returns : goal.returns
returns g c =
    let whole = whole-key g.P.Prefix.WIDTH g.T.Translator.index_key c.args.key.now c.rest_of.result.now c.capped.result c.index_key.result c.width-2.result c.width.result c.capped.ensures.value c.width-2.ensures c.index_key.ensures c.rest_of.ensures c.width.ensures in
    let small : c.index_key.result < 2 ^ 64 = omega arith in
    record {
      value = sym (partition-whole c.capped.result c.index_key.result small) ∙ ap partition_of whole;
      below = subst (λ n. c.capped.result < 256 ^ n) c.width-2.ensures c.capped.ensures.below;
      outside = subst (λ (parts : Parts _). IsWithin (joined_parts parts) parts.range) c.self.view_is (within c.self.inside.first c.self.inside.count c.self.inside.parts c.self.invariant.0);
    }
