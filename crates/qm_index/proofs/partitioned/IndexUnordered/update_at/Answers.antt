use Rattle.std.proofs.Common.{◌-◌, ◌^◌, ◌<◌, ◌≤◌, length, arith, sym, ap, ◌∙◌, subst}
use Rattle.std.specs.Prelude.{set}
use Rattle.qm_index.specs.Buckets.{bucket_at, Puts}
use Rattle.qm_index.specs.Partitioned.{joined, joined_parts, partitioned}
use Rattle.qm_index.proofs.Partitions.{whole-key, part-bucket, low-bucket, joined-index, changes-put, changes-parts, place-there}
use Rattle.qm_index.proofs.partitioned.IndexUnordered.update_at.Goals as goal

pub returns-then-partition-self : goal.returns-then-partition-self
returns-then-partition-self g c =
    let whole = whole-key g.P.Prefix.WIDTH g.T.Translator.index_key c.args.key.now c.rest_of.result.now c.capped-partition.result c.index_key-index_key.result c.width.result c.width-2.result c.capped-partition.ensures.value c.width.ensures c.index_key-index_key.ensures c.rest_of.ensures c.width-2.ensures in
    let small : c.index_key-index_key.result < 2 ^ 64 = omega arith in
    let none = ap (λ parts. bucket_at (joined_parts parts) (partitioned g.P.Prefix.WIDTH g.T.Translator.index_key c.args.key.now)) (sym c.self.view_is) ∙ low-bucket c.self.inside.first c.capped-partition.result c.index_key-index_key.result (partitioned g.P.Prefix.WIDTH g.T.Translator.index_key c.args.key.now) c.self.inside.parts c.self.invariant.0.indices small whole c.if-partition-self.true in
    let no : c.args.i < 0 = subst (λ values. c.args.i < length values) none c.requires in
    absurd (omega (arith, no))

pub update_at-requires : goal.update_at-requires
update_at-requires g c =
    let whole = whole-key g.P.Prefix.WIDTH g.T.Translator.index_key c.args.key.now c.rest_of.result.now c.capped-partition.result c.index_key-index_key.result c.width.result c.width-2.result c.capped-partition.ensures.value c.width.ensures c.index_key-index_key.ensures c.rest_of.ensures c.width-2.ensures in
    let small : c.index_key-index_key.result < 2 ^ 64 = omega arith in
    let up : c.self.inside.first ≤ c.capped-partition.result = c.if-partition-self.false in
    let same = sym (part-bucket c.self.inside.first c.capped-partition.result c.index_key-index_key.result (partitioned g.P.Prefix.WIDTH g.T.Translator.index_key c.args.key.now) c.self.inside.parts c.self.invariant.0.indices small whole up) ∙ ap (λ parts. bucket_at (joined_parts parts) (partitioned g.P.Prefix.WIDTH g.T.Translator.index_key c.args.key.now)) c.self.view_is in
    subst (λ values. c.args.i < length values) (sym same) c.requires

pub invariant_of-self : goal.invariant_of-self
invariant_of-self g c =
    let small : c.index_key-index_key.result < 2 ^ 64 = omega arith in
    (changes-parts c.self.inside.parts c.update_at.new.self (c.capped-partition.result - c.self.inside.first) c.index_key-index_key.result (λ values. set values c.args.i c.args.value) c.update_at.ensures c.self.inside.count c.self.invariant.0 small, c.self.invariant.1)

pub returns : goal.returns
returns g c =
    let whole = whole-key g.P.Prefix.WIDTH g.T.Translator.index_key c.args.key.now c.rest_of.result.now c.capped-partition.result c.index_key-index_key.result c.width.result c.width-2.result c.capped-partition.ensures.value c.width.ensures c.index_key-index_key.ensures c.rest_of.ensures c.width-2.ensures in
    let small : c.index_key-index_key.result < 2 ^ 64 = omega arith in
    let up : c.self.inside.first ≤ c.capped-partition.result = c.if-partition-self.false in
    let same = sym (part-bucket c.self.inside.first c.capped-partition.result c.index_key-index_key.result (partitioned g.P.Prefix.WIDTH g.T.Translator.index_key c.args.key.now) c.self.inside.parts c.self.invariant.0.indices small whole up) ∙ ap (λ parts. bucket_at (joined_parts parts) (partitioned g.P.Prefix.WIDTH g.T.Translator.index_key c.args.key.now)) c.self.view_is in
    let there = place-there c.self.inside.parts (c.capped-partition.result - c.self.inside.first) c.args.i c.index_key-index_key.result (subst (λ values. c.args.i < length values) (sym same) c.requires) in
    record {
      update = subst (λ old. Puts (joined_parts old) (joined c.self.inside.first c.update_at.new.self) (partitioned g.P.Prefix.WIDTH g.T.Translator.index_key c.args.key.now) (set (bucket_at (joined_parts old) (partitioned g.P.Prefix.WIDTH g.T.Translator.index_key c.args.key.now)) c.args.i c.args.value)) c.self.view_is
          (changes-put c.self.inside.first c.capped-partition.result c.index_key-index_key.result (partitioned g.P.Prefix.WIDTH g.T.Translator.index_key c.args.key.now) c.self.inside.parts c.self.invariant.0.indices small whole c.update_at.new.self (λ values. set values c.args.i c.args.value) up there c.update_at.ensures);
      index = joined-index c.self.inside.first _ (invariant_of-self g c).0.indices;
    }
