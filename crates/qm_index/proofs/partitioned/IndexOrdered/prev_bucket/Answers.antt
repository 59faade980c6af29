use Rattle.std.proofs.Common.{Some, None, refl, sym, subst}
use Rattle.qm_index.specs.Partitioned.{joined_parts, partitioned}
use Rattle.qm_index.specs.Ways.{Down, NextIs}
use Rattle.qm_index.proofs.Partitions.{whole-key}
use Rattle.qm_index.proofs.Ways.{way_down, next-near, next-far, none-at}
use Rattle.qm_index.proofs.partitioned.IndexOrdered.prev_bucket.Goals as goal

pub returns-in-Some-clause-value : goal.returns-in-Some-clause-value
returns-in-Some-clause-value g c =
    let whole = whole-key g.P.Prefix.WIDTH g.T.Translator.index_key c.args.key.now c.rest_of.result.now c.capped-partition.result c.index_key-index_key.result c.width.result c.width-2.result c.capped-partition.ensures.value c.width.ensures c.index_key-index_key.ensures c.rest_of.ensures c.width-2.ensures in
    sym (next-near way_down (joined_parts c.args.self.now) (partitioned g.P.Prefix.WIDTH g.T.Translator.index_key c.args.key.now) c.in-Some.bucket.now (subst (λ k. NextIs Down (joined_parts c.args.self.now) k (Some c.in-Some.bucket.now)) whole c.in-Some.ensures.value))

pub returns-in-Some-last-clause-value : goal.returns-in-Some-last-clause-value
returns-in-Some-last-clause-value g c =
    let whole = whole-key g.P.Prefix.WIDTH g.T.Translator.index_key c.args.key.now c.rest_of.result.now c.capped-partition.result c.index_key-index_key.result c.width.result c.width-2.result c.capped-partition.ensures.value c.width.ensures c.index_key-index_key.ensures c.rest_of.ensures c.width-2.ensures in
    sym (next-far way_down (joined_parts c.args.self.now) (partitioned g.P.Prefix.WIDTH g.T.Translator.index_key c.args.key.now) (Some c.in-Some-last.bucket.now) (subst (λ k. NextIs Down (joined_parts c.args.self.now) k None) whole c.in-None.ensures.value) c.in-Some-last.ensures)

pub returns-in-None-last-clause-value : goal.returns-in-None-last-clause-value
returns-in-None-last-clause-value g c =
    let whole = whole-key g.P.Prefix.WIDTH g.T.Translator.index_key c.args.key.now c.rest_of.result.now c.capped-partition.result c.index_key-index_key.result c.width.result c.width-2.result c.capped-partition.ensures.value c.width.ensures c.index_key-index_key.ensures c.rest_of.ensures c.width-2.ensures in
    sym (next-far way_down (joined_parts c.args.self.now) (partitioned g.P.Prefix.WIDTH g.T.Translator.index_key c.args.key.now) None (subst (λ k. NextIs Down (joined_parts c.args.self.now) k None) whole c.in-None.ensures.value) c.in-None-last.ensures)

pub returns-in-None-last-clause-none : goal.returns-in-None-last-clause-none
returns-in-None-last-clause-none g c = (λ same. none-at (joined_parts c.args.self.now) c.in-None-last.ensures, λ empty. refl)
