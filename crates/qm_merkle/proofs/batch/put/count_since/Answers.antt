use Rattle.std.proofs.Common.{◌<◌, ◌≤◌, ◌∙◌, ap, map, take, add-one, arith}
use Rattle.qm_merkle.proofs.Putting.{since-none, since-next}
use Rattle.qm_merkle.proofs.batch.put.count_since.Goals as goal

pub returns-then-get-clause-since : goal.returns-then-get-clause-since
returns-then-get-clause-since g c =
    let before : c.layer-item.result.value.tree.start < c.args.leaves = omega (arith, c.if-get.true, c.get.ensures, c.base.ensures.start, c.get-in-loop-layer.ensures, ap (λ l. l.tree.start) c.deref.ensures) in
    ap (λ k. take k (map (λ r. r.value) c.args.layers.now)) c.loop-layer.invariant.count
    ∙ since-none (λ r. r.value) c.args.leaves c.args.layers.now c.loop-layer.layer-index c.layer-item.result c.loop-layer-test.true c.layer-item.is before
    ∙ c.loop-layer.invariant.since

pub loop-layer-preserved : goal.loop-layer-preserved
loop-layer-preserved g c =
    let from : c.args.leaves ≤ c.layer-item.result.value.tree.start = omega (arith, c.if-get.false, c.get.ensures, c.base.ensures.start, c.get-in-loop-layer.ensures, ap (λ l. l.tree.start) c.deref.ensures) in
    record {
      count = omega (arith, c.loop-layer.invariant.count);
      since = rw add-one (since-next (λ r. r.value) c.args.leaves c.args.layers.now c.loop-layer.layer-index c.layer-item.result c.loop-layer-test.true c.layer-item.is from ∙ c.loop-layer.invariant.since);
    }
