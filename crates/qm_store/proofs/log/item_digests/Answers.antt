use Rattle.std.proofs.Common.{◌∙◌, ◌+◌, [], ◌∷◌, length, map, ap, arith, add-one}
use Rattle.std.proofs.lemmas.List.{length-append, take_all}
use Rattle.std.proofs.lemmas.Result.{IfOk-from_err}
use Rattle.qm_model.specs.Trees.{leaf, leaf_digest}
use Rattle.qm_store.specs.Log.{digests_from}
use Rattle.qm_store.proofs.Leaves.{listed-next}
use Rattle.qm_store.proofs.log.item_digests.Goals as goal

pub loop-index-preserved : goal.loop-index-preserved
loop-index-preserved g c =
    let shape = g.F.Family.shape in
    let hash = g.H.Hasher.hash in
    record {
      digests = ap (map g.H.Digest.Digest.bytes) c.push_reserved.ensures.items
          ∙ rw add-one (listed-next hash shape g.H.Digest.Digest.bytes (λ v. v.items) c.args.from c.loop-index.index c.loop-index.made.items c.leaf_digest.result c.args.items.now c.index-items-index.result c.loop-index-test.true c.index-items-index.is
          c.loop-index.invariant.digests (c.leaf_digest.ensures ∙ ap (leaf_digest hash (shape.position (leaf _))) c.deref.ensures.value));
      count = ap length c.push_reserved.ensures.items ∙ length-append c.loop-index.made.items (c.leaf_digest.result ∷ []) ∙ ap (λ n. n + 1) c.loop-index.invariant.count;
      room = c.push_reserved.ensures.capacity ∙ c.loop-index.invariant.room;
    }

pub loop-index-init : goal.loop-index-init
loop-index-init g c = record {
  digests = ap (map g.H.Digest.Digest.bytes) c.in_ok-made.ensures.items;
  count = ap length c.in_ok-made.ensures.items;
  room = c.in_ok-made.ensures.exact;
}

pub push_reserved-requires : goal.push_reserved-requires
push_reserved-requires g c = omega (arith, c.loop-index.invariant.count, c.loop-index.invariant.room, c.loop-index-test.true)

pub returns-in_err-made : goal.returns-in_err-made
returns-in_err-made g c = IfOk-from_err c.from_residual.result _ c.from_residual.ensures.0

pub returns : goal.returns
returns g c =
    c.loop-index.invariant.digests
    ∙ ap (λ items. digests_from g.H.Hasher.hash g.F.Family.shape c.args.from (map (λ v. v.items) items)) (take_all c.loop-index.index c.args.items.now c.loop-index-test.false)
