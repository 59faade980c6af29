use Rattle.std.proofs.Common.{◌≡◌, ◌∙◌, ◌-◌, suc, ap, subst, map, take, Some, None, le_refl, arith}
use Rattle.std.proofs.lemmas.Result.{IfOk-weaker}
use Rattle.qm_model.specs.Bits.{packed, chunk}
use Rattle.std.specs.Option.{option_map}
use Rattle.qm_bits.specs.Bitmaps.{all_bits}
use Rattle.qm_overlay.specs.Layers.{layered, changed_at, IsClearBehind}
use Rattle.qm_overlay.proofs.Stacks.{take_mapped, found_there, none_there}
use Rattle.qm_overlay.proofs.batch.chunk_over.Goals as goal

pub returns-in-Some : goal.returns-in-Some
returns-in-Some g c =
    let next : suc (c.loop-left.left - 1) ≡ c.loop-left.left = omega (arith, c.loop-left-test.true) in
    let clear : IsClearBehind g.N.Chunks.LEN c.index-layers-left.result.value = subst (IsClearBehind g.N.Chunks.LEN) c.deref.ensures c.in-Some.ensures.clear in
    let value : Some c.in-Some.bytes.now ≡ option_map (packed g.N.Chunks.LEN) (changed_at c.index-layers-left.result.value.changed c.args.at) = c.in-Some.ensures.value ∙ ap (λ o. option_map (packed g.N.Chunks.LEN) (changed_at o.changed c.args.at)) c.deref.ensures in
    IfOk-weaker c.to_vec.result _ _
    (λ bytes same. same (λ x y copy. copy)
    ∙ found_there (λ r. r.value) g.N.Chunks.LEN c.args.layers.now c.args.base.now (c.loop-left.left - 1) c.index-layers-left.result c.requires.stacked (omega (arith, c.loop-left-test.true, c.loop-left.invariant.within)) c.index-layers-left.is c.args.at c.requires.kept clear c.in-Some.bytes.now value
    ∙ ap (λ n. chunk g.N.Chunks.LEN (all_bits g.N.Chunks.LEN (layered g.N.Chunks.LEN (take n (map (λ r. r.value) c.args.layers.now)) c.args.base.now)) c.args.at) next
    ∙ c.loop-left.invariant.same)
    c.to_vec.ensures.items_if_clones_equal

pub loop-left-preserved : goal.loop-left-preserved
loop-left-preserved g c = record {
  within = omega (arith, c.loop-left.invariant.within);
  same =
      let next : suc (c.loop-left.left - 1) ≡ c.loop-left.left = omega (arith, c.loop-left-test.true) in
      let value : None ≡ option_map (packed g.N.Chunks.LEN) (changed_at c.index-layers-left.result.value.changed c.args.at) = c.in_default.ensures.value ∙ ap (λ o. option_map (packed g.N.Chunks.LEN) (changed_at o.changed c.args.at)) c.deref.ensures in
      none_there (λ r. r.value) g.N.Chunks.LEN c.args.layers.now c.args.base.now (c.loop-left.left - 1) c.index-layers-left.result c.requires.stacked (omega (arith, c.loop-left-test.true, c.loop-left.invariant.within)) c.index-layers-left.is c.args.at c.requires.kept value
      ∙ ap (λ n. chunk g.N.Chunks.LEN (all_bits g.N.Chunks.LEN (layered g.N.Chunks.LEN (take n (map (λ r. r.value) c.args.layers.now)) c.args.base.now)) c.args.at) next
      ∙ c.loop-left.invariant.same;
}

pub loop-left-init : goal.loop-left-init
loop-left-init g c = record {
  within = le_refl _;
  same = ap (λ os. chunk g.N.Chunks.LEN (all_bits g.N.Chunks.LEN (layered g.N.Chunks.LEN os c.args.base.now)) c.args.at) (take_mapped (λ r. r.value) c.args.layers.now);
}

pub returns : goal.returns
returns g c =
    let none : 0 ≡ c.loop-left.left = omega (arith, c.loop-left-test.false) in
    IfOk-weaker c.chunk_of.result _ _
    (λ bytes is. is
    ∙ ap (λ n. chunk g.N.Chunks.LEN (all_bits g.N.Chunks.LEN (layered g.N.Chunks.LEN (take n (map (λ r. r.value) c.args.layers.now)) c.args.base.now)) c.args.at) none
    ∙ c.loop-left.invariant.same)
    c.chunk_of.ensures
