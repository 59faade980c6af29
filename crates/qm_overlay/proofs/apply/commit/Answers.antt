use Rattle.std.proofs.Common.{◌≡◌, ◌∙◌, ◌-◌, ◌*◌, ◌/◌, ◌%◌, ◌≤◌, [], false, get_or, suc, ap, sym, subst, map, length, add-one, refl, arith}
use Rattle.qm_bits.specs.Bitmaps.{bit_count, all_bits}
use Rattle.qm_overlay.specs.Layers.{layered, bit_over, changed_at, IsClearBehind}
use Rattle.qm_overlay.proofs.Stacks.{count_last, layered-none}
use Rattle.qm_overlay.proofs.Applying.{grows, none_applied, one_applied, all_applied, AreApplied}
use Rattle.qm_overlay.proofs.apply.commit.Given
use Rattle.std.proofs.lemmas.Result.{IfOk-from_err}
use Rattle.qm_overlay.proofs.Laying.{on_err}
use Rattle.qm_overlay.proofs.apply.commit.Goals as goal

-- the last step says how many bits there are
len_is : (g : Given.Over) (c : goal.After-len g) → c.len.result ≡ bit_count g.N.Chunks.LEN (layered g.N.Chunks.LEN (map (λ r. r.value) c.args.layers.now) c.args.bits.now)
len_is g c =
    let last : suc (length c.args.layers.now - 1) ≡ length c.args.layers.now = omega (arith, c.if-count-eq0.false) in
    c.len.ensures.value ∙ ap (λ o. o.count) c.deref.ensures
    ∙ sym (count_last (λ r. r.value) g.N.Chunks.LEN c.args.layers.now c.args.bits.now (length c.args.layers.now - 1) c.index-layers-count.result c.requires (omega (arith, last)) c.index-layers-count.is last)

pub extend_to-requires-clause-not_below : goal.extend_to-requires-clause-not_below
extend_to-requires-clause-not_below g c =
    subst (λ n. bit_count g.N.Chunks.LEN c.args.bits.now ≤ n) (sym (len_is g c)) (grows g.N.Chunks.LEN (map (λ r. r.value) c.args.layers.now) c.args.bits.now c.requires)

pub loop-layer-init : goal.loop-layer-init
loop-layer-init g c =
    let last : suc (length c.args.layers.now - 1) ≡ length c.args.layers.now = omega (arith, c.if-count-eq0.false) in
    let len_here : c.len.result ≡ bit_count g.N.Chunks.LEN (layered g.N.Chunks.LEN (map (λ r. r.value) c.args.layers.now) c.args.bits.now) =
    c.len.ensures.value ∙ ap (λ o. o.count) c.deref.ensures
    ∙ sym (count_last (λ r. r.value) g.N.Chunks.LEN c.args.layers.now c.args.bits.now (length c.args.layers.now - 1) c.index-layers-count.result c.requires (omega (arith, last)) c.index-layers-count.is last) in
    subst (λ n. AreApplied g.N.Chunks.LEN c.args.bits.now [] n c.extend_to.new.self) len_here
    (none_applied g.N.Chunks.LEN c.args.bits.now c.extend_to.new.self c.len.result
    (subst (λ n. bit_count g.N.Chunks.LEN c.args.bits.now ≤ n) (sym len_here) (grows g.N.Chunks.LEN (map (λ r. r.value) c.args.layers.now) c.args.bits.now c.requires)) c.in_ok-extend_to.ensures.ok)

pub loop-layer-preserved : goal.loop-layer-preserved
loop-layer-preserved g c =
    rw add-one (one_applied (λ r. r.value) g.N.Chunks.LEN c.args.layers.now c.args.bits.now c.requires c.loop-layer.layer-index c.layer-item.result c.loop-layer-test.true c.layer-item.is
    (bit_count g.N.Chunks.LEN (layered g.N.Chunks.LEN (map (λ r. r.value) c.args.layers.now) c.args.bits.now)) refl c.loop-layer.bits c.write_into.new.bits c.loop-layer.invariant
    (subst (IsClearBehind g.N.Chunks.LEN) c.deref-in-loop-layer.ensures c.write_into.ensures.clear) c.write_into.ensures.pruned c.write_into.ensures.count (omega (arith, g.met.N.Chunks.least))
    (λ i kept inside. c.write_into.ensures.bits i kept inside ∙ ap (λ o. bit_over (changed_at o.changed (i / (8 * g.N.Chunks.LEN))) (i % (8 * g.N.Chunks.LEN)) (get_or (all_bits g.N.Chunks.LEN c.loop-layer.bits) i false)) c.deref-in-loop-layer.ensures))

pub returns : goal.returns
returns g c = record {
  ok =
      all_applied (λ r. r.value) g.N.Chunks.LEN c.args.layers.now c.args.bits.now c.requires c.loop-layer.layer-index
      (bit_count g.N.Chunks.LEN (layered g.N.Chunks.LEN (map (λ r. r.value) c.args.layers.now) c.args.bits.now)) c.loop-layer.bits (omega (arith, c.loop-layer-test.false)) refl c.loop-layer.invariant;
  err = tt;
}

pub returns-in_err-extend_to : goal.returns-in_err-extend_to
returns-in_err-extend_to g c = record {
  ok = IfOk-from_err c.from_residual.result _ c.from_residual.ensures.0;
  err = on_err c.from_residual.result c.in_err-extend_to.ensures.err;
}

pub returns-then-count-eq0 : goal.returns-then-count-eq0
returns-then-count-eq0 g c = record {
  ok = layered-none (λ r. r.value) g.N.Chunks.LEN c.args.layers.now c.args.bits.now c.if-count-eq0.true;
  err = tt;
}
