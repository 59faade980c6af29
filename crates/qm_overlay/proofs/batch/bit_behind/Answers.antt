use Rattle.std.proofs.Common.{◌≡◌, ◌∙◌, ◌-◌, ◌*◌, ◌/◌, ◌%◌, ◌<◌, suc, ap, sym, subst, map, take, get_or, false, le_refl, arith}
use Rattle.std.proofs.lemmas.List.{get_or_past}
use Rattle.std.specs.Option.{option_map}
use Rattle.qm_bits.specs.Bitmaps.{all_bits}
use Rattle.qm_overlay.specs.Layers.{layered, changed_at, IsClearBehind}
use Rattle.qm_overlay.proofs.Laying.{length-all}
use Rattle.qm_overlay.proofs.Stacks.{take_mapped, found_bit, none_bit, bit_kept}
use Rattle.qm_overlay.proofs.batch.bit_behind.Goals as goal

pub returns-in-Some : goal.returns-in-Some
returns-in-Some g c =
    let next : suc (c.loop-left.left - 1) ≡ c.loop-left.left = omega (arith, c.loop-left-test.true) in
    let clear : IsClearBehind g.N.Chunks.LEN c.index-layers-left.result.value = subst (IsClearBehind g.N.Chunks.LEN) c.deref.ensures c.in-Some.ensures.clear in
    found_bit (λ r. r.value) g.N.Chunks.LEN c.args.layers.now c.args.base.now (c.loop-left.left - 1) c.index-layers-left.result c.requires.stacked (omega (arith, c.loop-left-test.true, c.loop-left.invariant.within)) c.index-layers-left.is
    (omega (arith, g.met.N.Chunks.least)) c.args.at c.requires.kept clear c.in-Some.bit
    (c.in-Some.ensures.value ∙ ap (λ o. option_map (λ bits. get_or bits (c.args.at % (8 * g.N.Chunks.LEN)) false) (changed_at o.changed (c.args.at / (8 * g.N.Chunks.LEN)))) c.deref.ensures)
    ∙ ap (λ n. get_or (all_bits g.N.Chunks.LEN (layered g.N.Chunks.LEN (take n (map (λ r. r.value) c.args.layers.now)) c.args.base.now)) c.args.at false) next
    ∙ c.loop-left.invariant.same

pub loop-left-preserved : goal.loop-left-preserved
loop-left-preserved g c = record {
  within = omega (arith, c.loop-left.invariant.within);
  same =
      let next : suc (c.loop-left.left - 1) ≡ c.loop-left.left = omega (arith, c.loop-left-test.true) in
      let clear : IsClearBehind g.N.Chunks.LEN c.index-layers-left.result.value = subst (IsClearBehind g.N.Chunks.LEN) c.deref.ensures c.in_default.ensures.clear in
      none_bit (λ r. r.value) g.N.Chunks.LEN c.args.layers.now c.args.base.now (c.loop-left.left - 1) c.index-layers-left.result c.requires.stacked (omega (arith, c.loop-left-test.true, c.loop-left.invariant.within)) c.index-layers-left.is
      (omega (arith, g.met.N.Chunks.least)) c.args.at c.requires.kept clear
      (c.in_default.ensures.value ∙ ap (λ o. option_map (λ bits. get_or bits (c.args.at % (8 * g.N.Chunks.LEN)) false) (changed_at o.changed (c.args.at / (8 * g.N.Chunks.LEN)))) c.deref.ensures)
      ∙ ap (λ n. get_or (all_bits g.N.Chunks.LEN (layered g.N.Chunks.LEN (take n (map (λ r. r.value) c.args.layers.now)) c.args.base.now)) c.args.at false) next
      ∙ c.loop-left.invariant.same;
}

pub returns : goal.returns
returns g c =
    let none : 0 ≡ c.loop-left.left = omega (arith, c.loop-left-test.false) in
    c.get_bit.ensures ∙ bit_kept g.N.Chunks.LEN c.args.base.now c.args.at c.requires.kept
    ∙ ap (λ n. get_or (all_bits g.N.Chunks.LEN (layered g.N.Chunks.LEN (take n (map (λ r. r.value) c.args.layers.now)) c.args.base.now)) c.args.at false) none
    ∙ c.loop-left.invariant.same

pub loop-left-init : goal.loop-left-init
loop-left-init g c = record {
  within = le_refl _;
  same = ap (λ os. get_or (all_bits g.N.Chunks.LEN (layered g.N.Chunks.LEN os c.args.base.now)) c.args.at false) (take_mapped (λ r. r.value) c.args.layers.now);
}

pub returns-then-len-at : goal.returns-then-len-at
returns-then-len-at g c =
    let none : 0 ≡ c.loop-left.left = omega (arith, c.loop-left-test.false) in
    let long = length-all g.N.Chunks.LEN c.args.base.now in
    sym (get_or_past (all_bits g.N.Chunks.LEN c.args.base.now) c.args.at false (omega (arith, long, c.if-len-at.true, c.len.ensures.value)))
    ∙ ap (λ n. get_or (all_bits g.N.Chunks.LEN (layered g.N.Chunks.LEN (take n (map (λ r. r.value) c.args.layers.now)) c.args.base.now)) c.args.at false) none
    ∙ c.loop-left.invariant.same

pub get_bit-requires-clause-kept : goal.get_bit-requires-clause-kept
get_bit-requires-clause-kept g c = c.requires.kept

pub get_bit-requires-clause-within : goal.get_bit-requires-clause-within
get_bit-requires-clause-within g c = subst (λ n. c.args.at < n) c.len.ensures.value c.if-len-at.false
