use Rattle.std.proofs.Common.{◌+◌, ◌*◌, ◌<◌, ◌≤◌, ⊎_elim, inl, inr, arith}
use Rattle.qm_overlay.proofs.Puts.{begun_none, begun_kept, begun_within, begun_more}
use Rattle.qm_overlay.proofs.apply.write_from.Goals as goal

pub loop-i-init : goal.loop-i-init
loop-i-init g c = begun_none g.N.Chunks.LEN c.args.bits.now c.args.first c.args.chunk.now

pub set_bit-requires-clause-kept : goal.set_bit-requires-clause-kept
set_bit-requires-clause-kept g c = begun_kept g.N.Chunks.LEN c.args.bits.now c.args.first c.args.chunk.now c.loop-i.i c.loop-i.bits c.loop-i.invariant c.requires.kept

pub set_bit-requires-clause-within : goal.set_bit-requires-clause-within
set_bit-requires-clause-within g c = begun_within g.N.Chunks.LEN c.args.bits.now c.args.first c.args.chunk.now c.loop-i.i c.loop-i.bits c.span.result c.len.result c.min-end.result c.loop-i.invariant c.min-end.ensures c.len.ensures.value c.loop-i-test.true

pub loop-i-preserved : goal.loop-i-preserved
loop-i-preserved g c =
    begun_more g.N.Chunks.LEN c.args.bits.now c.args.first c.args.chunk.now c.loop-i.i c.loop-i.bits c.set_bit.new.self c.get.result c.loop-i.invariant
    (begun_kept g.N.Chunks.LEN c.args.bits.now c.args.first c.args.chunk.now c.loop-i.i c.loop-i.bits c.loop-i.invariant c.requires.kept)
    (begun_within g.N.Chunks.LEN c.args.bits.now c.args.first c.args.chunk.now c.loop-i.i c.loop-i.bits c.span.result c.len.result c.min-end.result c.loop-i.invariant c.min-end.ensures c.len.ensures.value c.loop-i-test.true)
    c.set_bit.ensures c.get.ensures

pub returns : goal.returns
returns g c = record {
  pruned = c.loop-i.invariant.pruned;
  count = c.loop-i.invariant.count;
  here = λ i low within. c.loop-i.invariant.done i (omega (arith, low, within, c.span.ensures, c.min-end.ensures, c.len.ensures.value, c.loop-i-test.false));
  other = λ i out. c.loop-i.invariant.rest i (⊎_elim (λ (lt : i < c.args.first). inl lt) (λ (le : c.args.first + 8 * g.N.Chunks.LEN ≤ i). inr (omega (arith, le, c.span.ensures, c.min-end.ensures, c.loop-i.auto.i-end))) out);
}
