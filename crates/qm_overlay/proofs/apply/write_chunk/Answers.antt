use Rattle.std.proofs.Common.{◌≡◌, ◌+◌, ◌*◌, ◌%◌, ◌<◌, ◌≤◌, ap, sym, subst, ◌∙◌, refl, get_or, mod-lt, mul-le-mul_right, false, arith}
use Rattle.qm_bits.specs.Bitmaps.{start, bit_count, all_bits}
use Rattle.qm_overlay.proofs.Puts.{chunk_other, chunk_kept, chunk_within, chunk_past, chunk_place}
use Rattle.qm_overlay.proofs.Laying.{some_bits}
use Rattle.qm_overlay.proofs.apply.write_chunk.Goals as goal

pub returns-then-at-pruned_chunks : goal.returns-then-at-pruned_chunks
returns-then-at-pruned_chunks g c = record {
  pruned = refl;
  count = refl;
  here = λ i is from lt.
      let kept = chunk_kept c.span-span.result g.N.Chunks.LEN c.args.at c.span-span.ensures (some_bits g.N.Chunks.LEN g.met.N.Chunks.least) c.args.bits.now.pruned i is from in
      absurd (omega (arith, kept, c.pruned_chunks.ensures, c.if-at-pruned_chunks.true));
  other = λ i apart. refl;
}

pub nonzero_div-len : goal.nonzero_div-len
nonzero_div-len g c = subst (λ n. 0 < n) (sym c.span-span.ensures) (some_bits g.N.Chunks.LEN g.met.N.Chunks.least)

pub returns-then-len-span : goal.returns-then-len-span
returns-then-len-span g c = record {
  pruned = refl;
  count = refl;
  here = λ i is from lt.
      let past = chunk_past c.span-span.result g.N.Chunks.LEN c.args.at c.span-span.ensures (some_bits g.N.Chunks.LEN g.met.N.Chunks.least) c.len.result i is c.if-len-span.true in
      absurd (omega (arith, past, lt, c.len.ensures.value));
  other = λ i apart. refl;
}

pub overflow_mul-at : goal.overflow_mul-at
overflow_mul-at g c =
    let within = chunk_within c.span-span.result g.N.Chunks.LEN c.args.at c.span-span.ensures (some_bits g.N.Chunks.LEN g.met.N.Chunks.least) c.len.result c.if-len-span.false in
    omega (arith, within, c.len.ensures.bounded)

pub write_from-requires-clause-kept : goal.write_from-requires-clause-kept
write_from-requires-clause-kept g c =
    subst (λ s. start g.N.Chunks.LEN c.args.bits.now ≤ c.args.at * s) (sym c.span-span.ensures) (mul-le-mul_right (8 * g.N.Chunks.LEN) (subst (λ p. p ≤ c.args.at) c.pruned_chunks.ensures c.if-at-pruned_chunks.false))

pub write_from-requires-clause-within : goal.write_from-requires-clause-within
write_from-requires-clause-within g c =
    subst (λ n. c.args.at * c.span-span.result ≤ n) c.len.ensures.value (chunk_within c.span-span.result g.N.Chunks.LEN c.args.at c.span-span.ensures (some_bits g.N.Chunks.LEN g.met.N.Chunks.least) c.len.result c.if-len-span.false)

pub returns : goal.returns
returns g c = record {
  pruned = c.write_from.ensures.pruned;
  count = c.write_from.ensures.count;
  here = λ i is from lt.
      let some : 0 < 8 * g.N.Chunks.LEN = some_bits g.N.Chunks.LEN g.met.N.Chunks.least in
      let place : c.args.at * c.span-span.result + i % (8 * g.N.Chunks.LEN) ≡ i = chunk_place c.span-span.result g.N.Chunks.LEN c.args.at c.span-span.ensures some i is in
      ap (λ j. get_or (all_bits g.N.Chunks.LEN c.write_from.new.bits) j false) (sym place)
      ∙ c.write_from.ensures.here (i % (8 * g.N.Chunks.LEN)) (mod-lt i some) (subst (λ j. j < bit_count g.N.Chunks.LEN c.args.bits.now) (sym place) lt);
  other = λ i apart. c.write_from.ensures.other i (chunk_other c.span-span.result g.N.Chunks.LEN c.args.at c.span-span.ensures (some_bits g.N.Chunks.LEN g.met.N.Chunks.least) i apart);
}
