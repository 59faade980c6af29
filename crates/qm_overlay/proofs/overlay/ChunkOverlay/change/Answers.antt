use Rattle.std.proofs.Common.{◌/◌, ◌<◌, ◌≤◌, ◌∙◌, ap, refl, sym, subst, set, IsSome, arith}
use Rattle.qm_bits.specs.Bitmaps.{all_bits}
use Rattle.qm_overlay.specs.Layers.{changed_at}
use Rattle.qm_overlay.proofs.Laying.{some_bits, place_pruned, place_kept, ok_of_err, on_err}
use Rattle.qm_overlay.proofs.overlay.ChunkOverlay.change.Goals as goal

pub nonzero_div-chunk : goal.nonzero_div-chunk
nonzero_div-chunk g c = subst (λ n. 0 < n) (sym c.span.ensures) (some_bits g.N.Chunks.LEN g.met.N.Chunks.least)

pub returns-then-chunk-pruned_chunks : goal.returns-then-chunk-pruned_chunks
returns-then-chunk-pruned_chunks g c = record {
  count = refl;
  kept = λ from.
      let low = place_pruned g.N.Chunks.LEN (g.B.Readable.bitmap c.args.base.now) c.span.result c.args.at c.span.ensures (some_bits g.N.Chunks.LEN g.met.N.Chunks.least) (omega (arith, c.if-chunk-pruned_chunks.true, c.pruned_chunks.ensures)) in
      absurd (omega arith);
  pruned = λ low. refl;
  from = λ is. is;
  err = tt;
}

pub hold-requires-clause-not_below : goal.hold-requires-clause-not_below
hold-requires-clause-not_below g c = c.requires.not_below

pub hold-requires-clause-kept : goal.hold-requires-clause-kept
hold-requires-clause-kept g c = subst (λ p. p ≤ c.args.at / c.span.result) c.pruned_chunks.ensures c.if-chunk-pruned_chunks.false

pub returns-in_err-hold : goal.returns-in_err-hold
returns-in_err-hold g c = record {
  count = c.hold.ensures.count;
  kept = λ from. ok_of_err _ c.from_residual.result c.from_residual.ensures.0;
  pruned = λ low. c.in_err-hold.ensures.err;
  from = λ is. c.hold.ensures.from (g.B.Readable.bitmap c.args.base.now).pruned (subst (λ p. p ≤ c.args.at / c.span.result) c.pruned_chunks.ensures c.if-chunk-pruned_chunks.false) is;
  err = on_err c.from_residual.result c.in_err-hold.ensures.err;
}

pub put-requires-clause-within : goal.put-requires-clause-within
put-requires-clause-within g c = subst (λ n. c.args.at < n) (sym c.hold.ensures.count) c.requires.within

pub put-requires-clause-held : goal.put-requires-clause-held
put-requires-clause-held g c = subst (λ s. IsSome (changed_at c.hold.new.self.changed (c.args.at / s))) c.span.ensures c.in_ok-hold.ensures.held

pub returns : goal.returns
returns g c = record {
  count = c.put.ensures.count ∙ c.hold.ensures.count;
  kept = λ from. c.put.ensures.bits (g.B.Readable.bitmap c.args.base.now) from ∙ ap (λ m. set (all_bits g.N.Chunks.LEN m) c.args.at c.args.value) c.hold.ensures.same;
  pruned = λ low.
      let from = place_kept g.N.Chunks.LEN (g.B.Readable.bitmap c.args.base.now) c.span.result c.args.at c.span.ensures (some_bits g.N.Chunks.LEN g.met.N.Chunks.least) (subst (λ p. p ≤ c.args.at / c.span.result) c.pruned_chunks.ensures c.if-chunk-pruned_chunks.false) in
      absurd (omega arith);
  from = λ is. c.put.ensures.from (g.B.Readable.bitmap c.args.base.now).pruned (c.hold.ensures.from (g.B.Readable.bitmap c.args.base.now).pruned (subst (λ p. p ≤ c.args.at / c.span.result) c.pruned_chunks.ensures c.if-chunk-pruned_chunks.false) is);
  err = tt;
}
