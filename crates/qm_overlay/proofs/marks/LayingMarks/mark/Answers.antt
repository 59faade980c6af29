use Rattle.std.proofs.Common.{true, arith, ap, refl}
use Rattle.qm_overlay.proofs.Laying.{begin-whole, changed-pruned, changed-count, changed-bits, unchanged-past, on_err}
use Rattle.std.proofs.lemmas.Result.{on_ok_weaker}
use Rattle.qm_overlay.proofs.marks.LayingMarks.mark.Goals as goal

pub returns-then-at-len : goal.returns-then-at-len
returns-then-at-len g c = record {
  pruned = changed-pruned g.N.Chunks.LEN (g.B.Readable.bitmap c.self.inside.base.now) c.self.inside.overlay c.set_bit.new.self c.args.self.now c.self.view_is c.self.invariant.0;
  count = changed-count g.N.Chunks.LEN (g.B.Readable.bitmap c.self.inside.base.now) c.self.inside.overlay c.set_bit.new.self c.args.self.now c.self.view_is c.self.invariant.0 c.set_bit.ensures.count;
  bits = λ kept.
      let base = g.B.Readable.bitmap c.self.inside.base.now in
      let from = begin-whole g.N.Chunks.LEN base c.self.inside.overlay c.self.inside.overlay c.args.self.now c.self.view_is c.self.invariant.0 in
      on_ok_weaker c.set_bit.result (changed-bits g.N.Chunks.LEN base c.self.inside.overlay c.set_bit.new.self c.args.self.now c.self.view_is c.self.invariant.0 c.args.at true) (c.set_bit.ensures.bits (omega (arith, from, kept)));
  below = ap (λ l. l.base) c.self.view_is;
  err = on_err c.set_bit.result tt;
}

pub returns-else-at-len : goal.returns-else-at-len
returns-else-at-len g c = record {
  pruned = refl;
  count = refl;
  bits = λ kept. unchanged-past g.N.Chunks.LEN (g.B.Readable.bitmap c.self.inside.base.now) c.self.inside.overlay c.self.inside.overlay c.args.self.now c.self.view_is c.self.invariant.0 c.args.at true (omega (arith, c.if-at-len.false, c.len.ensures.value));
  below = refl;
  err = tt;
}
