use Rattle.std.proofs.Common.{false, arith, ap, refl}
use Rattle.qm_overlay.proofs.Laying.{changed-bits, changed-pruned, changed-count, unchanged-past, on_err}
use Rattle.std.proofs.lemmas.Result.{on_ok_weaker}
use Rattle.qm_overlay.proofs.marks.LayingMarks.unmark.Goals as goal

pub returns-then-at-len : goal.returns-then-at-len
returns-then-at-len g c = record {
  pruned = changed-pruned g.N.Chunks.LEN (g.B.Readable.bitmap c.self.inside.base.now) c.self.inside.overlay c.clear_bit.new.self c.args.self.now c.self.view_is c.self.invariant.0;
  count = changed-count g.N.Chunks.LEN (g.B.Readable.bitmap c.self.inside.base.now) c.self.inside.overlay c.clear_bit.new.self c.args.self.now c.self.view_is c.self.invariant.0 c.clear_bit.ensures.count;
  bits = on_ok_weaker c.clear_bit.result (changed-bits g.N.Chunks.LEN (g.B.Readable.bitmap c.self.inside.base.now) c.self.inside.overlay c.clear_bit.new.self c.args.self.now c.self.view_is c.self.invariant.0 c.args.at false) c.clear_bit.ensures.bits;
  below = ap (λ l. l.base) c.self.view_is;
  err = on_err c.clear_bit.result tt;
}

pub returns-else-at-len : goal.returns-else-at-len
returns-else-at-len g c = record {
  pruned = refl;
  count = refl;
  bits = unchanged-past g.N.Chunks.LEN (g.B.Readable.bitmap c.self.inside.base.now) c.self.inside.overlay c.self.inside.overlay c.args.self.now c.self.view_is c.self.invariant.0 c.args.at false (omega (arith, c.if-at-len.false, c.len.ensures.value));
  below = refl;
  err = tt;
}
