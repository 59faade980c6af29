use Rattle.std.proofs.Common.{ap, refl, true}
use Rattle.qm_bits.proofs.Marks.{kept_count, kept_all, not_marked}
use Rattle.qm_bits.proofs.prunable.Prunable.mark.Goals as goal

pub set_bit-requires : goal.set_bit-requires
set_bit-requires g c =
    let kept = c.is_kept.ensures.yes c.if-is_kept.true in
    record { kept = kept.0; within = kept.1 }

pub returns-then-is_kept : goal.returns-then-is_kept
returns-then-is_kept g c = record {
  pruned = ap (λ m. m.pruned) c.set_bit.ensures;
  count = kept_count g.N.Chunks.LEN c.args.self.now c.set_bit.new.self c.args.at true c.set_bit.ensures;
  bits = kept_all g.N.Chunks.LEN c.args.self.now c.set_bit.new.self c.args.at true c.set_bit.ensures;
}

pub returns-else-is_kept : goal.returns-else-is_kept
returns-else-is_kept g c = record {
  pruned = refl;
  count = refl;
  bits = not_marked g.N.Chunks.LEN c.args.self.now c.args.at true (c.is_kept.ensures.no c.if-is_kept.false);
}
