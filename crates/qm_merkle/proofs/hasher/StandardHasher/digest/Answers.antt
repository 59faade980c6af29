use Rattle.std.proofs.Common.{sym, subst}
use Rattle.qm_merkle.proofs.Parts.{one-part}
use Rattle.qm_merkle.proofs.hasher.StandardHasher.digest.Goals as goal

pub loop-part-preserved : goal.loop-part-preserved
loop-part-preserved g c = record {
  holds = subst (g.H.Hasher.holds c.update.new.self) (sym (one-part (λ part. part.now) c.args.parts.now c.loop-part.part-index _ c.loop-part-test.true)) (c.update.ensures _ c.loop-part.invariant.holds);
  made = c.loop-part.invariant.made;
}
