use Rattle.std.proofs.Common.{length, ap, arith}
use Rattle.std.proofs.lemmas.Grind.{common_steps}
use Rattle.qm_memory.proofs.Cuts.{next-of-rest}
use Rattle.qm_memory.proofs.items.move_down.Goals as goal

pub overflow_sub-end : goal.overflow_sub-end
overflow_sub-end c =
    rw (next-of-rest c.loop-end.end-items c.args.ends.now.items c.loop-end.end-index c.loop-end.invariant.rest)
    (c.requires c.loop-end.end-index 0 (omega (arith, ap length c.deref_mut-end-items.ensures.value)))

pub loop-end-preserved : goal.loop-end-preserved
loop-end-preserved c =
    let next = next-of-rest c.loop-end.end-items c.args.ends.now.items c.loop-end.end-index c.loop-end.invariant.rest in
    record {
      done = grind (arith, common_steps);
      rest = grind (arith, common_steps);
    }
