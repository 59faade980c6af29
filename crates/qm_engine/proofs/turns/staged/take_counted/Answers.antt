use Rattle.std.proofs.Common.{get_or, sym}
use Rattle.qm_engine.specs.declared.table.Slot.TheVariants.{Gone, Staged}
use Rattle.qm_engine.proofs.Tables.{set_back, staged_slot}
use Rattle.qm_engine.proofs.turns.staged.take_counted.Goals as goal

pub returns-else-count-given-clause-left : goal.returns-else-count-given-clause-left
returns-else-count-given-clause-left g c =
    rw (c.put_slot.ensures, c.in-Some.ensures.table) (set_back c.args.table.now.items c.args.number Gone (Staged c.in-Some.batch)
    (staged_slot (get_or c.args.table.now.items c.args.number Gone) c.in-Some.batch (sym c.in-Some.ensures.value)))
