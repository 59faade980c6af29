use Rattle.std.proofs.Common.{sym, ap, ◌∙◌}
use Rattle.qm_engine.specs.declared.table.Slot.TheVariants.{Gone}
use Rattle.qm_engine.specs.Table.{staged_of}
use Rattle.qm_engine.proofs.Tables.{set_back, not_staged}
use Rattle.qm_engine.proofs.table.take_staged.Goals as goal

pub returns-in_default : goal.returns-in_default
returns-in_default g c = record {
  value = not_staged c.take_slot.result c.in_default.not-Staged ∙ ap staged_of c.take_slot.ensures.slot;
  table = rw (c.put_slot.ensures, c.take_slot.ensures.table) (set_back c.args.table.now.items c.args.number Gone c.take_slot.result (sym c.take_slot.ensures.slot));
}
