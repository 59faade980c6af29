use Rattle.std.proofs.Common.{get_or, sym, option_map}
use Rattle.qm_machine.specs.Machine.{slot_at}
use Rattle.qm_engine.specs.declared.table.Slot.TheVariants.{Gone}
use Rattle.qm_engine.proofs.BatchCommands.{put_ok}
use Rattle.qm_engine.proofs.turns.batches.put.Goals as goal

pub returns-in-Ok-clause-machine : goal.returns-in-Ok-clause-machine
returns-in-Ok-clause-machine g c = λ s k.
    rw (c.put_slot.ensures, c.in-Some.ensures.table) (put_ok g.C.Store g.X.Meaning g.X.Key.ByteString.bytes g.X.Value.ByteString.bytes g.X.Digest.Digest.bytes c.args.session.now.held c.args.session.now.table.items c.args.session.now.opened c.args.number
    (record { key = g.X.Key.ByteString.bytes c.args.key.now; value = option_map (λ v. g.X.Value.ByteString.bytes v.now) c.args.value }) c.in-Some.batch c.in-Ok.batch s k c.in-Ok.ensures
    (get_or c.args.session.now.table.items c.args.number Gone) (slot_at s.table c.args.number) (k.slots c.args.number) (sym c.in-Some.ensures.value))
