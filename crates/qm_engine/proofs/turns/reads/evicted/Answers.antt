use Rattle.std.proofs.Common.{map, get_or, refl, sym}
use Rattle.qm_machine.specs.Machine.{list_evicted, slot_at}
use Rattle.qm_base.specs.Views.{pair_view}
use Rattle.qm_engine.specs.declared.table.Slot.TheVariants.{Gone}
use Rattle.qm_engine.proofs.ReadCommands.{evicted_ok}
use Rattle.qm_engine.proofs.Moves.{none_made_told, not_made}
use Rattle.qm_engine.proofs.turns.reads.evicted.Goals as goal

pub returns-in-Ok-clause-machine : goal.returns-in-Ok-clause-machine
returns-in-Ok-clause-machine g c = λ s k _.
    evicted_ok g.C.Store g.X.Meaning g.X.Key.ByteString.bytes g.X.Value.ByteString.bytes g.X.Digest.Digest.bytes c.args.session.now.held c.args.session.now.table.items c.args.session.now.opened c.args.number
    (map (pair_view g.X.Key.ByteString.bytes g.X.Value.ByteString.bytes) c.in-Ok.pairs.items) c.in-Some.batch.now s k c.in-Ok.ensures
    (get_or c.args.session.now.table.items c.args.number Gone) (slot_at s.table c.args.number) (k.slots c.args.number) (sym c.in-Some.ensures)

pub returns-in_default : goal.returns-in_default
returns-in_default g c =
    none_made_told g.C.Store g.X.Meaning g.X.Key.ByteString.bytes g.X.Value.ByteString.bytes g.X.Digest.Digest.bytes c.args.session.now (λ s. list_evicted s c.args.number) c.args.number c.no_such_handle.ensures
    (λ s slot. not_made g.C.Store g.X.Meaning (list_evicted s c.args.number) refl (λ chain above ws. refl) (λ chain above ws keys. refl) s.had _ _ slot c.in_default.ensures)
