use Rattle.std.proofs.Common.{get_or, refl, sym}
use Rattle.qm_machine.specs.Machine.{child, slot_at, start_child}
use Rattle.qm_engine.specs.declared.table.Slot.TheVariants.{Gone}
use Rattle.qm_engine.specs.Session.{Follows}
use Rattle.qm_engine.proofs.BatchCommands.{child_in}
use Rattle.qm_engine.proofs.Moves.{no_room, none_made, not_made}
use Rattle.qm_engine.proofs.turns.batches.child.Goals as goal

pub returns-in-Ok : goal.returns-in-Ok
returns-in-Ok g c = record {
  machine = λ s k.
      child_in g.C.Store g.X.Meaning g.X.Key.ByteString.bytes g.X.Value.ByteString.bytes g.X.Digest.Digest.bytes (Follows g.C.Store g.X.Meaning g.X.Key.ByteString.bytes g.X.Value.ByteString.bytes g.X.Digest.Digest.bytes c.started.new.session c.started.result)
      c.args.number c.args.keep c.in-Some.batch.now c.in-Ok.made s (get_or c.args.session.now.table.items c.args.number Gone) (slot_at s.table c.args.number) (k.slots c.args.number) (sym c.in-Some.ensures)
      c.in-Ok.ensures (λ new is. c.started.ensures.machine s new k is);
  rest = c.started.ensures.rest;
  never = c.started.ensures.never;
}

pub returns-in-Err : goal.returns-in-Err
returns-in-Err g c = no_room g.C.Store g.X.Meaning g.X.Key.ByteString.bytes g.X.Value.ByteString.bytes g.X.Digest.Digest.bytes c.args.session.now (λ s. child s c.args.number c.args.keep)

pub returns-in_default : goal.returns-in_default
returns-in_default g c =
    none_made g.C.Store g.X.Meaning g.X.Key.ByteString.bytes g.X.Value.ByteString.bytes g.X.Digest.Digest.bytes c.args.session.now (λ s. start_child s c.args.number c.args.keep) c.args.number c.no_such_handle.ensures
    (λ s slot. not_made g.C.Store g.X.Meaning (start_child s c.args.number c.args.keep) refl (λ chain above ws. refl) (λ chain above ws keys. refl) s.had _ _ slot c.in_default.ensures)
