use Rattle.std.proofs.Common.{map, option_map, subst, sym, ◌∙◌, refl, ap, Err}
use Rattle.qm_model.specs.Live.{value_of}
use Rattle.qm_machine.specs.Lines.{Read}
use Rattle.qm_engine.specs.Session.{SlotIs}
use Rattle.qm_engine.proofs.ReadCommands.{map-through, database_read, named_read}
use Rattle.qm_engine.proofs.ReadStores.{read-keeps, read-uses, read_err, none_read, no_read, unchanged-at, uses-at}
use Rattle.qm_engine.proofs.turns.reads.read.Goals as goal

pub returns-in-Ok : goal.returns-in-Ok
returns-in-Ok g c =
    record {
      machine = λ s k.
          rw c.in-None.is (λ _. database_read g.C.Store g.X.Meaning g.X.Key.ByteString.bytes g.X.Value.ByteString.bytes g.X.Digest.Digest.bytes c.in-Database.x c.get.new.self c.args.session.now.table.items c.args.session.now.opened (map g.X.Key.ByteString.bytes c.args.keys.now)
          (map (option_map g.X.Value.ByteString.bytes) c.in-Ok.values.items) s (rw c.in-Database.is at k) (c.get.ensures.reads.same, c.get.ensures.reads.store, c.get.ensures.reads.numbered)
          (λ list stands. c.in-Ok.ensures.values list stands ∙ map-through g.X.Key.ByteString.bytes (value_of list) c.args.keys.now));
      store = read-keeps g.C.Store g.X.Meaning c.in-Database.is c.get.ensures.reads;
      uses = read-uses g.C.Store g.X.Meaning c.in-Database.is c.get.ensures.reads _ (λ e. absurd (cc e));
      opened = refl;
    }

pub returns-in-Err : goal.returns-in-Err
returns-in-Err g c =
    rw c.in-None.is (read_err g.C.Store g.X.Meaning g.X.Key.ByteString.bytes g.X.Value.ByteString.bytes g.X.Digest.Digest.bytes c.args.session.now
    c.in-Database.is c.get.ensures.reads (λ list. Read (map (value_of list) (map g.X.Key.ByteString.bytes c.args.keys.now))) c.in-Err.error (λ e. c.in-Err.is ∙ ap Err e) c.turn_of.ensures c.in-Err.ensures.refused)

pub returns-in_default : goal.returns-in_default
returns-in_default g c =
    none_read g.C.Store g.X.Meaning g.X.Key.ByteString.bytes g.X.Value.ByteString.bytes g.X.Digest.Digest.bytes c.args.session.now (map g.X.Key.ByteString.bytes c.args.keys.now) c.args.from c.in_default.is c.no_database.ensures

pub returns-in-None-slot_at : goal.returns-in-None-slot_at
returns-in-None-slot_at g c =
    rw c.in-Some.is (no_read g.C.Store g.X.Meaning g.X.Key.ByteString.bytes g.X.Value.ByteString.bytes g.X.Digest.Digest.bytes c.args.session.now (map g.X.Key.ByteString.bytes c.args.keys.now) c.in-Some.number c.in-Database.is c.in-None-slot_at.ensures c.no_such_handle.ensures)

pub returns-in-Some-slot_at : goal.returns-in-Some-slot_at
returns-in-Some-slot_at g c = record {
  machine = λ s k.
      let held = rw c.in-Database.is at k in
      rw c.in-Some.is (named_read g.C.Store g.X.Meaning g.X.Key.ByteString.bytes g.X.Value.ByteString.bytes g.X.Digest.Digest.bytes c.read_slot.result c.in-Database.x c.read_slot.new.database c.args.session.now.table.items c.args.session.now.opened c.in-Some.number (map g.X.Key.ByteString.bytes c.args.keys.now) s held
      (c.read_slot.ensures.same, c.read_slot.ensures.store, c.read_slot.ensures.numbered)
      (λ list named stands in_had is. c.read_slot.ensures.machine s list named stands in_had
      (subst (λ a. SlotIs g.C.Store g.X.Meaning s.had a named) (sym c.in-Some-slot_at.ensures) is)));
  store = unchanged-at g.C.Store g.X.Meaning.inside c.in-Database.is c.read_slot.ensures.store;
  uses = uses-at g.C.Store g.X.Meaning.inside c.in-Database.is c.read_slot.ensures.uses;
  opened = refl;
}
