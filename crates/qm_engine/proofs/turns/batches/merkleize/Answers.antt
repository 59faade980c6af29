use Rattle.std.proofs.Common.{refl, sym, option_map}
use Rattle.qm_machine.specs.Machine.{merkleize_in, slot_at}
use Rattle.qm_engine.specs.Session.{Follows}
use Rattle.qm_engine.proofs.BatchCommands.{merkleize_made}
use Rattle.qm_engine.proofs.Moves.{steady, held-at, none_named, not_writing, made_keeps, made_uses, rest-held, rest-opened}
use Rattle.qm_engine.proofs.ReadStores.{none_open}
use Rattle.qm_engine.proofs.turns.batches.merkleize.Goals as goal

pub returns : goal.returns
returns g c =
    let reads = c.merkleize_batch-made.ensures.reads in
    record {
      machine = λ s k sound more rest told choices.
          merkleize_made g.C.Store g.X.Meaning g.X.Key.ByteString.bytes g.X.Value.ByteString.bytes g.X.Digest.Digest.bytes g.P.Policy.rules (Follows g.C.Store g.X.Meaning g.X.Key.ByteString.bytes g.X.Value.ByteString.bytes g.X.Digest.Digest.bytes c.put_made.new.session c.put_made.result)
          c.in-Database.x c.merkleize_batch-made.new.database c.args.session.now.table.items c.args.session.now.opened c.args.number c.args.policy.now (option_map g.X.Value.ByteString.bytes c.args.metadata.now) c.in-Some.batch c.merkleize_batch-made.result s (held-at g.C.Store g.X.Meaning g.X.Key.ByteString.bytes g.X.Value.ByteString.bytes g.X.Digest.Digest.bytes c.args.session.now c.in-Database.is s k)
          (reads.same, reads.store, reads.numbered)
          c.merkleize_batch-made.ensures.made
          (sym c.in-Some.ensures.value)
          (λ list chain tip evicted taken in_had among making. c.put_made.ensures.machine s list chain tip evicted (rw c.in-Some.ensures.table taken) in_had among making);
      store = made_keeps g.C.Store g.X.Meaning g.X.Key.ByteString.bytes g.X.Value.ByteString.bytes g.X.Digest.Digest.bytes c.args.session.now c.in-Database.is reads {held = c.put_made.new.session.held} (rest-held {new = c.put_made.new.session} c.put_made.ensures.rest);
      uses = made_uses g.C.Store g.X.Meaning g.X.Key.ByteString.bytes g.X.Value.ByteString.bytes g.X.Digest.Digest.bytes c.args.session.now c.in-Database.is reads {held = c.put_made.new.session.held} (rest-held {new = c.put_made.new.session} c.put_made.ensures.rest) c.put_made.ensures.fault;
      opened = rest-opened {new = c.put_made.new.session} c.put_made.ensures.rest;
    }

pub returns-in_default : goal.returns-in_default
returns-in_default g c =
    steady g.C.Store g.X.Meaning g.X.Key.ByteString.bytes g.X.Value.ByteString.bytes g.X.Digest.Digest.bytes c.args.session.now _ _ _ _
    (none_open g.C.Store g.X.Meaning g.X.Key.ByteString.bytes g.X.Value.ByteString.bytes g.X.Digest.Digest.bytes c.args.session.now (λ s list. merkleize_in g.X.Meaning.scheme g.P.Policy.rules s c.args.number c.args.policy.now (option_map g.X.Value.ByteString.bytes c.args.metadata.now) list (slot_at s.table c.args.number)) c.in_default.is c.no_database.ensures)

pub returns-in_default-take_writing : goal.returns-in_default-take_writing
returns-in_default-take_writing g c =
    let meta = option_map g.X.Value.ByteString.bytes c.args.metadata.now in
    steady g.C.Store g.X.Meaning g.X.Key.ByteString.bytes g.X.Value.ByteString.bytes g.X.Digest.Digest.bytes c.args.session.now _ _ _ _
    (none_named g.C.Store g.X.Meaning g.X.Key.ByteString.bytes g.X.Value.ByteString.bytes g.X.Digest.Digest.bytes c.args.session.now (λ s list. merkleize_in g.X.Meaning.scheme g.P.Policy.rules s c.args.number c.args.policy.now meta list) c.args.number c.in-Database.is c.in_default-take_writing.ensures.table c.no_such_handle.ensures
    (λ s list slot. not_writing g.C.Store g.X.Meaning (merkleize_in g.X.Meaning.scheme g.P.Policy.rules s c.args.number c.args.policy.now meta list) refl (λ chain tip evicted. refl) (λ chain above ws staged. refl) s.had _ _ slot c.in_default-take_writing.ensures.value))
