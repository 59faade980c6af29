use Rattle.std.proofs.Common.{option_map, sym, ◌∙◌}
use Rattle.std.proofs.lemmas.List.{length-map}
use Rattle.qm_base.specs.Slots.{slot_view, slot_views, write_views}
use Rattle.qm_machine.specs.Machine.{resolve, resolve_in, slot_at}
use Rattle.qm_lines.specs.declared.reply.Reply.TheVariants.{Refused}
use Rattle.qm_engine.specs.declared.session.Turn.TheVariants.{Reply}
use Rattle.qm_engine.specs.Session.{Follows}
use Rattle.qm_engine.proofs.Moves.{steady, held-at, left_moved, made_keeps, made_uses, rest-held, rest-opened}
use Rattle.qm_engine.proofs.StagedCommands.{resolve_made, resolve_refused}
use Rattle.qm_engine.proofs.ReadStores.{none_open}
use Rattle.qm_engine.proofs.turns.staged.resolve.Goals as goal

pub returns-in-Err : goal.returns-in-Err
returns-in-Err g c =
    steady g.C.Store g.X.Meaning g.X.Key.ByteString.bytes g.X.Value.ByteString.bytes g.X.Digest.Digest.bytes c.args.session.now _ _ _ _
    (left_moved g.C.Store g.X.Meaning g.X.Key.ByteString.bytes g.X.Value.ByteString.bytes g.X.Digest.Digest.bytes c.args.session.now (λ s. resolve g.X.Meaning.scheme g.P.Policy.rules s c.args.number c.args.policy.now (option_map g.X.Value.ByteString.bytes c.args.metadata.now) (slot_views g.X.Value.ByteString.bytes c.args.resolution.now.slots.items) (write_views g.X.Key.ByteString.bytes g.X.Value.ByteString.bytes c.args.resolution.now.others.items)) c.in-Database.is c.in-Err.ensures.left (Reply (Refused c.in-Err.refused)) (λ e. absurd (cc e))
    (λ s held. resolve_refused g.C.Store g.X.Meaning g.X.Key.ByteString.bytes g.X.Value.ByteString.bytes g.X.Digest.Digest.bytes g.P.Policy.rules c.args.policy.now (option_map g.X.Value.ByteString.bytes c.args.metadata.now) (slot_views g.X.Value.ByteString.bytes c.args.resolution.now.slots.items) (write_views g.X.Key.ByteString.bytes g.X.Value.ByteString.bytes c.args.resolution.now.others.items)
    c.in-Database.x c.args.session.now.table.items c.args.session.now.opened c.args.number c.len.result c.in-Err.refused s held
    (c.len.ensures ∙ c.args.resolution.now.slots.ok.0 ∙ sym (length-map c.args.resolution.now.slots.items (slot_view g.X.Value.ByteString.bytes))) c.in-Err.ensures.refused))

pub returns-in-Ok : goal.returns-in-Ok
returns-in-Ok g c =
    let taken = c.in-Ok.ensures.batch in
    let reads = c.resolve_batch-made.ensures.reads in
    record {
      machine = λ s k sound more rest told choices.
          resolve_made g.C.Store g.X.Meaning g.X.Key.ByteString.bytes g.X.Value.ByteString.bytes g.X.Digest.Digest.bytes g.P.Policy.rules c.args.policy.now (option_map g.X.Value.ByteString.bytes c.args.metadata.now) (slot_views g.X.Value.ByteString.bytes c.args.resolution.now.slots.items) (write_views g.X.Key.ByteString.bytes g.X.Value.ByteString.bytes c.args.resolution.now.others.items)
          (Follows g.C.Store g.X.Meaning g.X.Key.ByteString.bytes g.X.Value.ByteString.bytes g.X.Digest.Digest.bytes c.put_made.new.session c.put_made.result)
          c.in-Database.x c.resolve_batch-made.new.database c.args.session.now.table.items c.args.session.now.opened c.args.number c.in-Ok.batch c.resolve_batch-made.result s (held-at g.C.Store g.X.Meaning g.X.Key.ByteString.bytes g.X.Value.ByteString.bytes g.X.Digest.Digest.bytes c.args.session.now c.in-Database.is s k)
          (reads.same, reads.store, reads.numbered)
          (length-map c.args.resolution.now.slots.items (slot_view g.X.Value.ByteString.bytes) ∙ sym (c.len.ensures ∙ c.args.resolution.now.slots.ok.0) ∙ taken.1)
          c.resolve_batch-made.ensures.made
          taken.0
          (λ list chain tip evicted used in_had among making. c.put_made.ensures.machine s list chain tip evicted (rw taken.2 used) in_had among making);
      store = made_keeps g.C.Store g.X.Meaning g.X.Key.ByteString.bytes g.X.Value.ByteString.bytes g.X.Digest.Digest.bytes c.args.session.now c.in-Database.is reads {held = c.put_made.new.session.held} (rest-held {new = c.put_made.new.session} c.put_made.ensures.rest);
      uses = made_uses g.C.Store g.X.Meaning g.X.Key.ByteString.bytes g.X.Value.ByteString.bytes g.X.Digest.Digest.bytes c.args.session.now c.in-Database.is reads {held = c.put_made.new.session.held} (rest-held {new = c.put_made.new.session} c.put_made.ensures.rest) c.put_made.ensures.fault;
      opened = rest-opened {new = c.put_made.new.session} c.put_made.ensures.rest;
    }

pub returns-in_default : goal.returns-in_default
returns-in_default g c =
    steady g.C.Store g.X.Meaning g.X.Key.ByteString.bytes g.X.Value.ByteString.bytes g.X.Digest.Digest.bytes c.args.session.now _ _ _ _
    (none_open g.C.Store g.X.Meaning g.X.Key.ByteString.bytes g.X.Value.ByteString.bytes g.X.Digest.Digest.bytes c.args.session.now (λ s list. resolve_in g.X.Meaning.scheme g.P.Policy.rules s c.args.number c.args.policy.now (option_map g.X.Value.ByteString.bytes c.args.metadata.now) (slot_views g.X.Value.ByteString.bytes c.args.resolution.now.slots.items) (write_views g.X.Key.ByteString.bytes g.X.Value.ByteString.bytes c.args.resolution.now.others.items) list (slot_at s.table c.args.number)) c.in_default.is c.no_database.ensures)
