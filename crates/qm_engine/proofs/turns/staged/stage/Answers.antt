use Rattle.std.proofs.Common.{map, option_map, refl, sym, ◌∙◌}
use Rattle.qm_model.specs.Writes.{read_through}
use Rattle.qm_machine.specs.Machine.{stage, stage_in, slot_at}
use Rattle.qm_lines.specs.declared.reply.Reply.TheVariants.{Read}
use Rattle.qm_engine.specs.declared.table.Slot.TheVariants.{Staged}
use Rattle.qm_engine.proofs.Moves.{moved_ok, moved_err, none_named, not_writing}
use Rattle.qm_engine.proofs.ReadCommands.{map-through}
use Rattle.qm_engine.proofs.ReadStores.{none_open}
use Rattle.qm_engine.proofs.StagedCommands.{stage_ok, stage_err}
use Rattle.qm_engine.proofs.turns.staged.stage.Goals as goal

pub returns-in-Ok : goal.returns-in-Ok
returns-in-Ok g c =
    let keys = map g.X.Key.ByteString.bytes c.args.keys.now in
    moved_ok g.C.Store g.X.Meaning g.X.Key.ByteString.bytes g.X.Value.ByteString.bytes g.X.Digest.Digest.bytes c.args.session.now c.in-Database.is c.stage.ensures.reads (λ s. stage g.X.Meaning.scheme s c.args.number keys) c.args.number (Staged c.in-Ok.batch) c.put_slot.ensures c.in-Some.ensures.table (Read c.in-Ok.values)
    (λ s held. stage_ok g.C.Store g.X.Meaning g.X.Key.ByteString.bytes g.X.Value.ByteString.bytes g.X.Digest.Digest.bytes c.in-Database.x c.stage.new.self c.args.session.now.table.items c.args.session.now.opened c.args.number keys
    c.in-Some.batch c.in-Ok.batch (Read c.in-Ok.values) (map (option_map g.X.Value.ByteString.bytes) c.in-Ok.values.items) s held (c.stage.ensures.reads.same, c.stage.ensures.reads.store, c.stage.ensures.reads.numbered) refl
    c.in-Ok.ensures.readable
    (λ list chain above ws stands is known. let facts = c.in-Ok.ensures.values list chain above ws stands is known in (facts.0 ∙ map-through g.X.Key.ByteString.bytes (read_through chain.base ws) c.args.keys.now, facts.1))
    (sym c.in-Some.ensures.value))

pub returns-in-Err : goal.returns-in-Err
returns-in-Err g c =
    let keys = map g.X.Key.ByteString.bytes c.args.keys.now in
    moved_err g.C.Store g.X.Meaning g.X.Key.ByteString.bytes g.X.Value.ByteString.bytes g.X.Digest.Digest.bytes c.args.session.now c.in-Database.is c.stage.ensures.reads (λ s. stage g.X.Meaning.scheme s c.args.number keys) c.args.number c.in-Some.ensures.table c.in-Err.error c.in-Err.is c.turn_of.ensures
    (λ s held. stage_err g.C.Store g.X.Meaning g.X.Key.ByteString.bytes g.X.Value.ByteString.bytes g.X.Digest.Digest.bytes c.in-Database.x c.stage.new.self c.args.session.now.table.items c.args.session.now.opened c.args.number keys
    c.in-Some.batch c.in-Err.error s held (c.stage.ensures.reads.same, c.stage.ensures.reads.store, c.stage.ensures.reads.numbered) c.in-Err.ensures.failure (sym c.in-Some.ensures.value))

pub returns-in_default : goal.returns-in_default
returns-in_default g c =
    none_open g.C.Store g.X.Meaning g.X.Key.ByteString.bytes g.X.Value.ByteString.bytes g.X.Digest.Digest.bytes c.args.session.now (λ s list. stage_in g.X.Meaning.scheme s c.args.number (map g.X.Key.ByteString.bytes c.args.keys.now) list (slot_at s.table c.args.number)) c.in_default.is c.no_database.ensures

pub returns-in_default-take_writing : goal.returns-in_default-take_writing
returns-in_default-take_writing g c =
    let keys = map g.X.Key.ByteString.bytes c.args.keys.now in
    none_named g.C.Store g.X.Meaning g.X.Key.ByteString.bytes g.X.Value.ByteString.bytes g.X.Digest.Digest.bytes c.args.session.now (λ s list. stage_in g.X.Meaning.scheme s c.args.number keys list) c.args.number c.in-Database.is c.in_default-take_writing.ensures.table c.no_such_handle.ensures
    (λ s list slot. not_writing g.C.Store g.X.Meaning (stage_in g.X.Meaning.scheme s c.args.number keys list) refl (λ chain tip evicted. refl) (λ chain above ws staged. refl) s.had _ _ slot c.in_default-take_writing.ensures.value)
