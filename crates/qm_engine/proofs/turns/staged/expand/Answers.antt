use Rattle.std.proofs.Common.{map, option_map, sym, ◌∙◌, refl}
use Rattle.std.proofs.lemmas.List.{length-map}
use Rattle.qm_model.specs.Writes.{read_through}
use Rattle.qm_machine.specs.Machine.{expand, expand_in, slot_at}
use Rattle.qm_lines.specs.declared.reply.Reply.TheVariants.{Expanded}
use Rattle.qm_engine.specs.declared.table.Slot.TheVariants.{Staged}
use Rattle.qm_engine.proofs.Moves.{moved_ok, moved_err, none_named, not_staged}
use Rattle.qm_engine.proofs.ReadCommands.{map-through}
use Rattle.qm_engine.proofs.ReadStores.{none_open}
use Rattle.qm_engine.proofs.StagedCommands.{expand_ok, expand_err, expanded_is}
use Rattle.qm_engine.proofs.turns.staged.expand.Goals as goal

pub returns-in-Ok : goal.returns-in-Ok
returns-in-Ok g c =
    let keys = map g.X.Key.ByteString.bytes c.args.keys.now in
    let range = c.in-Ok.ensures.range in
    moved_ok g.C.Store g.X.Meaning g.X.Key.ByteString.bytes g.X.Value.ByteString.bytes g.X.Digest.Digest.bytes c.args.session.now c.in-Database.is c.expand.ensures.reads (λ s. expand g.X.Meaning.scheme s c.args.number keys) c.args.number (Staged c.in-Ok.batch) c.put_slot.ensures c.in-Some.ensures.table (Expanded c.in-Ok.range.start c.in-Ok.range.end c.in-Ok.values)
    (λ s held. expand_ok g.C.Store g.X.Meaning g.X.Key.ByteString.bytes g.X.Value.ByteString.bytes g.X.Digest.Digest.bytes c.in-Database.x c.expand.new.self c.args.session.now.table.items c.args.session.now.opened c.args.number keys
    c.in-Some.batch c.in-Ok.batch (Expanded c.in-Ok.range.start c.in-Ok.range.end c.in-Ok.values) (map (option_map g.X.Value.ByteString.bytes) c.in-Ok.values.items) s held (c.expand.ensures.reads.same, c.expand.ensures.reads.store, c.expand.ensures.reads.numbered)
    (expanded_is (map (option_map g.X.Value.ByteString.bytes) c.in-Ok.values.items) range.0 range.1 (length-map c.args.keys.now g.X.Key.ByteString.bytes))
    c.in-Ok.ensures.readable
    (λ list chain above ws staged stands is known. let facts = c.in-Ok.ensures.values list chain above ws staged stands is known in (facts.0 ∙ map-through g.X.Key.ByteString.bytes (read_through chain.base ws) c.args.keys.now, facts.1))
    (sym c.in-Some.ensures.value))

pub returns-in-Err : goal.returns-in-Err
returns-in-Err g c =
    let keys = map g.X.Key.ByteString.bytes c.args.keys.now in
    moved_err g.C.Store g.X.Meaning g.X.Key.ByteString.bytes g.X.Value.ByteString.bytes g.X.Digest.Digest.bytes c.args.session.now c.in-Database.is c.expand.ensures.reads (λ s. expand g.X.Meaning.scheme s c.args.number keys) c.args.number c.in-Some.ensures.table c.in-Err.error c.in-Err.is c.turn_of.ensures
    (λ s held. expand_err g.C.Store g.X.Meaning g.X.Key.ByteString.bytes g.X.Value.ByteString.bytes g.X.Digest.Digest.bytes c.in-Database.x c.expand.new.self c.args.session.now.table.items c.args.session.now.opened c.args.number keys
    c.in-Some.batch c.in-Err.error s held (c.expand.ensures.reads.same, c.expand.ensures.reads.store, c.expand.ensures.reads.numbered) c.in-Err.ensures.failure (sym c.in-Some.ensures.value))

pub returns-in_default : goal.returns-in_default
returns-in_default g c =
    none_open g.C.Store g.X.Meaning g.X.Key.ByteString.bytes g.X.Value.ByteString.bytes g.X.Digest.Digest.bytes c.args.session.now (λ s list. expand_in g.X.Meaning.scheme s c.args.number (map g.X.Key.ByteString.bytes c.args.keys.now) list (slot_at s.table c.args.number)) c.in_default.is c.no_database.ensures

pub returns-in_default-take_staged : goal.returns-in_default-take_staged
returns-in_default-take_staged g c =
    let keys = map g.X.Key.ByteString.bytes c.args.keys.now in
    none_named g.C.Store g.X.Meaning g.X.Key.ByteString.bytes g.X.Value.ByteString.bytes g.X.Digest.Digest.bytes c.args.session.now (λ s list. expand_in g.X.Meaning.scheme s c.args.number keys list) c.args.number c.in-Database.is c.in_default-take_staged.ensures.table c.no_such_handle.ensures
    (λ s list slot. not_staged g.C.Store g.X.Meaning (expand_in g.X.Meaning.scheme s c.args.number keys list) refl (λ chain tip evicted. refl) (λ chain above ws. refl) s.had _ _ slot c.in_default-take_staged.ensures.value)
