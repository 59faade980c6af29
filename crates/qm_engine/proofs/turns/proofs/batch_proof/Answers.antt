use Rattle.std.proofs.Common.{map, sym, refl, ◌∙◌}
use Rattle.qm_lines.specs.declared.reply.Reply.TheVariants.{BatchProof}
use Rattle.qm_proofs.specs.Proofs.{proof_view}
use Rattle.qm_engine.proofs.ProofCommands.{batch_proof_ok, batch_proof_err}
use Rattle.qm_machine.specs.Machine.{with_database, proof_in, slot_at}
use Rattle.qm_engine.proofs.Moves.{none_told, none_named_told, not_made, no-grafts, offered_told, any_alone}
use Rattle.qm_engine.proofs.turns.proofs.batch_proof.Goals as goal

pub returns-in-Ok-clause-machine : goal.returns-in-Ok-clause-machine
returns-in-Ok-clause-machine g c = λ s k.
    rw c.in-Database.is (batch_proof_ok g.C.Store g.X.Meaning g.X.Key.ByteString.bytes g.X.Value.ByteString.bytes g.X.Digest.Digest.bytes (no-grafts g.X.Meaning.scheme.grafts (sym c.is_current.ensures ∙ c.if-is_current.false)) (BatchProof c.in-Ok.proof.leaves c.in-Ok.proof.inactive_peaks c.in-Ok.proof.digests c.in-Ok.pins) (proof_view g.X.Digest.Digest.bytes c.in-Ok.proof) (map g.X.Digest.Digest.bytes c.in-Ok.pins.items) c.in-Database.x c.args.session.now.table.items c.args.session.now.opened c.args.number c.in-Some.batch.now s (rw c.in-Database.is at k)
    refl c.in-Ok.ensures.readable c.in-Ok.ensures.proof (sym c.in-Some.ensures))

pub returns-in-Err-clause-machine : goal.returns-in-Err-clause-machine
returns-in-Err-clause-machine g c = λ s k.
    let held = rw c.in-Database.is at k in
    rw (c.turn_of.ensures, c.in-Database.is) (batch_proof_err g.C.Store g.X.Meaning g.X.Key.ByteString.bytes g.X.Value.ByteString.bytes g.X.Digest.Digest.bytes (no-grafts g.X.Meaning.scheme.grafts (sym c.is_current.ensures ∙ c.if-is_current.false)) c.in-Err.error c.in-Database.x c.args.session.now.table.items c.args.session.now.opened c.args.number c.in-Some.batch.now s held
    c.in-Err.ensures.failure (sym c.in-Some.ensures))

pub returns-in_default : goal.returns-in_default
returns-in_default g c =
    offered_told g.C.Store g.X.Meaning g.X.Key.ByteString.bytes g.X.Value.ByteString.bytes g.X.Digest.Digest.bytes c.args.session.now (no-grafts g.X.Meaning.scheme.grafts (sym c.is_current.ensures ∙ c.if-is_current.false)) _
    (none_told g.C.Store g.X.Meaning g.X.Key.ByteString.bytes g.X.Value.ByteString.bytes g.X.Digest.Digest.bytes c.args.session.now (λ s list. proof_in g.X.Meaning.scheme s c.args.number list (slot_at s.table c.args.number)) c.in_default.is c.no_database.ensures)

pub returns-in_default-merkleized_at : goal.returns-in_default-merkleized_at
returns-in_default-merkleized_at g c =
    offered_told g.C.Store g.X.Meaning g.X.Key.ByteString.bytes g.X.Value.ByteString.bytes g.X.Digest.Digest.bytes c.args.session.now (no-grafts g.X.Meaning.scheme.grafts (sym c.is_current.ensures ∙ c.if-is_current.false)) _
    (none_named_told g.C.Store g.X.Meaning g.X.Key.ByteString.bytes g.X.Value.ByteString.bytes g.X.Digest.Digest.bytes c.args.session.now (λ s list. proof_in g.X.Meaning.scheme s c.args.number list) c.args.number c.in-Database.is c.no_such_handle.ensures
    (λ s list slot. not_made g.C.Store g.X.Meaning (proof_in g.X.Meaning.scheme s c.args.number list) refl (λ chain above ws. refl) (λ chain above ws keys. refl) s.had _ _ slot c.in_default-merkleized_at.ensures))

pub returns-then-is_current : goal.returns-then-is_current
returns-then-is_current g c =
    any_alone g.C.Store g.X.Meaning g.X.Key.ByteString.bytes g.X.Value.ByteString.bytes g.X.Digest.Digest.bytes c.args.session.now (sym c.is_current.ensures ∙ c.if-is_current.true)
    (λ s. with_database s s.database (λ list. proof_in g.X.Meaning.scheme s c.args.number list (slot_at s.table c.args.number)))
