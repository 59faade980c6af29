use Rattle.std.proofs.Common.{◌+◌, map, take, drop}
use Rattle.std.specs.Int.NonZero.{non_zero_u64_get}
use Rattle.qm_model.specs.Refusals.{proof_count, proof_refusal}
use Rattle.qm_machine.specs.Lines as lines
use Rattle.qm_machine.specs.Machine.{prove, unless}
use Rattle.qm_base.specs.Listed.{listed_view}
use Rattle.qm_lines.specs.declared.reply.Reply.TheVariants as replies
use Rattle.qm_proofs.specs.Proofs.{proof_view}
use Rattle.qm_engine.proofs.Moves.{stayed_ok, stayed_err}
use Rattle.qm_engine.proofs.ProofCommands.{prove_ok, prove_err}
use Rattle.qm_engine.proofs.ReadStores.{none_open}
use Rattle.qm_engine.proofs.turns.proofs.prove.Goals as goal

pub returns-in-Ok : goal.returns-in-Ok
returns-in-Ok g c =
    stayed_ok g.C.Store g.X.Meaning g.X.Key.ByteString.bytes g.X.Value.ByteString.bytes g.X.Digest.Digest.bytes c.args.session.now c.in-Database.is c.prove.ensures.reads (λ s. prove g.X.Meaning.scheme s c.args.size c.args.start (non_zero_u64_get c.args.max)) (replies.Proof c.in-Ok.proof.leaves c.in-Ok.proof.inactive_peaks c.in-Ok.proof.digests c.in-Ok.operations)
    (λ s held _. prove_ok g.C.Store g.X.Meaning g.X.Key.ByteString.bytes g.X.Value.ByteString.bytes g.X.Digest.Digest.bytes c.in-Database.x c.prove.new.self c.args.session.now.table.items c.args.session.now.opened c.args.size c.args.start (non_zero_u64_get c.args.max)
    (proof_view g.X.Digest.Digest.bytes c.in-Ok.proof) (map (listed_view g.X.Key.ByteString.bytes g.X.Value.ByteString.bytes) c.in-Ok.operations.items) s held
    (c.prove.ensures.reads.same, c.prove.ensures.reads.store, c.prove.ensures.reads.numbered) c.in-Ok.ensures.offered c.in-Ok.ensures.proof c.in-Ok.ensures.ops)

pub returns-in-Err : goal.returns-in-Err
returns-in-Err g c =
    stayed_err g.C.Store g.X.Meaning g.X.Key.ByteString.bytes g.X.Value.ByteString.bytes g.X.Digest.Digest.bytes c.args.session.now c.in-Database.is c.prove.ensures.reads (λ s. prove g.X.Meaning.scheme s c.args.size c.args.start (non_zero_u64_get c.args.max)) c.in-Err.error c.in-Err.is c.turn_of.ensures
    (λ s held. prove_err g.C.Store g.X.Meaning g.X.Key.ByteString.bytes g.X.Value.ByteString.bytes g.X.Digest.Digest.bytes c.in-Database.x c.prove.new.self c.args.session.now.table.items c.args.session.now.opened c.args.size c.args.start (non_zero_u64_get c.args.max) c.in-Err.error s held
    (c.prove.ensures.reads.same, c.prove.ensures.reads.store, c.prove.ensures.reads.numbered) c.in-Err.ensures.refused)

pub returns-in_default : goal.returns-in_default
returns-in_default g c =
    none_open g.C.Store g.X.Meaning g.X.Key.ByteString.bytes g.X.Value.ByteString.bytes g.X.Digest.Digest.bytes c.args.session.now (λ s list. let n = proof_count c.args.size c.args.start (non_zero_u64_get c.args.max) in
    unless s (proof_refusal s.log.start list c.args.size c.args.start) (lines.Proved (g.X.Meaning.scheme.proof (take c.args.size list) c.args.start (c.args.start + n)) (take n (drop c.args.start list)))) c.in_default.is c.no_database.ensures
