use Rattle.std.specs.Int.NonZero.{non_zero_u64_get}
use Rattle.qm_machine.specs.Lines as lines
use Rattle.qm_lines.specs.declared.reply.Refused.TheVariants as refused
use Rattle.qm_lines.specs.declared.reply.Reply.TheVariants as replies
use Rattle.qm_engine.specs.declared.session.Turn.TheVariants.{Reply}
use Rattle.qm_engine.proofs.ShowingCommands.{held_ok, held_err, absent_ok, absent_none, absent_err, chunks_ok, chunks_err, shown_ok, shown_err}
use Rattle.qm_engine.proofs.turns.showing.shown.Goals as goal

pub returns-in-Ok : goal.returns-in-Ok
returns-in-Ok g c =
    rw c.in-Held.is (shown_ok g.C.Store g.X.Meaning g.X.Key.ByteString.bytes g.X.Value.ByteString.bytes g.X.Digest.Digest.bytes c.held.ensures.reads (lines.Held (g.X.Key.ByteString.bytes c.in-Held.key)) (replies.Held c.in-Ok.location c.in-Ok.is_accepted)
    (λ offered s list is_open stands is_stored. held_ok g.C.Store g.X.Meaning g.X.Key.ByteString.bytes g.X.Value.ByteString.bytes g.X.Digest.Digest.bytes g.met.X.Showing.checked s list is_open (g.X.Key.ByteString.bytes c.in-Held.key) c.in-Ok.location c.in-Ok.is_accepted offered (c.in-Ok.ensures.shown list stands)))

pub returns-in-Err : goal.returns-in-Err
returns-in-Err g c =
    rw c.in-Held.is (shown_err g.C.Store g.X.Meaning g.X.Key.ByteString.bytes g.X.Value.ByteString.bytes g.X.Digest.Digest.bytes c.held.ensures.reads (lines.Held (g.X.Key.ByteString.bytes c.in-Held.key)) c.in-Err.error c.in-Err.is c.turn_of.ensures
    (λ offered s list is_open stands is_stored. held_err g.C.Store g.X.Meaning g.X.Key.ByteString.bytes g.X.Value.ByteString.bytes g.X.Digest.Digest.bytes g.met.X.Showing.checked s list is_open (g.X.Key.ByteString.bytes c.in-Held.key) c.in-Err.error offered (c.in-Err.ensures.refused list stands)))

pub returns-in-Some : goal.returns-in-Some
returns-in-Some g c =
    rw c.in-Absent.is (shown_ok g.C.Store g.X.Meaning g.X.Key.ByteString.bytes g.X.Value.ByteString.bytes g.X.Digest.Digest.bytes c.absent.ensures.reads (lines.Absent (g.X.Key.ByteString.bytes c.in-Absent.key)) (replies.Absent c.in-Some.location c.in-Some.is_accepted)
    (λ offered s list is_open stands is_stored. absent_ok g.C.Store g.X.Meaning g.X.Key.ByteString.bytes g.X.Value.ByteString.bytes g.X.Digest.Digest.bytes g.met.X.Showing.checked s list is_open (g.X.Key.ByteString.bytes c.in-Absent.key) c.in-Ok-absent.told c.in-Some.location c.in-Some.is_accepted c.in-Some.is offered g.met.X.Showing.absences (c.in-Ok-absent.ensures.shown list stands) (c.in-Ok-absent.ensures.absent list stands)))

pub returns-in-None : goal.returns-in-None
returns-in-None g c =
    rw c.in-Absent.is (shown_ok g.C.Store g.X.Meaning g.X.Key.ByteString.bytes g.X.Value.ByteString.bytes g.X.Digest.Digest.bytes c.absent.ensures.reads (lines.Absent (g.X.Key.ByteString.bytes c.in-Absent.key)) (replies.Refused refused.NotOffered)
    (λ offered s list is_open stands is_stored. absent_none g.C.Store g.X.Meaning g.X.Key.ByteString.bytes g.X.Value.ByteString.bytes g.X.Digest.Digest.bytes g.met.X.Showing.checked s list is_open (g.X.Key.ByteString.bytes c.in-Absent.key) c.in-Ok-absent.told c.in-None.is offered g.met.X.Showing.absences (c.in-Ok-absent.ensures.shown list stands) (c.in-Ok-absent.ensures.absent list stands) (Reply (replies.Refused refused.NotOffered))))

pub returns-in-Err-absent : goal.returns-in-Err-absent
returns-in-Err-absent g c =
    rw c.in-Absent.is (shown_err g.C.Store g.X.Meaning g.X.Key.ByteString.bytes g.X.Value.ByteString.bytes g.X.Digest.Digest.bytes c.absent.ensures.reads (lines.Absent (g.X.Key.ByteString.bytes c.in-Absent.key)) c.in-Err-absent.error c.in-Err-absent.is c.turn_of-in-Err-absent.ensures
    (λ offered s list is_open stands is_stored. absent_err g.C.Store g.X.Meaning g.X.Key.ByteString.bytes g.X.Value.ByteString.bytes g.X.Digest.Digest.bytes g.met.X.Showing.checked s list is_open (g.X.Key.ByteString.bytes c.in-Absent.key) c.in-Err-absent.error offered g.met.X.Showing.absences (c.in-Err-absent.ensures.refused list stands)))

pub returns-in-Ok-chunks : goal.returns-in-Ok-chunks
returns-in-Ok-chunks g c =
    rw c.in-Chunks.is (shown_ok g.C.Store g.X.Meaning g.X.Key.ByteString.bytes g.X.Value.ByteString.bytes g.X.Digest.Digest.bytes c.chunks.ensures.reads (lines.Chunks c.in-Chunks.start (non_zero_u64_get c.in-Chunks.max)) (replies.Chunks c.in-Ok-chunks.shown.operations c.in-Ok-chunks.shown.chunks c.in-Ok-chunks.shown.is_accepted)
    (λ offered s list is_open stands is_stored. chunks_ok g.C.Store g.X.Meaning g.X.Key.ByteString.bytes g.X.Value.ByteString.bytes g.X.Digest.Digest.bytes g.met.X.Showing.checked s list is_open g.met.X.Common.bare (g.X.Meaning.inside c.args.database.now) is_stored c.in-Chunks.start (non_zero_u64_get c.in-Chunks.max) c.in-Ok-chunks.shown.operations c.in-Ok-chunks.shown.chunks c.in-Ok-chunks.shown.is_accepted offered (c.in-Ok-chunks.ensures.offered list stands) (c.in-Ok-chunks.ensures.shown list stands)))

pub returns-in-Err-chunks : goal.returns-in-Err-chunks
returns-in-Err-chunks g c =
    rw c.in-Chunks.is (shown_err g.C.Store g.X.Meaning g.X.Key.ByteString.bytes g.X.Value.ByteString.bytes g.X.Digest.Digest.bytes c.chunks.ensures.reads (lines.Chunks c.in-Chunks.start (non_zero_u64_get c.in-Chunks.max)) c.in-Err-chunks.error c.in-Err-chunks.is c.turn_of-in-Err-chunks.ensures
    (λ offered s list is_open stands is_stored. chunks_err g.C.Store g.X.Meaning g.X.Key.ByteString.bytes g.X.Value.ByteString.bytes g.X.Digest.Digest.bytes g.met.X.Showing.checked s list is_open g.met.X.Common.bare (g.X.Meaning.inside c.args.database.now) is_stored c.in-Chunks.start (non_zero_u64_get c.in-Chunks.max) c.in-Err-chunks.error offered (c.in-Err-chunks.ensures.refused list stands)))
