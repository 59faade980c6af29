use Rattle.std.proofs.Common.{ap}
use Rattle.qm_machine.specs.Lines as lines
use Rattle.qm_lines.specs.declared.reply.Reply.TheVariants as replies
use Rattle.qm_engine.specs.Ordered.{answer_to}
use Rattle.qm_engine.proofs.ReadStores.{replied_ok, replied_err}
use Rattle.qm_engine.proofs.turns.ordered.reply_to.Goals as goal

pub returns-in-Err : goal.returns-in-Err
returns-in-Err g c = replied_err g.C.Store g.X.Meaning g.X.Key.ByteString.bytes g.X.Value.ByteString.bytes g.X.Digest.Digest.bytes c.next.ensures.reads (answer_to g.X.Key.ByteString.bytes c.args.question) c.in-Err.error c.in-Err.is c.turn_of.ensures c.in-Err.ensures.refused

pub returns-in-Err-prev : goal.returns-in-Err-prev
returns-in-Err-prev g c = replied_err g.C.Store g.X.Meaning g.X.Key.ByteString.bytes g.X.Value.ByteString.bytes g.X.Digest.Digest.bytes c.prev.ensures.reads (answer_to g.X.Key.ByteString.bytes c.args.question) c.in-Err-prev.error c.in-Err-prev.is c.turn_of-in-Err-prev.ensures c.in-Err-prev.ensures.refused

pub returns-in-Ok-span : goal.returns-in-Ok-span
returns-in-Ok-span g c =
    rw c.in-Span.is (replied_ok g.C.Store g.X.Meaning g.X.Key.ByteString.bytes g.X.Value.ByteString.bytes g.X.Digest.Digest.bytes c.span.ensures.reads _ (replies.Span c.in-Ok-span.span) (λ ordered list stands. ap lines.Spanning (c.in-Ok-span.ensures.span ordered list stands)))

pub returns-in-Err-span : goal.returns-in-Err-span
returns-in-Err-span g c = replied_err g.C.Store g.X.Meaning g.X.Key.ByteString.bytes g.X.Value.ByteString.bytes g.X.Digest.Digest.bytes c.span.ensures.reads (answer_to g.X.Key.ByteString.bytes c.args.question) c.in-Err-span.error c.in-Err-span.is c.turn_of-in-Err-span.ensures c.in-Err-span.ensures.refused

pub returns-in-Ok-all : goal.returns-in-Ok-all
returns-in-Ok-all g c =
    rw c.in-All.is (replied_ok g.C.Store g.X.Meaning g.X.Key.ByteString.bytes g.X.Value.ByteString.bytes g.X.Digest.Digest.bytes c.all.ensures.reads _ (replies.All c.in-Ok-all.whole) (λ ordered list stands. ap lines.Whole (c.in-Ok-all.ensures.whole ordered list stands)))

pub returns-in-Err-all : goal.returns-in-Err-all
returns-in-Err-all g c = replied_err g.C.Store g.X.Meaning g.X.Key.ByteString.bytes g.X.Value.ByteString.bytes g.X.Digest.Digest.bytes c.all.ensures.reads (answer_to g.X.Key.ByteString.bytes c.args.question) c.in-Err-all.error c.in-Err-all.is c.turn_of-in-Err-all.ensures c.in-Err-all.ensures.refused

pub returns-in-Ok-range : goal.returns-in-Ok-range
returns-in-Ok-range g c =
    rw c.in-Range.is (replied_ok g.C.Store g.X.Meaning g.X.Key.ByteString.bytes g.X.Value.ByteString.bytes g.X.Digest.Digest.bytes c.range.ensures.reads _ (replies.Range c.in-Ok-range.pairs) (λ ordered list stands. ap lines.Ranged (c.in-Ok-range.ensures.pairs ordered list stands)))

pub returns-in-Err-range : goal.returns-in-Err-range
returns-in-Err-range g c = replied_err g.C.Store g.X.Meaning g.X.Key.ByteString.bytes g.X.Value.ByteString.bytes g.X.Digest.Digest.bytes c.range.ensures.reads (answer_to g.X.Key.ByteString.bytes c.args.question) c.in-Err-range.error c.in-Err-range.is c.turn_of-in-Err-range.ensures c.in-Err-range.ensures.refused

pub returns-in-Ok-keys : goal.returns-in-Ok-keys
returns-in-Ok-keys g c =
    rw c.in-Keys.is (replied_ok g.C.Store g.X.Meaning g.X.Key.ByteString.bytes g.X.Value.ByteString.bytes g.X.Digest.Digest.bytes c.keys.ensures.reads _ (replies.Keys c.in-Ok-keys.keys) (λ ordered list stands. ap lines.Keyed (c.in-Ok-keys.ensures.keys ordered list stands)))

pub returns-in-Err-keys : goal.returns-in-Err-keys
returns-in-Err-keys g c = replied_err g.C.Store g.X.Meaning g.X.Key.ByteString.bytes g.X.Value.ByteString.bytes g.X.Digest.Digest.bytes c.keys.ensures.reads (answer_to g.X.Key.ByteString.bytes c.args.question) c.in-Err-keys.error c.in-Err-keys.is c.turn_of-in-Err-keys.ensures c.in-Err-keys.ensures.refused
