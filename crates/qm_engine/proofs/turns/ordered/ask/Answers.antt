use Rattle.std.proofs.Common.{sym, ◌∙◌}
use Rattle.qm_machine.specs.Machine.{with_database}
use Rattle.qm_engine.specs.Ordered.{answer_to}
use Rattle.qm_engine.proofs.ReadStores.{not_offered, none_ordered, asked}
use Rattle.qm_engine.proofs.turns.ordered.ask.Goals as goal

pub returns-then-not-is_ordered : goal.returns-then-not-is_ordered
returns-then-not-is_ordered g c =
    not_offered g.C.Store g.X.Meaning g.X.Key.ByteString.bytes g.X.Value.ByteString.bytes g.X.Digest.Digest.bytes c.args.session.now (λ s. with_database s s.database (λ list. (answer_to g.X.Key.ByteString.bytes c.args.question list, s)))
    (sym c.is_ordered.ensures ∙ c.if-not-is_ordered.true)

pub returns-in_default : goal.returns-in_default
returns-in_default g c =
    none_ordered g.C.Store g.X.Meaning g.X.Key.ByteString.bytes g.X.Value.ByteString.bytes g.X.Digest.Digest.bytes c.args.session.now (λ s list. (answer_to g.X.Key.ByteString.bytes c.args.question list, s))
    (sym c.is_ordered.ensures ∙ c.if-not-is_ordered.false) c.in_default.is c.no_database.ensures

pub returns : goal.returns
returns g c =
    asked g.C.Store g.X.Meaning g.X.Key.ByteString.bytes g.X.Value.ByteString.bytes g.X.Digest.Digest.bytes c.args.session.now
    c.in-Database.is c.reply_to.result c.reply_to.ensures.reads (answer_to g.X.Key.ByteString.bytes c.args.question) (sym c.is_ordered.ensures ∙ c.if-not-is_ordered.false) c.reply_to.ensures.reply
