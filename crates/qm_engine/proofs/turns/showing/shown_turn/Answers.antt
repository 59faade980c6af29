use Rattle.std.proofs.Common.{sym, ◌∙◌}
use Rattle.qm_lines.specs.Views.{question_view}
use Rattle.qm_engine.proofs.ShowingCommands.{not_offered, none_shown, told_shown}
use Rattle.qm_engine.proofs.turns.showing.shown_turn.Goals as goal

pub returns-then-not-is_offered : goal.returns-then-not-is_offered
returns-then-not-is_offered g c =
    not_offered g.C.Store g.X.Meaning g.X.Key.ByteString.bytes g.X.Value.ByteString.bytes g.X.Digest.Digest.bytes g.met.X.Showing.checked c.args.session.now (question_view g.X.Key.ByteString.bytes c.args.question.now)
    g.met.X.Showing.absences (sym c.is_offered.ensures ∙ c.if-not-is_offered.true)

pub returns-in_default : goal.returns-in_default
returns-in_default g c =
    none_shown g.C.Store g.X.Meaning g.X.Key.ByteString.bytes g.X.Value.ByteString.bytes g.X.Digest.Digest.bytes g.met.X.Showing.checked c.args.session.now (question_view g.X.Key.ByteString.bytes c.args.question.now)
    g.met.X.Showing.absences (sym c.is_offered.ensures ∙ c.if-not-is_offered.false) c.in_default.is c.no_database.ensures

pub returns : goal.returns
returns g c =
    told_shown g.C.Store g.X.Meaning g.X.Key.ByteString.bytes g.X.Value.ByteString.bytes g.X.Digest.Digest.bytes g.met.X.Showing.checked c.args.session.now (question_view g.X.Key.ByteString.bytes c.args.question.now)
    c.in-Database.is c.shown.result c.shown.ensures.reads (c.shown.ensures.machine (sym c.is_offered.ensures ∙ c.if-not-is_offered.false))
