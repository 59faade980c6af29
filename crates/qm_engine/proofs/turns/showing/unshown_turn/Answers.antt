use Rattle.qm_lines.specs.Views.{question_view}
use Rattle.qm_engine.proofs.ShowingCommands.{not_asked}
use Rattle.qm_engine.proofs.turns.showing.unshown_turn.Goals as goal

pub returns : goal.returns
returns g c =
    not_asked g.C.Store g.X.Meaning g.X.Key.ByteString.bytes g.X.Value.ByteString.bytes g.X.Digest.Digest.bytes c.args._session.now (question_view g.X.Key.ByteString.bytes c.args.question.now) c.requires
