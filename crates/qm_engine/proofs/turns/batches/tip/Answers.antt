use Rattle.std.specs.Prelude.{[]}
use Rattle.qm_model.specs.Batches.{begun_on}
use Rattle.qm_machine.specs.Machine.{start_tip, started, merkleized}
use Rattle.qm_engine.proofs.Moves.{no_room, none_begun}
use Rattle.qm_engine.proofs.turns.batches.tip.Goals as goal

pub returns-in-Err : goal.returns-in-Err
returns-in-Err g c = no_room g.C.Store g.X.Meaning g.X.Key.ByteString.bytes g.X.Value.ByteString.bytes g.X.Digest.Digest.bytes c.args.session.now start_tip

pub returns-in_default : goal.returns-in_default
returns-in_default g c = none_begun g.C.Store g.X.Meaning g.X.Key.ByteString.bytes g.X.Value.ByteString.bytes g.X.Digest.Digest.bytes c.args.session.now (λ s list. started s (merkleized (begun_on s.opened list) list [])) c.in_default.is c.no_database.ensures
