use Rattle.std.proofs.Common.{◌∙◌}
use Rattle.qm_engine.proofs.BatchCommands.{started_ok}
use Rattle.qm_engine.proofs.turns.batches.started.Goals as goal

pub returns-in-Ok-clause-machine : goal.returns-in-Ok-clause-machine
returns-in-Ok-clause-machine g c = λ s new k is.
    rw c.in-Ok.ensures.ok (started_ok g.C.Store g.X.Meaning g.X.Key.ByteString.bytes g.X.Value.ByteString.bytes g.X.Digest.Digest.bytes c.args.session.now.held c.args.session.now.table.items c.args.session.now.opened c.len-number.result c.args.slot new s k is (c.len-number.ensures ∙ c.args.session.now.table.ok.0))
