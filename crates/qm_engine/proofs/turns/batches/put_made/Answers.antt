use Rattle.qm_engine.proofs.BatchCommands.{making_ok, making_err}
use Rattle.qm_engine.proofs.turns.batches.put_made.Goals as goal

pub returns-in-Ok-clause-machine : goal.returns-in-Ok-clause-machine
returns-in-Ok-clause-machine g c = λ s list chain tip evicted k in_had among making.
    rw c.put_slot.ensures (making_ok g.C.Store g.X.Meaning g.X.Key.ByteString.bytes g.X.Value.ByteString.bytes g.X.Digest.Digest.bytes c.args.session.now.held c.args.session.now.table.items c.args.session.now.opened c.args.number s list chain tip evicted k in_had among
    c.in-Ok.batch c.sizes-sizes.result.base c.sizes-sizes.result.tip c.sizes-sizes.result.floor (rw c.in-Ok.is at making)
    (λ chain tip is. let sizes = c.sizes-sizes.ensures chain tip is in (sizes.0, sizes.1, sizes.2)))

pub returns-in-Err-clause-machine : goal.returns-in-Err-clause-machine
returns-in-Err-clause-machine g c = λ s list chain tip evicted k in_had among making.
    rw c.turn_of.ensures (making_err g.C.Store g.X.Meaning g.X.Key.ByteString.bytes g.X.Value.ByteString.bytes g.X.Digest.Digest.bytes c.args.session.now.held c.args.session.now.table.items c.args.session.now.opened c.args.number s list chain tip evicted k in_had among
    c.in-Err.error (rw c.in-Err.is at making))
