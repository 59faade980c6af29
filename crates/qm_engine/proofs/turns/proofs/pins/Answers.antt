use Rattle.std.proofs.Common.{map}
use Rattle.qm_engine.proofs.ProofCommands.{pins_ok, pins_err}
use Rattle.qm_model.specs.Held.{pins_lacked}
use Rattle.qm_machine.specs.Lines.{Pinned}
use Rattle.qm_machine.specs.Machine.{unless}
use Rattle.qm_engine.proofs.Moves.{none_told}
use Rattle.qm_engine.proofs.turns.proofs.pins.Goals as goal

pub returns-in-Err-clause-machine : goal.returns-in-Err-clause-machine
returns-in-Err-clause-machine g c = λ s k.
    let held = rw c.in-Database.is at k in
    rw (c.turn_of.ensures, c.in-Database.is) (pins_err g.C.Store g.X.Meaning g.X.Key.ByteString.bytes g.X.Value.ByteString.bytes g.X.Digest.Digest.bytes c.in-Database.x c.args.session.now.table.items c.args.session.now.opened c.args.at c.in-Err.error s held c.in-Err.ensures.refused)

pub returns-in-Ok-clause-machine : goal.returns-in-Ok-clause-machine
returns-in-Ok-clause-machine g c = λ s k apart.
    let held = rw c.in-Database.is at k in
    rw c.in-Database.is (pins_ok g.C.Store g.X.Meaning g.X.Key.ByteString.bytes g.X.Value.ByteString.bytes g.X.Digest.Digest.bytes c.in-Database.x c.args.session.now.table.items c.args.session.now.opened c.args.at (map g.X.Digest.Digest.bytes c.in-Ok.digests.items) s held c.in-Ok.ensures.offered c.in-Ok.ensures.digests)

pub returns-in_default : goal.returns-in_default
returns-in_default g c = none_told g.C.Store g.X.Meaning g.X.Key.ByteString.bytes g.X.Value.ByteString.bytes g.X.Digest.Digest.bytes c.args.session.now (λ s list. unless s (pins_lacked g.X.Meaning.scheme.shape s.log.start list c.args.at) (Pinned (g.X.Meaning.scheme.pins list c.args.at))) c.in_default.is c.no_database.ensures
