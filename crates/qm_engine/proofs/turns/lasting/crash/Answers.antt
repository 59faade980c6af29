use Rattle.std.proofs.Common.{Err, ap}
use Rattle.qm_model.proofs.Stores.{leaves-now}
use Rattle.qm_engine.proofs.LastingCommands.{crashed_turn, crashed_left, uncrashed_turn, uncrashed_left, crashed_handles, uncrashed_handles}
use Rattle.qm_engine.proofs.turns.lasting.crash.Goals as goal

pub returns-in-Ok-clause-machine : goal.returns-in-Ok-clause-machine
returns-in-Ok-clause-machine g c = λ table opened s k steady more rest told choices.
    crashed_turn g.C.Store g.X.Meaning g.X.Key.ByteString.bytes g.X.Value.ByteString.bytes g.X.Digest.Digest.bytes c.args.held table opened s k steady c.restart.new.self g.met.X.Common.bare more rest
    (rw c.into_store-store.ensures at c.in-Ok.ensures.ok) (rw c.into_store-store.ensures at c.in-Ok.ensures.same_start) told choices

pub returns-in-Ok-clause-left : goal.returns-in-Ok-clause-left
returns-in-Ok-clause-left g c = λ table opened s k steady apart.
    crashed_left g.C.Store g.X.Meaning g.X.Key.ByteString.bytes g.X.Value.ByteString.bytes g.X.Digest.Digest.bytes c.args.held table opened s k steady c.restart.new.self g.met.X.Common.bare (rw c.into_store-store.ensures at c.in-Ok.ensures.ok)

pub returns-in-Ok-clause-handles : goal.returns-in-Ok-clause-handles
returns-in-Ok-clause-handles g c =
    crashed_handles g.C.Store g.X.Meaning g.X.Key.ByteString.bytes g.X.Value.ByteString.bytes g.X.Digest.Digest.bytes c.args.keep _ c.restart.new.self (rw c.into_store-store.ensures at c.in-Ok.ensures.ok) (rw c.into_store-store.ensures at c.in-Ok.ensures.cause.later)

pub returns-in-Err-clause-machine : goal.returns-in-Err-clause-machine
returns-in-Err-clause-machine g c = λ table opened s k steady more rest told choices.
    rw c.turn_of.ensures (uncrashed_turn g.C.Store g.X.Meaning g.X.Key.ByteString.bytes g.X.Value.ByteString.bytes g.X.Digest.Digest.bytes _ table opened s c.in-Err.error _ c.from.ensures)

pub returns-in-Err-clause-left : goal.returns-in-Err-clause-left
returns-in-Err-clause-left g c = λ table opened s k steady apart.
    uncrashed_left g.C.Store g.X.Meaning g.X.Key.ByteString.bytes g.X.Value.ByteString.bytes g.X.Digest.Digest.bytes c.args.held table opened s k steady c.restart.new.self g.met.X.Common.bare (leaves-now _ _ _ _ (rw c.into_store-store.ensures at c.in-Err.ensures.err))

pub returns-in-Err-clause-handles : goal.returns-in-Err-clause-handles
returns-in-Err-clause-handles g c =
    let rose = rw c.into_store-store.ensures at c.in-Err.ensures.cause.failed in
    rw c.turn_of.ensures (uncrashed_handles g.C.Store g.X.Meaning g.X.Key.ByteString.bytes g.X.Value.ByteString.bytes g.X.Digest.Digest.bytes c.args.keep _ c.restart.new.self c.in-Err.error _ c.from.ensures (leaves-now _ _ _ _ (rw c.into_store-store.ensures at c.in-Err.ensures.err)) (rw c.into_store-store.ensures at c.in-Err.ensures.cause.later)
    (λ same. rose (ap Err same)))
