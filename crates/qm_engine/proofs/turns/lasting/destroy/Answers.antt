use Rattle.qm_model.specs.Schemes.{chunks_of}
use Rattle.qm_engine.proofs.LastingCommands.{not_open-left, destroyed_turn, destroyed_left, undestroyed_left, destroyed_handles, undestroyed_handles, same_handles}
use Rattle.qm_engine.proofs.turns.lasting.destroy.Goals as goal

pub returns-in-Store-clause-left : goal.returns-in-Store-clause-left
returns-in-Store-clause-left g c = λ table opened s k steady apart.
    rw c.without_database.ensures.given (not_open-left g.C.Store g.X.Meaning g.X.Key.ByteString.bytes g.X.Value.ByteString.bytes g.X.Digest.Digest.bytes c.in-Store.store table opened s _ (rw c.in-Store.is at k))

pub returns-in-Store-clause-handles : goal.returns-in-Store-clause-handles
returns-in-Store-clause-handles g c = rw (c.in-Store.is, c.without_database.ensures.given, c.without_database.ensures.turn) (same_handles (chunks_of g.X.Meaning.scheme) g.C.Store c.in-Store.store _)

pub returns-in-Ok-clause-machine : goal.returns-in-Ok-clause-machine
returns-in-Ok-clause-machine g c = λ table opened s k.
    destroyed_turn g.C.Store g.X.Meaning g.X.Key.ByteString.bytes g.X.Value.ByteString.bytes g.X.Digest.Digest.bytes c.in-Database.x table opened s (rw c.in-Database.is at k) g.met.X.Common.bare c.in-Ok.store c.in-Ok.ensures.start c.in-Ok.ensures.told

pub returns-in-Ok-clause-left : goal.returns-in-Ok-clause-left
returns-in-Ok-clause-left g c = λ table opened s k steady apart.
    destroyed_left g.C.Store g.X.Meaning g.X.Key.ByteString.bytes g.X.Value.ByteString.bytes g.X.Digest.Digest.bytes c.in-Database.x table opened s (rw c.in-Database.is at k) g.met.X.Common.bare c.in-Ok.store c.in-Ok.ensures.told

pub returns-in-Ok-clause-handles : goal.returns-in-Ok-clause-handles
returns-in-Ok-clause-handles g c = rw c.in-Database.is (destroyed_handles g.C.Store g.X.Meaning g.X.Key.ByteString.bytes g.X.Value.ByteString.bytes g.X.Digest.Digest.bytes c.in-Database.x c.in-Ok.store tt c.in-Ok.ensures.told c.in-Ok.ensures.later)

pub returns-in-Err-clause-left : goal.returns-in-Err-clause-left
returns-in-Err-clause-left g c = λ table opened s k steady apart.
    undestroyed_left g.C.Store g.X.Meaning g.X.Key.ByteString.bytes g.X.Value.ByteString.bytes g.X.Digest.Digest.bytes c.in-Database.x table opened s (rw c.in-Database.is at k) g.met.X.Common.bare steady c.in-Err.field-0 c.in-Err.ensures.failed

pub returns-in-Err-clause-handles : goal.returns-in-Err-clause-handles
returns-in-Err-clause-handles g c = rw (c.in-Database.is, c.turn_of.ensures) (undestroyed_handles g.C.Store g.X.Meaning g.X.Key.ByteString.bytes g.X.Value.ByteString.bytes g.X.Digest.Digest.bytes c.in-Database.x c.in-Err.field-0 tt c.in-Err.ensures.failed)
