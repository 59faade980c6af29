use Rattle.qm_model.specs.Schemes.{chunks_of}
use Rattle.qm_model.specs.Taken.{synced, LeavesSync}
use Rattle.qm_engine.proofs.LastingCommands.{not_open-left, settled_turn, settled_left, settled_handles, same_handles, sync-settles, sync-left}
use Rattle.qm_engine.proofs.turns.lasting.sync.Goals as goal

pub returns-in-Store-clause-left : goal.returns-in-Store-clause-left
returns-in-Store-clause-left g c = λ table opened s k steady apart.
    rw c.without_database.ensures.given (not_open-left g.C.Store g.X.Meaning g.X.Key.ByteString.bytes g.X.Value.ByteString.bytes g.X.Digest.Digest.bytes c.in-Store.store table opened s _ (rw c.in-Store.is at k))

pub returns-in-Store-clause-handles : goal.returns-in-Store-clause-handles
returns-in-Store-clause-handles g c = rw (c.in-Store.is, c.without_database.ensures.given, c.without_database.ensures.turn) (same_handles (chunks_of g.X.Meaning.scheme) g.C.Store c.in-Store.store _)

pub returns-in-Database-clause-machine : goal.returns-in-Database-clause-machine
returns-in-Database-clause-machine g c = λ table opened s k steady more rest told choices.
    rw (c.settled.ensures.given, c.settled.ensures.turn) (settled_turn g.C.Store g.X.Meaning g.X.Key.ByteString.bytes g.X.Value.ByteString.bytes g.X.Digest.Digest.bytes c.in-Database.x (synced g.X.Meaning.scheme) (LeavesSync g.X.Meaning.scheme) c.sync.result table opened s (rw c.in-Database.is at k) c.sync.ensures (sync-settles g.C.Store g.X.Meaning g.X.Key.ByteString.bytes g.X.Value.ByteString.bytes g.X.Digest.Digest.bytes c.in-Database.x table opened s (rw c.in-Database.is at k) g.met.X.Common.bare g.met.X.Common.bounds steady) g.met.X.Common.bare)

pub returns-in-Database-clause-left : goal.returns-in-Database-clause-left
returns-in-Database-clause-left g c = λ table opened s k steady apart.
    rw c.settled.ensures.given (settled_left g.C.Store g.X.Meaning g.X.Key.ByteString.bytes g.X.Value.ByteString.bytes g.X.Digest.Digest.bytes c.in-Database.x (synced g.X.Meaning.scheme) (LeavesSync g.X.Meaning.scheme) c.sync.result table opened s (rw c.in-Database.is at k) c.sync.ensures (sync-settles g.C.Store g.X.Meaning g.X.Key.ByteString.bytes g.X.Value.ByteString.bytes g.X.Digest.Digest.bytes c.in-Database.x table opened s (rw c.in-Database.is at k) g.met.X.Common.bare g.met.X.Common.bounds steady) g.met.X.Common.bare
    (sync-left g.C.Store g.X.Meaning g.X.Key.ByteString.bytes g.X.Value.ByteString.bytes g.X.Digest.Digest.bytes c.in-Database.x table opened s (rw c.in-Database.is at k) g.met.X.Common.bare g.met.X.Common.bounds steady))

pub returns-in-Database-clause-handles : goal.returns-in-Database-clause-handles
returns-in-Database-clause-handles g c = rw (c.in-Database.is, c.settled.ensures.given, c.settled.ensures.turn) (settled_handles g.C.Store g.X.Meaning g.X.Key.ByteString.bytes g.X.Value.ByteString.bytes g.X.Digest.Digest.bytes c.in-Database.x (synced g.X.Meaning.scheme) (LeavesSync g.X.Meaning.scheme) c.sync.result c.sync.ensures)
