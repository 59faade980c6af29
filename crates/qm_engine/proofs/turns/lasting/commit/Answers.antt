use Rattle.qm_model.specs.Schemes.{chunks_of}
use Rattle.qm_model.specs.StoreModel.{settled, IsImage, ReadsAs}
use Rattle.qm_engine.proofs.LastingCommands.{not_open-left, settled_turn, settled_left, settled_handles, same_handles, commit-settles, commit-left}
use Rattle.qm_engine.proofs.turns.lasting.commit.Goals as goal

pub returns-in-Store-clause-left : goal.returns-in-Store-clause-left
returns-in-Store-clause-left g c = λ table opened s k steady apart.
    rw c.without_database.ensures.given (not_open-left g.C.Store g.X.Meaning g.X.Key.ByteString.bytes g.X.Value.ByteString.bytes g.X.Digest.Digest.bytes c.in-Store.store table opened s _ (rw c.in-Store.is at k))

pub returns-in-Store-clause-handles : goal.returns-in-Store-clause-handles
returns-in-Store-clause-handles g c = rw (c.in-Store.is, c.without_database.ensures.given, c.without_database.ensures.turn) (same_handles (chunks_of g.X.Meaning.scheme) g.C.Store c.in-Store.store _)

pub returns-in-Database-clause-machine : goal.returns-in-Database-clause-machine
returns-in-Database-clause-machine g c = λ table opened s k.
    rw (c.settled.ensures.given, c.settled.ensures.turn) (settled_turn g.C.Store g.X.Meaning g.X.Key.ByteString.bytes g.X.Value.ByteString.bytes g.X.Digest.Digest.bytes c.in-Database.x (λ list. settled) (λ list t. ReadsAs t.stable (IsImage t)) c.commit.result table opened s (rw c.in-Database.is at k) c.commit.ensures (commit-settles g.C.Store g.X.Meaning g.X.Key.ByteString.bytes g.X.Value.ByteString.bytes g.X.Digest.Digest.bytes c.in-Database.x table opened s (rw c.in-Database.is at k) g.met.X.Common.bare g.met.X.Common.bounds) g.met.X.Common.bare)

pub returns-in-Database-clause-left : goal.returns-in-Database-clause-left
returns-in-Database-clause-left g c = λ table opened s k steady apart.
    rw c.settled.ensures.given (settled_left g.C.Store g.X.Meaning g.X.Key.ByteString.bytes g.X.Value.ByteString.bytes g.X.Digest.Digest.bytes c.in-Database.x (λ list. settled) (λ list t. ReadsAs t.stable (IsImage t)) c.commit.result table opened s (rw c.in-Database.is at k) c.commit.ensures (commit-settles g.C.Store g.X.Meaning g.X.Key.ByteString.bytes g.X.Value.ByteString.bytes g.X.Digest.Digest.bytes c.in-Database.x table opened s (rw c.in-Database.is at k) g.met.X.Common.bare g.met.X.Common.bounds) g.met.X.Common.bare
    (commit-left g.C.Store g.X.Meaning g.X.Key.ByteString.bytes g.X.Value.ByteString.bytes g.X.Digest.Digest.bytes c.in-Database.x table opened s (rw c.in-Database.is at k) g.met.X.Common.bare g.met.X.Common.bounds steady))

pub returns-in-Database-clause-handles : goal.returns-in-Database-clause-handles
returns-in-Database-clause-handles g c = rw (c.in-Database.is, c.settled.ensures.given, c.settled.ensures.turn) (settled_handles g.C.Store g.X.Meaning g.X.Key.ByteString.bytes g.X.Value.ByteString.bytes g.X.Digest.Digest.bytes c.in-Database.x (λ list. settled) (λ list t. ReadsAs t.stable (IsImage t)) c.commit.result c.commit.ensures)
