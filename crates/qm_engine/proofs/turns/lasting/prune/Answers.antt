use Rattle.qm_model.specs.Schemes.{chunks_of}
use Rattle.qm_engine.proofs.LastingCommands.{not_open-left, pruned_turn, pruned_left, pruned_handles, same_handles}
use Rattle.qm_engine.proofs.turns.lasting.prune.Goals as goal

pub returns-in-Store-clause-left : goal.returns-in-Store-clause-left
returns-in-Store-clause-left g c = λ table opened s k steady apart.
    rw c.without_database.ensures.given (not_open-left g.C.Store g.X.Meaning g.X.Key.ByteString.bytes g.X.Value.ByteString.bytes g.X.Digest.Digest.bytes c.in-Store.store table opened s _ (rw c.in-Store.is at k))

pub returns-in-Store-clause-handles : goal.returns-in-Store-clause-handles
returns-in-Store-clause-handles g c = rw (c.in-Store.is, c.without_database.ensures.given, c.without_database.ensures.turn) (same_handles (chunks_of g.X.Meaning.scheme) g.C.Store c.in-Store.store _)

pub returns-in-Database-clause-machine : goal.returns-in-Database-clause-machine
returns-in-Database-clause-machine g c = λ table opened s k steady more rest told choices.
    rw (c.settled.ensures.given, c.settled.ensures.turn) (pruned_turn g.C.Store g.X.Meaning g.X.Key.ByteString.bytes g.X.Value.ByteString.bytes g.X.Digest.Digest.bytes c.in-Database.x c.prune.result table opened s (rw c.in-Database.is at k) steady c.args.to g.met.X.Common.bare g.met.X.Common.bounds c.prune.ensures.pruned c.prune.ensures.refused)

pub returns-in-Database-clause-left : goal.returns-in-Database-clause-left
returns-in-Database-clause-left g c = λ table opened s k steady apart.
    rw c.settled.ensures.given (pruned_left g.C.Store g.X.Meaning g.X.Key.ByteString.bytes g.X.Value.ByteString.bytes g.X.Digest.Digest.bytes c.in-Database.x c.prune.result table opened s (rw c.in-Database.is at k) steady c.args.to g.met.X.Common.bare g.met.X.Common.bounds c.prune.ensures.pruned c.prune.ensures.refused)

pub returns-in-Database-clause-handles : goal.returns-in-Database-clause-handles
returns-in-Database-clause-handles g c = rw (c.in-Database.is, c.settled.ensures.given, c.settled.ensures.turn) (pruned_handles g.C.Store g.X.Meaning g.X.Key.ByteString.bytes g.X.Value.ByteString.bytes g.X.Digest.Digest.bytes c.in-Database.x c.args.to c.prune.result c.prune.ensures.pruned c.prune.ensures.refused)
