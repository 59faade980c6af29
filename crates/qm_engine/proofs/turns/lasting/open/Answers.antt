use Rattle.qm_store.specs.Given.{store_given}
use Rattle.qm_engine.proofs.OpeningCommands.{opened_turn, opened_left, unopened_turn, unopened_left, opened_handles, unopened_handles}
use Rattle.qm_engine.proofs.turns.lasting.open.Goals as goal

pub returns-in-Ok-clause-machine : goal.returns-in-Ok-clause-machine
returns-in-Ok-clause-machine g c = λ table s k sound more rest told choices.
    opened_turn g.C.Store g.X.Meaning g.X.Key.ByteString.bytes g.X.Value.ByteString.bytes g.X.Digest.Digest.bytes c.args.held table c.args.opened.now s c.args.max_size k sound g.met.X.Common.bare c.in-Ok.x c.info-numbers.result.start c.info-numbers.result.size c.in-Ok.ensures.numbered
    (rw c.into_store-store.ensures at c.in-Ok.ensures.opened) (rw c.into_store-store.ensures at c.in-Ok.ensures.offered) (rw c.into_store-store.ensures at c.in-Ok.ensures.became)
    (rw c.into_store-store.ensures at c.in-Ok.ensures.start) c.info-numbers.ensures.start (λ list stands. (c.info-numbers.ensures.list list stands).0)

pub returns-in-Ok-clause-left : goal.returns-in-Ok-clause-left
returns-in-Ok-clause-left g c = λ table opened s k sound apart.
    opened_left g.C.Store g.X.Meaning g.X.Key.ByteString.bytes g.X.Value.ByteString.bytes g.X.Digest.Digest.bytes c.args.held table opened s c.args.max_size k sound g.met.X.Common.bare (g.X.Meaning.inside c.in-Ok.x) (rw c.into_store-store.ensures at c.in-Ok.ensures.offered) (rw c.into_store-store.ensures at c.in-Ok.ensures.became)

pub returns-in-Err-clause-machine : goal.returns-in-Err-clause-machine
returns-in-Err-clause-machine g c = λ table s k sound more rest told choices.
    rw c.turn_of.ensures (unopened_turn g.C.Store g.X.Meaning g.X.Key.ByteString.bytes g.X.Value.ByteString.bytes g.X.Digest.Digest.bytes c.args.held table c.args.opened.now s c.args.max_size k sound g.met.X.Common.bare c.in-Err.field-0.given c.in-Err.field-0.error
    (rw c.into_store-store.ensures at c.in-Err.ensures.refused) (rw c.into_store-store.ensures at c.in-Err.ensures.unopened) c.in-Err.ensures.back)

pub returns-in-Err-clause-left : goal.returns-in-Err-clause-left
returns-in-Err-clause-left g c = λ table opened s k sound apart.
    unopened_left g.C.Store g.X.Meaning g.X.Key.ByteString.bytes g.X.Value.ByteString.bytes g.X.Digest.Digest.bytes c.args.held table opened s c.args.max_size k sound g.met.X.Common.bare (store_given g.X.Meaning.inside c.in-Err.field-0.given) (rw c.into_store-store.ensures at c.in-Err.ensures.unopened) (rw c.into_store-store.ensures at c.in-Err.ensures.left)

pub returns-in-Ok-clause-handles : goal.returns-in-Ok-clause-handles
returns-in-Ok-clause-handles g c =
    opened_handles g.C.Store g.X.Meaning.scheme c.args.max_size _ _ _ (rw c.into_store-store.ensures at c.in-Ok.ensures.became) (rw c.into_store-store.ensures at c.in-Ok.ensures.later)

pub returns-in-Err-clause-handles : goal.returns-in-Err-clause-handles
returns-in-Err-clause-handles g c =
    rw c.turn_of.ensures (unopened_handles g.C.Store g.X.Meaning.scheme c.args.max_size _ _ c.in-Err.field-0.error (rw c.into_store-store.ensures at c.in-Err.ensures.left) (rw c.into_store-store.ensures at c.in-Err.ensures.later) (rw c.into_store-store.ensures at c.in-Err.ensures.cause))
