use Rattle.std.proofs.Common.{refl}
use Rattle.qm_engine.proofs.Handling.{performs-reading}
use Rattle.qm_engine.proofs.turns.staged_turn.Goals as goal

pub returns-in-Stage : goal.returns-in-Stage
returns-in-Stage g c = rw c.in-Stage.is (performs-reading (λ rest. refl) (λ s k sound more rest told choices. rw c.deref.ensures.value at (c.stage.ensures.machine s k)) c.stage.ensures.store c.stage.ensures.uses c.stage.ensures.opened)

pub returns-in-Expand : goal.returns-in-Expand
returns-in-Expand g c = rw c.in-Expand.is (performs-reading (λ rest. refl) (λ s k sound more rest told choices. rw c.deref-in-Expand.ensures.value at (c.expand.ensures.machine s k)) c.expand.ensures.store c.expand.ensures.uses c.expand.ensures.opened)

pub returns-in-Resolve : goal.returns-in-Resolve
returns-in-Resolve g c = rw c.in-Resolve.is (performs-reading (λ rest. refl) c.resolve.ensures.machine c.resolve.ensures.store c.resolve.ensures.uses c.resolve.ensures.opened)
