use Rattle.std.proofs.Common.{refl}
use Rattle.qm_engine.proofs.Handling.{performs-reading}
use Rattle.qm_engine.proofs.turns.read_turn.Goals as goal

pub returns-in-Get : goal.returns-in-Get
returns-in-Get g c = rw c.in-Get.is (performs-reading (λ rest. refl) (λ s k sound more rest told choices. c.read_key.ensures.machine s k) c.read_key.ensures.store c.read_key.ensures.uses c.read_key.ensures.opened)

pub returns-in-Many : goal.returns-in-Many
returns-in-Many g c = rw c.in-Many.is (performs-reading (λ rest. refl) (λ s k sound more rest told choices. rw c.deref.ensures.value at (c.read.ensures.machine s k)) c.read.ensures.store c.read.ensures.uses c.read.ensures.opened)

pub returns-in-Next : goal.returns-in-Next
returns-in-Next g c = rw c.in-Next.is (performs-reading (λ rest. refl) (λ s k sound more rest told choices. c.neighbour.ensures.machine s k) c.neighbour.ensures.store c.neighbour.ensures.uses c.neighbour.ensures.opened)

pub returns-in-Prev : goal.returns-in-Prev
returns-in-Prev g c = rw c.in-Prev.is (performs-reading (λ rest. refl) (λ s k sound more rest told choices. c.neighbour-in-Prev.ensures.machine s k) c.neighbour-in-Prev.ensures.store c.neighbour-in-Prev.ensures.uses c.neighbour-in-Prev.ensures.opened)

pub returns-in-Span : goal.returns-in-Span
returns-in-Span g c = rw c.in-Span.is (performs-reading (λ rest. refl) (λ s k sound more rest told choices. c.ask.ensures.machine s k) c.ask.ensures.store c.ask.ensures.uses c.ask.ensures.opened)

pub returns-in-All : goal.returns-in-All
returns-in-All g c = rw c.in-All.is (performs-reading (λ rest. refl) (λ s k sound more rest told choices. c.ask-in-All.ensures.machine s k) c.ask-in-All.ensures.store c.ask-in-All.ensures.uses c.ask-in-All.ensures.opened)

pub returns-in-Range : goal.returns-in-Range
returns-in-Range g c = rw c.in-Range.is (performs-reading (λ rest. refl) (λ s k sound more rest told choices. c.ask-in-Range.ensures.machine s k) c.ask-in-Range.ensures.store c.ask-in-Range.ensures.uses c.ask-in-Range.ensures.opened)

pub returns-in-Keys : goal.returns-in-Keys
returns-in-Keys g c = rw c.in-Keys.is (performs-reading (λ rest. refl) (λ s k sound more rest told choices. c.ask-in-Keys.ensures.machine s k) c.ask-in-Keys.ensures.store c.ask-in-Keys.ensures.uses c.ask-in-Keys.ensures.opened)
