use Rattle.std.proofs.Common.{refl}
use Rattle.qm_engine.proofs.Handling.{performs-beside}
use Rattle.qm_engine.proofs.turns.batch_turn.Goals as goal

pub returns-in-Batch : goal.returns-in-Batch
returns-in-Batch g c = rw c.in-Batch.is (performs-beside (λ rest. refl) c.batch.ensures.machine c.batch.ensures.rest c.batch.ensures.never)

pub returns-in-Child : goal.returns-in-Child
returns-in-Child g c = rw c.in-Child.is (performs-beside (λ rest. refl) c.child.ensures.machine c.child.ensures.rest c.child.ensures.never)

pub returns-in-Tip : goal.returns-in-Tip
returns-in-Tip g c = rw c.in-Tip.is (performs-beside (λ rest. refl) c.tip.ensures.machine c.tip.ensures.rest c.tip.ensures.never)

pub returns-in-Put : goal.returns-in-Put
returns-in-Put g c = rw c.in-Put.is (performs-beside (λ rest. refl) c.put.ensures.machine c.put.ensures.rest c.put.ensures.never)

pub returns-in-Del : goal.returns-in-Del
returns-in-Del g c = rw c.in-Del.is (performs-beside (λ rest. refl) c.put-in-Del.ensures.machine c.put-in-Del.ensures.rest c.put-in-Del.ensures.never)
