use Rattle.std.proofs.Common.{refl}
use Rattle.qm_engine.proofs.Handling.{performs-reading, performs-telling}
use Rattle.qm_engine.proofs.turns.info_turn.Goals as goal

pub returns-in-Ops : goal.returns-in-Ops
returns-in-Ops g c = rw c.in-Ops.is (performs-telling (λ rest. refl) c.ops.ensures.machine c.ops.ensures.never)

pub returns-in-Evicted : goal.returns-in-Evicted
returns-in-Evicted g c = rw c.in-Evicted.is (performs-telling (λ rest. refl) c.evicted.ensures.machine c.evicted.ensures.never)

pub returns-in-Info : goal.returns-in-Info
returns-in-Info g c = rw c.in-Info.is (performs-telling (λ rest. refl) c.info.ensures.machine c.info.ensures.never)

pub returns-in-BatchInfo : goal.returns-in-BatchInfo
returns-in-BatchInfo g c = rw c.in-BatchInfo.is (performs-telling (λ rest. refl) c.batch_info.ensures.machine c.batch_info.ensures.never)

pub returns-in-Root : goal.returns-in-Root
returns-in-Root g c = rw c.in-Root.is (performs-telling (λ rest. refl) c.root.ensures.machine c.root.ensures.never)

pub returns-in-BatchRoot : goal.returns-in-BatchRoot
returns-in-BatchRoot g c = rw c.in-BatchRoot.is (performs-telling (λ rest. refl) c.batch_root.ensures.machine c.batch_root.ensures.never)

pub returns-in-BatchProof : goal.returns-in-BatchProof
returns-in-BatchProof g c = rw c.in-BatchProof.is (performs-telling (λ rest. refl) c.batch_proof.ensures.machine c.batch_proof.ensures.never)

pub returns-in-Meta : goal.returns-in-Meta
returns-in-Meta g c = rw c.in-Meta.is (performs-telling (λ rest. refl) c.meta.ensures.machine c.meta.ensures.never)

pub returns-in-Prove : goal.returns-in-Prove
returns-in-Prove g c = rw c.in-Prove.is (performs-reading (λ rest. refl) (λ s k sound more rest told choices. c.prove.ensures.machine s k) c.prove.ensures.store c.prove.ensures.uses c.prove.ensures.opened)

pub returns-in-Pins : goal.returns-in-Pins
returns-in-Pins g c = rw c.in-Pins.is (performs-telling (λ rest. refl) c.pins.ensures.machine c.pins.ensures.never)

pub returns-in-Current : goal.returns-in-Current
returns-in-Current g c = rw c.in-Current.is (performs-reading (λ rest. refl) (λ s k sound more rest told choices. c.asked_turn.ensures.machine s k) c.asked_turn.ensures.store c.asked_turn.ensures.uses c.asked_turn.ensures.opened)
