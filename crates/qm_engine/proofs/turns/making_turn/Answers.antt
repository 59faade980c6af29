use Rattle.std.proofs.Common.{refl}
use Rattle.qm_engine.proofs.Handling.{performs-reading}
use Rattle.qm_engine.proofs.turns.making_turn.Goals as goal

pub returns-in-Merkleize : goal.returns-in-Merkleize
returns-in-Merkleize g c = rw c.in-Merkleize.is (performs-reading (λ rest. refl) c.merkleize-turn.ensures.machine c.merkleize-turn.ensures.store c.merkleize-turn.ensures.uses c.merkleize-turn.ensures.opened)

pub returns-in-Apply : goal.returns-in-Apply
returns-in-Apply g c = rw c.in-Apply.is c.apply_turn.ensures
