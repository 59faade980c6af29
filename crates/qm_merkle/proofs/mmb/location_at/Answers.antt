use Rattle.std.proofs.Common.{◌≤◌, arith}
use Rattle.qm_merkle.proofs.MmbCalls.{size_within}
use Rattle.qm_merkle.proofs.mmb.location_at.Goals as goal

pub returns : goal.returns
returns c = λ leaf is.
    let up : leaf ≤ c.leaves.location = size_within leaf c.leaves.location (omega (arith, is)) in
    omega (arith, c.leaves.invariant leaf is)
