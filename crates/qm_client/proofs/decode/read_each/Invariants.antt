use Rattle.std.proofs.Common.{◌≡◌, map, ◌-◌}
use Rattle.qm_client.specs.ProofForms as model
use Rattle.qm_client.proofs.Reading.{behind}
use Rattle.qm_client.proofs.decode.read_each.Given as goal

-- the digests so far, and those that are read of what is left, are those of all bytes
abbrev pub invariant-loop : goal.invariant-loop
invariant-loop g l =
    behind (map g.D.Digest.bytes l.digests.items) (model.read_each g.D.Digest.SIZE (l.count - l.counter) l.rest)
    ≡ model.read_each g.D.Digest.SIZE l.count l.bytes
