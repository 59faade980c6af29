use Rattle.std.proofs.Common.{◌≡◌, map, take}
use Rattle.std.specs.List.{concat}
use Rattle.qm_store.proofs.log.joined.Given as goal

-- the bytes of the digests so far
abbrev pub invariant-loop-digest : goal.invariant-loop-digest
invariant-loop-digest g l = l.bytes.items ≡ concat (map g.D.Digest.bytes (take l.digest-index l.digests))
