use Rattle.std.proofs.Common.{◌≡◌, ◌++◌, map, drop}
use Rattle.std.specs.List.{concat}
use Rattle.qm_client.proofs.encode.add_each.Given as goal

-- what is added so far, and the digests that are left
abbrev pub invariant-loop-digest : goal.invariant-loop-digest
invariant-loop-digest g l =
    l.out.items ++ concat (map g.D.Digest.bytes (drop l.digest-index l.digests)) ≡ l.fn.out.items ++ concat (map g.D.Digest.bytes l.digests)
