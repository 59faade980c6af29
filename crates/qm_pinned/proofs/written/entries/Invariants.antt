use Rattle.std.proofs.Common.{◌≡◌, map, take}
use Rattle.qm_model.specs.Opening.{entries_of}
use Rattle.qm_pinned.specs.Metadata.{counting}
use Rattle.qm_pinned.proofs.written.entries.Given as goal

-- the entries of the pins so far are written
abbrev pub invariant-loop-number : goal.invariant-loop-number
invariant-loop-number g l = l.written.items ≡ entries_of (counting l.count (map g.D.Digest.bytes (take l.number l.pins)))
