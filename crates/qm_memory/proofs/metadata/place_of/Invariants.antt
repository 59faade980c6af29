use Rattle.std.proofs.Common.{◌≡◌, ◌+◌, drop}
use Rattle.qm_memory.specs.Changes.{place_of}
use Rattle.qm_memory.proofs.metadata.place_of.Given as goal

-- none of the first ones has the name
abbrev pub invariant-loop-place : goal.invariant-loop-place
invariant-loop-place l = place_of l.name l.metadata ≡ l.place + place_of l.name (drop l.place l.metadata)
