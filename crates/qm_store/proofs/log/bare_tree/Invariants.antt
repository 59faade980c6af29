use Rattle.std.proofs.Common.{◌≡◌, ◌+◌, ◌*◌, ◌++◌, length, map}
use Rattle.std.specs.List.{concat}
use Rattle.std.specs.Vec.{vec_capacity}
use Rattle.qm_store.proofs.log.bare_tree.Given as goal

-- the digests so far and the rest are the bytes
abbrev pub invariant-loop : goal.invariant-loop
invariant-loop g l = record {
  made : length l.pins.items ≡ l.counter;
  bytes : concat (map g.D.Digest.bytes l.pins.items) ++ l.rest ≡ l.bytes;
  left : l.counter * g.D.Digest.SIZE + length l.rest ≡ l.count * g.D.Digest.SIZE;
  room : vec_capacity l.pins ≡ l.count;
}
