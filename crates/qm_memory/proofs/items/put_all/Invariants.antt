use Rattle.std.proofs.Common.{◌≡◌, ◌≤◌, ◌+◌, ◌-◌, ◌++◌, length, map, take, drop, vec_len, vec_capacity}
use Rattle.std.specs.List.{sum_by}
use Rattle.qm_memory.specs.Mem.{cut, AreEnds}
use Rattle.qm_memory.proofs.items.put_all.Given as goal

-- copies of the items so far stand after what was there, and there is room for the rest
abbrev pub invariant-loop-item : goal.invariant-loop-item
invariant-loop-item l = record {
  ends : AreEnds 0 l.ends.items (length l.bytes.items);
  items : cut 0 l.ends.items l.bytes.items ≡ cut 0 l.fn.ends.items l.fn.bytes.items ++ map (λ v. v.items) (take l.item-index l.added);
  places : vec_len l.ends + (length l.added - l.item-index) ≤ vec_capacity l.ends;
  room : vec_len l.bytes + sum_by (λ v. vec_len v) (drop l.item-index l.added) ≤ vec_capacity l.bytes;
}
