use Rattle.std.proofs.Common.{◌≡◌, take, vec_len}
use Rattle.std.specs.List.{sum_by}
use Rattle.qm_memory.proofs.items.byte_count.Given as goal

-- the bytes of the items so far
abbrev pub invariant-loop-item : goal.invariant-loop-item
invariant-loop-item l = l.count ≡ sum_by (λ v. vec_len v) (take l.item-index l.items)
