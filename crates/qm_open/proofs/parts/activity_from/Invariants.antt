use Rattle.std.proofs.Common.{◌≡◌, ◌+◌, ◌++◌, false, take, replicate}
use Rattle.qm_bits.specs.Bitmaps.{all_bits, bit_count}
use Rattle.qm_open.proofs.parts.activity_from.Given as goal

-- the bits so far
abbrev pub invariant-loop-at : goal.invariant-loop-at
invariant-loop-at g l = record {
  pruned : l.activity.pruned ≡ l.chunks;
  bits : all_bits g.N.Chunks.LEN l.activity ≡ replicate l.floor false ++ take l.at l.behind;
  count : bit_count g.N.Chunks.LEN l.activity ≡ l.floor + l.at;
}
