use Rattle.std.proofs.Common.{◌≡◌, map, length, Some}
use Rattle.std.specs.Vec.{vec_capacity}
use Rattle.qm_pinned.specs.Metadata.{numbered}
use Rattle.qm_pinned.proofs.pinned.read_pins.Given as goal

-- the pins so far are read
abbrev pub invariant-loop-number : goal.invariant-loop-number
invariant-loop-number g l = record {
  pins : numbered l.entries l.number ≡ map (λ pin. Some pin) (map g.D.Digest.bytes l.pins.items);
  count : length l.pins.items ≡ l.number;
  room : vec_capacity l.pins ≡ l.count;
}
