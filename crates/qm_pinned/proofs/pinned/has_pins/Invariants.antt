use Rattle.std.proofs.Common.{◌≡◌, false}
use Rattle.std.specs.Prelude.{is_none}
use Rattle.std.specs.List.{list_any}
use Rattle.qm_pinned.specs.Metadata.{numbered}
use Rattle.qm_pinned.proofs.pinned.has_pins.Given as goal

-- the pins so far are there
abbrev pub invariant-loop-number : goal.invariant-loop-number
invariant-loop-number l = list_any is_none (numbered l.entries l.number) ≡ false
