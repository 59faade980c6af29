use Rattle.std.proofs.Common.{◌≡◌, length, map, drop, option_map}
use Rattle.qm_machine.specs.Grammar.{resolution_of}
use Rattle.qm_lines.specs.Parsed.{byte_slot, lent, with_slots}
use Rattle.qm_lines.proofs.parse.staged.slots.Given as goal

abbrev pub invariant-loop-word : goal.invariant-loop-word
invariant-loop-word l = record {
  one_each : length l.slots.items ≡ l.word-index;
  so_far : option_map (with_slots (map byte_slot l.slots.items)) (resolution_of (drop l.word-index (lent l.words))) ≡ resolution_of (lent l.words);
}
