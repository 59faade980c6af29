use Rattle.std.proofs.Common.{◌≡◌, drop}
use Rattle.qm_model.specs.Opening.{entry_of, metadata_key}
use Rattle.qm_pinned.proofs.pinned.value_of.Given as goal

-- none of the entries so far has the key
abbrev pub invariant-loop-entry : goal.invariant-loop-entry
invariant-loop-entry l = record {
  key : l.key ≡ metadata_key l.prefix l.number;
  ahead : entry_of (drop l.entry-index l.entries) (metadata_key l.prefix l.number) ≡ entry_of l.entries (metadata_key l.prefix l.number);
}
