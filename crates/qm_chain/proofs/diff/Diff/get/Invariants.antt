use Rattle.std.proofs.Common.{◌≡◌, length}
use Rattle.qm_chain.specs.Ascending.{IsAscending}
use Rattle.qm_chain.specs.Entries.{keys_of, entry_of}
use Rattle.qm_chain.proofs.diff.Diff.get.Given as goal

abbrev pub invariant-loop-key : goal.invariant-loop-key
invariant-loop-key g l = record {
  ascending : IsAscending (keys_of g.K.ByteString.bytes l.rest);
  same : entry_of g.K.ByteString.bytes l.rest l.key ≡ entry_of g.K.ByteString.bytes l.self l.key;
}

abbrev pub decreases-loop-key : goal.decreases-loop-key
decreases-loop-key g l = length l.rest
