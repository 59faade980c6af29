use Rattle.std.proofs.Common.{◌≡◌, ◌+◌, length}
use Rattle.std.specs.Iterator.Adapters.{zip_first, zip_second}
use Rattle.std.specs.Slice.Iter.{iter_rest}
use Rattle.qm_fill.specs.Summary.{both}
use Rattle.qm_fill.proofs.Tallied.{counts_beside}
use Rattle.qm_fill.proofs.tally.Tally.with.Given as goal

abbrev pub invariant-loop-command : goal.invariant-loop-command
invariant-loop-command g l =
    let commands = iter_rest (zip_first l.command-iterator) in
    let replies = iter_rest (zip_second l.command-iterator) in
    (both l.tally (counts_beside g.D.Digest.bytes commands replies) ≡ both l.fn.self (counts_beside g.D.Digest.bytes l.commands l.replies))
    × (l.tally.commands + length commands ≡ l.fn.self.commands + length l.commands)
