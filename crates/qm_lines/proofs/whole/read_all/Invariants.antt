use Rattle.std.proofs.Common.{◌≡◌, ◌≤◌, ◌-◌, length}
use Rattle.std.specs.Io.KnownBytes.{Consumes}
use Rattle.qm_lines.proofs.whole.read_all.Given as goal

abbrev pub invariant-loop-all : goal.invariant-loop-all
invariant-loop-all g l = record {
  short : length l.all.items ≤ 16777216;
  read : Consumes (g.S.Source.left l.fn.source) (g.S.Source.left l.source) l.all.items;
  steady : g.S.Source.faults l.source ≡ g.S.Source.faults l.fn.source;
}

abbrev pub decreases-loop-all : goal.decreases-loop-all
decreases-loop-all g l = 16777216 - length l.all.items
