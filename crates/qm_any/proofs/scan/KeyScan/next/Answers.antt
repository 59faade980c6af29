use Rattle.std.proofs.Common.{rules}
use Rattle.qm_any.proofs.scan.KeyScan.next.Goals as goal

pub returns-in-Some-Ok : goal.returns-in-Some-Ok
returns-in-Some-Ok g c = record {
  value = search rules;
  reads = record { error = tt; whole = λ list is. tt; left = c.next.ensures.reads.left };
  same = c.next.ensures.same;
}

pub returns : goal.returns
returns g c = record {
  value = search rules;
  reads = record { error = tt; whole = λ list is. tt; left = c.next.ensures.reads.left };
  same = c.next.ensures.same;
}
