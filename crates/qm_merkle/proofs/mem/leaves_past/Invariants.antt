use Rattle.std.proofs.Common.{◌≡◌, ◌≤◌, ◌+◌, ◌-◌, ◌^◌, ℕ}
use Rattle.qm_merkle.proofs.mem.leaves_past.Given as goal

abbrev pub invariant-leaves : goal.invariant-leaves
invariant-leaves g l = record {
  from : l.fn.start ≤ l.low;
  few : l.high ≤ 2 ^ 62;
  between : (n : ℕ) → g.F.Family.shape.size n ≡ g.F.Family.shape.size l.fn.start + l.nodes → n ≤ 2 ^ 62 → (l.low ≤ n) × (n ≤ l.high);
}

abbrev pub decreases-leaves : goal.decreases-leaves
decreases-leaves g l = l.high - l.low
