use Rattle.std.proofs.Common.{◌≡◌, ◌+◌, ◌-◌, ℕ, List, ◌++◌, map, take}
use Rattle.qm_merkle.specs.Mems.{Stands, more}
use Rattle.qm_merkle.proofs.mem.Mem.add_all.Given as goal

abbrev pub invariant-loop-leaf : goal.invariant-loop-leaf
invariant-loop-leaf g l = record {
  start : l.self.start ≡ l.fn.self.start;
  leaves : l.self.leaves ≡ l.fn.self.leaves + l.leaf-index;
  stands : (list : List (List ℕ)) → Stands g.F.Family.shape g.D.Digest.bytes g.H.Hasher.hash l.fn.self list → Stands g.F.Family.shape g.D.Digest.bytes g.H.Hasher.hash l.self (list ++ map g.D.Digest.bytes (take l.leaf-index l.leaves));
  made : l.hasher ≡ more l.fn.hasher (g.F.Family.shape.size (l.fn.self.leaves + l.leaf-index) - g.F.Family.shape.size l.fn.self.leaves - l.leaf-index);
}
