use Rattle.std.proofs.Common.{◌≡◌, ◌≤◌, ◌++◌, ◌-◌, [], ◌∷◌, List, length}
use Rattle.std.specs.Vec.{vec_capacity}
use Rattle.qm_model.specs.Operations.{Bytes}
use Rattle.qm_merkle.specs.Mems.{Stands, AreBorn, more}
use Rattle.qm_merkle.proofs.mem.Mem.births.Given as goal

abbrev pub invariant-loop-number : goal.invariant-loop-number
invariant-loop-number g l = record {
  count : length l.buffer.items ≡ l.number;
  born : (leaves : List Bytes) → Stands g.F.Family.shape g.D.Digest.bytes g.H.Hasher.hash l.self leaves →
      AreBorn g.F.Family.shape g.F.Family.births g.D.Digest.bytes g.H.Hasher.hash l.self.leaves (leaves ++ g.D.Digest.bytes l.fn.leaf ∷ []) l.buffer.items;
  room : g.F.Family.births.count l.self.leaves ≤ vec_capacity l.buffer;
  made : l.hasher ≡ more l.fn.hasher (l.number - 1);
}
