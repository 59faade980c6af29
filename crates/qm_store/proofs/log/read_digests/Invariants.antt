use Rattle.std.proofs.Common.{◌≡◌, ◌-◌, ◌≤◌, length, map, take, IfSome}
use Rattle.std.specs.Vec.{vec_capacity}
use Rattle.qm_store.specs.Log.{digests_from, IsKept}
use Rattle.qm_store.proofs.log.read_digests.Given as goal

-- the digests of the items so far
abbrev pub invariant-loop-at : goal.invariant-loop-at
invariant-loop-at g l = record {
  kept : IsKept g.C.Store l.fn.store l.store;
  later : g.C.Store.faults l.fn.store ≤ g.C.Store.faults l.store;
  count : length l.made.items ≡ l.at - l.start;
  room : vec_capacity l.made ≡ l.size - l.start;
  digests : IfSome (g.C.Store.told l.fn.store) (λ held. map g.H.Digest.Digest.bytes l.made.items ≡ digests_from g.H.Hasher.hash g.F.Family.shape l.start (take (l.at - l.start) held.items));
}
