use Rattle.std.proofs.Common.{◌≡◌, ◌-◌, ◌≤◌, length, map, take, drop, IfSome}
use Rattle.std.specs.Vec.{vec_capacity}
use Rattle.qm_store.specs.Log.{IsKept}
use Rattle.qm_store.proofs.log.shown.read_items.Given as goal

-- the items so far
abbrev pub invariant-loop-at : goal.invariant-loop-at
invariant-loop-at g l = record {
  kept : IsKept g.C.Store l.fn.store l.store;
  later : g.C.Store.faults l.fn.store ≤ g.C.Store.faults l.store;
  count : length l.items.items ≡ l.at - l.start;
  room : vec_capacity l.items ≡ l.end - l.start;
  items : IfSome (g.C.Store.told l.fn.store) (λ held. map (λ v. v.items) l.items.items ≡ take (l.at - l.start) (drop (l.start - g.C.Store.start l.fn.store) held.items));
}
