use Rattle.std.proofs.Common.{◌≡◌, ◌-◌, ◌≤◌, take, None, IfSome}
use Rattle.qm_model.specs.Opening.{last_commit}
use Rattle.qm_store.specs.Log.{IsKept}
use Rattle.qm_open.specs.Selecting.{kept_items, up_to}
use Rattle.qm_open.proofs.select.last_commit.Given as goal

-- no commit stands from there on
abbrev pub invariant-loop-at : goal.invariant-loop-at
invariant-loop-at g l = record {
  kept : IsKept g.C.Store l.fn.store l.store;
  later : g.C.Store.faults l.fn.store ≤ g.C.Store.faults l.store;
  behind : IfSome (g.C.Store.told l.fn.store) (λ s. last_commit s.start None (up_to l.fn.bound s (kept_items g.U.Update.form s)) ≡ last_commit s.start None (take (l.at - s.start) (kept_items g.U.Update.form s)));
}
