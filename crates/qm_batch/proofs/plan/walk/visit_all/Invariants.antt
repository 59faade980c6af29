use Rattle.std.proofs.Common.{◌≡◌, ◌≤◌, ℕ, List, drop}
use Rattle.std.specs.Prelude.{IfSome}
use Rattle.qm_model.specs.Operations.{Operation}
use Rattle.qm_model.specs.Walk.{Walked}
use Rattle.qm_step.specs.Going.{AreDeadBetween, IsGoing, IsSpaced}
use Rattle.qm_base.specs.Reads.{KeepsItems}
use Rattle.qm_step.specs.Lent.{IsLent}
use Rattle.qm_step.specs.PlanViews.{decided_views, pair_views}
use Rattle.qm_batch.specs.PlanPaths.{path_view, IsPath}
use Rattle.qm_batch.proofs.plan.walk.visit_all.Given as goal

abbrev pub invariant-loop-at : goal.invariant-loop-at
invariant-loop-at g l =
    let key = g.U.Key.ByteString.bytes in
    let value = g.U.Value.ByteString.bytes in
    record {
      read : KeepsItems g.L.Items.reads l.initial.log l.log;
      low : l.initial.going.walk.floor ≤ l.going.walk.floor;
      end : l.going.walk.end ≡ l.initial.going.walk.end;
      spaced : (next : ℕ) → IsSpaced l.initial.going.walk.floor l.round next → IsSpaced l.going.walk.floor (drop l.at-index l.round) next;
      value : (lent base list : List Operation) (next : ℕ) (all : Walked g.row.P.Denot) → IsLent g.L.Items.reads g.U.Update.form g.I.Unordered.index_key (g.I.Unordered.entries l.path.index.now) l.initial.log lent →
          IsPath (path_view g.U.Update.view key value l.path) lent base list → AreDeadBetween list l.initial.going.walk.floor l.round next →
          IsGoing g.P.Policy.rules base list (decided_views key value l.initial.going.decided.items) (pair_views key value l.initial.going.evicted.items) l.initial.going.walk l.initial.policy all →
          IfSome (g.L.Items.reads.told l.initial.log) (λ _. AreDeadBetween list l.going.walk.floor (drop l.at-index l.round) next ×
          IsGoing g.P.Policy.rules base list (decided_views key value l.going.decided.items) (pair_views key value l.going.evicted.items) l.going.walk l.policy all);
    }
