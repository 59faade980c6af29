use Rattle.std.proofs.Common.{◌≡◌, List, map, take}
use Rattle.std.specs.Prelude.{IfSome, filter_map}
use Rattle.qm_model.specs.Operations.{Operation}
use Rattle.qm_model.specs.Ordered.{IsRing}
use Rattle.qm_step.specs.Layers.{LeadOver}
use Rattle.qm_base.specs.Reads.{KeepsItems}
use Rattle.qm_step.specs.Lent.{IsLent}
use Rattle.qm_step.specs.Moves.{before_evicted}
use Rattle.qm_step.specs.PlanViews.{decided_view}
use Rattle.qm_step.specs.Views.{read_view}
use Rattle.qm_batch.proofs.plan.ordered.moves.find_before.Given as goal

abbrev pub invariant-loop-one : goal.invariant-loop-one
invariant-loop-one g l =
    let key = g.U.Key.ByteString.bytes in
    let value = g.U.Value.ByteString.bytes in
    record {
      read : KeepsItems g.L.Items.reads l.initial.log l.log;
      value : (lent list : List Operation) → IsLent g.L.Items.reads g.U.Update.form g.I.Unordered.index_key (g.I.Unordered.entries l.index) l.initial.log lent →
          LeadOver (map (λ l. l.value) l.layers) lent list → IsRing lent → IsRing list → IfSome (g.L.Items.reads.told l.initial.log)
          (λ _. map (read_view g.U.Update.view) l.all.items ≡ filter_map (λ d. before_evicted list (decided_view key value d)) (take l.one-index l.decided));
    }
