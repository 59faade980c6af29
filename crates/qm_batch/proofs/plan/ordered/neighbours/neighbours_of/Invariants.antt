use Rattle.std.proofs.Common.{◌≡◌, List, map, take}
use Rattle.std.specs.Prelude.{filter_map, IfSome}
use Rattle.qm_model.specs.Operations.{Operation}
use Rattle.qm_model.specs.Ordered.{IsRing}
use Rattle.qm_model.specs.Writes.{Write}
use Rattle.qm_step.specs.Layers.{LeadOver}
use Rattle.qm_base.specs.Reads.{KeepsItems}
use Rattle.qm_step.specs.Lent.{IsLent}
use Rattle.qm_step.specs.OrderedViews.{neighbour_view}
use Rattle.qm_step.specs.PlanViews.{linked_view}
use Rattle.qm_step.specs.Rings.{linked_in, neighbour_in}
use Rattle.qm_batch.proofs.plan.ordered.neighbours.neighbours_of.Given as goal

abbrev pub invariant-loop-site : goal.invariant-loop-site
invariant-loop-site g l =
    let key = g.U.Key.ByteString.bytes in
    let value = g.U.Value.ByteString.bytes in
    record {
      read : KeepsItems g.L.Items.reads l.initial.log l.log;
      value : (lent base : List Operation) (ws : List Write) → IsLent g.L.Items.reads g.U.Update.form g.I.Unordered.index_key (g.I.Unordered.entries l.index) l.initial.log lent →
          LeadOver (map (λ l. l.value) l.layers) lent base → IsRing lent → IsRing base → map (linked_view key value) l.sites ≡ map (linked_in base) ws → IfSome (g.L.Items.reads.told l.initial.log)
          (λ _. map (neighbour_view g.U.Update.view key) l.neighbours.items ≡ filter_map (neighbour_in base) (take l.site-index ws));
    }
