use Rattle.std.proofs.Common.{◌≡◌, ◌++◌, List, map}
use Rattle.std.specs.Prelude.{IfSome}
use Rattle.qm_model.specs.Operations.{Operation}
use Rattle.qm_step.specs.Layers.{LeadOver}
use Rattle.qm_base.specs.Reads.{KeepsItems}
use Rattle.qm_step.specs.Lent.{IsLent}
use Rattle.qm_step.specs.PlanViews.{last_write_view, linked_view, AreKnown}
use Rattle.qm_step.specs.Rings.{linked_in}
use Rattle.qm_batch.proofs.plan.sites.find_sites.Given as goal

abbrev pub invariant-loop-write : goal.invariant-loop-write
invariant-loop-write g l =
    let key = g.U.Key.ByteString.bytes in
    let value = g.U.Value.ByteString.bytes in
    record {
      read : KeepsItems g.L.Items.reads l.initial.log l.log;
      value : (lent base : List Operation) → IsLent g.L.Items.reads g.U.Update.form g.I.Unordered.index_key (g.I.Unordered.entries l.index) l.initial.log lent →
          LeadOver (map (λ l. l.value) l.layers) lent base → AreKnown g.U.Update.view base l.known.entries → IfSome (g.L.Items.reads.told l.initial.log)
          (λ _. map (linked_view key value) l.sites.items ++ map (λ w. linked_in base (last_write_view key value w)) l.write-iterator ≡ map (λ e. linked_in base (last_write_view key value e.1)) l.last.entries);
    }
