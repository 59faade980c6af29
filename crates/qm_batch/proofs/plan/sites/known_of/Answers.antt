use Rattle.std.proofs.Common.{◌∙◌, ap, sym}
use Rattle.std.specs.Prelude.{option_map}
use Rattle.qm_step.specs.Changes.{update_of}
use Rattle.qm_step.specs.Views.{read_view}
use Rattle.qm_batch.proofs.PlanKnown.{known-none, known-more, read-known}
use Rattle.qm_batch.proofs.plan.sites.known_of.Goals as goal

pub loop-read-init : goal.loop-read-init
loop-read-init g c = λ base are. known-none (λ r. option_map (read_view g.U.Update.view) r.now.found) (update_of base) c.new-known.result.entries c.new-known.ensures.empty

pub loop-read-preserved : goal.loop-read-preserved
loop-read-preserved g c = λ base are.
    known-more (λ r. option_map (read_view g.U.Update.view) r.now.found) (update_of base) c.loop-read.known.entries c.insert.new.self.entries c.as_bytes.result _ c.in_ok-insert.ensures.entries
    (read-known g.U.Update.view g.U.Key.ByteString.bytes base c.args.reads.now c.loop-read.read-index c.read-item.result are c.loop-read-test.true c.read-item.is ∙ ap (update_of base) (sym c.as_bytes.ensures.value))
    (c.loop-read.invariant base are)
