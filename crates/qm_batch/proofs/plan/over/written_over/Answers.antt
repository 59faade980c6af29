use Rattle.std.proofs.Common.{◌≡◌, ◌∙◌, ap, map, true, refl}
use Rattle.std.proofs.lemmas.Result.{err_from_is_err_and}
use Rattle.qm_model.proofs.Results.{told-then, told-err}
use Rattle.qm_model.specs.Writes.{last_writes}
use Rattle.qm_step.specs.OrderedViews.{neighbour_view}
use Rattle.qm_step.specs.PlanViews.{last_view, linked_view}
use Rattle.qm_step.specs.Rings.{linked_in}
use Rattle.qm_step.proofs.PlanSites.{lasts-shown}
use Rattle.qm_step.proofs.Reading.{lent-then, told, told-given, whole-then}
use Rattle.qm_base.proofs.Reading.{reads-on, reads-short, reads-then, read-none, read-then}
use Rattle.qm_batch.proofs.plan.over.written_over.Goals as goal

pub returns : goal.returns
returns g c = record {
  value = λ lent base ws is from ring base_ring reads last.
      let key = g.U.Key.ByteString.bytes in
      let value = g.U.Value.ByteString.bytes in
      let form = g.U.Update.form in
      let told_items = g.L.Items.reads.told c.args.log.now in
      let read = c.in_ok-sites.ensures.reads.left in
      let mid = lent-then g.L.Items.reads form g.I.Unordered.index_key (g.I.Unordered.entries c.args.index.now) c.args.log.now _ lent read is in
      told-then _ _ told_items (c.in_ok-sites.ensures.value lent base is from (c.in_ok-known.ensures base reads)) (λ found.
      let are = found ∙ lasts-shown (last_view key value) (linked_in base) c.args.last.now.entries (last_writes ws) last in
      let sites = ap (map (linked_view key value)) c.deref.ensures.value ∙ are in
      let again = ap (map (linked_view key value)) c.deref-2.ensures.value ∙ are in
      told-given (form.ordered ≡ true) told_items (λ ordered. told _ _ _ read.told (c.in_ok-neighbours.ensures.value lent base (last_writes ws) ordered mid from (ring ordered) (base_ring ordered) sites)) (λ beside.
      c.in_ok-touches.ensures base ws base_ring again (λ ordered. ap (map (neighbour_view g.U.Update.view key)) c.deref-3.ensures.value ∙ beside ordered)));
  reads = reads-short g.L.Items.reads _ (read-then g.L.Items.reads g.met.L.Items.read_again c.args.log.now c.find_sites.new.log c.neighbours_of.new.log c.in_ok-sites.ensures.reads.left c.in_ok-neighbours.ensures.reads.left) tt;
}

pub returns-in_err-touches : goal.returns-in_err-touches
returns-in_err-touches g c =
    let exit = err_from_is_err_and c.from_residual-in_err-touches.result c.from_residual-in_err-touches.ensures.1 in
    record {
      value = λ lent base ws is from ring base_ring reads last. told-err _ (g.L.Items.reads.told c.args.log.now) c.from_residual-in_err-touches.result exit.0 exit.1;
      reads = reads-short g.L.Items.reads c.from_residual-in_err-touches.result (read-then g.L.Items.reads g.met.L.Items.read_again c.args.log.now c.find_sites.new.log c.neighbours_of.new.log c.in_ok-sites.ensures.reads.left c.in_ok-neighbours.ensures.reads.left) (rw (exit.1, exit.2) refl);
    }

pub returns-in_err-neighbours : goal.returns-in_err-neighbours
returns-in_err-neighbours g c =
    let exit = err_from_is_err_and c.from_residual-in_err-neighbours.result c.from_residual-in_err-neighbours.ensures.1 in
    record {
      value = λ lent base ws is from ring base_ring reads last. told-err _ (g.L.Items.reads.told c.args.log.now) c.from_residual-in_err-neighbours.result exit.0 exit.1;
      reads = reads-then g.L.Items.reads g.met.L.Items.read_again g.met.L.Items.failed_later c.from_residual-in_err-neighbours.result c.in_ok-sites.ensures.reads.left (whole-then g.L.Items.reads _ g.I.Unordered.index_key _ _ _ c.in_ok-sites.ensures.reads.left) (reads-on g.L.Items.reads c.from_residual-in_err-neighbours.result c.in_err-neighbours.ensures.reads exit.1 exit.2);
    }

pub returns-in_err-known : goal.returns-in_err-known
returns-in_err-known g c =
    let exit = err_from_is_err_and c.from_residual.result c.from_residual.ensures.1 in
    record {
      value = λ lent base ws is from ring base_ring reads last. told-err _ (g.L.Items.reads.told c.args.log.now) c.from_residual.result exit.0 exit.1;
      reads = reads-short g.L.Items.reads c.from_residual.result (read-none g.L.Items.reads g.met.L.Items.unread c.args.log.now) (rw (exit.1, exit.2) refl);
    }

pub returns-in_err-sites : goal.returns-in_err-sites
returns-in_err-sites g c =
    let exit = err_from_is_err_and c.from_residual-in_err-sites.result c.from_residual-in_err-sites.ensures.1 in
    record {
      value = λ lent base ws is from ring base_ring reads last. told-err _ (g.L.Items.reads.told c.args.log.now) c.from_residual-in_err-sites.result exit.0 exit.1;
      reads = reads-on g.L.Items.reads c.from_residual-in_err-sites.result c.in_err-sites.ensures.reads exit.1 exit.2;
    }
