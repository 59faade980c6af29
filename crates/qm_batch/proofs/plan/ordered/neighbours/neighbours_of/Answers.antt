use Rattle.std.proofs.Common.{◌≡◌, ◌∙◌, ap, ap₂, append-nil, sym, map, subst, refl, true, false, true≢false, List, Option, Some, None, ℕ}
use Rattle.std.specs.Prelude.{filter_map, if◌then◌else◌}
use Rattle.std.proofs.lemmas.Result.{err_from_is_err_and}
use Rattle.qm_model.proofs.Results.{told-any, told-both, told-err, told-one}
use Rattle.qm_model.specs.Live.{live}
use Rattle.qm_model.specs.Operations.{Bytes, Operation}
use Rattle.qm_model.specs.Writes.{Write}
use Rattle.qm_base.specs.Reads.{KeepsItems}
use Rattle.qm_step.specs.OrderedViews.{neighbour_view}
use Rattle.qm_step.specs.PlanViews.{linked_view}
use Rattle.qm_step.specs.Rings.{is_changed, linked_in, neighbour_in, previous_of}
use Rattle.qm_step.proofs.PlanLoops.{made-more, taken-all, write-here}
use Rattle.qm_step.proofs.PlanSites.{pushed-shown}
use Rattle.qm_step.proofs.Reading.{lent-then, told, whole-then}
use Rattle.qm_base.proofs.Reading.{reads-on, reads-short, reads-then, read-none, read-then}
use Rattle.qm_batch.proofs.plan.ordered.neighbours.neighbours_of.Goals as goal
use Rattle.qm_batch.proofs.plan.ordered.neighbours.neighbours_of.Goals.{then-is_changed+in_ok-before+in_ok-push, else-is_changed}

-- what stands before the key of a write that changes it, and of one that does not
changed-before : (base : List Operation) (w : Write) (k : Bytes) (b : Option (ℕ × Operation)) → true ≡ is_changed (live base) w → k ≡ w.key → b ≡ previous_of base k → Some (k, b) ≡ neighbour_in base w
changed-before base w k b changes keyed found =
    ap₂ (λ k b. Some (k, b)) keyed (found ∙ ap (previous_of base) keyed) ∙ ap (λ t. if t then Some (w.key, previous_of base w.key) else None) changes

unchanged-before : (base : List Operation) (w : Write) → false ≡ is_changed (live base) w → None ≡ neighbour_in base w
unchanged-before base w stays = ap (λ t. if t then Some (w.key, previous_of base w.key) else None) stays

pub loop-site-init : goal.loop-site-init
loop-site-init g c = record {
  read = read-none g.L.Items.reads g.met.L.Items.unread c.args.log.now;
  value = λ lent base ws is from ring base_ring are.
      told-any _ (g.L.Items.reads.told c.args.log.now) (ap (map (neighbour_view g.U.Update.view g.U.Key.ByteString.bytes)) c.new-neighbours.ensures.items);
}

pub returns-in_err-before : goal.returns-in_err-before
returns-in_err-before g c =
    let exit = err_from_is_err_and c.from_residual.result c.from_residual.ensures.1 in
    record {
      value = λ lent base ws ordered is from ring base_ring are. told-err _ (g.L.Items.reads.told c.args.log.now) c.from_residual.result exit.0 exit.1;
      reads = reads-then g.L.Items.reads g.met.L.Items.read_again g.met.L.Items.failed_later c.from_residual.result c.loop-site.invariant.read (whole-then g.L.Items.reads _ g.I.Unordered.index_key _ _ _ c.loop-site.invariant.read) (reads-on g.L.Items.reads c.from_residual.result c.in_err-before.ensures.reads exit.1 exit.2);
    }

pub returns-in_err-push : goal.returns-in_err-push
returns-in_err-push g c =
    let exit = err_from_is_err_and c.from_residual-in_err-push.result c.from_residual-in_err-push.ensures.1 in
    record {
      value = λ lent base ws ordered is from ring base_ring are. told-err _ (g.L.Items.reads.told c.args.log.now) c.from_residual-in_err-push.result exit.0 exit.1;
      reads = reads-short g.L.Items.reads c.from_residual-in_err-push.result (read-then g.L.Items.reads g.met.L.Items.read_again c.args.log.now c.loop-site.log c.previous.new.log c.loop-site.invariant.read c.previous.ensures.reads.left) (rw (exit.1, exit.2) refl);
    }

pub loop-site-preserved : goal.loop-site-preserved
loop-site-preserved g c =
    let key = g.U.Key.ByteString.bytes in
    let value = g.U.Value.ByteString.bytes in
    let items = g.L.Items.reads.told c.args.log.now in
    let read = c.loop-site.invariant.read in
    let view = neighbour_view g.U.Update.view key in
    let made = map view c.loop-site.neighbours.items in
    let show = linked_view key value in
    let sites = c.args.sites.now in
    let i = c.loop-site.site-index in
    let site = c.site-item.result in
    elim c.if-is_changed.branch [
      | then-is_changed+in_ok-before+in_ok-push w ↦ record {
        read = subst (λ log. KeepsItems g.L.Items.reads c.args.log.now log) (sym w.log-is) (read-then g.L.Items.reads g.met.L.Items.read_again c.args.log.now c.loop-site.log w.previous.new.log read w.previous.ensures.reads.left);
        value = λ lent base ws is from ring base_ring are.
            let mid = lent-then g.L.Items.reads g.U.Update.form g.I.Unordered.index_key (g.I.Unordered.entries c.args.index.now) c.args.log.now c.loop-site.log lent read is in
            let here = write-here show (linked_in base) ws sites are i site c.loop-site-test.true c.site-item.is in
            let changes = w.if-is_changed.ensures key value base here.0 (sym here.2) in
            told-both _ _ _ items (c.loop-site.invariant.value lent base ws is from ring base_ring are) (told _ _ _ read.told (w.in_ok-before.ensures.value lent base mid from ring base_ring)) (λ before found.
            made-more show (linked_in base) ws sites are i site c.loop-site-test.true c.site-item.is (neighbour_in base) made (map view c.if-is_changed.neighbours.items) _
            (changed-before base here.0 _ _ changes (ap (λ p. p.0.key) (sym here.2)) found)
            (ap (λ v. map view v.items) w.neighbours-is ∙ pushed-shown view w.push.new.self.items c.loop-site.neighbours.items (Some _) w.in_ok-push.ensures.items) before);
      }
      | else-is_changed w ↦ record {
        read = subst (λ log. KeepsItems g.L.Items.reads c.args.log.now log) (sym w.log-is) read;
        value = λ lent base ws is from ring base_ring are.
            let here = write-here show (linked_in base) ws sites are i site c.loop-site-test.true c.site-item.is in
            let stays = w.if-is_changed.ensures key value base here.0 (sym here.2) in
            told-one _ _ items (c.loop-site.invariant.value lent base ws is from ring base_ring are) (λ before.
            made-more show (linked_in base) ws sites are i site c.loop-site-test.true c.site-item.is (neighbour_in base) made (map view c.if-is_changed.neighbours.items) None (unchanged-before base here.0 stays)
            (ap (λ v. map view v.items) w.neighbours-is ∙ sym (append-nil made)) before);
      }
    ]

pub returns : goal.returns
returns g c = record {
  value = λ lent base ws ordered is from ring base_ring are.
      let key = g.U.Key.ByteString.bytes in
      let value = g.U.Value.ByteString.bytes in
      told-one _ _ (g.L.Items.reads.told c.args.log.now) (c.loop-site.invariant.value lent base ws is from ring base_ring are) (λ all.
      all ∙ ap (filter_map (neighbour_in base)) (taken-all (linked_view key value) (linked_in base) c.args.sites.now ws c.loop-site.site-index are c.loop-site-test.false));
  reads = reads-short g.L.Items.reads _ c.loop-site.invariant.read tt;
}

pub returns-then-not-is_ordered : goal.returns-then-not-is_ordered
returns-then-not-is_ordered g c = record {
  value = λ lent base ws ordered is from ring base_ring are. absurd (true≢false (sym ordered ∙ sym c.is_ordered.ensures ∙ c.if-not-is_ordered.true));
  reads = reads-short g.L.Items.reads _ (read-none g.L.Items.reads g.met.L.Items.unread c.args.log.now) tt;
}
