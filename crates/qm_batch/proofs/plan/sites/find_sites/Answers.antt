use Rattle.std.proofs.Common.{◌∙◌, ◌++◌, ap₂, map, refl}
use Rattle.std.specs.Map.Iter.{deref}
use Rattle.std.proofs.lemmas.Map.Iter.{rest_more, rest_all}
use Rattle.std.proofs.lemmas.Result.{err_from_is_err_and}
use Rattle.qm_model.proofs.Results.{told-any, told-both, told-err, told-one}
use Rattle.qm_step.specs.PlanViews.{last_write_view, linked_view}
use Rattle.qm_step.specs.Rings.{linked_in}
use Rattle.qm_step.proofs.PlanLoops.{drained-more, drained-all}
use Rattle.qm_step.proofs.Reading.{lent-then, told, whole-then}
use Rattle.qm_step.proofs.Steps.{map-twice}
use Rattle.qm_base.proofs.Reading.{reads-on, reads-short, reads-then, read-none, read-then}
use Rattle.qm_batch.proofs.plan.sites.find_sites.Goals as goal

pub returns-in_err-stands : goal.returns-in_err-stands
returns-in_err-stands g c =
    let exit = err_from_is_err_and c.from_residual.result c.from_residual.ensures.1 in
    record {
      value = λ lent base is from known. told-err _ (g.L.Items.reads.told c.args.log.now) c.from_residual.result exit.0 exit.1;
      reads = reads-then g.L.Items.reads g.met.L.Items.read_again g.met.L.Items.failed_later c.from_residual.result c.loop-write.invariant.read (whole-then g.L.Items.reads _ g.I.Unordered.index_key _ _ _ c.loop-write.invariant.read) (reads-on g.L.Items.reads c.from_residual.result c.in_err-stands.ensures.reads exit.1 exit.2);
    }

pub returns-in_err-push : goal.returns-in_err-push
returns-in_err-push g c =
    let exit = err_from_is_err_and c.from_residual-in_err-push.result c.from_residual-in_err-push.ensures.1 in
    record {
      value = λ lent base is from known. told-err _ (g.L.Items.reads.told c.args.log.now) c.from_residual-in_err-push.result exit.0 exit.1;
      reads = reads-short g.L.Items.reads c.from_residual-in_err-push.result (read-then g.L.Items.reads g.met.L.Items.read_again c.args.log.now c.loop-write.log c.place_of.new.log c.loop-write.invariant.read c.place_of.ensures.reads.left) (rw (exit.1, exit.2) refl);
    }

pub loop-write-init : goal.loop-write-init
loop-write-init g c = record {
  read = read-none g.L.Items.reads g.met.L.Items.unread c.args.log.now;
  value = λ lent base is from known.
      let key = g.U.Key.ByteString.bytes in
      let value = g.U.Value.ByteString.bytes in
      told-any _ (g.L.Items.reads.told c.args.log.now)
      (ap₂ (λ sites ws. map (linked_view key value) sites ++ map (λ w. linked_in base (last_write_view key value w)) ws) c.new-sites.ensures.items (c.into_iter-write-iterator.ensures.into_iter_gives ∙ c.values-write-items.ensures.rest)
      ∙ map-twice (λ w. linked_in base (last_write_view key value w)) (λ e. e.1) c.args.last.now.entries);
}

pub loop-write-preserved : goal.loop-write-preserved
loop-write-preserved g c =
    let read = c.loop-write.invariant.read in
    let key = g.U.Key.ByteString.bytes in
    let value = g.U.Value.ByteString.bytes in
    record {
      read = read-then g.L.Items.reads g.met.L.Items.read_again c.args.log.now c.loop-write.log c.place_of.new.log read c.place_of.ensures.reads.left;
      value = λ lent base is from known.
          let mid = lent-then g.L.Items.reads _ g.I.Unordered.index_key (g.I.Unordered.entries c.args.index.now) c.args.log.now c.loop-write.log lent read is in
          told-both _ _ _ (g.L.Items.reads.told c.args.log.now) (c.loop-write.invariant.value lent base is from known)
          (told _ _ _ read.told (c.in_ok-stands.ensures.value lent base mid from known)) (λ before found.
          drained-more (linked_view key value) (λ w. linked_in base (last_write_view key value w)) c.loop-write.sites.items c.loop-write.write-iterator (map (λ e. linked_in base (last_write_view key value e.1)) c.args.last.now.entries)
          c.push.new.self.items c.next.new.self _ c.in-Some.write.now
          (rest_more deref c.loop-write.write-iterator c.next.new.self c.next.result c.in-Some.write c.in-Some.is c.next.ensures.steps) c.in_ok-push.ensures.items (ap₂ (λ w o. (last_write_view key value w, o)) c.lent.ensures found) before);
    }

pub returns : goal.returns
returns g c = record {
  value = λ lent base is from known.
      let key = g.U.Key.ByteString.bytes in
      let value = g.U.Value.ByteString.bytes in
      told-one _ _ (g.L.Items.reads.told c.args.log.now) (c.loop-write.invariant.value lent base is from known) (λ all.
      drained-all (linked_view key value) (λ w. linked_in base (last_write_view key value w)) c.loop-write.sites.items c.loop-write.write-iterator (map (λ e. linked_in base (last_write_view key value e.1)) c.args.last.now.entries)
      (rest_all deref c.loop-write.write-iterator c.next.new.self c.next.result c.in-None.is c.next.ensures.steps) all);
  reads = reads-short g.L.Items.reads _ c.loop-write.invariant.read tt;
}
