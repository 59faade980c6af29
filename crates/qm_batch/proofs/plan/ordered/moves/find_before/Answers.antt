use Rattle.std.proofs.Common.{◌≡◌, ◌∙◌, ap, append-nil, sym, map, subst, refl, Bool, true, false, Option, Some, None}
use Rattle.std.specs.Prelude.{filter_map, if◌then◌else◌, is_none, is_some, not, option_map}
use Rattle.std.proofs.lemmas.List.{take_all}
use Rattle.std.proofs.lemmas.Result.{err_from_is_err_and}
use Rattle.qm_model.proofs.Results.{told-any, told-both, told-err, told-one}
use Rattle.qm_model.specs.Operations.{Bytes}
use Rattle.qm_base.specs.Reads.{KeepsItems}
use Rattle.qm_step.specs.Moves.{before_evicted}
use Rattle.qm_step.specs.PlanViews.{decided_view}
use Rattle.qm_step.specs.Rings.{previous_of}
use Rattle.qm_step.specs.Views.{read_view}
use Rattle.qm_step.proofs.MovesLoops.{some-more, given-mapped}
use Rattle.qm_step.proofs.Reading.{lent-then, told, whole-then}
use Rattle.qm_base.proofs.Reading.{reads-on, reads-short, reads-then, read-none, read-then}
use Rattle.qm_batch.proofs.plan.ordered.moves.find_before.Goals as goal
use Rattle.qm_batch.proofs.plan.ordered.moves.find_before.Goals.{then-is_none+in_ok-found+in_ok-push_some, else-is_none}

-- whether a value is none, of what is shown of it
tested : {V : Type 0} (value : V → Bytes) (o : Option V) (r : Bool) → is_some o ≡ not r → r ≡ is_none (option_map value o)
tested value None true same = refl
tested value None false same = cc
tested value (Some v) true same = cc
tested value (Some v) false same = refl

pub returns-in_err-found : goal.returns-in_err-found
returns-in_err-found g c =
    let exit = err_from_is_err_and c.from_residual.result c.from_residual.ensures.1 in
    record {
      value = λ lent list is from ring over. told-err _ (g.L.Items.reads.told c.args.log.now) c.from_residual.result exit.0 exit.1;
      reads = reads-then g.L.Items.reads g.met.L.Items.read_again g.met.L.Items.failed_later c.from_residual.result c.loop-one.invariant.read (whole-then g.L.Items.reads _ g.I.Unordered.index_key _ _ _ c.loop-one.invariant.read) (reads-on g.L.Items.reads c.from_residual.result c.in_err-found.ensures.reads exit.1 exit.2);
    }

pub returns-in_err-push_some : goal.returns-in_err-push_some
returns-in_err-push_some g c =
    let exit = err_from_is_err_and c.from_residual-in_err-push_some.result c.from_residual-in_err-push_some.ensures.1 in
    record {
      value = λ lent list is from ring over. told-err _ (g.L.Items.reads.told c.args.log.now) c.from_residual-in_err-push_some.result exit.0 exit.1;
      reads = reads-short g.L.Items.reads c.from_residual-in_err-push_some.result (read-then g.L.Items.reads g.met.L.Items.read_again c.args.log.now c.loop-one.log c.previous.new.log c.loop-one.invariant.read c.previous.ensures.reads.left) (rw (exit.1, exit.2) refl);
    }

pub loop-one-init : goal.loop-one-init
loop-one-init g c = record {
  read = read-none g.L.Items.reads g.met.L.Items.unread c.args.log.now;
  value = λ lent list is from ring over.
      told-any _ (g.L.Items.reads.told c.args.log.now) (ap (map (read_view g.U.Update.view)) c.new-all.ensures.items);
}

pub loop-one-preserved : goal.loop-one-preserved
loop-one-preserved g c =
    let read = c.loop-one.invariant.read in
    let key = g.U.Key.ByteString.bytes in
    let value = g.U.Value.ByteString.bytes in
    let items = g.L.Items.reads.told c.args.log.now in
    let view = read_view g.U.Update.view in
    let one = c.one-item.result in
    let old = c.loop-one.all.items in
    let new = c.if-is_none.all.items in
    let i = c.loop-one.one-index in
    elim c.if-is_none.branch [
      | then-is_none+in_ok-found+in_ok-push_some w ↦ record {
        read = subst (λ log. KeepsItems g.L.Items.reads c.args.log.now log) (sym w.log-is) (read-then g.L.Items.reads g.met.L.Items.read_again c.args.log.now c.loop-one.log w.previous.new.log read w.previous.ensures.reads.left);
        value = λ lent list is from ring over.
            let mid = lent-then g.L.Items.reads _ g.I.Unordered.index_key (g.I.Unordered.entries c.args.index.now) c.args.log.now c.loop-one.log lent read is in
            let goes = ap (λ t. if t then previous_of list (key one.key) else None) (tested value one.value true w.if-is_none.ensures) in
            told-both _ _ _ items (c.loop-one.invariant.value lent list is from ring over) (told _ _ _ read.told (w.in_ok-found.ensures.value lent list mid from ring over)) (λ before found.
            some-more view (λ d. before_evicted list (decided_view key value d)) old new w.in_ok-found.found (ap (λ v. v.items) w.all-is ∙ w.in_ok-push_some.ensures)
            c.args.decided.now i one c.loop-one-test.true c.one-item.is (found ∙ goes) before);
      }
      | else-is_none w ↦ record {
        read = subst (λ log. KeepsItems g.L.Items.reads c.args.log.now log) (sym w.log-is) read;
        value = λ lent list is from ring over.
            let stays = ap (λ t. if t then previous_of list (key one.key) else None) (tested value one.value false w.if-is_none.ensures) in
            told-one _ _ items (c.loop-one.invariant.value lent list is from ring over) (λ before.
            some-more view (λ d. before_evicted list (decided_view key value d)) old new None (ap (λ v. v.items) w.all-is ∙ sym (append-nil old))
            c.args.decided.now i one c.loop-one-test.true c.one-item.is stays before);
      }
    ]

pub returns : goal.returns
returns g c = record {
  value = λ lent list is from ring over.
      let view = decided_view g.U.Key.ByteString.bytes g.U.Value.ByteString.bytes in
      told-one _ _ (g.L.Items.reads.told c.args.log.now) (c.loop-one.invariant.value lent list is from ring over) (λ found.
      found ∙ ap (filter_map (λ d. before_evicted list (view d))) (take_all c.loop-one.one-index c.args.decided.now c.loop-one-test.false) ∙ sym (given-mapped (before_evicted list) view c.args.decided.now));
  reads = reads-short g.L.Items.reads _ c.loop-one.invariant.read tt;
}
