use Rattle.std.proofs.Common.{◌∙◌, ◌++◌, ap, ap₂, map}
use Rattle.std.specs.Iterator.Adapters.{zip_first, zip_second}
use Rattle.std.specs.Prelude.{option_to_list}
use Rattle.std.specs.Slice.Iter.{iter_rest}
use Rattle.std.proofs.lemmas.Slice.Zip.{Zip-more, either_empty_from_Zip}
use Rattle.qm_base.specs.Slots.{slot_view}
use Rattle.qm_model.specs.Slots.{write_in}
use Rattle.qm_model.specs.Writes.{last_writes}
use Rattle.qm_step.specs.PlanViews.{keyed}
use Rattle.qm_step.proofs.PlanWanted.{slot_writes, slot-next, slots-all}
use Rattle.std.proofs.lemmas.Result.{IfOk-from_err}
use Rattle.qm_step.proofs.writes.add_slots.Goals as goal

pub loop-read-init : goal.loop-read-init
loop-read-init g c = λ ws so_far.
    let key = g.U.Key.ByteString.bytes in
    let value = g.U.Value.ByteString.bytes in
    let begins = c.into_iter-read-iterator.ensures.into_iter_gives in (
      ws,
      so_far,
      ap₂ (λ reads slots. ws ++ slot_writes key value reads slots) (ap (λ z. iter_rest (zip_first z)) begins ∙ ap iter_rest c.zip-read-items.ensures.first ∙ c.iter.ensures.rest)
          (ap (λ z. iter_rest (zip_second z)) begins ∙ (c.zip-read-items.ensures.second).0),
    )

pub loop-read-preserved : goal.loop-read-preserved
loop-read-preserved g c = λ ws so_far.
    let key = g.U.Key.ByteString.bytes in
    let value = g.U.Value.ByteString.bytes in
    let before = c.loop-read.invariant ws so_far in
    let reads = iter_rest (zip_first c.loop-read.read-iterator) in
    let slots = iter_rest (zip_second c.loop-read.read-iterator) in
    let taken = Zip-more c.loop-read.read-iterator c.next.new.self c.next.result (c.in-Some.read, c.in-Some.slot) c.in-Some.is c.next.ensures.steps in (
      before.0 ++ option_to_list (write_in (key c.in-Some.read.now.key, slot_view value c.in-Some.slot.now)),
      c.in_ok-add_slot.ensures before.0 before.1,
      slot-next key value before.0 (ws ++ slot_writes key value c.args.reads.now c.args.slots.now) reads (iter_rest (zip_first c.next.new.self)) slots (iter_rest (zip_second c.next.new.self)) c.in-Some.read.now c.in-Some.slot.now taken.0 taken.1 before.2,
    )

pub returns : goal.returns
returns g c = λ ws so_far.
    let key = g.U.Key.ByteString.bytes in
    let value = g.U.Value.ByteString.bytes in
    let all = c.loop-read.invariant ws so_far in
    all.1
    ∙ ap (λ us. map keyed (last_writes us))
    (slots-all key value all.0 (ws ++ slot_writes key value c.args.reads.now c.args.slots.now) (iter_rest (zip_first c.loop-read.read-iterator)) (iter_rest (zip_second c.loop-read.read-iterator))
    (either_empty_from_Zip c.loop-read.read-iterator c.next.new.self c.next.result c.in-None.is c.next.ensures.steps) all.2)

pub returns-in_err-add_slot : goal.returns-in_err-add_slot
returns-in_err-add_slot g c = IfOk-from_err c.from_residual.result _ c.from_residual.ensures.0
