use Rattle.std.proofs.Common.{[], ◌+◌, reverse, refl, ap}
use Rattle.std.proofs.lemmas.Result.{err_from_is_err_and}
use Rattle.qm_model.specs.StoreModel.{Stored, settled}
use Rattle.qm_memory.specs.Changes.{settling}
use Rattle.qm_memory.proofs.Changes.{past-settle}
use Rattle.qm_memory.proofs.Exits.{noted, uncounted, unmade, come_off}
use Rattle.qm_memory.proofs.mem_store.MemStoreStore.commit.Goals as goal

pub returns-in_err-call : goal.returns-in_err-call
returns-in_err-call c =
    let exit = err_from_is_err_and c.from_residual.result c.from_residual.ensures.1 in
    uncounted c.call.result c.args.self.now c.call.new.self c.call.ensures.inside c.call.ensures.listed _ c.from_residual.result c.in_err-call.field-0.0 c.in_err-call.was exit c.call.ensures.err c.call.ensures.only c.call.ensures.cause

pub returns-in_err-reserve : goal.returns-in_err-reserve
returns-in_err-reserve c =
    let exit = err_from_is_err_and c.from_residual-in_err-reserve.result c.from_residual-in_err-reserve.ensures.1 in
    unmade c.call.result c.args.self.now c.call.new.self c.call.ensures.inside c.call.ensures.listed _ _ c.in_ok-call.was c.self.view_is c.in_ok-call.ensures.ok _ c.from_residual-in_err-reserve.result (record { start = c.self.inside.first; items = c.self.inside.kept; head = c.self.inside.head.items; metadata = c.self.inside.metadata.items; stable = c.self.inside.stable; ends = c.self.inside.ends.items; past = [] }) (record { start = c.self.inside.first; items = c.self.inside.kept; head = c.self.inside.head.items; metadata = c.self.inside.metadata.items; stable = c.self.inside.stable; ends = c.self.inside.ends.items; past = [] }) _ exit refl (ap reverse c.reserve.ensures.items) refl

pub returns : goal.returns
returns c =
    let s = c.self.inside in
    come_off c.call.result c.args.self.now c.call.new.self c.call.ensures.inside c.call.ensures.listed _ _ c.in_ok-call.was c.self.view_is c.in_ok-call.ensures.ok settled settling _ (record { start = c.self.inside.first; items = c.self.inside.kept; head = c.self.inside.head.items; metadata = c.self.inside.metadata.items; stable = c.self.inside.stable; ends = c.self.inside.ends.items; past = [] }) _
    (ap {B = Stored} (λ count. record { start = s.first; items = s.kept; head = s.head.items; metadata = s.metadata.items; stable = s.first + count; ends = s.ends.items; past = [] }) c.len.ensures)
    (noted _ _ _ _ _ c.push_reserved.ensures.items c.reserve.ensures.items refl) refl (λ cs s once. past-settle cs s)
