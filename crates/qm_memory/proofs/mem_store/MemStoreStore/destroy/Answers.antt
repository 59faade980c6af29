use Rattle.std.proofs.Common.{◌∙◌, [], reverse, refl, ap, ap₂}
use Rattle.std.proofs.lemmas.Result.{err_from_is_err_and}
use Rattle.qm_model.specs.StoreModel.{Stored, destroyed}
use Rattle.qm_memory.specs.Changes.{emptied, emptying}
use Rattle.qm_memory.proofs.Changes.{past-destroy}
use Rattle.qm_memory.proofs.Exits.{noted, uncounted, unmade, come_off}
use Rattle.qm_memory.proofs.mem_store.MemStoreStore.destroy.Goals as goal

pub returns-in_err-call : goal.returns-in_err-call
returns-in_err-call c =
    let exit = err_from_is_err_and c.from_residual.result c.from_residual.ensures.1 in
    uncounted c.call.result c.args.self.now c.call.new.self c.call.ensures.inside c.call.ensures.listed _ c.from_residual.result c.in_err-call.field-0.0 c.in_err-call.was exit c.call.ensures.err c.call.ensures.only c.call.ensures.cause

pub returns-in_err-reserve : goal.returns-in_err-reserve
returns-in_err-reserve c =
    let exit = err_from_is_err_and c.from_residual-in_err-reserve.result c.from_residual-in_err-reserve.ensures.1 in
    unmade c.call.result c.args.self.now c.call.new.self c.call.ensures.inside c.call.ensures.listed _ _ c.in_ok-call.was c.self.view_is c.in_ok-call.ensures.ok _ c.from_residual-in_err-reserve.result (record { start = c.self.inside.first; items = c.self.inside.kept; head = c.self.inside.head.items; metadata = c.self.inside.metadata.items; stable = c.self.inside.stable; ends = c.self.inside.ends.items; past = [] }) (record { start = c.self.inside.first; items = c.self.inside.kept; head = c.self.inside.head.items; metadata = c.self.inside.metadata.items; stable = c.self.inside.stable; ends = c.self.inside.ends.items; past = [] }) _ exit refl (ap reverse c.reserve.ensures.items) refl

pub returns-in_err-dropped : goal.returns-in_err-dropped
returns-in_err-dropped c =
    let exit = err_from_is_err_and c.from_residual-in_err-dropped.result c.from_residual-in_err-dropped.ensures.1 in
    unmade c.call.result c.args.self.now c.call.new.self c.call.ensures.inside c.call.ensures.listed _ _ c.in_ok-call.was c.self.view_is c.in_ok-call.ensures.ok _ c.from_residual-in_err-dropped.result (record { start = c.self.inside.first; items = c.self.inside.kept; head = c.self.inside.head.items; metadata = c.self.inside.metadata.items; stable = c.self.inside.stable; ends = c.self.inside.ends.items; past = [] }) (record { start = c.self.inside.first; items = c.self.inside.kept; head = c.self.inside.head.items; metadata = c.self.inside.metadata.items; stable = c.self.inside.stable; ends = c.self.inside.ends.items; past = [] }) _ exit refl (ap reverse c.reserve.ensures.items) refl

pub returns : goal.returns
returns c =
    let s = c.self.inside in
    come_off c.call.result c.args.self.now c.call.new.self c.call.ensures.inside c.call.ensures.listed _ _ c.in_ok-call.was c.self.view_is c.in_ok-call.ensures.ok destroyed emptying _ (record { start = c.self.inside.first; items = c.self.inside.kept; head = c.self.inside.head.items; metadata = c.self.inside.metadata.items; stable = c.self.inside.stable; ends = c.self.inside.ends.items; past = [] }) _
    (ap₂ {C = Stored} (λ items head. record { start = 0; items = items; head = head; metadata = c.replace-3.new.dest.items; stable = 0; ends = s.ends.items; past = [] }) (c.replace.ensures.after ∙ c.new-2.ensures) (ap (λ v. v.items) c.replace-2.ensures.after ∙ c.new-3.ensures.items) ∙ ap {B = Stored} (λ metadata. record { start = 0; items = []; head = []; metadata = metadata; stable = 0; ends = s.ends.items; past = [] }) (ap (λ v. v.items) c.replace-3.ensures.after ∙ c.new-4.ensures.items))
    (noted _ _ _ _ _ c.push_reserved.ensures.items c.reserve.ensures.items
    (ap₂ (λ items head. emptied (record { start = s.first; items = items; head = head; metadata = c.replace-3.result.items; stable = s.stable; ends = []; past = [] })) c.replace.ensures.value (ap (λ v. v.items) c.replace-2.ensures.value) ∙ ap (λ metadata. emptied (record { start = s.first; items = s.kept; head = s.head.items; metadata = metadata; stable = s.stable; ends = []; past = [] })) (ap (λ v. v.items) c.replace-3.ensures.value))) refl (λ cs s once. past-destroy cs s)
