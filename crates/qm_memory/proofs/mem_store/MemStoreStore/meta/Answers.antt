use Rattle.std.proofs.Common.{◌∙◌, ap, Ok}
use Rattle.std.proofs.lemmas.Result.{IfOk-from_err, err_from_is_err_and}
use Rattle.qm_model.specs.StoreModel.{Stored, metadata_in}
use Rattle.qm_memory.specs.Mem.{Mem}
use Rattle.qm_memory.proofs.Exits.{asked, unanswered, unasked}
use Rattle.qm_memory.proofs.mem_store.MemStoreStore.meta.Goals as goal

pub returns-in_err-call : goal.returns-in_err-call
returns-in_err-call c =
    let exit = err_from_is_err_and c.from_residual.result c.from_residual.ensures.1 in
    let told = unasked c.call.result c.args.self.now c.call.new.self c.call.ensures.listed c.from_residual.result c.in_err-call.field-0.0 c.in_err-call.was exit c.call.ensures.err c.call.ensures.only c.call.ensures.cause in
    record { value = IfOk-from_err c.from_residual.result _ c.from_residual.ensures.0; same = told.same; cause = told.cause; fails = told.fails; fault = told.fault; other = told.other }

pub returns-in_err-entries_of : goal.returns-in_err-entries_of
returns-in_err-entries_of c =
    let exit = err_from_is_err_and c.from_residual-in_err-entries_of.result c.from_residual-in_err-entries_of.ensures.1 in
    let told = unanswered c.call.result c.args.self.now c.call.new.self c.call.ensures.listed c.from_residual-in_err-entries_of.result _ c.in_ok-call.was c.in_ok-call.ensures.ok exit in
    record { value = IfOk-from_err c.from_residual-in_err-entries_of.result _ c.from_residual-in_err-entries_of.ensures.0; same = told.same; cause = told.cause; fails = told.fails; fault = told.fault; other = told.other }

pub returns : goal.returns
returns c =
    let told = asked c.call.result c.args.self.now c.call.new.self c.call.ensures.listed (Ok c.in_ok-entries_of.field-0) _ c.in_ok-call.was c.in_ok-call.ensures.ok (λ fault. absurd cc) in
    let held = ap (λ (m : Mem). m.held) (c.self.view_is ∙ c.in_ok-call.ensures.ok) in
    record { value = c.in_ok-entries_of.ensures ∙ ap (λ ms. metadata_in ms c.args.name.now) (c.deref.ensures.value ∙ ap (λ (s : Stored). s.metadata) held); same = told.same; cause = told.cause; fails = told.fails; fault = told.fault; other = told.other }
