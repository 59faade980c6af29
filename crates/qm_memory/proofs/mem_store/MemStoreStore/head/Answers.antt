use Rattle.std.proofs.Common.{◌∙◌, ap, Ok}
use Rattle.std.proofs.lemmas.Result.{IfOk-from_err, err_from_is_err_and}
use Rattle.qm_model.specs.StoreModel.{Stored}
use Rattle.qm_memory.specs.Mem.{Mem}
use Rattle.qm_memory.proofs.Exits.{asked, unanswered, unasked}
use Rattle.qm_memory.proofs.mem_store.MemStoreStore.head.Goals as goal

pub returns-in_err-call : goal.returns-in_err-call
returns-in_err-call c =
    let exit = err_from_is_err_and c.from_residual.result c.from_residual.ensures.1 in
    let told = unasked c.call.result c.args.self.now c.call.new.self c.call.ensures.listed c.from_residual.result c.in_err-call.field-0.0 c.in_err-call.was exit c.call.ensures.err c.call.ensures.only c.call.ensures.cause in
    record { value = IfOk-from_err c.from_residual.result _ c.from_residual.ensures.0; same = told.same; cause = told.cause; fails = told.fails; fault = told.fault; other = told.other }

pub returns-in_err-to_vec : goal.returns-in_err-to_vec
returns-in_err-to_vec c =
    let exit = err_from_is_err_and c.from_residual-in_err-to_vec.result c.from_residual-in_err-to_vec.ensures.1 in
    let told = unanswered c.call.result c.args.self.now c.call.new.self c.call.ensures.listed c.from_residual-in_err-to_vec.result _ c.in_ok-call.was c.in_ok-call.ensures.ok exit in
    record { value = IfOk-from_err c.from_residual-in_err-to_vec.result _ c.from_residual-in_err-to_vec.ensures.0; same = told.same; cause = told.cause; fails = told.fails; fault = told.fault; other = told.other }

pub returns : goal.returns
returns c =
    let told = asked c.call.result c.args.self.now c.call.new.self c.call.ensures.listed (Ok c.in_ok-to_vec.field-0) _ c.in_ok-call.was c.in_ok-call.ensures.ok (λ fault. absurd cc) in
    let held = ap (λ (m : Mem). m.held) (c.self.view_is ∙ c.in_ok-call.ensures.ok) in
    record { value = c.in_ok-to_vec.ensures.items_if_clones_equal (λ x y same. same) ∙ c.as_slice.ensures.value ∙ ap (λ (s : Stored). s.head) held; same = told.same; cause = told.cause; fails = told.fails; fault = told.fault; other = told.other }
