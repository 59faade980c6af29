use Rattle.std.proofs.Common.{[], length, ◌∙◌, ◌+◌, min, max, reverse, refl, ap, ap₂}
use Rattle.std.proofs.lemmas.Result.{err_from_is_err_and}
use Rattle.qm_model.specs.StoreModel.{Stored, restarted}
use Rattle.qm_memory.specs.Changes.{restarted_from, restarting}
use Rattle.qm_memory.specs.Mem.{chosen}
use Rattle.qm_memory.proofs.Changes.{passed, past-restart}
use Rattle.qm_memory.proofs.Exits.{one_fits, inside_items, cut_fits, chosen_within, noted, uncounted, unmade, come_off}
use Rattle.qm_memory.proofs.mem_store.MemStoreStore.restart.Goals as goal

pub returns-in_err-call : goal.returns-in_err-call
returns-in_err-call c =
    let exit = err_from_is_err_and c.from_residual.result c.from_residual.ensures.1 in
    uncounted c.call.result c.args.self.now c.call.new.self c.call.ensures.inside c.call.ensures.listed _ c.from_residual.result c.in_err-call.field-0.0 c.in_err-call.was exit c.call.ensures.err c.call.ensures.only c.call.ensures.cause

pub returns-in_err-reserve : goal.returns-in_err-reserve
returns-in_err-reserve c =
    let exit = err_from_is_err_and c.from_residual-in_err-reserve.result c.from_residual-in_err-reserve.ensures.1 in
    unmade c.call.result c.args.self.now c.call.new.self c.call.ensures.inside c.call.ensures.listed _ _ c.in_ok-call.was c.self.view_is c.in_ok-call.ensures.ok _ c.from_residual-in_err-reserve.result (record { start = c.self.inside.first; items = c.self.inside.kept; head = c.self.inside.head.items; metadata = c.self.inside.metadata.items; stable = c.self.inside.stable; ends = c.self.inside.ends.items; past = [] }) (record { start = c.self.inside.first; items = c.self.inside.kept; head = c.self.inside.head.items; metadata = c.self.inside.metadata.items; stable = c.self.inside.stable; ends = c.self.inside.ends.items; past = [] }) _ exit refl (ap reverse c.reserve.ensures.items) refl

pub returns-in_err-behind : goal.returns-in_err-behind
returns-in_err-behind c =
    let exit = err_from_is_err_and c.from_residual-in_err-behind.result c.from_residual-in_err-behind.ensures.1 in
    unmade c.call.result c.args.self.now c.call.new.self c.call.ensures.inside c.call.ensures.listed _ _ c.in_ok-call.was c.self.view_is c.in_ok-call.ensures.ok _ c.from_residual-in_err-behind.result (record { start = c.self.inside.first; items = c.self.inside.kept; head = c.self.inside.head.items; metadata = c.self.inside.metadata.items; stable = c.self.inside.stable; ends = c.self.inside.ends.items; past = [] }) (record { start = c.self.inside.first; items = c.self.inside.kept; head = c.self.inside.head.items; metadata = c.self.inside.metadata.items; stable = c.self.inside.stable; ends = c.self.inside.ends.items; past = [] }) _ exit refl (ap reverse c.reserve.ensures.items) refl

pub returns-in_err-cut : goal.returns-in_err-cut
returns-in_err-cut c =
    let exit = err_from_is_err_and c.from_residual-in_err-cut.result c.from_residual-in_err-cut.ensures.1 in
    unmade c.call.result c.args.self.now c.call.new.self c.call.ensures.inside c.call.ensures.listed _ _ c.in_ok-call.was c.self.view_is c.in_ok-call.ensures.ok _ c.from_residual-in_err-cut.result (record { start = c.self.inside.first; items = c.self.inside.kept; head = c.self.inside.head.items; metadata = c.self.inside.metadata.items; stable = c.self.inside.stable; ends = c.self.inside.ends.items; past = [] }) (record { start = c.self.inside.first; items = c.self.inside.kept; head = c.self.inside.head.items; metadata = c.self.inside.metadata.items; stable = c.self.inside.stable; ends = c.self.inside.ends.items; past = [] }) _ exit refl (ap reverse c.reserve.ensures.items) refl

pub returns-in_err-push : goal.returns-in_err-push
returns-in_err-push c =
    let exit = err_from_is_err_and c.from_residual-in_err-push.result c.from_residual-in_err-push.ensures.1 in
    let s = c.self.inside in
    unmade c.call.result c.args.self.now c.call.new.self c.call.ensures.inside c.call.ensures.listed _ _ c.in_ok-call.was c.self.view_is c.in_ok-call.ensures.ok _ c.from_residual-in_err-push.result _ (record { start = c.self.inside.first; items = c.self.inside.kept; head = c.self.inside.head.items; metadata = c.self.inside.metadata.items; stable = c.self.inside.stable; ends = c.self.inside.ends.items; past = [] }) _ exit
    (ap {B = Stored} (λ ends. record { start = s.first; items = s.kept; head = s.head.items; metadata = s.metadata.items; stable = s.stable; ends = ends; past = [] }) c.in_err-push.ensures.items) (ap reverse c.reserve.ensures.items) refl

pub returns : goal.returns
returns c =
    let s = c.self.inside in
    let chose = c.max-to.ensures ∙ ap (max s.stable) (c.min.ensures ∙ ap (λ count. min (s.first + count) c.args.keep) c.len.ensures) in
    come_off c.call.result c.args.self.now c.call.new.self c.call.ensures.inside c.call.ensures.listed _ _ c.in_ok-call.was c.self.view_is c.in_ok-call.ensures.ok (λ s. restarted (chosen c.args.keep s) s) (λ s. restarting (chosen c.args.keep s) s) _ (record { start = c.self.inside.first; items = c.self.inside.kept; head = c.self.inside.head.items; metadata = c.self.inside.metadata.items; stable = c.self.inside.stable; ends = c.self.inside.ends.items; past = [] }) _
    (ap₂ {C = Stored} (λ items ends. record { start = s.first; items = items; head = s.head.items; metadata = s.metadata.items; stable = c.max-to.result; ends = ends; past = [] }) c.truncate.ensures c.in_ok-push.ensures.items ∙ ap (λ to. passed [] (restarted to (record { start = s.first; items = s.kept; head = s.head.items; metadata = s.metadata.items; stable = s.stable; ends = s.ends.items; past = [] }))) chose)
    (noted _ _ _ _ _ c.push_reserved.ensures.items c.reserve.ensures.items
    (ap (λ cut. restarted_from cut.items cut.stable) c.in_ok-cut.ensures.ok ∙ ap (λ items. restarted_from items s.stable) c.in_ok-behind.ensures ∙ ap (λ to. restarting to (record { start = s.first; items = s.kept; head = s.head.items; metadata = s.metadata.items; stable = s.stable; ends = s.ends.items; past = [] })) chose)) refl (λ cs s once. past-restart (chosen c.args.keep s) cs s)

pub overflow_sub-count : goal.overflow_sub-count
overflow_sub-count c = (chosen_within c.self.inside.first c.self.inside.stable (length c.self.inside.kept) c.args.keep c.len.result c.min.result c.max-to.result c.self.invariant.0 c.self.invariant.1 c.len.ensures c.min.ensures c.max-to.ensures).0

pub behind-requires : goal.behind-requires
behind-requires c = inside_items _ c.max-to.result _ (chosen_within c.self.inside.first c.self.inside.stable (length c.self.inside.kept) c.args.keep c.len.result c.min.result c.max-to.result c.self.invariant.0 c.self.invariant.1 c.len.ensures c.min.ensures c.max-to.ensures).1

pub truncate-requires : goal.truncate-requires
truncate-requires c = inside_items _ c.max-to.result _ (chosen_within c.self.inside.first c.self.inside.stable (length c.self.inside.kept) c.args.keep c.len.result c.min.result c.max-to.result c.self.invariant.0 c.self.invariant.1 c.len.ensures c.min.ensures c.max-to.ensures).1

pub invariant_of-self : goal.invariant_of-self
invariant_of-self c = c.self.invariant

pub invariant_of-self-2 : goal.invariant_of-self-2
invariant_of-self-2 c =
    let s = c.self.inside in
    let to = chosen_within c.self.inside.first c.self.inside.stable (length c.self.inside.kept) c.args.keep c.len.result c.min.result c.max-to.result c.self.invariant.0 c.self.invariant.1 c.len.ensures c.min.ensures c.max-to.ensures in
    let cut = cut_fits s.first c.max-to.result s.kept c.truncate.new.self c.truncate.ensures to.0 to.1 c.self.invariant.2 in
    (to.0, cut.0, cut.1, c.self.invariant.3)

pub push_reserved-requires : goal.push_reserved-requires
push_reserved-requires c = one_fits _ _ c.in_ok-reserve.ensures.ok
