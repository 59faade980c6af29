use Rattle.std.proofs.Common.{[], ◌∙◌, ◌≤◌, sym, subst, reverse, refl, ap, ap₂}
use Rattle.std.proofs.lemmas.Result.{err_from_is_err_and}
use Rattle.qm_model.specs.StoreModel.{Stored, rewound, end_of}
use Rattle.qm_memory.specs.Changes.{rewound_from, rewinding}
use Rattle.qm_memory.specs.Mem.{Mem}
use Rattle.qm_memory.proofs.Changes.{past-rewind}
use Rattle.qm_memory.proofs.Exits.{one_fits, inside_items, noted, uncounted, unmade, come_off}
use Rattle.qm_memory.proofs.mem_store.MemStoreStore.rewind.Goals as goal

pub returns-in_err-call : goal.returns-in_err-call
returns-in_err-call c =
    let exit = err_from_is_err_and c.from_residual.result c.from_residual.ensures.1 in
    uncounted c.call.result c.args.self.now c.call.new.self c.call.ensures.inside c.call.ensures.listed _ c.from_residual.result c.in_err-call.field-0.0 c.in_err-call.was exit c.call.ensures.err c.call.ensures.only c.call.ensures.cause

pub returns-in_err-reserve : goal.returns-in_err-reserve
returns-in_err-reserve c =
    let exit = err_from_is_err_and c.from_residual-in_err-reserve.result c.from_residual-in_err-reserve.ensures.1 in
    unmade c.call.result c.args.self.now c.call.new.self c.call.ensures.inside c.call.ensures.listed _ _ c.in_ok-call.was c.self.view_is c.in_ok-call.ensures.ok _ c.from_residual-in_err-reserve.result (record { start = c.self.inside.first; items = c.self.inside.kept; head = c.self.inside.head.items; metadata = c.self.inside.metadata.items; stable = c.self.inside.stable; ends = c.self.inside.ends.items; past = [] }) (record { start = c.self.inside.first; items = c.self.inside.kept; head = c.self.inside.head.items; metadata = c.self.inside.metadata.items; stable = c.self.inside.stable; ends = c.self.inside.ends.items; past = [] }) _ exit refl (ap reverse c.reserve.ensures.items) refl

pub returns-in_err-behind : goal.returns-in_err-behind
returns-in_err-behind c =
    let exit = err_from_is_err_and c.from_residual-in_err-behind.result c.from_residual-in_err-behind.ensures.1 in
    unmade c.call.result c.args.self.now c.call.new.self c.call.ensures.inside c.call.ensures.listed _ _ c.in_ok-call.was c.self.view_is c.in_ok-call.ensures.ok _ c.from_residual-in_err-behind.result (record { start = c.self.inside.first; items = c.self.inside.kept; head = c.self.inside.head.items; metadata = c.self.inside.metadata.items; stable = c.self.inside.stable; ends = c.self.inside.ends.items; past = [] }) (record { start = c.self.inside.first; items = c.self.inside.kept; head = c.self.inside.head.items; metadata = c.self.inside.metadata.items; stable = c.self.inside.stable; ends = c.self.inside.ends.items; past = [] }) _ exit refl (ap reverse c.reserve.ensures.items) refl

pub returns-in_err-cut : goal.returns-in_err-cut
returns-in_err-cut c =
    let exit = err_from_is_err_and c.from_residual-in_err-cut.result c.from_residual-in_err-cut.ensures.1 in
    unmade c.call.result c.args.self.now c.call.new.self c.call.ensures.inside c.call.ensures.listed _ _ c.in_ok-call.was c.self.view_is c.in_ok-call.ensures.ok _ c.from_residual-in_err-cut.result (record { start = c.self.inside.first; items = c.self.inside.kept; head = c.self.inside.head.items; metadata = c.self.inside.metadata.items; stable = c.self.inside.stable; ends = c.self.inside.ends.items; past = [] }) (record { start = c.self.inside.first; items = c.self.inside.kept; head = c.self.inside.head.items; metadata = c.self.inside.metadata.items; stable = c.self.inside.stable; ends = c.self.inside.ends.items; past = [] }) _ exit refl (ap reverse c.reserve.ensures.items) refl

pub returns : goal.returns
returns c =
    let s = c.self.inside in
    come_off c.call.result c.args.self.now c.call.new.self c.call.ensures.inside c.call.ensures.listed _ _ c.in_ok-call.was c.self.view_is c.in_ok-call.ensures.ok (rewound c.args.to) (rewinding c.args.to) _ (record { start = c.self.inside.first; items = c.self.inside.kept; head = c.self.inside.head.items; metadata = c.self.inside.metadata.items; stable = c.self.inside.stable; ends = c.self.inside.ends.items; past = [] }) _
    (ap₂ {C = Stored} (λ items stable. record { start = s.first; items = items; head = s.head.items; metadata = s.metadata.items; stable = stable; ends = s.ends.items; past = [] }) c.truncate.ensures c.min-self-inside.ensures)
    (noted _ _ _ _ _ c.push_reserved.ensures.items c.reserve.ensures.items
    (ap (λ cut. rewound_from cut.items cut.stable) c.in_ok-cut.ensures.ok ∙ ap (λ items. rewound_from items s.stable) c.in_ok-behind.ensures)) refl (λ cs s once. past-rewind c.args.to cs s)

pub invariant_of-self : goal.invariant_of-self
invariant_of-self c = c.self.invariant

pub push_reserved-requires : goal.push_reserved-requires
push_reserved-requires c = one_fits _ _ c.in_ok-reserve.ensures.ok

pub overflow_sub-count : goal.overflow_sub-count
overflow_sub-count c = subst (λ (m : Mem). m.held.start ≤ c.args.to) (sym (c.self.view_is ∙ c.in_ok-call.ensures.ok)) c.requires.from

pub behind-requires : goal.behind-requires
behind-requires c = inside_items _ c.args.to _ (subst (λ (m : Mem). c.args.to ≤ end_of m.held) (sym (c.self.view_is ∙ c.in_ok-call.ensures.ok)) c.requires.before)

pub truncate-requires : goal.truncate-requires
truncate-requires c = inside_items _ c.args.to _ (subst (λ (m : Mem). c.args.to ≤ end_of m.held) (sym (c.self.view_is ∙ c.in_ok-call.ensures.ok)) c.requires.before)
