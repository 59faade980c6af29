use Rattle.std.proofs.Common.{[], ◌≡◌, ◌∙◌, ◌+◌, ◌-◌, ◌^◌, ◌≤◌, ℕ, length, reverse, refl, ap, ap₂, sym, subst, arith}
use Rattle.std.proofs.lemmas.List.{length-drop}
use Rattle.std.proofs.lemmas.Result.{err_from_is_err_and}
use Rattle.qm_model.specs.StoreModel.{Stored, pruned, end_of}
use Rattle.qm_memory.specs.Changes.{pruned_from, pruning}
use Rattle.qm_memory.specs.Mem.{Mem}
use Rattle.qm_memory.proofs.Changes.{past-prune}
use Rattle.qm_memory.proofs.Exits.{one_fits, inside_items, noted, uncounted, unmade, come_off}
use Rattle.qm_memory.proofs.mem_store.MemStoreStore.prune.Goals as goal

pub returns-in_err-call : goal.returns-in_err-call
returns-in_err-call c =
    let exit = err_from_is_err_and c.from_residual.result c.from_residual.ensures.1 in
    uncounted c.call.result c.args.self.now c.call.new.self c.call.ensures.inside c.call.ensures.listed _ c.from_residual.result c.in_err-call.field-0.0 c.in_err-call.was exit c.call.ensures.err c.call.ensures.only c.call.ensures.cause

pub returns-in_err-reserve : goal.returns-in_err-reserve
returns-in_err-reserve c =
    let exit = err_from_is_err_and c.from_residual-in_err-reserve.result c.from_residual-in_err-reserve.ensures.1 in
    unmade c.call.result c.args.self.now c.call.new.self c.call.ensures.inside c.call.ensures.listed _ _ c.in_ok-call.was c.self.view_is c.in_ok-call.ensures.ok _ c.from_residual-in_err-reserve.result (record { start = c.self.inside.first; items = c.self.inside.kept; head = c.self.inside.head.items; metadata = c.self.inside.metadata.items; stable = c.self.inside.stable; ends = c.self.inside.ends.items; past = [] }) (record { start = c.self.inside.first; items = c.self.inside.kept; head = c.self.inside.head.items; metadata = c.self.inside.metadata.items; stable = c.self.inside.stable; ends = c.self.inside.ends.items; past = [] }) _ exit refl (ap reverse c.reserve.ensures.items) refl

pub returns-in_err-head : goal.returns-in_err-head
returns-in_err-head c =
    let exit = err_from_is_err_and c.from_residual-in_err-head.result c.from_residual-in_err-head.ensures.1 in
    unmade c.call.result c.args.self.now c.call.new.self c.call.ensures.inside c.call.ensures.listed _ _ c.in_ok-call.was c.self.view_is c.in_ok-call.ensures.ok _ c.from_residual-in_err-head.result (record { start = c.self.inside.first; items = c.self.inside.kept; head = c.self.inside.head.items; metadata = c.self.inside.metadata.items; stable = c.self.inside.stable; ends = c.self.inside.ends.items; past = [] }) (record { start = c.self.inside.first; items = c.self.inside.kept; head = c.self.inside.head.items; metadata = c.self.inside.metadata.items; stable = c.self.inside.stable; ends = c.self.inside.ends.items; past = [] }) _ exit refl (ap reverse c.reserve.ensures.items) refl

pub returns-in_err-first : goal.returns-in_err-first
returns-in_err-first c =
    let exit = err_from_is_err_and c.from_residual-in_err-first.result c.from_residual-in_err-first.ensures.1 in
    unmade c.call.result c.args.self.now c.call.new.self c.call.ensures.inside c.call.ensures.listed _ _ c.in_ok-call.was c.self.view_is c.in_ok-call.ensures.ok _ c.from_residual-in_err-first.result (record { start = c.self.inside.first; items = c.self.inside.kept; head = c.self.inside.head.items; metadata = c.self.inside.metadata.items; stable = c.self.inside.stable; ends = c.self.inside.ends.items; past = [] }) (record { start = c.self.inside.first; items = c.self.inside.kept; head = c.self.inside.head.items; metadata = c.self.inside.metadata.items; stable = c.self.inside.stable; ends = c.self.inside.ends.items; past = [] }) _ exit refl (ap reverse c.reserve.ensures.items) refl

pub returns-in_err-pruned : goal.returns-in_err-pruned
returns-in_err-pruned c =
    let exit = err_from_is_err_and c.from_residual-in_err-pruned.result c.from_residual-in_err-pruned.ensures.1 in
    unmade c.call.result c.args.self.now c.call.new.self c.call.ensures.inside c.call.ensures.listed _ _ c.in_ok-call.was c.self.view_is c.in_ok-call.ensures.ok _ c.from_residual-in_err-pruned.result (record { start = c.self.inside.first; items = c.self.inside.kept; head = c.self.inside.head.items; metadata = c.self.inside.metadata.items; stable = c.self.inside.stable; ends = c.self.inside.ends.items; past = [] }) (record { start = c.self.inside.first; items = c.self.inside.kept; head = c.self.inside.head.items; metadata = c.self.inside.metadata.items; stable = c.self.inside.stable; ends = c.self.inside.ends.items; past = [] }) _ exit refl (ap reverse c.reserve.ensures.items) refl

pub returns : goal.returns
returns c =
    let s = c.self.inside in
    come_off c.call.result c.args.self.now c.call.new.self c.call.ensures.inside c.call.ensures.listed _ _ c.in_ok-call.was c.self.view_is c.in_ok-call.ensures.ok (pruned c.args.to c.args.head.now) (pruning c.args.to) _ (record { start = c.self.inside.first; items = c.self.inside.kept; head = c.self.inside.head.items; metadata = c.self.inside.metadata.items; stable = c.self.inside.stable; ends = c.self.inside.ends.items; past = [] }) _
    (ap₂ {C = Stored} (λ items head. record { start = c.args.to; items = items; head = head; metadata = s.metadata.items; stable = s.stable; ends = s.ends.items; past = [] }) c.remove_first.ensures
    (ap (λ v. v.items) c.replace.ensures.after ∙ c.in_ok-head.ensures.items_if_clones_equal (λ x y same. same)))
    (noted _ _ _ _ _ c.push_reserved.ensures.items c.reserve.ensures.items
    (ap₂ (λ p head. pruned_from p.start head p.items) (c.deref_mut.ensures.value ∙ c.in_ok-pruned.ensures.ok) (ap (λ v. v.items) c.replace.ensures.value) ∙ ap (pruned_from s.first s.head.items) c.in_ok-first.ensures)) refl (λ cs s once. past-prune c.args.to c.args.head.now cs s)

-- what is left of the items ends within the limit
within : (start to stable count rest : ℕ) → start ≤ to → to ≤ stable → stable ≤ start + count → start + count ≤ 2 ^ 62 → rest ≡ count - (to - start) → (stable ≤ to + rest) × (to + rest ≤ 2 ^ 62)
within start to stable count rest from before inside limit is = (omega arith, omega arith)

pub invariant_of-self-2 : goal.invariant_of-self-2
invariant_of-self-2 c =
    let s = c.self.inside in
    let same = sym (c.self.view_is ∙ c.in_ok-call.ensures.ok) in
    let stable : c.args.to ≤ s.stable = subst (λ m. c.args.to ≤ m.held.stable) same c.requires.stable in
    let rest = within s.first c.args.to s.stable (length s.kept) (length c.remove_first.new.self) (subst (λ m. m.held.start ≤ c.args.to) same c.requires.from) stable c.self.invariant.1 c.self.invariant.2 (ap length c.remove_first.ensures ∙ length-drop (c.args.to - s.first) s.kept) in
    (stable, rest.0, rest.1, c.self.invariant.3)

pub overflow_sub-count : goal.overflow_sub-count
overflow_sub-count c = subst (λ (m : Mem). m.held.start ≤ c.args.to) (sym (c.self.view_is ∙ c.in_ok-call.ensures.ok)) c.requires.from

pub first-requires : goal.first-requires
first-requires c = inside_items _ c.args.to _ (subst (λ (m : Mem). c.args.to ≤ end_of m.held) (sym (c.self.view_is ∙ c.in_ok-call.ensures.ok)) c.requires.before)

pub remove_first-requires : goal.remove_first-requires
remove_first-requires c = inside_items _ c.args.to _ (subst (λ (m : Mem). c.args.to ≤ end_of m.held) (sym (c.self.view_is ∙ c.in_ok-call.ensures.ok)) c.requires.before)

pub invariant_of-self : goal.invariant_of-self
invariant_of-self c = c.self.invariant

pub push_reserved-requires : goal.push_reserved-requires
push_reserved-requires c = one_fits _ _ c.in_ok-reserve.ensures.ok
