use Rattle.std.proofs.Common.{[], ◌≡◌, ◌∙◌, ◌+◌, ◌^◌, ◌≤◌, ℕ, length, map, reverse, refl, ap, sym, subst, arith}
use Rattle.std.proofs.lemmas.List.{length-append, length-map}
use Rattle.std.proofs.lemmas.Result.{err_from_is_err_and}
use Rattle.qm_model.specs.StoreModel.{Stored, appended, end_of}
use Rattle.qm_memory.specs.Changes.{grew, appending}
use Rattle.qm_memory.specs.Mem.{Mem}
use Rattle.qm_memory.proofs.Changes.{past-append}
use Rattle.qm_memory.proofs.Exits.{noted, uncounted, unmade, come_off}
use Rattle.qm_memory.proofs.mem_store.MemStoreStore.append.Goals as goal

pub returns-in_err-call : goal.returns-in_err-call
returns-in_err-call c =
    let exit = err_from_is_err_and c.from_residual.result c.from_residual.ensures.1 in
    uncounted c.call.result c.args.self.now c.call.new.self c.call.ensures.inside c.call.ensures.listed _ c.from_residual.result c.in_err-call.field-0.0 c.in_err-call.was exit c.call.ensures.err c.call.ensures.only c.call.ensures.cause

pub returns-in_err-reserve : goal.returns-in_err-reserve
returns-in_err-reserve c =
    let exit = err_from_is_err_and c.from_residual-in_err-reserve.result c.from_residual-in_err-reserve.ensures.1 in
    unmade c.call.result c.args.self.now c.call.new.self c.call.ensures.inside c.call.ensures.listed _ _ c.in_ok-call.was c.self.view_is c.in_ok-call.ensures.ok _ c.from_residual-in_err-reserve.result (record { start = c.self.inside.first; items = c.self.inside.kept; head = c.self.inside.head.items; metadata = c.self.inside.metadata.items; stable = c.self.inside.stable; ends = c.self.inside.ends.items; past = [] }) (record { start = c.self.inside.first; items = c.self.inside.kept; head = c.self.inside.head.items; metadata = c.self.inside.metadata.items; stable = c.self.inside.stable; ends = c.self.inside.ends.items; past = [] }) _ exit refl (ap reverse c.reserve.ensures.items) refl

pub returns-in_err-append : goal.returns-in_err-append
returns-in_err-append c =
    let exit = err_from_is_err_and c.from_residual-in_err-append.result c.from_residual-in_err-append.ensures.1 in
    let s = c.self.inside in
    unmade c.call.result c.args.self.now c.call.new.self c.call.ensures.inside c.call.ensures.listed _ _ c.in_ok-call.was c.self.view_is c.in_ok-call.ensures.ok _ c.from_residual-in_err-append.result _ (record { start = c.self.inside.first; items = c.self.inside.kept; head = c.self.inside.head.items; metadata = c.self.inside.metadata.items; stable = c.self.inside.stable; ends = c.self.inside.ends.items; past = [] }) _ exit
    (ap {B = Stored} (λ items. record { start = s.first; items = items; head = s.head.items; metadata = s.metadata.items; stable = s.stable; ends = s.ends.items; past = [] }) c.in_err-append.ensures.err) (ap reverse c.reserve.ensures.items) refl

pub returns : goal.returns
returns c =
    let s = c.self.inside in
    come_off c.call.result c.args.self.now c.call.new.self c.call.ensures.inside c.call.ensures.listed _ _ c.in_ok-call.was c.self.view_is c.in_ok-call.ensures.ok (appended (map (λ v. v.items) c.args.added.now)) (appending (map (λ v. v.items) c.args.added.now)) _ (record { start = c.self.inside.first; items = c.self.inside.kept; head = c.self.inside.head.items; metadata = c.self.inside.metadata.items; stable = c.self.inside.stable; ends = c.self.inside.ends.items; past = [] }) _
    (ap {B = Stored} (λ items. record { start = s.first; items = items; head = s.head.items; metadata = s.metadata.items; stable = s.stable; ends = s.ends.items; past = [] }) c.in_ok-append.ensures.ok)
    (noted _ _ _ _ _ c.push_reserved.ensures.items c.reserve.ensures.items (ap grew (sym (length-map c.args.added.now (λ v. v.items))))) refl (λ cs s once. past-append (map (λ v. v.items) c.args.added.now) cs s)

-- what the items have become ends within the limit
within : (first stable count more new limit : ℕ) → stable ≤ first + count → first + count + more ≤ limit → new ≡ count + more → (stable ≤ first + new) × (first + new ≤ limit)
within first stable count more new limit inside room is = (omega arith, omega arith)

pub invariant_of-self-2 : goal.invariant_of-self-2
invariant_of-self-2 c =
    let s = c.self.inside in
    let same = sym (c.self.view_is ∙ c.in_ok-call.ensures.ok) in
    let added = length c.args.added.now in
    let count = ap length c.in_ok-append.ensures.ok ∙ length-append s.kept (map (λ v. v.items) c.args.added.now) ∙ ap (λ n. length s.kept + n) (length-map c.args.added.now (λ v. v.items)) in
    let rest = within s.first s.stable (length s.kept) added (length c.append.new.self) (2 ^ 62) c.self.invariant.1 (subst (λ (m : Mem). end_of m.held + added ≤ 2 ^ 62) same c.requires.room) count in
    (c.self.invariant.0, rest.0, rest.1, c.self.invariant.3)
