use Rattle.std.proofs.Common.{[], ◌≡◌, ◌∙◌, ◌∷◌, reverse, List, filter, not, refl, ap, ap₂, sym, subst}
use Rattle.std.proofs.lemmas.Result.{err_from_is_err_and}
use Rattle.qm_model.specs.StoreModel.{Named, Stored, with_metadata}
use Rattle.qm_memory.specs.Changes.{AreNamedOnce, putting}
use Rattle.std.specs.Prelude.{bytes_eq}
use Rattle.qm_memory.proofs.Changes.{once-put}
use Rattle.qm_memory.proofs.Changes.{past-put}
use Rattle.qm_memory.proofs.Exits.{one_fits, noted, uncounted, unmade, come_off}
use Rattle.qm_memory.proofs.mem_store.MemStoreStore.put_meta.Goals as goal

pub returns-in_err-call : goal.returns-in_err-call
returns-in_err-call c =
    let exit = err_from_is_err_and c.from_residual.result c.from_residual.ensures.1 in
    uncounted c.call.result c.args.self.now c.call.new.self c.call.ensures.inside c.call.ensures.listed _ c.from_residual.result c.in_err-call.field-0.0 c.in_err-call.was exit c.call.ensures.err c.call.ensures.only c.call.ensures.cause

pub returns-in_err-reserve : goal.returns-in_err-reserve
returns-in_err-reserve c =
    let exit = err_from_is_err_and c.from_residual-in_err-reserve.result c.from_residual-in_err-reserve.ensures.1 in
    unmade c.call.result c.args.self.now c.call.new.self c.call.ensures.inside c.call.ensures.listed _ _ c.in_ok-call.was c.self.view_is c.in_ok-call.ensures.ok _ c.from_residual-in_err-reserve.result (record { start = c.self.inside.first; items = c.self.inside.kept; head = c.self.inside.head.items; metadata = c.self.inside.metadata.items; stable = c.self.inside.stable; ends = c.self.inside.ends.items; past = [] }) (record { start = c.self.inside.first; items = c.self.inside.kept; head = c.self.inside.head.items; metadata = c.self.inside.metadata.items; stable = c.self.inside.stable; ends = c.self.inside.ends.items; past = [] }) _ exit refl (ap reverse c.reserve.ensures.items) refl

pub returns-in_err-reserve-2 : goal.returns-in_err-reserve-2
returns-in_err-reserve-2 c =
    let exit = err_from_is_err_and c.from_residual-in_err-reserve-2.result c.from_residual-in_err-reserve-2.ensures.1 in
    let s = c.self.inside in
    unmade c.call.result c.args.self.now c.call.new.self c.call.ensures.inside c.call.ensures.listed _ _ c.in_ok-call.was c.self.view_is c.in_ok-call.ensures.ok _ c.from_residual-in_err-reserve-2.result _ (record { start = c.self.inside.first; items = c.self.inside.kept; head = c.self.inside.head.items; metadata = c.self.inside.metadata.items; stable = c.self.inside.stable; ends = c.self.inside.ends.items; past = [] }) _ exit
    (ap {B = Stored} (λ metadata. record { start = s.first; items = s.kept; head = s.head.items; metadata = metadata; stable = s.stable; ends = s.ends.items; past = [] }) c.reserve-2.ensures.items) (ap reverse c.reserve.ensures.items) refl

pub returns-in_err-named : goal.returns-in_err-named
returns-in_err-named c =
    let exit = err_from_is_err_and c.from_residual-in_err-named.result c.from_residual-in_err-named.ensures.1 in
    let s = c.self.inside in
    unmade c.call.result c.args.self.now c.call.new.self c.call.ensures.inside c.call.ensures.listed _ _ c.in_ok-call.was c.self.view_is c.in_ok-call.ensures.ok _ c.from_residual-in_err-named.result _ (record { start = c.self.inside.first; items = c.self.inside.kept; head = c.self.inside.head.items; metadata = c.self.inside.metadata.items; stable = c.self.inside.stable; ends = c.self.inside.ends.items; past = [] }) _ exit
    (ap {B = Stored} (λ metadata. record { start = s.first; items = s.kept; head = s.head.items; metadata = metadata; stable = s.stable; ends = s.ends.items; past = [] }) c.reserve-2.ensures.items) (ap reverse c.reserve.ensures.items) refl

pub returns-in_err-change : goal.returns-in_err-change
returns-in_err-change c =
    let exit = err_from_is_err_and c.from_residual-in_err-change.result c.from_residual-in_err-change.ensures.1 in
    let s = c.self.inside in
    unmade c.call.result c.args.self.now c.call.new.self c.call.ensures.inside c.call.ensures.listed _ _ c.in_ok-call.was c.self.view_is c.in_ok-call.ensures.ok _ c.from_residual-in_err-change.result _ (record { start = c.self.inside.first; items = c.self.inside.kept; head = c.self.inside.head.items; metadata = c.self.inside.metadata.items; stable = c.self.inside.stable; ends = c.self.inside.ends.items; past = [] }) _ exit
    (ap {B = Stored} (λ metadata. record { start = s.first; items = s.kept; head = s.head.items; metadata = metadata; stable = s.stable; ends = s.ends.items; past = [] }) (c.in_err-change.ensures.err ∙ c.reserve-2.ensures.items)) (ap reverse c.reserve.ensures.items) refl

-- what was put stands before the rest
put : (c : goal.After-push_reserved) → c.insert.new.self.items ≡ record { name = c.args.name.now; entries = c.args.entries.now } ∷ filter (λ m. not (bytes_eq c.args.name.now m.name)) c.self.inside.metadata.items
put c =
    let others = λ (ms : List Named). filter (λ m. not (bytes_eq c.args.name.now m.name)) ms in
    rw c.unwrap.ensures at c.insert.ensures.items ∙ ap₂ {C = List Named} (λ m ms. m ∷ ms) c.in_ok-named.ensures (c.in_ok-change.ensures.rest ∙ ap others c.reserve-2.ensures.items)

pub returns : goal.returns
returns c =
    let s = c.self.inside in
    come_off c.call.result c.args.self.now c.call.new.self c.call.ensures.inside c.call.ensures.listed _ _ c.in_ok-call.was c.self.view_is c.in_ok-call.ensures.ok (with_metadata c.args.name.now c.args.entries.now) (λ s. putting c.args.name.now s.metadata) _ (record { start = c.self.inside.first; items = c.self.inside.kept; head = c.self.inside.head.items; metadata = c.self.inside.metadata.items; stable = c.self.inside.stable; ends = c.self.inside.ends.items; past = [] }) _
    (ap {B = Stored} (λ metadata. record { start = s.first; items = s.kept; head = s.head.items; metadata = metadata; stable = s.stable; ends = s.ends.items; past = [] }) (put c))
    (noted _ _ _ _ _ c.push_reserved.ensures.items c.reserve.ensures.items
    (c.in_ok-change.ensures.change ∙ ap (putting c.args.name.now) c.reserve-2.ensures.items)) refl (λ cs s once. past-put c.args.name.now c.args.entries.now cs s once)

pub invariant_of-self-2 : goal.invariant_of-self-2
invariant_of-self-2 c =
    let s = c.self.invariant in
    (s.0, s.1, s.2, subst AreNamedOnce (sym (put c)) (once-put c.args.name.now c.args.entries.now c.self.inside.metadata.items s.3))

pub take_out-requires : goal.take_out-requires
take_out-requires c = subst AreNamedOnce (sym c.reserve-2.ensures.items) c.self.invariant.3

pub invariant_of-self : goal.invariant_of-self
invariant_of-self c = c.self.invariant

pub push_reserved-requires : goal.push_reserved-requires
push_reserved-requires c = one_fits _ _ c.in_ok-reserve.ensures.ok
