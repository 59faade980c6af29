use Rattle.std.proofs.Common.{refl, inr, ◌≡◌, ◌∙◌, ap, sym, subst, None, IfSome}
use Rattle.std.specs.Prelude.{option_map}
use Rattle.std.specs.Option.{option_or}
use Rattle.qm_model.specs.Opening.{last_commit}
use Rattle.qm_model.specs.Refused as refusals
use Rattle.qm_model.proofs.Results.{ok-then, err-then, err-both}
use Rattle.qm_store.proofs.Stores.{both}
use Rattle.qm_store.specs.Refusals.{IsDue}
use Rattle.qm_open.specs.Selecting.{content_refusal, found_of, kept_items, layout_of, selected_view, up_to}
use Rattle.qm_open.specs.Unopened.{IsFailure}
use Rattle.qm_open.proofs.Refusing.{comes-to, due-first}
use Rattle.qm_open.proofs.Unopened.{early-found, found-kept, named-failure, zero-first}
use Rattle.qm_open.proofs.select.select_commit.Goals as goal

pub returns-clause-accepted : goal.returns-clause-accepted
returns-clause-accepted g c = λ shape digest_size threshold.
    let members = g.C.Store in
    let form = g.U.Update.form in
    let store = c.args.store.now in
    let pruned = c.args.pruned in
    let found = option_map selected_view c.in_ok-found.found in
    let told = members.told store in
    let known : IfSome told (λ s. (found ≡ last_commit s.start None (up_to c.args.bound s (kept_items form s))) × (s.start ≡ members.start store)) = both told c.in_ok-found.ensures.selected (g.met.C.Store.told_start store) (λ s chosen first. (chosen, first)) in
    both told known (g.met.C.Store.told_end store) (λ s is last.
    ok-then c.checked.result c.checked.ensures.chosen (λ at chosen.
    comes-to form shape digest_size s c.args.bound pruned c.bounds-start.result.0 c.bounds-start.result.1 found threshold (is.1 ∙ sym c.last_commit.ensures.kept.start ∙ sym c.bounds-start.ensures.starts) (last ∙ sym c.last_commit.ensures.kept.end ∙ sym c.bounds-start.ensures.ends)
    (sym c.is_zero.ensures ∙ c.if-is_zero.false) is.0
    ∙ ap (λ r. option_or r (content_refusal (layout_of form shape digest_size pruned) (found_of form s pruned) found)) chosen.1
    ∙ ap (λ a. content_refusal (layout_of form shape digest_size pruned) (found_of form s pruned) (option_map selected_view a)) (sym chosen.0)))

pub returns-clause-refused : goal.returns-clause-refused
returns-clause-refused g c = λ shape digest_size threshold.
    let members = g.C.Store in
    let form = g.U.Update.form in
    let store = c.args.store.now in
    let pruned = c.args.pruned in
    let found = option_map selected_view c.in_ok-found.found in
    let told = members.told store in
    let known : IfSome told (λ s. (found ≡ last_commit s.start None (up_to c.args.bound s (kept_items form s))) × (s.start ≡ members.start store)) = both told c.in_ok-found.ensures.selected (g.met.C.Store.told_start store) (λ s chosen first. (chosen, first)) in
    both told known (g.met.C.Store.told_end store) (λ s is last.
    err-then c.checked.result c.checked.ensures.refused (λ e due.
    subst (IsDue e)
    (sym (comes-to form shape digest_size s c.args.bound pruned c.bounds-start.result.0 c.bounds-start.result.1 found threshold (is.1 ∙ sym c.last_commit.ensures.kept.start ∙ sym c.bounds-start.ensures.starts) (last ∙ sym c.last_commit.ensures.kept.end ∙ sym c.bounds-start.ensures.ends)
    (sym c.is_zero.ensures ∙ c.if-is_zero.false) is.0))
    (due-first e _ (content_refusal (layout_of form shape digest_size pruned) (found_of form s pruned) found) due)))

pub returns-then-is_zero-clause-causes : goal.returns-then-is_zero-clause-causes
returns-then-is_zero-clause-causes g c = (None, tt, inr (inr (refusals.InvalidInitializationBound, refl, zero-first _ _ (sym c.is_zero.ensures ∙ c.if-is_zero.true))))

pub returns-clause-allowed : goal.returns-clause-allowed
returns-clause-allowed g c =
    let members = g.C.Store in
    let store = c.args.store.now in
    ok-then c.checked.result c.checked.ensures.chosen (λ at chosen.
    early-found c.args.pruned c.args.bound (members.start store) (members.«end» store) c.bounds-start.result.0 c.bounds-start.result.1 at c.in_ok-found.found
    (c.bounds-start.ensures.starts ∙ c.last_commit.ensures.kept.start) (c.bounds-start.ensures.ends ∙ c.last_commit.ensures.kept.«end») (sym c.is_zero.ensures ∙ c.if-is_zero.false) chosen.0
    ∙ chosen.1)

pub returns-clause-causes : goal.returns-clause-causes
returns-clause-causes g c =
    let members = g.C.Store in
    let store = c.args.store.now in
    let found = c.in_ok-found.found in
    let early = early-found c.args.pruned c.args.bound (members.start store) (members.«end» store) c.bounds-start.result.0 c.bounds-start.result.1 found found
    (c.bounds-start.ensures.starts ∙ c.last_commit.ensures.kept.start) (c.bounds-start.ensures.ends ∙ c.last_commit.ensures.kept.«end») (sym c.is_zero.ensures ∙ c.if-is_zero.false) refl in
    err-both c.checked.result c.checked.ensures.told c.checked.ensures.refused (λ e some due.
    (option_map selected_view found, found-kept (members.start store) (members.«end» store) found c.in_ok-found.ensures.within, subst (IsFailure e) (sym early) (named-failure e _ some due)))
