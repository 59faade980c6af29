use Rattle.std.proofs.Common.{◌≡◌, inl, inr, arith, subst, subst₂, ◌∙◌, ap, refl, sym, Some, None, Err}
use Rattle.std.specs.Prelude.{option_map}
use Rattle.qm_model.specs.Opening.{size_of}
use Rattle.qm_model.specs.Taken.{selected_size, LeavesOpening}
use Rattle.qm_open.specs.Selecting.{refusal_at, refusal_up_to, selected_view}
use Rattle.qm_model.proofs.Results.{err-then}
use Rattle.qm_open.specs.Unopened.{early_refusal, IsUnselected}
use Rattle.qm_open.proofs.Checking.{each-known, known-at}
use Rattle.qm_any.specs.Layouts.{hashing_of, layout_of}
use Rattle.qm_any.specs.Offered.{scheme_of}
use Rattle.qm_any.specs.Opening.{pruned_view}
use Rattle.qm_any.proofs.Opened.{opens-behind}
use Rattle.qm_any.proofs.Restoring.{accepted-at, few-seen, selects-same, threshold-seen, so-pruned, none-pruned, told_chunks}
use Rattle.qm_offer.specs.Crashing.{FailsOpening}
use Rattle.qm_any.proofs.Taking.{fails-whole, leaves-whole, turns-kept}
use Rattle.qm_any.proofs.open.init_with.Goals as goal

pub select_commit-requires : goal.select_commit-requires
select_commit-requires g c = record { few = few-seen g.N.Chunks.LEN g.met.N.Chunks.power g.met.N.Chunks.most c.args.pruned c.pruned_bits.result c.pruned_bits.ensures c.requires.few }

pub open_list-requires-clause-told : goal.open_list-requires-clause-told
open_list-requires-clause-told g c = λ κs lives.
    each-known (g.C.Store.told c.select_commit.new.store) (λ s is.
    known-at _ c.in-Ok-Some.field-0 _ c.in-Ok-Some.field-0-is (known-at _ (g.C.Store.told c.args.store) s (sym c.select_commit.ensures.kept.told ∙ is) c.in-Ok-Some.ensures.floor))

pub returns-in-Ok-Some-clause-opens : goal.returns-in-Ok-Some-clause-opens
returns-in-Ok-Some-clause-opens g c =
    let form = g.U.Update.form in
    let shape = g.F.Family.shape in
    let digest = g.H.Digest.Digest.SIZE in
    let told = g.C.Store.told c.args.store in
    let selected = c.in-Ok-Some.selected in
    let seen = threshold-seen g.N.Chunks.LEN shape c.args.pruned c.requires.threshold in
    let accepted = accepted-at form told c.args.max_size shape digest _ _ _ _ c.pruned_bits.ensures c.in-Ok-Some.field-0-is seen c.in-Ok-Some.ensures.accepted in
    let named = ap (option_map selected_view) (sym c.in-Ok-Some.field-0-is) in
    let hashing = hashing_of g.H.Digest.Digest.bytes g.H.Hasher g.F.Family g.U.Update in
    opens-behind g.C.Store (layout_of g.N.Chunks.LEN g.H.Digest.Digest.bytes g.H.Hasher g.F.Family g.U.Update g.I.Unordered) digest c.args.store c.select_commit.new.store
    c.select_commit.ensures.kept c.select_commit.ensures.cause.later
    (refusal_up_to form shape digest (option_map (pruned_view g.N.Chunks.LEN) c.args.pruned) c.args.max_size) (refusal_at form shape digest (Some (selected_view selected)))
    (λ s is. known-at _ told s is accepted)
    (selected_size (scheme_of digest hashing) c.args.max_size) (λ s. selected.size)
    (λ s is. sym (ap size_of (named ∙ known-at _ told s is c.in-Ok-Some.ensures.chosen ∙ selects-same form s c.pruned_bits.result c.args.max_size)))
    (told_chunks g.N.Chunks.LEN c.args.pruned) (Some c.chunks_below-chunks.result)
    (λ n is. so-pruned g.N.Chunks.LEN c.args.pruned n c.chunks_below-chunks.result is c.chunks_below-chunks.ensures.told)
    c.open_list.result c.open_list.ensures.opens

pub returns-in-Ok-None-clause-opens : goal.returns-in-Ok-None-clause-opens
returns-in-Ok-None-clause-opens g c =
    let form = g.U.Update.form in
    let shape = g.F.Family.shape in
    let digest = g.H.Digest.Digest.SIZE in
    let told = g.C.Store.told c.args.store in
    let seen = threshold-seen g.N.Chunks.LEN shape c.args.pruned c.requires.threshold in
    let accepted = accepted-at form told c.args.max_size shape digest _ _ _ _ c.pruned_bits.ensures c.in-Ok-None.field-0-is seen c.in-Ok-None.ensures.accepted in
    let named = ap (option_map selected_view) (sym c.in-Ok-None.field-0-is) in
    let empty = rw (c.in-Ok-None.field-0-is, c.pruned_bits.ensures) at c.in-Ok-None.ensures.empty in
    let hashing = hashing_of g.H.Digest.Digest.bytes g.H.Hasher g.F.Family g.U.Update in
    opens-behind g.C.Store (layout_of g.N.Chunks.LEN g.H.Digest.Digest.bytes g.H.Hasher g.F.Family g.U.Update g.I.Unordered) digest c.args.store c.select_commit.new.store
    c.select_commit.ensures.kept c.select_commit.ensures.cause.later
    (refusal_up_to form shape digest (option_map (pruned_view g.N.Chunks.LEN) c.args.pruned) c.args.max_size) (refusal_at form shape digest None)
    (λ s is. known-at _ told s is accepted)
    (selected_size (scheme_of digest hashing) c.args.max_size) (λ s. 0)
    (λ s is. sym (ap size_of (named ∙ known-at _ told s is c.in-Ok-None.ensures.chosen ∙ selects-same form s c.pruned_bits.result c.args.max_size)))
    (told_chunks g.N.Chunks.LEN c.args.pruned) (Some 0)
    (λ n is. none-pruned g.N.Chunks.LEN c.args.pruned n is (empty refl).2)
    c.begin.result c.begin.ensures.opens

pub returns-in-Err-clause-opens : goal.returns-in-Err-clause-opens
returns-in-Err-clause-opens g c =
    let m = scheme_of g.H.Digest.Digest.SIZE (hashing_of g.H.Digest.Digest.bytes g.H.Hasher g.F.Family g.U.Update) in
    let told = g.C.Store.told c.args.store in
    let kept = c.select_commit.ensures.kept in
    let cause = c.select_commit.ensures.cause in
    let seen = threshold-seen g.N.Chunks.LEN g.F.Family.shape c.args.pruned c.requires.threshold in
    record {
      opened = each-known told (λ s is list taken. tt);
      offered = each-known told (λ s is. tt);
      became = tt;
      pruned = tt;
      refused = (rw c.pruned_bits.ensures at c.in-Err.ensures.refused) g.F.Family.shape g.H.Digest.Digest.SIZE seen;
      unopened = each-known told (λ s is some. record { start = kept.start; told = kept.told });
      left =
          turns-kept told (g.C.Store.told c.select_commit.new.store) (λ s new. LeavesOpening m (selected_size m c.args.max_size s) s new) kept.told
          (λ s is. leaves-whole m (selected_size m c.args.max_size s) s (known-at _ told s is c.bounds.ensures.stable).1);
      failed =
          turns-kept told (g.C.Store.told c.select_commit.new.store) (λ s. FailsOpening m (selected_size m c.args.max_size s) s) kept.told
          (λ s is. fails-whole m (selected_size m c.args.max_size s) s (known-at _ told s is c.bounds.ensures.stable).1);
      start = tt;
      later = tt;
      back = (c.select_commit.new.store, refl, kept.start, (λ some. kept), record { later = cause.later; failed = λ same. cause.failed (c.in-Err.is ∙ ap Err same) });
    }

pub returns-in-Ok-Some-clause-causes : goal.returns-in-Ok-Some-clause-causes
returns-in-Ok-Some-clause-causes g c =
    let selected = c.in-Ok-Some.selected in
    let within = known-at _ c.in-Ok-Some.field-0 selected c.in-Ok-Some.field-0-is c.in-Ok-Some.ensures.within in
    let low = within.0 in
    let floor = within.2 in
    let allowed = subst₂ (λ p o. early_refusal p c.args.max_size (g.C.Store.start c.args.store) (g.C.Store.«end» c.args.store) (option_map selected_view o) ≡ None) c.pruned_bits.ensures c.in-Ok-Some.field-0-is c.in-Ok-Some.ensures.allowed in
    err-then c.open_list.result c.open_list.ensures.causes (λ r failed. (Some (selected_view selected), (omega (arith, low, floor), within.3), inr (allowed, failed)))

pub returns-in-Ok-None-clause-causes : goal.returns-in-Ok-None-clause-causes
returns-in-Ok-None-clause-causes g c =
    let allowed = subst₂ (λ p o. early_refusal p c.args.max_size (g.C.Store.start c.args.store) (g.C.Store.«end» c.args.store) (option_map selected_view o) ≡ None) c.pruned_bits.ensures c.in-Ok-None.field-0-is c.in-Ok-None.ensures.allowed in
    err-then c.begin.result c.begin.ensures.causes (λ r failed. (None, tt, inr (allowed, failed)))

pub returns-in-Err-clause-causes : goal.returns-in-Err-clause-causes
returns-in-Err-clause-causes g c =
    let failed = subst (λ p. IsUnselected p c.args.max_size (g.C.Store.start c.args.store) (g.C.Store.«end» c.args.store) c.in-Err.error) c.pruned_bits.ensures c.in-Err.ensures.causes in
    (failed.0, failed.1, inl failed.2)
