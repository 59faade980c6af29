use Rattle.std.proofs.Common.{◌∙◌, ap, sym, subst, List, length, drop, map, [], if◌then◌else◌}
use Rattle.qm_model.proofs.Results.{err-both, err-then, ok-four, ok-then}
use Rattle.qm_model.specs.Causes.{Rose}
use Rattle.qm_model.specs.Forms.{spelling}
use Rattle.qm_model.specs.Batches.{Chain, fits}
use Rattle.qm_model.specs.Operations.{Operation}
use Rattle.qm_store.specs.Given.{Appended, AppendedPart, store_given}
use Rattle.qm_any.specs.Applying as anys
use Rattle.qm_any.specs.Databases.{list_commitment}
use Rattle.qm_any.specs.Layouts.{list_root}
use Rattle.qm_any.specs.Offered.{sha256_hashing, sha256_layout}
use Rattle.qm_any.proofs.Offered.{at-made, off-chain, appends-same, ok-tips, err-tips, unapplied-untold}
use Rattle.qm_current.specs.Applying.{any_given, store_in}
use Rattle.qm_current.specs.Databases.{IsMade}
use Rattle.qm_current.specs.Offered.{IsOffered, offered_chunk}
use Rattle.qm_current.proofs.Applying.{store-given}
use Rattle.qm_current.proofs.Offering.{answered-err, answered-ok, given-same}
use Rattle.qm_current.proofs.offer.making.DbSha256Chunk32Making.apply.Goals as goal

pub returns : goal.returns
returns g c =
    let members = g.C.Store in
    let form = g.U.Update.form in
    let size = offered_chunk in
    let hashing = sha256_hashing g.F.Family.shape form in
    let layout = sha256_layout g.F.Family.shape size form g.I.Unordered.index_key in
    let db = c.args.self in
    let store = db.any.log.store in
    let current = db.any.commitment in
    let r = c.apply_batch.result in
    let said = c.apply_batch.ensures in
    let batch = c.args.batch.now.value in
    let taken = c.deref.result.now in
    let offered = IsOffered members layout db in
    let is_made = IsMade hashing size batch in
    let made_of = λ (chain : Chain) (tip : List Operation) (made : is_made chain tip). subst (λ b. IsMade hashing size b chain tip) (sym c.deref.ensures) made in
    let unapplied = answered-err r _ said.unapplied in
    record {
      fit = ok-then r said.fits (λ next on list chain tip is made. sym (at-made hashing list chain tip current taken.any is.at.any.commitment (made_of chain tip made).any) ∙ on);
      applied = ok-tips r offered is_made (λ next list chain tip. IsOffered members layout next tip) (λ list chain tip is made on.
          ok-four r (said.stands list chain tip is.at (made_of chain tip made) on) (said.counted is.counted) said.moved said.moved
          (λ next stands counted moved _. record { at = stands; counted = counted; named = moved.2 ∙ is.named }));
      numbered = ok-then r said.moved (λ next moved n is. moved.1 ∙ is);
      grown = ok-tips r offered is_made (λ next list chain tip. Appended members store next.any.log.store (map (spelling form) (drop (length list) tip)))
          (λ list chain tip is made on. ok-then r (answered-ok r _ (said.appends chain tip (made_of chain tip made).any).grown)
          (λ next grown. subst (λ n. Appended members store next.any.log.store (map (spelling form) (drop n tip))) (ap (λ k. k.size) is.at.any.commitment) grown));
      stale = err-both r unapplied said.back (λ e why back stale. (
        given-same e.given db.any db (why.stale stale).0 back,
        λ list chain tip is made. off-chain (list_root hashing) list chain (sym (at-made hashing list chain tip current taken.any is.at.any.commitment (made_of chain tip made).any) ∙ (why.stale stale).1),
      ));
      refused = err-then r unapplied (λ e why fresh. unapplied-untold e.error why.causes fresh);
      kept = err-tips r offered is_made
          (λ e list chain tip. AppendedPart members store (store_given store_in e.given) (if fits (list_root hashing) (list_commitment hashing list) chain then map (spelling form) (drop (length list) tip) else []))
          (λ list chain tip is made. err-then r (answered-err r _ (said.appends chain tip (made_of chain tip made).any).part)
          (λ e part. subst (λ s. AppendedPart members store s (if fits (list_root hashing) (list_commitment hashing list) chain then map (spelling form) (drop (length list) tip) else [])) (sym (store-given e.given))
          (subst (AppendedPart members store (store_given anys.store_in (any_given e.given))) (appends-same hashing list chain tip current taken.any is.at.any.commitment (made_of chain tip made).any) part)));
      back = said.back;
      start = said.rest.start;
      beside = said.rest.others;
      cause = err-then r unapplied (λ e why fault. subst (λ s. Rose (members.faults store) (members.faults s)) (sym (store-given e.given)) (why.cause.failed fault));
      later = said.rest.later;
    }
