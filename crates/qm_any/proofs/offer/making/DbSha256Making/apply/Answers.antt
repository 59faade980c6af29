use Rattle.std.proofs.Common.{◌∙◌, ap, sym, subst, length, drop, map, [], if◌then◌else◌}
use Rattle.qm_model.proofs.Results.{err-then, ok-then}
use Rattle.qm_model.specs.Forms.{spelling}
use Rattle.qm_model.specs.Batches.{fits}
use Rattle.qm_store.specs.Given.{Appended, AppendedPart, store_given}
use Rattle.qm_any.specs.Databases.{Database, IsDatabase, IsMade, list_commitment}
use Rattle.qm_any.specs.Layouts.{list_root}
use Rattle.qm_any.proofs.Offered.{at-made, off-chain, appends-same, ok-tips, err-tips, unapplied-untold}
use Rattle.qm_any.proofs.offer.making.DbSha256Making.apply.Goals as goal
use Rattle.qm_any.specs.Offered.{sha256_hashing, sha256_layout}

pub returns : goal.returns
returns g c =
    let hashing = sha256_hashing g.F.Family.shape g.U.Update.form in
    let db = c.args.self in
    let r = c.apply_batch.result in
    let said = c.apply_batch.ensures in
    let batch = c.args.batch.now.value in
    let is_database = IsDatabase g.C.Store (sha256_layout g.F.Family.shape g.N.Chunks.LEN g.U.Update.form g.I.Unordered.index_key) db in
    let same = sym c.deref.ensures in
    record {
      fit = ok-then r said.fits (λ next on list chain tip is made.
          sym (at-made hashing list chain tip db.commitment c.deref.result.now is.commitment (subst (λ b. IsMade hashing b chain tip) same made)) ∙ on);
      applied = ok-tips r is_database (IsMade hashing batch) (λ next list chain tip. IsDatabase g.C.Store (sha256_layout g.F.Family.shape g.N.Chunks.LEN g.U.Update.form g.I.Unordered.index_key) next tip)
          (λ list chain tip is made on. said.stands list chain tip is (subst (λ b. IsMade hashing b chain tip) same made) on);
      numbered = ok-then r said.fits (λ next on n is. tt);
      grown = ok-tips r is_database (IsMade hashing batch) (λ next list chain tip. Appended g.C.Store db.log.store next.log.store (map (spelling g.U.Update.form) (drop (length list) tip)))
          (λ list chain tip is made on. ok-then r (said.appends chain tip (subst (λ b. IsMade hashing b chain tip) same made)).grown
          (λ next grown. subst (λ n. Appended g.C.Store db.log.store next.log.store (map (spelling g.U.Update.form) (drop n tip))) (ap (λ k. k.size) is.commitment) grown));
      stale = err-then r said.unapplied (λ e why stale. (
        (why.stale stale).0,
        λ list chain tip is made. off-chain (list_root hashing) list chain (sym (at-made hashing list chain tip db.commitment c.deref.result.now is.commitment (subst (λ b. IsMade hashing b chain tip) same made)) ∙ (why.stale stale).1),
      ));
      refused = err-then r said.unapplied (λ e why fresh. unapplied-untold e.error why.causes fresh);
      kept = err-tips r is_database (IsMade hashing batch)
          (λ e list chain tip. AppendedPart g.C.Store db.log.store (store_given (λ (x : Database _ _). x.log.store) e.given) (if fits (list_root hashing) (list_commitment hashing list) chain then map (spelling g.U.Update.form) (drop (length list) tip) else []))
          (λ list chain tip is made. err-then r (said.appends chain tip (subst (λ b. IsMade hashing b chain tip) same made)).part
          (λ e part. subst (AppendedPart g.C.Store db.log.store (store_given (λ (x : Database _ _). x.log.store) e.given))
          (appends-same hashing list chain tip db.commitment c.deref.result.now is.commitment (subst (λ b. IsMade hashing b chain tip) same made)) part));
      back = err-then r said.unapplied (λ e why x is. (why.back x is).0);
      start = said.rest.start;
      beside = said.rest.others;
      cause = err-then r said.unapplied (λ e why fault. why.cause.failed fault);
      later = said.rest.later;
    }
