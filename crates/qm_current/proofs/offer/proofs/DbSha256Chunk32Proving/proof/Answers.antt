use Rattle.std.proofs.Common.{◌≡◌, ◌∙◌, None, ap, sym, subst}
use Rattle.qm_model.specs.Held.{proof_lacked}
use Rattle.qm_model.proofs.Chains.{readable-known}
use Rattle.qm_any.specs.Databases as anys
use Rattle.qm_store.specs.Refusals.{IsDue}
use Rattle.qm_any.specs.Layouts.{list_root}
use Rattle.qm_any.proofs.Offered.{knows-readable, unknown}
use Rattle.qm_any.proofs.OfferedProofs.{proof-offered, proof-due, peaks-due}
use Rattle.qm_any.specs.Offered.{digest_bytes, sha256_hashing, sha256_layout}
use Rattle.sha2.specs.Sha256.{sha256}
use Rattle.qm_current.proofs.offer.proofs.DbSha256Chunk32Proving.proof.Goals as goal

pub returns-in-Ok-pinned_nodes-clause-readable : goal.returns-in-Ok-pinned_nodes-clause-readable
returns-in-Ok-pinned_nodes-clause-readable g c = λ list chain tip is batch.
    let hashing = sha256_hashing g.F.Family.shape g.U.Update.form in
    let layout = sha256_layout g.F.Family.shape 32 g.U.Update.form g.I.Unordered.index_key in
    let at = subst (λ d. anys.IsDatabase g.C.Store layout d list) (sym c.any-db.ensures) is.at.any in
    let making = subst (λ b. anys.IsMade hashing b chain tip) (sym (c.any-own.ensures ∙ ap (λ b. b.any) c.deref.ensures)) batch.any in
    sym (knows-readable hashing list chain tip c.any-db.result.now.commitment c.any-own.result.now.bounds at.commitment making.bounds) ∙ c.in-Ok.ensures.readable

pub returns-in-Ok-pinned_nodes-clause-proof : goal.returns-in-Ok-pinned_nodes-clause-proof
returns-in-Ok-pinned_nodes-clause-proof g c = λ list chain tip is batch known.
    let form = g.U.Update.form in
    let hashing = sha256_hashing g.F.Family.shape form in
    let layout = sha256_layout g.F.Family.shape 32 form g.I.Unordered.index_key in
    let at = subst (λ d. anys.IsDatabase g.C.Store layout d list) (sym c.any-db.ensures) is.at.any in
    let making = subst (λ b. anys.IsMade hashing b chain tip) (sym (c.any-own.ensures ∙ ap (λ b. b.any) c.deref.ensures)) batch.any in (
      subst (λ (d : anys.Database _ _). proof_lacked g.F.Family.shape (g.C.Store.start d.log.store) list chain tip ≡ None) c.any-db.ensures
          (proof-offered digest_bytes sha256 g.F.Family.shape g.F.Family.births g.met.F.Family.numbered g.met.F.Family.peaked g.C.Store form 32 g.I.Unordered.index_key c.any-db.result.now list at c.any-own.result.now chain tip making c.bounds.ensures.agreed c.in-Ok.ensures.readable c.in-Ok.ensures.held c.in-Ok-pinned_nodes.ensures.held),
      c.in-Ok.ensures.proof list chain tip at making known,
      c.in-Ok-pinned_nodes.ensures.pins list chain tip at making known,
    )

pub returns-in-Err-clause-failure : goal.returns-in-Err-clause-failure
returns-in-Err-clause-failure g c = λ list chain tip is batch.
    let form = g.U.Update.form in
    let hashing = sha256_hashing g.F.Family.shape form in
    let layout = sha256_layout g.F.Family.shape 32 form g.I.Unordered.index_key in
    let at = subst (λ d. anys.IsDatabase g.C.Store layout d list) (sym c.any-db.ensures) is.at.any in
    let making = subst (λ b. anys.IsMade hashing b chain tip) (sym (c.any-own.ensures ∙ ap (λ b. b.any) c.deref.ensures)) batch.any in
    let can = knows-readable hashing list chain tip c.any-db.result.now.commitment c.any-own.result.now.bounds at.commitment making.bounds in
    record {
      stale = λ stale. unknown (list_root hashing) list chain tip (sym can ∙ (c.in-Err.ensures.lacking).stale stale);
      refused = λ fresh known.
          subst (λ (d : anys.Database _ _). IsDue c.in-Err.error (proof_lacked g.F.Family.shape (g.C.Store.start d.log.store) list chain tip)) c.any-db.ensures
          (proof-due digest_bytes sha256 g.F.Family.shape g.F.Family.births g.met.F.Family.numbered g.met.F.Family.peaked g.C.Store form 32 g.I.Unordered.index_key c.any-db.result.now list at c.any-own.result.now chain tip making c.bounds.ensures.agreed (can ∙ readable-known (list_root hashing) list chain tip known) c.in-Err.error ((c.in-Err.ensures.lacking).lacked fresh));
      order = λ fresh other. sym can ∙ (c.in-Err.ensures.lacking).order other fresh;
    }

pub returns-in-Err-pinned_nodes-clause-failure : goal.returns-in-Err-pinned_nodes-clause-failure
returns-in-Err-pinned_nodes-clause-failure g c = λ list chain tip is batch.
    let form = g.U.Update.form in
    let hashing = sha256_hashing g.F.Family.shape form in
    let layout = sha256_layout g.F.Family.shape 32 form g.I.Unordered.index_key in
    let at = subst (λ d. anys.IsDatabase g.C.Store layout d list) (sym c.any-db.ensures) is.at.any in
    let making = subst (λ b. anys.IsMade hashing b chain tip) (sym (c.any-own.ensures ∙ ap (λ b. b.any) c.deref.ensures)) batch.any in
    let can = knows-readable hashing list chain tip c.any-db.result.now.commitment c.any-own.result.now.bounds at.commitment making.bounds in
    record {
      stale = λ stale. unknown (list_root hashing) list chain tip (sym can ∙ (c.in-Err-pinned_nodes.ensures.lacking).stale stale);
      refused = λ fresh known.
          subst (λ (d : anys.Database _ _). IsDue c.in-Err-pinned_nodes.error (proof_lacked g.F.Family.shape (g.C.Store.start d.log.store) list chain tip)) c.any-db.ensures
          (peaks-due digest_bytes sha256 g.F.Family.shape g.F.Family.births g.met.F.Family.numbered g.met.F.Family.peaked g.C.Store form 32 g.I.Unordered.index_key c.any-db.result.now list at c.any-own.result.now chain tip making c.bounds.ensures.agreed (can ∙ readable-known (list_root hashing) list chain tip known) c.in-Err-pinned_nodes.error c.in-Ok.ensures.held ((c.in-Err-pinned_nodes.ensures.lacking).lacked fresh));
      order = λ fresh other. sym can ∙ (c.in-Err-pinned_nodes.ensures.lacking).order other fresh;
    }
