use Rattle.std.proofs.Common.{◌≡◌, ◌⊎◌, ◌∙◌, ⊎_elim, ap, refl, subst, sym}
use Rattle.std.specs.Prelude.{IfErr, IfOk}
use Rattle.qm_model.proofs.Results.{err-then, ok-then}
use Rattle.qm_model.specs.StoreModel.{settled}
use Rattle.qm_base.specs.declared.sha256.Sha256Digest.{Sha256Digest}
use Rattle.qm_any.specs.Lasting.{HasLeftStable, IsGivenUp}
use Rattle.qm_any.specs.Offered.{sha256_layout}
use Rattle.qm_any.proofs.Lasting.{ok-three}
use Rattle.qm_any.proofs.OfferedStores.{untold}
use Rattle.qm_current.specs.Databases.{Database, IsDatabase}
use Rattle.qm_current.specs.Lasting.{HasCounted, HasLeftUncounted}
use Rattle.qm_current.specs.Offered.{offered_name}
use Rattle.qm_current.proofs.LastingOffered.{counted-beside, failed-beside, sync-left, synced-told, uncounted-beside, under-name}
use Rattle.qm_current.proofs.offer.durable.DbSha256Chunk32Durable.sync.Goals as goal

pub returns : goal.returns
returns g c =
    let members = g.C.Store in
    let told = members.told in
    let layout = sha256_layout g.F.Family.shape 32 g.U.Update.form g.I.Unordered.index_key in
    let self = c.args.self in
    let base : Database g.row.C.Denot Sha256Digest = record self { name = offered_name } in
    let is : c.named.result ≡ base = c.named.ensures in
    let r = c.sync.result in
    let said = c.sync.ensures in
    let made = subst (λ (d : Database g.row.C.Denot Sha256Digest). IfOk r (HasCounted members layout settled d)) is said.synced in
    let refused = subst (λ (d : Database g.row.C.Denot Sha256Digest). IfErr r (IsGivenUp members (λ old new. HasLeftStable members old new ⊎ HasLeftUncounted members layout settled d.any.activity.pruned d new) d.any.log.store)) is said.refused in
    record {
      stands = λ list at.
          let own = under-name layout members self list at in
          ok-three r (said.stands list (subst (λ d. IsDatabase members layout d list) (sym is) own.at)) said.counted made (λ new there counted put. record { at = there; counted = counted; named = ap (λ (d : Database g.row.C.Denot Sha256Digest). d.name) put.rest });
      numbered = λ n at. ok-then r made (λ new put. ap (λ (d : Database g.row.C.Denot Sha256Digest). d.instance) put.rest ∙ at);
      start = ok-then r made (λ new put. put.any.store.start);
      store = ok-then r made (λ new put. record {
        told = λ list at. synced-told 32 layout members base list (under-name layout members self list at) (told new.any.log.store) put.entries put.counts put.any.store.told;
        beside = counted-beside 32 layout (told self.any.log.store) (told new.any.log.store) offered_name put.entries refl put.any.store.told;
      });
      later = ok-then r made (λ new put. put.any.later);
      failed = err-then r refused (λ e up. record {
        store = up.store;
        given = up.given;
        left = record {
          told = λ list at. sync-left 32 layout members base list (under-name layout members self list at) up.store up.left;
          beside = ⊎_elim (λ (left : HasLeftStable members self.any.log.store up.store). failed-beside 32 layout members base refl up.store left)
              (λ (left : HasLeftUncounted members layout settled self.any.activity.pruned base up.store). uncounted-beside 32 layout members base refl up.store self.any.activity.pruned left) up.left;
        };
        never = untold e.error up.never;
        cause = up.cause;
      });
    }
