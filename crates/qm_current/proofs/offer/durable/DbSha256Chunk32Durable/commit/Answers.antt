use Rattle.std.proofs.Common.{◌∙◌, ap}
use Rattle.qm_model.proofs.Results.{err-then, ok-then}
use Rattle.qm_model.proofs.Stores.{leaves-now}
use Rattle.qm_model.specs.StoreModel.{IsImage, ReadsAs}
use Rattle.qm_base.specs.declared.sha256.Sha256Digest.{Sha256Digest}
use Rattle.qm_any.specs.Offered.{sha256_layout}
use Rattle.qm_any.proofs.Lasting.{ok-three}
use Rattle.qm_any.proofs.OfferedStores.{untold}
use Rattle.qm_current.specs.Databases.{Database}
use Rattle.qm_current.proofs.LastingOffered.{settled-beside, stable-beside}
use Rattle.qm_current.proofs.offer.durable.DbSha256Chunk32Durable.commit.Goals as goal

pub returns : goal.returns
returns g c =
    let told = g.C.Store.told in
    let layout = sha256_layout g.F.Family.shape 32 g.U.Update.form g.I.Unordered.index_key in
    let self = c.args.self in
    let r = c.commit.result in
    let said = c.commit.ensures in
    record {
      stands = λ list is. ok-three r (said.stands list is.at) (said.counted is.counted) said.committed (λ new at counted last. record { at = at; counted = counted; named = ap (λ (d : Database g.row.C.Denot Sha256Digest). d.name) last.rest ∙ is.named });
      numbered = λ n is. ok-then r said.committed (λ new last. ap (λ (d : Database g.row.C.Denot Sha256Digest). d.instance) last.rest ∙ is);
      start = ok-then r said.committed (λ new last. last.any.store.start);
      store = ok-then r said.committed (λ new last. record { told = λ list writes. last.any.store.told; beside = settled-beside 32 layout (told self.any.log.store) (told new.any.log.store) last.any.store.told });
      later = ok-then r said.committed (λ new last. last.any.later);
      failed = err-then r said.refused (λ e up.
          let left = leaves-now (told self.any.log.store) (told up.store) (λ s. ReadsAs s.stable (IsImage s)) (λ s. ReadsAs s.stable (IsImage s)) up.left.told in
          record { store = up.store; given = up.given; left = record { told = λ list writes. left; beside = stable-beside 32 layout (told self.any.log.store) (told up.store) left }; never = untold e.error up.never; cause = up.cause });
    }
