use Rattle.qm_model.proofs.Results.{err-then, ok-then}
use Rattle.qm_any.proofs.OfferedStores.{leaves-now, untold, settled-beside, imaged-beside, left-synced}
use Rattle.qm_any.proofs.offer.durable.DbSha256Durable.sync.Goals as goal

pub returns : goal.returns
returns g c =
    let r = c.sync.result in
    let said = c.sync.ensures in
    record {
      stands = said.stands;
      numbered = λ n is. ok-then r said.synced (λ new lasted. tt);
      start = ok-then r said.synced (λ new lasted. lasted.store.start);
      store = ok-then r said.synced (λ new lasted. record { told = λ list writes. lasted.store.told; beside = settled-beside g.F.Family.shape g.U.Update.form _ _ lasted.store.told });
      later = ok-then r said.synced (λ new lasted. lasted.later);
      failed = err-then r said.refused (λ e left. record {
        store = left.store;
        given = left.given;
        left = record { told = λ list writes. left-synced g.F.Family.shape g.U.Update.form list _ _ (leaves-now _ _ _ left.left.told); beside = imaged-beside g.F.Family.shape g.U.Update.form _ _ (leaves-now _ _ _ left.left.told) };
        never = untold e.error left.never;
        cause = left.cause;
      });
    }
