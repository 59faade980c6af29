use Rattle.qm_model.proofs.Results.{err-then, ok-then}
use Rattle.qm_any.proofs.OfferedStores.{leaves-now, untold}
use Rattle.qm_current.proofs.offer.durable.DbSha256Chunk32Durable.destroy.Goals as goal

pub returns : goal.returns
returns g c =
    let r = c.destroy.result in
    let said = c.destroy.ensures in
    record {
      start = ok-then r said.destroyed (λ new emptied. emptied.start);
      told = ok-then r said.destroyed (λ new emptied. emptied.told);
      later = ok-then r said.destroyed (λ new emptied. emptied.later);
      failed = err-then r said.refused (λ e left. record { store = left.store; given = left.given; left = leaves-now _ _ _ left.left.told; never = untold e.error left.never; cause = left.cause });
    }
