use Rattle.std.proofs.Common.{◌∙◌, ap, refl, Err}
use Rattle.qm_store.proofs.Stores.{any-told, log-opened}
use Rattle.qm_store.proofs.log.AuthLog.open.Goals as goal

pub returns-in-Ok : goal.returns-in-Ok
returns-in-Ok g c = record {
  stands = λ list long.
      log-opened g.C.Store g.F.Family.shape g.H.Digest.Digest.bytes g.H.Hasher.hash c.args.store (record { store = c.load.new.store; tree = c.in-Ok.tree }) list c.args.size _ c.load.ensures.kept c.in-Ok.ensures.start c.in-Ok.ensures.size long (c.in-Ok.ensures.stands list long);
  start = c.in-Ok.ensures.start;
  size = c.in-Ok.ensures.size;
  kept = c.load.ensures.kept;
  back = tt;
  long = c.in-Ok.ensures.long;
  head = tt;
  never = tt;
  later = c.load.ensures.cause.later;
}

pub returns-in-Err : goal.returns-in-Err
returns-in-Err g c = record {
  stands = λ list long. any-told (g.C.Store.told c.args.store) (λ held is head. tt);
  start = tt;
  size = tt;
  kept = tt;
  back = (c.load.new.store, refl, c.load.ensures.kept, record { later = c.load.ensures.cause.later; failed = λ same. c.load.ensures.cause.failed (c.in-Err.is ∙ ap Err same) });
  long = tt;
  head = c.in-Err.ensures.head;
  never = c.in-Err.ensures.never;
  later = tt;
}
