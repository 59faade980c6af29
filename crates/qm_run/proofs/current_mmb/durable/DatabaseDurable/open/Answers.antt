use Rattle.std.proofs.Common.{refl}
use Rattle.qm_store.specs.declared.refusal.Given.TheVariants.{Store}
use Rattle.qm_run.proofs.Handed.{not-both, opens-told}
use Rattle.qm_run.proofs.current_mmb.durable.DatabaseDurable.open.Goals as goal

pub returns-in-Store : goal.returns-in-Store
returns-in-Store g c =
    let s = c.in-Store.store in
    let a = opens-told _ g.C.Store c.in-Err.refused (Store s) c.in-Store.is c.args.store c.args.max_size c.args.number c.in-Err.ensures in
    record {
      opened = a.opened;
      numbered = tt;
      offered = a.offered;
      became = tt;
      refused = a.refused;
      unopened = a.unopened;
      left = a.left;
      start = a.start;
      cause = a.cause;
      later = a.later;
      back = λ y same. absurd (not-both y s (Store s) same refl);
    }
