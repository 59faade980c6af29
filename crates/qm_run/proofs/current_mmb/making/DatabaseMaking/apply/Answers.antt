use Rattle.std.proofs.Common.{◌∙◌, ap, refl, sym}
use Rattle.qm_store.specs.declared.refusal.Given.TheVariants.{Database, Store}
use Rattle.qm_run.proofs.Handed.{applies-told, database-same, not-both}
use Rattle.qm_run.proofs.current_mmb.making.DatabaseMaking.apply.Goals as goal

pub returns-in-Database : goal.returns-in-Database
returns-in-Database g c =
    let x = c.in-Database.db in
    let a = applies-told _ g.C.Store c.in-Err.refused (Database x) c.in-Database.is c.args.self.db c.args.batch.now.batch c.in-Err.ensures in
    let own = a.back x refl in
    record {
      fit = tt;
      applied = tt;
      numbered = tt;
      grown = tt;
      stale = λ e. let s = a.stale e in (ap (λ y. Database (record { db = y })) own, s.1);
      refused = a.refused;
      kept = a.kept;
      back = λ y same. sym (database-same (record { db = x }) y (Database (record { db = x })) refl same) ∙ ap (λ z. record { db = z }) own;
      start = a.start;
      beside = a.beside;
      cause = a.cause;
      later = a.later;
    }

pub returns-in-Store : goal.returns-in-Store
returns-in-Store g c =
    let s = c.in-Store.store in
    let a = applies-told _ g.C.Store c.in-Err.refused (Store s) c.in-Store.is c.args.self.db c.args.batch.now.batch c.in-Err.ensures in
    record {
      fit = tt;
      applied = tt;
      numbered = tt;
      grown = tt;
      stale = λ e. absurd (not-both c.args.self.db s (Store s) (a.stale e).0 refl);
      refused = a.refused;
      kept = a.kept;
      back = λ y same. absurd (not-both y s (Store s) same refl);
      start = a.start;
      beside = a.beside;
      cause = a.cause;
      later = a.later;
    }
