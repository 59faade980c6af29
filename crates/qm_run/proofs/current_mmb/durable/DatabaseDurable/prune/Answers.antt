use Rattle.std.proofs.Common.{ap, inl, inr, refl}
use Rattle.qm_store.specs.declared.refusal.Given.TheVariants.{Database, Store}
use Rattle.qm_run.proofs.Handed.{database-same, not-both, store-same, unpruned-told}
use Rattle.qm_run.proofs.current_mmb.durable.DatabaseDurable.prune.Goals as goal

pub returns-in-Database-clause-refused : goal.returns-in-Database-clause-refused
returns-in-Database-clause-refused g c =
    let x = c.in-Database.db in
    elim (unpruned-told _ g.C.Store c.in-Err.refused (Database x) c.in-Database.is c.args.to c.args.self.db c.in-Err.ensures.refused) [
      | inl (bound, past, bound_is, same, error) ↦ inl (bound, past, bound_is, ap (λ y. Database (record { db = y })) (database-same x c.args.self.db (Database x) refl same), error)
      | inr (within, up) ↦ absurd (not-both x up.store (Database x) refl up.given)
    ]

pub returns-in-Store-clause-refused : goal.returns-in-Store-clause-refused
returns-in-Store-clause-refused g c =
    let s = c.in-Store.store in
    elim (unpruned-told _ g.C.Store c.in-Err.refused (Store s) c.in-Store.is c.args.to c.args.self.db c.in-Err.ensures.refused) [
      | inl (bound, past, bound_is, same, error) ↦ absurd (not-both c.args.self.db s (Store s) same refl)
      | inr (within, up) ↦ inr (within, record { store = up.store; given = ap Store (store-same s up.store (Store s) refl up.given); left = record { told = up.left.told; beside = up.left.beside }; never = up.never; cause = up.cause })
    ]
