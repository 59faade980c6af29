use Rattle.std.proofs.Common.{◌≤◌, ◌∙◌, ap, sym, subst}
use Rattle.qm_model.proofs.Results.{err-then, ok-then}
use Rattle.qm_model.specs.Causes.{Rose}
use Rattle.qm_store.specs.Given.{store_given}
use Rattle.qm_any.specs.Databases.{Database}
use Rattle.qm_any.proofs.Offered.{later-after}
use Rattle.qm_any.proofs.OfferedStores.{not-both, start-after}
use Rattle.qm_any.proofs.offer.durable.DbSha256Durable.open.Goals as goal

pub returns : goal.returns
returns g c =
    let r = c.init.result in
    let said = c.init.ensures.opens in
    record {
      opened = said.opened;
      numbered = ok-then r said.became (λ db became. tt);
      offered = said.offered;
      became = said.became;
      refused = said.refused;
      unopened = said.unopened;
      left = said.left;
      start = start-after g.C.Store (λ (x : Database _ _). x.log.store) (g.C.Store.start c.args.store) r said.start (err-then r said.back (λ e back. ap (λ t. g.C.Store.start (store_given (λ (x : Database _ _). x.log.store) t)) back.1 ∙ back.2));
      cause = err-then r said.back (λ e back fault. subst (λ t. Rose (g.C.Store.faults c.args.store) (g.C.Store.faults (store_given (λ (x : Database _ _). x.log.store) t))) (sym back.1) (back.4.failed fault));
      later = later-after g.C.Store (λ (x : Database _ _). x.log.store) c.args.store r said.later
          (err-then r said.back (λ e back. subst (λ t. g.C.Store.faults c.args.store ≤ g.C.Store.faults (store_given (λ (x : Database _ _). x.log.store) t)) (sym back.1) back.4.later));
      back = err-then r said.back (λ e back x is. not-both e.given x back.0 is back.1);
    }
