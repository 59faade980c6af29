use Rattle.std.proofs.Common.{sym, subst, ◌≡◌, ◌+◌, length, IfOk}
use Rattle.qm_merkle.specs.Mems.{Stands}
use Rattle.qm_store.specs.Log.{digests_from}
use Rattle.qm_store.proofs.log.AuthLog.tree_with.Goals as goal

pub returns : goal.returns
returns g c = record {
  history = λ list is.
      let leaves = digests_from g.H.Hasher.hash g.F.Family.shape 0 list in
      c.grown_by_items.ensures.history list (subst (λ log. Stands g.F.Family.shape g.H.Digest.Digest.bytes g.H.Hasher.hash log.tree leaves) (sym c.self.view_is) is.tree);
  leaves = subst (λ log. IfOk c.grown_by_items.result (λ b. b.newest.tree.leaves ≡ log.tree.leaves + length c.args.items.now)) c.self.view_is c.grown_by_items.ensures.leaves;
  start = subst (λ log. IfOk c.grown_by_items.result (λ b. b.newest.tree.start ≡ log.tree.leaves)) c.self.view_is c.grown_by_items.ensures.start;
  older = c.grown_by_items.ensures.older;
  adding = c.grown_by_items.ensures.adding;
  same = c.self.view_is;
}
