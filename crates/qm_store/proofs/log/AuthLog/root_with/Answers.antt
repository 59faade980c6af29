use Rattle.std.proofs.Common.{◌++◌, ◌∷◌, [], sym, subst, map}
use Rattle.qm_merkle.specs.Mems.{Stands}
use Rattle.qm_store.specs.Log.{digests_from}
use Rattle.qm_store.proofs.log.AuthLog.root_with.Goals as goal

pub returns : goal.returns
returns g c = record {
  value = λ list is.
      let leaves = digests_from g.H.Hasher.hash g.F.Family.shape 0 in
      let stands = subst (λ log. Stands g.F.Family.shape g.H.Digest.Digest.bytes g.H.Hasher.hash log.tree (leaves list)) (sym c.self.view_is) is.tree in
      c.root.ensures.root (leaves (list ++ map (λ v. v.items) c.args.items.now)) (leaves list ∷ []) (c.in_ok-batch.ensures.history list stands);
  same = c.self.view_is;
}
