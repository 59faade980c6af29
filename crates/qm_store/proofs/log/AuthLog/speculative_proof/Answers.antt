use Rattle.std.proofs.Common.{◌≤◌, sym, subst, ◌≡◌, IfErr, OnOk}
use Rattle.qm_merkle.specs.Mems.{Stands}
use Rattle.qm_store.specs.Log.{digests_from, IsLacked}
use Rattle.std.specs.Prelude.{None}
use Rattle.qm_proofs.specs.Proofs.{first_lacked, over_at, needed_positions}
use Rattle.qm_store.proofs.log.AuthLog.speculative_proof.Goals as goal

pub returns : goal.returns
returns g c = record {
  value = λ list new lists is history found.
      let leaves = digests_from g.H.Hasher.hash g.F.Family.shape 0 list in
      c.proof_over.ensures.value g.H.Hasher.hash leaves new lists (subst (λ log. Stands g.F.Family.shape g.H.Digest.Digest.bytes g.H.Hasher.hash log.tree leaves) (sym c.self.view_is) is.tree) history found;
  whole = λ from list new lists is history found.
      let leaves = digests_from g.H.Hasher.hash g.F.Family.shape 0 list in
      c.proof_over.ensures.whole g.H.Hasher.hash leaves new lists (subst (λ log. log.tree.start ≤ c.args.start) (sym c.self.view_is) from)
      (subst (λ log. Stands g.F.Family.shape g.H.Digest.Digest.bytes g.H.Hasher.hash log.tree leaves) (sym c.self.view_is) is.tree) history found;
  held = subst (λ log. OnOk c.proof_over.result (first_lacked (over_at g.F.Family.shape c.args.batch.now log.tree) (needed_positions g.F.Family.shape c.args.batch.now.newest.tree.leaves c.args.start c.args.end) ≡ None)) c.self.view_is c.proof_over.ensures.held;
  cause = subst (λ log. IfErr c.proof_over.result (IsLacked (over_at g.F.Family.shape c.args.batch.now log.tree) (needed_positions g.F.Family.shape c.args.batch.now.newest.tree.leaves c.args.start c.args.end))) c.self.view_is c.proof_over.ensures.cause;
}
