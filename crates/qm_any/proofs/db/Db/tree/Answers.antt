use Rattle.std.proofs.Common.{◌∙◌, ap, map, subst, sym}
use Rattle.qm_model.specs.Forms.{spelling}
use Rattle.qm_merkle.specs.Mems.{Stands}
use Rattle.qm_store.specs.Log.{digests_from}
use Rattle.qm_store.proofs.Leaves.{leaves-spelled}
use Rattle.qm_any.proofs.db.Db.tree.Goals as goal

pub returns-clause-stands : goal.returns-clause-stands
returns-clause-stands g c = λ list is.
    let shape = g.F.Family.shape in
    let hash = g.H.Hasher.hash in
    let bytes = g.H.Digest.Digest.bytes in
    subst (Stands shape bytes hash c.tree.result.now) (sym (leaves-spelled hash shape g.U.Update.form 0 list))
    (subst (λ t. Stands shape bytes hash t (digests_from hash shape 0 (map (spelling g.U.Update.form) list))) (sym (c.tree.ensures ∙ ap (λ db. db.log.tree) c.self.view_is)) is.lent.logged.tree)
