use Rattle.std.proofs.Common.{sym, subst, refl}
use Rattle.qm_any.specs.Databases as anys
use Rattle.qm_any.specs.Layouts.{hashing_of, layout_of}
use Rattle.qm_current.specs.Databases.{Database}
use Rattle.qm_current.proofs.Resting.{begins}
use Rattle.qm_current.proofs.db.Db.new_batch.Goals as goal

pub returns-clause-begun : goal.returns-clause-begun
returns-clause-begun g c = λ list is.
    let layout = layout_of g.N.Chunks.LEN g.H.Digest.Digest.bytes g.H.Hasher g.F.Family g.U.Update g.I.Unordered in
    let stands = subst (λ (d : Database g.row.C.Denot g.row.H-Digest.Denot). anys.IsDatabase g.C.Store layout d.any list) (sym c.self.view_is) is.any in
    begins (hashing_of g.H.Digest.Digest.bytes g.H.Hasher g.F.Family g.U.Update) g.N.Chunks.LEN _ c.in_ok-parent.parent.value c.args.self.now.instance list
    (c.in_ok-any.ensures.begun c.args.self.now.instance list stands) refl refl (c.in_ok-parent.ensures.made list is)
