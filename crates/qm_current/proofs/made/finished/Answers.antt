use Rattle.std.proofs.Common.{subst, sym}
use Rattle.qm_any.specs.Databases as anys
use Rattle.qm_any.specs.Layouts.{hashing_of}
use Rattle.qm_roots.specs.Kept.{IsKept}
use Rattle.qm_current.specs.Databases.{Made}
use Rattle.qm_current.proofs.made.finished.Goals as goal

pub returns-in-Ok-new-clause-made : goal.returns-in-Ok-new-clause-made
returns-in-Ok-new-clause-made g c = λ list tip chain above stands parent held by_keep on made.
    let bytes = g.H.Digest.Digest.bytes in
    let hashing = hashing_of bytes g.H.Hasher g.F.Family g.U.Update in
    let making = subst (λ b. anys.IsMade hashing b chain tip) (sym c.deref.ensures) made in
    subst (λ (b : Made g.row.H-Digest.Denot). IsKept bytes g.H.Hasher.hash g.F.Family.shape g.N.Chunks.LEN g.U.Update.form b.kept tip (anys.bases_of chain)) (sym c.in-Ok-new.ensures.ok)
    (c.in-Ok.ensures.made list tip chain above stands parent held by_keep on making)
