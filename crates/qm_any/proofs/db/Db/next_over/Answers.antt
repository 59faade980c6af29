use Rattle.std.proofs.Common.{sym, subst}
use Rattle.qm_model.proofs.Results.{told-here}
use Rattle.qm_any.specs.Databases.{IsDatabase}
use Rattle.qm_any.proofs.OrderedReads.{laid_out}
use Rattle.qm_any.proofs.Reading.{lent-reads}
use Rattle.qm_any.proofs.db.Db.next_over.Goals as goal

pub returns-clause-value : goal.returns-clause-value
returns-clause-value g c = λ list base stands from ring.
    let layout = laid_out g.N.Chunks.LEN g.H.Digest.Digest.bytes g.H.Hasher.hash g.F.Family.shape g.U.Update.form g.I.Unordered.index_key in
    let inside = subst (λ db. IsDatabase g.C.Store layout db list) (sym c.self.view_is) stands in
    told-here _ (g.C.Store.told ((c.self.inside).log).store) inside.told (c.next_key.ensures.value list base inside.lent from (inside.ring c.requires) ring)

pub returns-clause-reads : goal.returns-clause-reads
returns-clause-reads g c =
    lent-reads g.C.Store (laid_out g.N.Chunks.LEN g.H.Digest.Digest.bytes g.H.Hasher.hash g.F.Family.shape g.U.Update.form g.I.Unordered.index_key) c.args.self.now _ c.next_key.new.log c.next_key.result c.self.view_is c.next_key.ensures.reads
