use Rattle.std.proofs.Common.{sym, subst}
use Rattle.qm_model.proofs.Results.{told-here}
use Rattle.qm_any.specs.Databases.{IsDatabase}
use Rattle.qm_any.proofs.OrderedReads.{laid_out}
use Rattle.std.specs.Option.{option_transpose}
use Rattle.qm_any.proofs.Reading.{lent-reads}
use Rattle.qm_any.proofs.db.Db.scan_next.Goals as goal

pub returns-clause-value : goal.returns-clause-value
returns-clause-value g c = λ list stands.
    let layout = laid_out g.N.Chunks.LEN g.H.Digest.Digest.bytes g.H.Hasher.hash g.F.Family.shape g.U.Update.form g.I.Unordered.index_key in
    let inside = subst (λ db. IsDatabase g.C.Store layout db list) (sym c.self.view_is) stands in
    told-here _ (g.C.Store.told ((c.self.inside).log).store) inside.told (c.next.ensures.value list inside.lent)

pub returns-clause-reads : goal.returns-clause-reads
returns-clause-reads g c =
    lent-reads g.C.Store (laid_out g.N.Chunks.LEN g.H.Digest.Digest.bytes g.H.Hasher.hash g.F.Family.shape g.U.Update.form g.I.Unordered.index_key) c.args.self.now _ c.next.new.log (option_transpose c.next.result) c.self.view_is c.next.ensures.reads
