use Rattle.std.proofs.Common.{sym, subst}
use Rattle.qm_model.proofs.Results.{told-here}
use Rattle.qm_any.specs.Layouts.{layout_of}
use Rattle.qm_any.specs.Databases.{IsDatabase}
use Rattle.qm_any.proofs.Reading.{lent-reads}
use Rattle.qm_any.proofs.db.Db.find.Goals as goal

pub returns-clause-value : goal.returns-clause-value
returns-clause-value g c = λ list base stands from.
    let inside = subst (λ db. IsDatabase g.C.Store (layout_of g.N.Chunks.LEN g.H.Digest.Digest.bytes g.H.Hasher g.F.Family g.U.Update g.I.Unordered) db list) (sym c.self.view_is) stands in
    told-here _ (g.C.Store.told ((c.self.inside).log).store) inside.told (c.read_key.ensures.value list base inside.lent from)

pub returns-clause-reads : goal.returns-clause-reads
returns-clause-reads g c =
    lent-reads g.C.Store (layout_of g.N.Chunks.LEN g.H.Digest.Digest.bytes g.H.Hasher g.F.Family g.U.Update g.I.Unordered) c.args.self.now _ c.read_key.new.log c.read_key.result c.self.view_is c.read_key.ensures.reads
