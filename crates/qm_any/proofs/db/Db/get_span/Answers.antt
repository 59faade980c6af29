use Rattle.std.proofs.Common.{◌∙◌, ap, map, sym, subst}
use Rattle.qm_model.proofs.Results.{told-here}
use Rattle.qm_any.specs.Databases.{IsDatabase}
use Rattle.qm_any.proofs.OrderedReads.{laid_out}
use Rattle.qm_any.proofs.Reading.{itself-base}
use Rattle.qm_any.proofs.Reading.{lent-reads}
use Rattle.qm_any.proofs.db.Db.get_span.Goals as goal

pub returns-clause-value : goal.returns-clause-value
returns-clause-value g c = λ list stands.
    let base = itself-base (map (λ l. l.value) c.deref.result.now) list (ap (map (λ l. l.value)) (c.deref.ensures.value ∙ c.new.ensures.items)) in
    let layout = laid_out g.N.Chunks.LEN g.H.Digest.Digest.bytes g.H.Hasher.hash g.F.Family.shape g.U.Update.form g.I.Unordered.index_key in
    let inside = subst (λ db. IsDatabase g.C.Store layout db list) (sym c.self.view_is) stands in
    told-here _ (g.C.Store.told ((c.self.inside).log).store) inside.told (c.holder.ensures.value list list inside.lent base (inside.ring c.requires) (inside.ring c.requires))

pub returns-clause-reads : goal.returns-clause-reads
returns-clause-reads g c =
    lent-reads g.C.Store (laid_out g.N.Chunks.LEN g.H.Digest.Digest.bytes g.H.Hasher.hash g.F.Family.shape g.U.Update.form g.I.Unordered.index_key) c.args.self.now _ c.holder.new.log c.holder.result c.self.view_is c.holder.ensures.reads
