use Rattle.std.proofs.Common.{◌∙◌, ap, map, sym, subst}
use Rattle.std.proofs.lemmas.Result.{err_from_is_err_and}
use Rattle.std.specs.Prelude.{option_and_then}
use Rattle.qm_model.proofs.Results.{told-here}
use Rattle.qm_any.specs.Databases.{IsDatabase}
use Rattle.qm_any.proofs.OrderedReads.{laid_out, said, said-found}
use Rattle.qm_store.specs.Reads.{log_reads}
use Rattle.qm_base.proofs.Reading.{reads-on}
use Rattle.qm_any.proofs.Reading.{itself-base, lent-reads}
use Rattle.qm_any.proofs.db.Db.get_all.Goals as goal

pub returns-clause-value : goal.returns-clause-value
returns-clause-value g c = λ list stands.
    let base = itself-base (map (λ l. l.value) c.deref.result.now) list (ap (map (λ l. l.value)) (c.deref.ensures.value ∙ c.new-steps.ensures.items)) in
    let layout = laid_out g.N.Chunks.LEN g.H.Digest.Digest.bytes g.H.Hasher.hash g.F.Family.shape g.U.Update.form g.I.Unordered.index_key in
    let inside = subst (λ db. IsDatabase g.C.Store layout db list) (sym c.self.view_is) stands in
    let found = told-here _ (g.C.Store.told ((c.self.inside).log).store) inside.told (c.in_ok-found.ensures.value list list inside.lent base) in
    c.value_and_next.ensures c.requires ∙ ap (option_and_then said) found ∙ said-found list (g.U.Key.ByteString.bytes c.args.key.now)

pub returns-in_err-found-clause-reads : goal.returns-in_err-found-clause-reads
returns-in_err-found-clause-reads g c =
    let exit = err_from_is_err_and c.from_residual.result c.from_residual.ensures.1 in
    lent-reads g.C.Store (laid_out g.N.Chunks.LEN g.H.Digest.Digest.bytes g.H.Hasher.hash g.F.Family.shape g.U.Update.form g.I.Unordered.index_key) c.args.self.now _ c.read_key.new.log c.from_residual.result c.self.view_is (reads-on (log_reads g.C.Store g.F.Family.shape g.H.Digest.Digest.bytes g.H.Hasher.hash) c.from_residual.result c.in_err-found.ensures.reads exit.1 exit.2)
