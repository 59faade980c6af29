use Rattle.qm_any.specs.Layouts.{layout_of}
use Rattle.qm_databases.proofs.CurrentBatches.{reads-only, reads-untold}
use Rattle.qm_databases.proofs.current.database.DbDbAny.get.Goals as goal

pub returns : goal.returns
returns g c =
    let layout = layout_of g.N.Chunks.LEN g.H.Digest.Digest.bytes g.H.Hasher g.F.Family g.U.Update g.I.Unordered in
    let old = c.args.self.now in
    let new = c.get.new.self in
    let r = c.get.result in
    let said = c.get.ensures in
    record {
      value = λ list is. said.value list is.any;
      refused = reads-untold g.C.Store layout old new said.rest r said.reads;
      reads = reads-only g.C.Store layout old new said.rest r said.reads;
    }
