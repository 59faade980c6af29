use Rattle.std.proofs.Common.{◌≡◌, subst}
use Rattle.std.specs.Prelude.{IfOk}
use Rattle.qm_model.specs.RangeProofs as range_proofs
use Rattle.qm_graft.specs.Grafting.{grafting}
use Rattle.qm_keyproofs.specs.Views.{witness_view}
use Rattle.qm_any.specs.Layouts.{layout_of}
use Rattle.qm_current.specs.Databases.{Database}
use Rattle.qm_current.specs.Shown.{AtList}
use Rattle.qm_current.proofs.db.Db.ops_root_witness.Goals as goal

pub returns : goal.returns
returns g c =
    let members = g.C.Store in
    let bytes = g.H.Digest.Digest.bytes in
    let hash = g.H.Hasher.hash in
    let shape = g.F.Family.shape in
    let form = g.U.Update.form in
    let size = g.N.Chunks.LEN in
    let layout = layout_of size bytes g.H.Hasher g.F.Family g.U.Update g.I.Unordered in
    subst (λ (d : Database g.row.C.Denot g.row.H-Digest.Denot). AtList members layout d (λ list. IfOk c.ops_root_witness.result (λ w. witness_view bytes w ≡ range_proofs.witness hash shape (grafting size) form list))) c.self.view_is (λ list is. c.ops_root_witness.ensures list is.any is.canonical)
