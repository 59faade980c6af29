use Rattle.std.proofs.Common.{◌≡◌, ◌≤◌, ◌<◌, ap, subst, map, None, Err}
use Rattle.std.specs.Prelude.{IfErr, IfOk, OnOk}
use Rattle.qm_base.specs.declared.error.Error.TheVariants as errors
use Rattle.qm_base.specs.declared.error.TreeRefused.TheVariants as tree
use Rattle.qm_model.specs.Proofs.{pins_at}
use Rattle.qm_model.specs.Refusals.{pins_refusal}
use Rattle.qm_model.specs.Trees.{peak_positions}
use Rattle.qm_merkle.specs.Mems.{node_at}
use Rattle.qm_proofs.specs.Proofs.{first_lacked}
use Rattle.qm_store.specs.Refusals.{IsDue}
use Rattle.qm_any.specs.Databases as anys
use Rattle.qm_any.specs.Layouts.{layout_of}
use Rattle.qm_any.specs.Reading.{AtList}
use Rattle.qm_any.specs.Reasons.{IsPinsError}
use Rattle.qm_current.specs.Databases.{Database}
use Rattle.qm_current.proofs.db.Db.pinned_nodes_at.Goals as goal

pub returns : goal.returns
returns g c =
    let members = g.C.Store in
    let bytes = g.H.Digest.Digest.bytes in
    let hash = g.H.Hasher.hash in
    let shape = g.F.Family.shape in
    let form = g.U.Update.form in
    let layout = layout_of g.N.Chunks.LEN bytes g.H.Hasher g.F.Family g.U.Update g.I.Unordered in
    let r = c.pinned_nodes_at.result in
    let count = c.args.count in
    let told = c.pinned_nodes_at.ensures in
    let db_any = ap (λ (d : Database g.row.C.Denot g.row.H-Digest.Denot). d.any) c.self.view_is in
    record {
      offered = subst (λ d. AtList members layout d (λ list. OnOk r (pins_refusal list count ≡ None))) db_any told.offered;
      pins = subst (λ d. AtList members layout d (λ list. IfOk r (λ pins. map bytes pins.items ≡ pins_at hash shape form list count))) db_any told.pins;
      refused = subst (λ (d : anys.Database g.row.C.Denot g.row.H-Digest.Denot). members.start d.log.store ≤ count → AtList members layout d (λ list. IfErr r (λ e. IsDue e (pins_refusal list count)))) db_any told.refused;
      range = subst (λ (d : anys.Database g.row.C.Denot g.row.H-Digest.Denot). d.commitment.size < count → r ≡ Err (errors.Merkle (tree.RangeOutOfBounds count))) db_any told.range;
      held = subst (λ (d : anys.Database g.row.C.Denot g.row.H-Digest.Denot). OnOk r (first_lacked (node_at shape d.log.tree) (peak_positions shape count) ≡ None)) db_any told.held;
      lacking = subst (λ (d : anys.Database g.row.C.Denot g.row.H-Digest.Denot). IfErr r (IsPinsError shape d.log.tree (members.start d.log.store) d.commitment.size count)) db_any told.lacking;
    }
