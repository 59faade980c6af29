use Rattle.std.specs.Prelude.{IfErr}
use Rattle.std.proofs.Common.{◌≡◌, map, ap, ap₂, sym, subst, IfOk}
use Rattle.qm_model.specs.Forms.{spelling}
use Rattle.qm_model.specs.Trees.{digest_of, peaks}
use Rattle.qm_store.specs.Log.{IsLog}
use Rattle.qm_store.proofs.Leaves.{leaves-spelled}
use Rattle.qm_any.specs.Reasons.{IsPinsError}
use Rattle.qm_any.proofs.Reasons.{pins-error}
use Rattle.qm_any.proofs.Telling.{three}
use Rattle.qm_any.proofs.db.Db.pinned_nodes_at.Goals as goal

pub returns-clause-pins : goal.returns-clause-pins
returns-clause-pins g c = λ list is.
    let hash = g.H.Hasher.hash in
    let shape = g.F.Family.shape in
    let bytes = g.H.Digest.Digest.bytes in
    subst (λ ds. IfOk c.pinned_nodes_at.result (λ pins. map bytes pins.items ≡ ds))
    (ap₂ (λ leaves n. map (digest_of hash shape leaves) (peaks shape n)) (sym (leaves-spelled hash shape g.U.Update.form 0 list)) c.get.ensures)
    (c.pinned_nodes_at.ensures.value (map (spelling g.U.Update.form) list) (subst (λ log. IsLog g.C.Store shape bytes hash log (map (spelling g.U.Update.form) list)) (sym (ap (λ b. b.log) c.self.view_is)) is.lent.logged))

pub returns-clause-lacking : goal.returns-clause-lacking
returns-clause-lacking g c =
    let shape = g.F.Family.shape in
    let log = c.self.inside.log in
    let r = c.pinned_nodes_at.result in
    let said = c.pinned_nodes_at.ensures in
    subst (λ db. IfErr r (IsPinsError shape db.log.tree (g.C.Store.start db.log.store) db.commitment.size c.args.count)) c.self.view_is
    (three (λ n a s. IfErr r (IsPinsError shape log.tree s a n)) c.get.ensures (sym c.self.invariant.0) (sym c.bounds.ensures.first)
    (pins-error shape log.tree log.tree.start log.tree.leaves c.get.result r said.range said.cause said.whole))
