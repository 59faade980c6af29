use Rattle.std.proofs.Common.{◌≡◌, ◌∙◌, ◌↔◌, map, sym, ap, subst, arith, IsSome}
use Rattle.std.proofs.lemmas.List.{length-map}
use Rattle.std.specs.Prelude.{IfSome}
use Rattle.qm_model.specs.Forms.{spelling}
use Rattle.qm_model.specs.Trees.{digest_of}
use Rattle.qm_merkle.specs.Mems.{Holds, node_at}
use Rattle.qm_proofs.proofs.Telling.{tree_tells}
use Rattle.qm_store.specs.Log.{digests_from}
use Rattle.qm_store.proofs.Leaves.{length-digests_from, leaves-spelled}
use Rattle.qm_any.proofs.db.Db.get_node.Goals as goal

pub returns-clause-exact : goal.returns-clause-exact
returns-clause-exact g c = c.get_node.ensures.value ∙ ap (λ t. node_at g.F.Family.shape t c.args.position) (c.tree.ensures ∙ ap (λ db. db.log.tree) c.self.view_is)

pub returns-clause-held : goal.returns-clause-held
returns-clause-held g c =
    subst (λ t. IsSome c.get_node.result ↔ Holds g.F.Family.shape t c.args.position) (c.tree.ensures ∙ ap (λ db. db.log.tree) c.self.view_is) c.get_node.ensures.held

pub returns-clause-value : goal.returns-clause-value
returns-clause-value g c = λ list is x born at.
    let shape = g.F.Family.shape in
    let hash = g.H.Hasher.hash in
    let bytes = g.H.Digest.Digest.bytes in
    let spelled = map (spelling g.U.Update.form) list in
    let tree = c.args.self.now.log.tree in
    let lent : c.tree.result.now ≡ tree = c.tree.ensures ∙ ap (λ db. db.log.tree) c.self.view_is in
    let same : node_at shape tree (shape.position x) ≡ c.get_node.result = ap (node_at shape tree) at ∙ ap (λ t. node_at shape t c.args.position) (sym lent) ∙ sym c.get_node.ensures.value in
    let leaves = leaves-spelled hash shape g.U.Update.form 0 list in
    let told = tree_tells shape g.F.Family.births g.met.F.Family.numbered g.met.F.Family.peaked bytes hash tree (digests_from hash shape 0 spelled) is.lent.logged.tree x
    (omega (arith, born, length-digests_from hash shape 0 spelled, length-map list (spelling g.U.Update.form))) in
    subst (λ ds. IfSome c.get_node.result (λ d. bytes d ≡ digest_of hash shape ds x)) (sym leaves)
    (subst (λ o. IfSome o (λ d. bytes d ≡ digest_of hash shape (digests_from hash shape 0 spelled) x)) same told)
