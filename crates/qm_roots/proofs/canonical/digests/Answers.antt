use Rattle.std.proofs.Common.{◌∙◌, ◌++◌, ◌∷◌, [], Some, ap, ap₂, get_or, map, subst, sym, take}
use Rattle.std.proofs.lemmas.List.{map-append, take_all, take_more}
use Rattle.std.proofs.lemmas.Result.{IfOk-from_err}
use Rattle.qm_merkle.specs.Mems.{Holds, node_at}
use Rattle.qm_roots.proofs.canonical.digests.Goals as goal

pub loop-position-init : goal.loop-position-init
loop-position-init g c = ap (map Some) c.in_ok-found.ensures.items

pub loop-position-preserved : goal.loop-position-preserved
loop-position-preserved g c =
    let node = node_at g.F.Family.shape c.args.tree.now in
    let positions = c.args.positions.now in
    let i = c.loop-position.position-index in
    let one = sym c.unwrap.ensures ∙ c.get_node.ensures.value ∙ ap node c.position-item.is in
    ap (map Some) c.in_ok-push.ensures.items ∙ map-append Some c.loop-position.found.items (c.unwrap.result ∷ [])
    ∙ ap₂ (λ l o. l ++ o ∷ []) c.loop-position.invariant one
    ∙ sym (ap (map node) (take_more positions i c.position-item.result c.loop-position-test.true) ∙ map-append node (take i positions) (get_or positions i c.position-item.result ∷ []))

pub returns-in_err-found : goal.returns-in_err-found
returns-in_err-found g c = IfOk-from_err c.from_residual.result _ c.from_residual.ensures.0

pub returns-in_err-push : goal.returns-in_err-push
returns-in_err-push g c = IfOk-from_err c.from_residual-in_err-push.result _ c.from_residual-in_err-push.ensures.0

pub returns : goal.returns
returns g c = c.loop-position.invariant ∙ ap (map (node_at g.F.Family.shape c.args.tree.now)) (take_all c.loop-position.position-index c.args.positions.now c.loop-position-test.false)

pub unwrap-requires : goal.unwrap-requires
unwrap-requires g c = c.get_node.ensures.held.1 (subst (Holds g.F.Family.shape c.args.tree.now) (sym c.position-item.is) (c.requires c.loop-position.position-index c.position-item.result c.loop-position-test.true))
