use Rattle.std.proofs.Common.{◌∙◌, ◌++◌, ◌∷◌, [], Some, ap, ap₂, get_or, map, subst, sym, take}
use Rattle.std.specs.Prelude.{IsSome}
use Rattle.std.proofs.lemmas.List.{map-append, take_all, take_more}
use Rattle.std.proofs.lemmas.Result.{IfOk-from_err}
use Rattle.qm_graft.proofs.root.held_at.Goals as goal

pub loop-position-init : goal.loop-position-init
loop-position-init g c = ap (map Some) c.in_ok-found.ensures.items

pub loop-position-preserved : goal.loop-position-preserved
loop-position-preserved g c =
    let node = g.V.Nodes.node_at c.args.view.now in
    let positions = c.args.positions.now in
    let i = c.loop-position.position-index in
    let one = sym c.unwrap.ensures ∙ c.get_node.ensures ∙ ap node c.position-item.is in
    ap (map Some) c.in_ok-push.ensures.items ∙ map-append Some c.loop-position.found.items (c.unwrap.result ∷ [])
    ∙ ap₂ (λ l o. l ++ o ∷ []) c.loop-position.invariant one
    ∙ sym (ap (map node) (take_more positions i c.position-item.result c.loop-position-test.true) ∙ map-append node (take i positions) (get_or positions i c.position-item.result ∷ []))

pub returns-in_err-found : goal.returns-in_err-found
returns-in_err-found g c = IfOk-from_err c.from_residual.result _ c.from_residual.ensures.0

pub returns-in_err-push : goal.returns-in_err-push
returns-in_err-push g c = IfOk-from_err c.from_residual-in_err-push.result _ c.from_residual-in_err-push.ensures.0

pub returns : goal.returns
returns g c = c.loop-position.invariant ∙ ap (map (g.V.Nodes.node_at c.args.view.now)) (take_all c.loop-position.position-index c.args.positions.now c.loop-position-test.false)

pub unwrap-requires : goal.unwrap-requires
unwrap-requires g c = subst IsSome (sym (c.get_node.ensures ∙ ap (g.V.Nodes.node_at c.args.view.now) c.position-item.is)) (c.requires c.loop-position.position-index c.position-item.result c.loop-position-test.true)
