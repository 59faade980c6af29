use Rattle.std.proofs.Common.{◌≡◌, ◌∙◌, ap, sym, refl}
use Rattle.qm_graft.specs.Grafting.{grafting}
use Rattle.qm_graft.specs.Trees.{Stands}
use Rattle.qm_graft.proofs.There.{held_none, held_low, held_high}
use Rattle.qm_graft.proofs.Viewing.{lowered_place, is_high, is_low}
use Rattle.qm_graft.proofs.view.node_in.Goals as goal

pub returns-in_err-node : goal.returns-in_err-node
returns-in_err-node g c =
    c.from_residual.ensures ∙ sym (held_none g.F.Family.shape g.F.Family.births g.met.F.Family.numbered (g.O.Nodes.node_at c.args.operations.now) (g.G.Nodes.node_at c.args.grafted.now) (grafting g.N.Chunks.LEN) c.args.leaves c.args.position (c.in_err-node.ensures.none refl))

pub returns-in-Some : goal.returns-in-Some
returns-in-Some g c =
    let shape = g.F.Family.shape in
    let node = c.in_ok-node.node in
    let stands : Stands shape c.args.leaves c.args.position node = (c.in_ok-node.ensures.stands, c.in_ok-node.ensures.born) in
    let place : c.grafted_position.result ≡ lowered_place shape (grafting g.N.Chunks.LEN) node = c.grafted_position.ensures in
    let at = is_high shape (grafting g.N.Chunks.LEN) node c.in-Some.position (sym c.in-Some.is ∙ place) in
    let asked = ap (g.G.Nodes.node_at c.args.grafted.now) at.1 in
    c.get_node.ensures ∙ asked
    ∙ sym (held_high shape g.F.Family.births g.met.F.Family.numbered (g.O.Nodes.node_at c.args.operations.now) (g.G.Nodes.node_at c.args.grafted.now) (grafting g.N.Chunks.LEN) c.args.leaves c.args.position node stands at.0)

pub returns-in-None : goal.returns-in-None
returns-in-None g c =
    let shape = g.F.Family.shape in
    let node = c.in_ok-node.node in
    let stands : Stands shape c.args.leaves c.args.position node = (c.in_ok-node.ensures.stands, c.in_ok-node.ensures.born) in
    let place : c.grafted_position.result ≡ lowered_place shape (grafting g.N.Chunks.LEN) node = c.grafted_position.ensures in
    let low = is_low shape (grafting g.N.Chunks.LEN) node (sym c.in-None.is ∙ place) in
    c.get_node-in-None.ensures
    ∙ sym (held_low shape g.F.Family.births g.met.F.Family.numbered (g.O.Nodes.node_at c.args.operations.now) (g.G.Nodes.node_at c.args.grafted.now) (grafting g.N.Chunks.LEN) c.args.leaves c.args.position node stands low)
