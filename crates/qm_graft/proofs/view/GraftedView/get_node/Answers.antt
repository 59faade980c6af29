use Rattle.std.proofs.Common.{◌<◌, ◌≤◌, ◌∙◌, arith, length, ap, sym, ⊎_elim}
use Rattle.std.proofs.lemmas.Bool.{cases_lt}
use Rattle.qm_model.specs.Grafted.{grafted_chunks}
use Rattle.qm_graft.specs.Grafting.{grafting}
use Rattle.qm_graft.proofs.Fitting.{grafting-some}
use Rattle.qm_graft.proofs.There.{held_none, held_low, held_high}
use Rattle.qm_graft.proofs.Viewing.{tells_low, tells_high}
use Rattle.qm_graft.proofs.view.GraftedView.get_node.Goals as goal

pub returns-clause-low : goal.returns-clause-low
returns-clause-low g c x stands low =
    let view = c.args.self.now in
    c.get_node.ensures ∙ held_low g.F.Family.shape g.F.Family.births g.met.F.Family.numbered (g.O.Nodes.node_at view.operations) (g.G.Nodes.node_at view.grafted) (grafting g.N.Chunks.LEN) view.leaves c.args.position x stands low

pub returns-clause-high : goal.returns-clause-high
returns-clause-high g c x stands high =
    let view = c.args.self.now in
    c.get_node.ensures ∙ held_high g.F.Family.shape g.F.Family.births g.met.F.Family.numbered (g.O.Nodes.node_at view.operations) (g.G.Nodes.node_at view.grafted) (grafting g.N.Chunks.LEN) view.leaves c.args.position x stands high

pub returns-clause-none : goal.returns-clause-none
returns-clause-none g c behind =
    let view = c.args.self.now in
    c.get_node.ensures ∙ held_none g.F.Family.shape g.F.Family.births g.met.F.Family.numbered (g.O.Nodes.node_at view.operations) (g.G.Nodes.node_at view.grafted) (grafting g.N.Chunks.LEN) view.leaves c.args.position behind

pub returns-clause-value : goal.returns-clause-value
returns-clause-value g c hash list chunks long few digests values x stands =
    let shape = g.F.Family.shape in
    let births = g.F.Family.births in
    let family = g.met.F.Family.numbered in
    let height = grafting g.N.Chunks.LEN in
    let view = c.args.self.now in
    let born : shape.birth x ≤ length list = omega (arith, stands.1, long) in
    ⊎_elim
    (λ (low : x.height < height).
    tells_low g.D.Digest.bytes hash shape births family height list chunks (g.O.Nodes.node_at view.operations) digests x low born c.get_node.result (returns-clause-low g c x stands low ∙ ap (g.O.Nodes.node_at view.operations) (sym stands.0)))
    (λ (high : height ≤ x.height).
    tells_high g.D.Digest.bytes hash shape births family height list chunks (g.G.Nodes.node_at view.grafted) few (grafted_chunks shape height view.leaves)
    (λ y there. g.met.F.Graftable.lowered height view.leaves y (grafting-some g.N.Chunks.LEN g.met.N.Chunks.least) (omega (arith, there, long))) values x high born c.get_node.result (returns-clause-high g c x stands high))
    (cases_lt x.height height)
