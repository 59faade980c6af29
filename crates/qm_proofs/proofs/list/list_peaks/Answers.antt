use Rattle.std.proofs.Common.{◌≤◌, ◌+◌, ◌++◌, ◌∙◌, List, Some, length, refl, map, take, drop, arith, ap}
use Rattle.std.proofs.lemmas.List.{take_all}
use Rattle.std.specs.Prelude.{flat_map}
use Rattle.std.proofs.lemmas.Result.{err_from_is_err_and}
use Rattle.qm_model.specs.Trees.{Node, peaks}
use Rattle.qm_model.specs.Proofs.{needed}
use Rattle.qm_proofs.proofs.Halving.{peak_within}
use Rattle.qm_proofs.proofs.Listing.{lacks_first, lacks_later, none_lacked, positions_next, positions_around}
use Rattle.qm_proofs.proofs.list.list_peaks.Goals as goal

pub returns-in_err-list_node : goal.returns-in_err-list_node
returns-in_err-list_node g c =
    let exit = err_from_is_err_and c.from_residual.result c.from_residual.ensures.1 in
    record {
      digests = rw exit.1 tt;
      cause =
          let at = g.N.Nodes.node_at c.args.nodes.now in
          let position = g.F.Family.shape.position in
          let f = λ (p : Node). needed c.args.start c.args.end p.height p.index in
          let all = peaks g.F.Family.shape c.args.leaves in
          let before = map position (flat_map f (take c.peaks.number all)) in
          let own = map position (f c.peak-peak.result) in
          let behind = map position (flat_map f (drop (c.peaks.number + 1) all)) in
          rw (exit.1, exit.2)
          (lacks_later at before (own ++ behind) _ _ (positions_around f position all c.peaks.number c.peak-peak.result c.peak-peak.ensures) (none_lacked at c.peaks.digests.items before c.peaks.invariant)
          (lacks_first at own behind (own ++ behind) _ refl c.in_err-list_node.ensures.cause));
    }

pub peaks-preserved : goal.peaks-preserved
peaks-preserved g c =
    let f = λ (p : Node). needed c.args.start c.args.end p.height p.index in
    positions_next f g.F.Family.shape.position (g.N.Nodes.node_at c.args.nodes.now) _ _ (peaks g.F.Family.shape c.args.leaves) c.peaks.number c.peak-peak.result c.peak-peak.ensures c.peaks.invariant c.in_ok-list_node.ensures.digests

pub peaks-init : goal.peaks-init
peaks-init g c = ap (map Some) c.new-digests.ensures.items

pub peak_count-count-requires : goal.peak_count-count-requires
peak_count-count-requires g c = c.requires

pub peak-peak-requires-clause-leaves : goal.peak-peak-requires-clause-leaves
peak-peak-requires-clause-leaves g c = c.requires

pub peak-peak-requires-clause-number : goal.peak-peak-requires-clause-number
peak-peak-requires-clause-number g c = omega (arith, c.peaks-test.true, c.peak_count-count.ensures)

pub list_node-requires : goal.list_node-requires
list_node-requires g c =
    omega (arith, c.requires, peak_within g.F.Family.shape g.F.Family.births g.met.F.Family.numbered g.met.F.Family.peaked c.args.leaves c.peaks.number c.peak-peak.result c.requires c.peak-peak.ensures)

pub returns : goal.returns
returns g c = record {
  digests =
      let all = peaks g.F.Family.shape c.args.leaves in
      let past : length all ≤ c.peaks.number = omega (arith, c.peaks-test.false, c.peak_count-count.ensures) in
      c.peaks.invariant ∙ ap (λ (ps : List Node). map (g.N.Nodes.node_at c.args.nodes.now) (map g.F.Family.shape.position (flat_map (λ p. needed c.args.start c.args.end p.height p.index) ps))) (take_all c.peaks.number all past);
  cause = tt;
}
