use Rattle.std.proofs.Common.{◌∙◌, ap₂, map}
use Rattle.qm_proofs.specs.Proofs.{needed_positions}
use Rattle.qm_proofs.proofs.Listing.{none_lacked}
use Rattle.qm_proofs.proofs.Telling.{told}
use Rattle.qm_proofs.proofs.Proof.new.Goals as goal

pub returns-clause-held : goal.returns-clause-held
returns-clause-held g c =
    none_lacked (g.N.Nodes.node_at c.args.nodes.now) c.in_ok-digests.digests.items _
    (c.in_ok-digests.ensures.digests ∙ ap₂ (λ a b. map (g.N.Nodes.node_at c.args.nodes.now) (needed_positions g.F.Family.shape c.args.leaves a b)) c.get.ensures c.get-2.ensures)

pub returns-clause-tells : goal.returns-clause-tells
returns-clause-tells g c = λ hash list long tells.
    told g.F.Family.shape g.F.Family.births g.met.F.Family.numbered g.met.F.Family.peaked g.D.Digest.bytes hash (g.N.Nodes.node_at c.args.nodes.now) list c.args.leaves c.args.inactive_peaks c.args.start c.args.end
    c.requires.few long tells c.in_ok-digests.digests.items c.get-3.result
    (c.in_ok-digests.ensures.digests ∙ ap₂ (λ a b. map (g.N.Nodes.node_at c.args.nodes.now) (needed_positions g.F.Family.shape c.args.leaves a b)) c.get.ensures c.get-2.ensures)
    c.get-3.ensures
