use Rattle.std.proofs.Common.{subst}
use Rattle.qm_graft.specs.Grafting.{grafting}
use Rattle.qm_graft.proofs.Fitting.{grafting-some}
use Rattle.qm_roots.specs.Canonical.{MayGo}
use Rattle.qm_roots.proofs.Going.{gone-grafted}
use Rattle.qm_current.specs.Databases.{Database}
use Rattle.qm_current.proofs.laws.pruned_chunks_are_grafted.Goals as goal

pub returns-clause-grafted : goal.returns-clause-grafted
returns-clause-grafted g c =
    let shape = g.F.Family.shape in
    let height = grafting g.N.Chunks.LEN in
    let some = let least = g.met.N.Chunks.least in grafting-some g.N.Chunks.LEN least in
    let db = c.args.db.now in
    let goes : MayGo shape height db.any.activity.pruned db.any.commitment.size =
    subst (λ (d : Database g.row.C.Denot g.row.H-Digest.Denot). MayGo shape height d.any.activity.pruned d.any.commitment.size) c.db.view_is
    (subst (λ p. MayGo shape height p c.db.inside.any.commitment.size) c.db.invariant.forgotten
    (subst (λ n. MayGo shape height c.db.inside.canonical.tree.start n) c.db.invariant.size_is c.tree.ensures.sized.may_go)) in
    gone-grafted shape g.F.Family.births g.met.F.Family.numbered height (λ m k x more needed born. g.met.F.Graftable.absorbed height m k x some more needed born)
    db.any.commitment.size db.any.activity.pruned goes
