use Rattle.std.proofs.Common.{◌≡◌, ◌*◌, ◌^◌, ap, arith}
use Rattle.qm_model.specs.Grafted.{sync_boundary}
use Rattle.qm_model.proofs.GraftedLemmas.{boundary_most}
use Rattle.qm_chunks.proofs.boundary.sync_boundary.Goals as goal

pub returns-clause-exact : goal.returns-clause-exact
returns-clause-exact g c =
    let same : c.prunable_chunks.result * 2 ^ c.args.height ≡ sync_boundary g.F.Family.shape c.args.height c.args.floor c.args.size = ap (λ k. k * 2 ^ c.args.height) c.prunable_chunks.ensures in
    omega (arith, same, boundary_most g.F.Family.shape c.args.height c.args.floor c.args.size, c.requires.within)

pub returns-clause-below : goal.returns-clause-below
returns-clause-below g c =
    let same : c.prunable_chunks.result * 2 ^ c.args.height ≡ sync_boundary g.F.Family.shape c.args.height c.args.floor c.args.size = ap (λ k. k * 2 ^ c.args.height) c.prunable_chunks.ensures in
    omega (arith, same, boundary_most g.F.Family.shape c.args.height c.args.floor c.args.size)
