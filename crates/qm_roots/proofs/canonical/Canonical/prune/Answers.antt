use Rattle.std.proofs.Common.{◌∙◌, ◌<◌, ◌≤◌, arith, ap, sym, subst}
use Rattle.qm_model.specs.Grafted.{needed_size}
use Rattle.qm_merkle.specs.Mems.{Stands}
use Rattle.qm_graft.specs.Grafting.{grafting, kept_shape}
use Rattle.qm_graft.proofs.Fitting.{grafting-some}
use Rattle.qm_roots.specs.Canonical.{Canonical, MayGo, values_of}
use Rattle.qm_roots.proofs.Going.{gone-grafted}
use Rattle.qm_roots.proofs.canonical.Canonical.prune.Goals as goal

pub prune-requires-clause-leaves : goal.prune-requires-clause-leaves
prune-requires-clause-leaves g c =
    let height = grafting g.N.Chunks.LEN in
    let some = let least = g.met.N.Chunks.least in grafting-some g.N.Chunks.LEN least in
    let size = ap (λ (o : Canonical g.row.D.Denot). o.size) c.self.view_is in
    let low = gone-grafted g.F.Family.shape g.F.Family.births g.met.F.Family.numbered height (λ m k x more needed born. g.met.F.Graftable.absorbed height m k x some more needed born) c.self.inside.size c.args.chunks
    (subst (λ n. MayGo g.F.Family.shape height c.args.chunks n) (sym size) c.requires.may_go) in
    omega (arith, low, c.self.invariant.leaves, c.new.ensures)

pub invariant_of-self-2 : goal.invariant_of-self-2
invariant_of-self-2 g c =
    let shape = g.F.Family.shape in
    let height = grafting g.N.Chunks.LEN in
    let sized = c.self.invariant in
    let bounds = c.in_ok-prune.ensures.bounds in
    let start = bounds.0 ∙ c.new.ensures in record {
      few = sized.few;
      leaves = bounds.1 ∙ sized.leaves;
      may_go = subst (λ n. 0 < n → needed_size shape height n ≤ c.self.inside.size) (sym start)
          (λ more. omega (arith, c.requires.may_go more, ap (λ (o : Canonical g.row.D.Denot). o.size) c.self.view_is));
    }

pub returns : goal.returns
returns g c =
    let height = grafting g.N.Chunks.LEN in
    let bounds = c.in_ok-prune.ensures.bounds in
    let size = ap (λ (o : Canonical g.row.D.Denot). o.size) c.self.view_is in
    let root = ap (λ (o : Canonical g.row.D.Denot). o.root) c.self.view_is in record {
      start = bounds.0 ∙ c.new.ensures;
      same = (size, root);
      stands = λ hash form list at. record {
        size_is = size ∙ at.size_is;
        tree = c.in_ok-prune.ensures.stands hash (values_of hash g.F.Family.shape height form list)
            (subst (λ t. Stands (kept_shape g.F.Family.shape height) g.D.Digest.bytes hash t (values_of hash g.F.Family.shape height form list)) (sym (ap (λ (o : Canonical g.row.D.Denot). o.tree) c.self.view_is)) at.tree);
        root = root ∙ at.root;
      };
      err = tt;
    }
