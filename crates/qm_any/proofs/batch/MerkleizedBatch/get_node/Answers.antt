use Rattle.std.proofs.Common.{◌≡◌, ◌∙◌, ◌↔◌, ◌≤◌, ◌<◌, All, Contains, map, ap, sym, subst, IsSome}
use Rattle.std.specs.Prelude.{IfSome}
use Rattle.qm_model.specs.Trees.{digest_of}
use Rattle.qm_merkle.specs.Batches.{AreLinked, layers_at, stops}
use Rattle.qm_store.specs.KeptTrees.{KeptTree, IsAdding, IsKeptTree}
use Rattle.qm_store.proofs.Leaves.{leaves-spelled}
use Rattle.qm_any.specs.Layouts.{hashing_with, spellings}
use Rattle.qm_any.specs.Databases.{AreAgreed, bases_of}
use Rattle.qm_any.proofs.Agreed.{boundary-reached}
use Rattle.qm_any.proofs.batch.MerkleizedBatch.get_node.Goals as goal

pub returns-clause-exact : goal.returns-clause-exact
returns-clause-exact g c = c.get_node.ensures.exact ∙ ap (λ b. layers_at g.F.Family.shape b.tree.layers c.args.position) c.self.view_is

pub returns-clause-held : goal.returns-clause-held
returns-clause-held g c = λ hash chain tip made.
    let shape = g.F.Family.shape in
    let agreed = subst AreAgreed c.self.view_is c.self.invariant.0 in
    let tree = ap (λ b. b.tree) c.self.view_is in
    let boundary = c.args.self.now.bounds.db.size in
    subst (λ n. IsSome c.get_node.result ↔ ((shape.size boundary ≤ c.args.position) × (c.args.position < shape.size n))) (ap (λ t. t.leaves) tree ∙ agreed.leaves)
    (c.get_node.ensures.held boundary
    (subst (λ t. All (IsAdding shape) t.layers) (sym tree) made.tree.adding)
    (subst (λ t. Contains (stops t.leaves t.layers) boundary) (sym tree) (boundary-reached c.args.self.now agreed))
    (subst (λ t. All (λ n. boundary ≤ n) (stops t.leaves t.layers)) (sym tree) agreed.above))

pub returns-clause-value : goal.returns-clause-value
returns-clause-value g c = λ hash chain tip made x at.
    let shape = g.F.Family.shape in
    let bytes = g.D.Digest.bytes in
    let hashing = hashing_with bytes hash shape g.U.Update.form in
    let older = map (spellings hashing) (bases_of chain) in
    subst (λ ds. IfSome c.get_node.result (λ d. bytes d ≡ digest_of hash shape ds x)) (sym (leaves-spelled hash shape g.U.Update.form 0 tip))
    (c.get_node.ensures.value hash (spellings hashing tip) older
    (subst (λ t. IsKeptTree bytes hash shape t (spellings hashing tip) older) (sym (ap (λ b. b.tree) c.self.view_is)) made.tree) x at)

pub returns-clause-linked : goal.returns-clause-linked
returns-clause-linked g c = subst (λ (t : KeptTree g.row.D.Denot). AreLinked g.F.Family.shape t.leaves t.layers) (ap (λ b. b.tree) c.self.view_is) c.get_node.ensures.linked
