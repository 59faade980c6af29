use Rattle.std.proofs.Common.{◌≡◌, ◌∙◌, ◌↔◌, ◌≤◌, ◌<◌, [], sym, ap, subst, IsSome}
use Rattle.std.specs.Prelude.{IfSome}
use Rattle.qm_model.specs.Trees.{digest_of}
use Rattle.qm_merkle.specs.Batches.{all_layers, layers_at, AreLinked}
use Rattle.qm_store.specs.KeptTrees.{layers_of, leaves_of}
use Rattle.qm_store.proofs.Leaves.{length-digests_from}
use Rattle.qm_store.proofs.Adding.{added-between, added-digest}
use Rattle.qm_store.proofs.kept_tree.KeptTree.get_node.Goals as goal

layers-in : (g : _) (c : goal.After-find_node g) → c.args.self.now.layers ≡ all_layers c.in-Some.batch
layers-in g c = sym (ap (λ t. t.layers) c.self.view_is) ∙ ap layers_of c.in-Some.is

linked-in : (g : _) (c : goal.After-find_node g) → AreLinked g.F.Family.shape c.args.self.now.leaves c.args.self.now.layers
linked-in g c =
    let shape = g.F.Family.shape in
    let leaves : c.in-Some.batch.newest.tree.leaves ≡ c.args.self.now.leaves =
    subst (λ o. IfSome o (λ b. b.newest.tree.leaves ≡ c.self.inside.leaves)) c.in-Some.is c.self.invariant.1 ∙ ap (λ t. t.leaves) c.self.view_is in
    subst (λ n. AreLinked shape n c.args.self.now.layers) leaves (subst (AreLinked shape c.in-Some.batch.newest.tree.leaves) (sym (layers-in g c)) c.find_node.ensures.linked)

found-in : (g : _) (c : goal.After-find_node g) → layers_at g.F.Family.shape c.args.self.now.layers c.args.position ≡ c.find_node.result
found-in g c = ap (λ ls. layers_at g.F.Family.shape ls c.args.position) (layers-in g c) ∙ sym c.find_node.ensures.value

pub returns-in-Some : goal.returns-in-Some
returns-in-Some g c = record {
  exact = sym (found-in g c);
  linked = linked-in g c;
  held = λ boundary adding reach above.
      let shape = g.F.Family.shape in
      subst (λ o. IsSome o ↔ ((shape.size boundary ≤ c.args.position) × (c.args.position < shape.size c.args.self.now.leaves))) (found-in g c)
      (added-between shape g.F.Family.births g.met.F.Family.numbered c.args.self.now.layers c.args.self.now.leaves boundary (linked-in g c) adding reach above c.args.position);
  value = λ hash tip older kept x at.
      let shape = g.F.Family.shape in
      let bytes = g.D.Digest.bytes in
      subst (λ o. IfSome o (λ d. bytes d ≡ digest_of hash shape (leaves_of hash shape tip) x)) (ap (layers_at shape c.args.self.now.layers) at ∙ found-in g c)
      (added-digest shape g.F.Family.births g.met.F.Family.numbered bytes hash c.args.self.now.layers c.args.self.now.leaves (leaves_of hash shape tip) kept.lists
      (linked-in g c) (length-digests_from hash shape 0 tip ∙ sym kept.leaves) kept.history x);
}

pub returns-in-None : goal.returns-in-None
returns-in-None g c = record {
  exact =
      let none : c.args.self.now.layers ≡ [] = sym (ap (λ t. t.layers) c.self.view_is) ∙ ap layers_of c.in-None.is in
      sym (ap (λ ls. layers_at g.F.Family.shape ls c.args.position) none);
  linked =
      let none : c.args.self.now.layers ≡ [] = sym (ap (λ t. t.layers) c.self.view_is) ∙ ap layers_of c.in-None.is in
      subst (AreLinked g.F.Family.shape c.args.self.now.leaves) (sym none) tt;
  held = λ boundary adding reach above.
      let shape = g.F.Family.shape in
      let none : c.args.self.now.layers ≡ [] = sym (ap (λ t. t.layers) c.self.view_is) ∙ ap layers_of c.in-None.is in
      subst (λ ls. IsSome (layers_at shape ls c.args.position) ↔ ((shape.size boundary ≤ c.args.position) × (c.args.position < shape.size c.args.self.now.leaves))) none
      (added-between shape g.F.Family.births g.met.F.Family.numbered c.args.self.now.layers c.args.self.now.leaves boundary (subst (AreLinked shape c.args.self.now.leaves) (sym none) tt) adding reach above c.args.position);
  value = λ hash tip older kept x at. tt;
}
