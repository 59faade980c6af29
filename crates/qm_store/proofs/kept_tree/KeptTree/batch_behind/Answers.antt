use Rattle.std.proofs.Common.{◌≡◌, ◌∙◌, ◌+◌, ◌∷◌, length, map, ap, sym, subst, arith, All, IfOk}
use Rattle.std.proofs.lemmas.Result.{IfOk-weaker}
use Rattle.qm_merkle.specs.Batches.{all_layers, stops, stops_since, IsHistory}
use Rattle.qm_store.specs.KeptTrees.{KeptTree, IsAdding, leaves_of}
use Rattle.qm_store.proofs.Kept.{tree-of, rest-of, rest-stop, rest-stops, rest-grown}
use Rattle.qm_store.proofs.Trees.{adds-first, adds-over}
use Rattle.qm_store.proofs.kept_tree.KeptTree.batch_behind.Goals as goal

pub returns-in-Some : goal.returns-in-Some
returns-in-Some g c =
    let hash = g.H.Hasher.hash in
    let shape = g.F.Family.shape in
    let bytes = g.D.Digest.bytes in
    let batch = c.in-Some.batch in
    let is = tree-of c.args.self.now c.self.inside.leaves c.self.inside.batch batch (sym c.self.view_is) c.in-Some.is c.self.invariant.1 in
    let layers : c.args.self.now.layers ≡ all_layers batch = ap (λ t. t.layers) is in
    record {
      history = λ list base lists stands history found. c.tree_since.ensures.history list base lists stands (subst (λ l. IsHistory shape bytes hash l (leaves_of hash shape base ∷ lists)) layers history) found;
      leaves = subst (λ (t : KeptTree _). IfOk c.tree_since.result (λ b. b.newest.tree.leaves ≡ t.leaves + length c.args.items.now)) (sym is) c.tree_since.ensures.leaves;
      adding = λ adding. adds-over shape c.args.boundary (all_layers batch) c.tree_since.result (subst (All (IsAdding shape)) layers adding) c.tree_since.ensures.older c.tree_since.ensures.adding;
      stops = IfOk-weaker c.tree_since.result _ _ (λ b since. ap (λ ns. b.newest.tree.leaves ∷ ns) (since ∙ ap (λ (t : KeptTree _). stops_since c.args.boundary (stops t.leaves t.layers)) (sym is))) c.tree_since.ensures.stops;
      same = c.tree_since.ensures.same;
    }

pub returns-in-None : goal.returns-in-None
returns-in-None g c =
    let hash = g.H.Hasher.hash in
    let shape = g.F.Family.shape in
    let bytes = g.D.Digest.bytes in
    let tree = c.args.self.now in
    let log = c.args.log.now.tree in
    let none = ap (λ t. t.layers) (rest-of tree c.self.inside.leaves c.self.inside.batch (sym c.self.view_is) c.in-None.is) in
    let last = rest-stop tree.leaves log.leaves tree.layers none c.requires.reach in
    record {
      history = λ list base lists is history found.
          subst (λ ls. IfOk c.tree_with.result (λ b. IsHistory shape bytes hash (all_layers b) ls))
          (rest-grown hash shape bytes tree.layers list base (map (λ v. v.items) c.args.items.now) lists c.args.boundary none (omega (arith, c.requires.boundary, is.size)) history found)
          (c.tree_with.ensures.history list is);
      leaves = subst (λ n. IfOk c.tree_with.result (λ b. b.newest.tree.leaves ≡ n + length c.args.items.now)) (sym last) c.tree_with.ensures.leaves;
      adding = λ adding. adds-first shape c.tree_with.result c.tree_with.ensures.older c.tree_with.ensures.adding;
      stops = rest-stops shape c.tree_with.result tree log.leaves c.args.boundary none last c.requires.boundary c.tree_with.ensures.older c.tree_with.ensures.start;
      same = c.tree_with.ensures.same;
    }
