use Rattle.std.proofs.Common.{◌≡◌, ◌≤◌, None, OnOk, IfErr, map, sym, ap, subst, IfOk}
use Rattle.qm_model.specs.Trees.{digest_of, peaks, peak_positions}
use Rattle.qm_merkle.specs.Batches.{all_layers}
use Rattle.qm_proofs.specs.Proofs.{first_lacked}
use Rattle.qm_store.specs.Log.{IsLacked}
use Rattle.qm_store.specs.KeptTrees.{KeptTree, leaves_of, held_at}
use Rattle.qm_store.proofs.Kept.{tree-of, rest-of, rest-stop, kept-through, rest-same}
use Rattle.qm_store.proofs.kept_tree.KeptTree.pins.Goals as goal

pub returns-in-Some : goal.returns-in-Some
returns-in-Some g c =
    let hash = g.H.Hasher.hash in
    let shape = g.F.Family.shape in
    let bytes = g.D.Digest.bytes in
    let tree = c.args.self.now in
    let log = c.args.log.now.tree in
    let layers = all_layers c.in-Some.batch in
    let positions = peak_positions shape c.args.count in
    let is = tree-of tree c.self.inside.leaves c.self.inside.batch c.in-Some.batch (sym c.self.view_is) c.in-Some.is c.self.invariant.1 in
    let made = c.speculative_pinned_nodes in
    record {
      value = λ list tip older stands kept found.
          let through = kept-through hash shape bytes tree tip older kept layers (ap (λ t. t.layers) is) list found in
          made.ensures.value list (leaves_of hash shape tip) kept.lists stands through.0 through.1;
      held = subst (λ (t : KeptTree _). OnOk made.result (first_lacked (held_at shape t log) positions ≡ None)) (sym is) made.ensures.held;
      cause = subst (λ (t : KeptTree _). IfErr made.result (IsLacked (held_at shape t log) positions)) (sym is) made.ensures.cause;
      whole = λ first list tip older stands kept found.
          let through = kept-through hash shape bytes tree tip older kept layers (ap (λ t. t.layers) is) list found in
          made.ensures.whole first list (leaves_of hash shape tip) kept.lists stands through.0 through.1;
    }

pub returns-in-None : goal.returns-in-None
returns-in-None g c =
    let hash = g.H.Hasher.hash in
    let shape = g.F.Family.shape in
    let bytes = g.D.Digest.bytes in
    let tree = c.args.self.now in
    let log = c.args.log.now.tree in
    let positions = peak_positions shape c.args.count in
    let is = rest-of tree c.self.inside.leaves c.self.inside.batch (sym c.self.view_is) c.in-None.is in
    let none = ap (λ t. t.layers) is in
    let within : c.args.count ≤ log.leaves = subst (λ n. c.args.count ≤ n) (rest-stop tree.leaves log.leaves tree.layers none c.requires.reach) c.requires.count in
    let made = c.pinned_nodes_at in
    record {
      value = λ list tip older stands kept found.
          subst (λ ds. IfOk made.result (λ pins. map bytes pins.items ≡ map (digest_of hash shape ds) (peaks shape c.args.count))) (rest-same hash shape bytes tree tip older kept list none found) (made.ensures.value list stands);
      held = subst (λ (t : KeptTree _). OnOk made.result (first_lacked (held_at shape t log) positions ≡ None)) (sym is) made.ensures.held;
      cause = subst (λ (t : KeptTree _). IfErr made.result (IsLacked (held_at shape t log) positions)) (sym is) (made.ensures.cause within);
      whole = λ first list tip older stands kept found. made.ensures.whole first within;
    }
