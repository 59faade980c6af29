use Rattle.std.proofs.Common.{◌≡◌, ◌∙◌, ◌+◌, ◌++◌, ◌∷◌, length, map, sym, subst, ap, ap₂}
use Rattle.std.proofs.lemmas.List.{length-map}
use Rattle.std.proofs.lemmas.Result.{IfOk-from_err}
use Rattle.qm_merkle.specs.Batches.{all_layers, stops, stops_since, lists_since}
use Rattle.qm_store.specs.KeptTrees.{leaves_of}
use Rattle.qm_store.proofs.Kept.{kept-among, kept-grown}
use Rattle.qm_store.proofs.kept_tree.KeptTree.grown.Goals as goal

pub returns-in_err-batch : goal.returns-in_err-batch
returns-in_err-batch g c =
    let result = c.from_residual.result in
    let failed = c.from_residual.ensures.0 in
    record {
      leaves = IfOk-from_err result _ failed;
      stops = IfOk-from_err result _ failed;
      tree = λ list base older is kept found. IfOk-from_err result _ failed;
      root = λ list base older is kept found. IfOk-from_err result _ failed;
      same = c.batch_behind.ensures.same;
    }

pub returns-in_err-root : goal.returns-in_err-root
returns-in_err-root g c =
    let result = c.from_residual-in_err-root.result in
    let failed = c.from_residual-in_err-root.ensures.0 in
    record {
      leaves = IfOk-from_err result _ failed;
      stops = IfOk-from_err result _ failed;
      tree = λ list base older is kept found. IfOk-from_err result _ failed;
      root = λ list base older is kept found. IfOk-from_err result _ failed;
      same = c.speculative_root.ensures.same ∙ c.batch_behind.ensures.same;
    }

pub returns : goal.returns
returns g c =
    let hash = g.H.Hasher.hash in
    let shape = g.F.Family.shape in
    let bytes = g.D.Digest.bytes in
    let tree = c.args.self.now in
    let batch = c.in_ok-batch.batch in
    let more = map (λ v. v.items) c.args.items.now in
    let leaves = ap (λ t. t.leaves) c.self.view_is in
    record {
      leaves = ap (λ n. n + length c.args.items.now) leaves;
      stops = subst (λ n. stops n (all_layers batch) ≡ n ∷ stops_since c.args.boundary (stops tree.leaves tree.layers)) (c.in_ok-batch.ensures.leaves ∙ ap (λ n. n + length c.args.items.now) (sym leaves)) c.in_ok-batch.ensures.stops;
      tree = λ list base older is kept found.
          let history = c.in_ok-batch.ensures.history list base kept.lists is kept.history (kept-among hash shape bytes tree base older kept list found) in
          let long : c.self.inside.leaves + length c.args.items.now ≡ tree.leaves + length more = ap₂ (λ a b. a + b) leaves (sym (length-map c.args.items.now (λ v. v.items))) in
          kept-grown hash shape bytes tree base older kept (record { leaves = c.self.inside.leaves + length c.args.items.now; layers = all_layers batch }) more c.args.boundary long history (c.in_ok-batch.ensures.adding kept.adding);
      root = λ list base older is kept found.
          let history = c.in_ok-batch.ensures.history list base kept.lists is kept.history (kept-among hash shape bytes tree base older kept list found) in
          c.in_ok-root.ensures.value (leaves_of hash shape (base ++ more)) (lists_since c.args.boundary (leaves_of hash shape base ∷ kept.lists)) history;
      same = c.speculative_root.ensures.same ∙ c.batch_behind.ensures.same;
    }
