use Rattle.std.proofs.Common.{◌≡◌, ◌≤◌, ◌∙◌, ◌+◌, ◌++◌, ◌∷◌, ℕ, IfOk, All, Contains, length, ap, sym, subst, arith}
use Rattle.std.proofs.lemmas.List.Elements.{All-nil}
use Rattle.std.proofs.lemmas.Result.{IfOk-from_err}
use Rattle.qm_merkle.specs.Batches.{Draft, all_layers, leaves_of, stops, IsHistory}
use Rattle.qm_store.proofs.Trees.{adds, drafted-added}
use Rattle.qm_store.proofs.log.grown_behind.Goals as goal

pub returns-in_err-add_leaf_digests : goal.returns-in_err-add_leaf_digests
returns-in_err-add_leaf_digests g c =
    let result = c.from_residual.result in
    let failed = c.from_residual.ensures.0 in
    record {
      leaves = IfOk-from_err result _ failed;
      start = IfOk-from_err result _ failed;
      older = IfOk-from_err result _ failed;
      adding = IfOk-from_err result _ failed;
      history = λ list base lists stands history found. IfOk-from_err result _ failed;
    }

pub returns : goal.returns
returns g c = record {
  leaves =
      let added = c.args.digests.now in
      subst (λ n. IfOk c.merkleize.result (λ b. b.newest.tree.leaves ≡ n))
      (ap (λ (d : Draft _). leaves_of d) c.in_ok-add_leaf_digests.ensures.ok ∙ ap (λ ds. c.args.draft.base + length (ds ++ added)) c.requires.fresh) c.merkleize.ensures.leaves;
  start = subst (λ n. IfOk c.merkleize.result (λ b. b.newest.tree.start ≡ n)) (ap (λ (d : Draft _). d.base) c.in_ok-add_leaf_digests.ensures.ok) c.merkleize.ensures.base;
  older = subst (λ ls. IfOk c.merkleize.result (λ b. b.older ≡ ls)) (ap (λ (d : Draft _). d.layers) c.in_ok-add_leaf_digests.ensures.ok) c.merkleize.ensures.older;
  history = λ list base lists stands history found.
      let hash = g.H.Hasher.hash in
      let shape = g.F.Family.shape in
      let bytes = g.H.Digest.Digest.bytes in
      let draft = c.add_leaf_digests.new.self in
      let added = c.args.digests.now in
      let is = c.in_ok-add_leaf_digests.ensures.ok in
      subst (λ ds. IfOk c.merkleize.result (λ b. IsHistory shape bytes hash (all_layers b) (ds ∷ base ∷ lists)))
      (drafted-added bytes draft base added (ap (λ (d : Draft _). d.replaced) is ∙ c.requires.none) (ap (λ (d : Draft _). d.added) is ∙ ap (λ ds. ds ++ added) c.requires.fresh))
      (c.merkleize.ensures.history list base lists (subst (λ (d : Draft _). IsHistory shape bytes hash d.layers (base ∷ lists)) (sym is) history) found stands);
  adding =
      let is = c.in_ok-add_leaf_digests.ensures.ok in
      adds g.F.Family.shape c.add_leaf_digests.new.self c.merkleize.result (ap (λ (d : Draft _). d.replaced) is ∙ c.requires.none)
      c.merkleize.ensures.base c.merkleize.ensures.leaves c.merkleize.ensures.own;
}

pub merkleize-requires-clause-reach : goal.merkleize-requires-clause-reach
merkleize-requires-clause-reach g c = subst (λ (d : Draft _). Contains (stops d.base d.layers) c.args.tree.now.leaves) (sym c.in_ok-add_leaf_digests.ensures.ok) c.requires.reach

pub merkleize-requires-clause-replaced : goal.merkleize-requires-clause-replaced
merkleize-requires-clause-replaced g c =
    let late = λ (e : ℕ × _). c.args.tree.now.start ≤ e.0 in
    subst (All late) (sym (ap (λ (d : Draft _). d.replaced) c.in_ok-add_leaf_digests.ensures.ok ∙ c.requires.none)) (All-nil late)

pub add_leaf_digests-requires : goal.add_leaf_digests-requires
add_leaf_digests-requires g c = omega (arith, c.requires.room, ap length c.requires.fresh)
