use Rattle.std.proofs.Common.{◌≡◌, [], ◌+◌, IfOk, ◌∙◌, Contains, length, ap, subst}
use Rattle.qm_model.proofs.Chains.{Contains-first}
use Rattle.qm_merkle.specs.Batches.{Draft, all_layers, stops}
use Rattle.qm_store.proofs.Trees.{if_both, begins, new_reach, new_history}
use Rattle.qm_store.proofs.log.grown.Goals as goal

pub grown_behind-requires-clause-none : goal.grown_behind-requires-clause-none
grown_behind-requires-clause-none g c = ap (λ (d : Draft _). d.replaced) c.new_batch-draft.ensures

pub grown_behind-requires-clause-fresh : goal.grown_behind-requires-clause-fresh
grown_behind-requires-clause-fresh g c = ap (λ (d : Draft _). d.added) c.new_batch-draft.ensures

pub grown_behind-requires-clause-reach : goal.grown_behind-requires-clause-reach
grown_behind-requires-clause-reach g c = new_reach c.new_batch-draft.result c.args.tree.now.start c.args.tree.now.leaves [] c.new_batch-draft.ensures

pub returns : goal.returns
returns g c = record {
  leaves =
      subst (λ n. IfOk c.grown_behind.result (λ b. b.newest.tree.leaves ≡ n)) (ap (λ (d : Draft _). d.base + length c.args.digests.now) c.new_batch-draft.ensures) c.grown_behind.ensures.leaves;
  reach =
      let base = c.args.tree.now.leaves in
      let draft = c.new_batch-draft.result in
      let is = c.new_batch-draft.ensures in
      if_both c.grown_behind.result (λ b. b.older ≡ draft.layers) (λ b. b.newest.tree.start ≡ draft.base) (λ b. Contains (stops b.newest.tree.leaves (all_layers b)) base)
      (λ b older start. begins b base (older ∙ ap (λ (d : Draft _). d.layers) is) (start ∙ ap (λ (d : Draft _). d.base) is)) c.grown_behind.ensures.older c.grown_behind.ensures.start;
  history = λ list stands.
      let shape = g.F.Family.shape in
      let bytes = g.H.Digest.Digest.bytes in
      let draft = c.new_batch-draft.result in
      c.grown_behind.ensures.history list list [] stands
      (new_history draft c.args.tree.now.start c.args.tree.now.leaves [] c.new_batch-draft.ensures g.H.Hasher.hash shape bytes list) (Contains-first list []);
  start = subst (λ n. IfOk c.grown_behind.result (λ b. b.newest.tree.start ≡ n)) (ap (λ (d : Draft _). d.base) c.new_batch-draft.ensures) c.grown_behind.ensures.start;
  older = subst (λ ls. IfOk c.grown_behind.result (λ b. b.older ≡ ls)) (ap (λ (d : Draft _). d.layers) c.new_batch-draft.ensures) c.grown_behind.ensures.older;
  adding = c.grown_behind.ensures.adding;
}
