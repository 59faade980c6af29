use Rattle.std.proofs.Common.{◌∙◌, ◌++◌, ap}
use Rattle.qm_merkle.specs.Batches.{Draft}
use Rattle.qm_tests.proofs.Reaches.{reaches}
use Rattle.qm_tests.proofs.grafts.add_leaves.Goals as goal

pub apply_batch-requires : goal.apply_batch-requires
apply_batch-requires g c =
    let begun = c.new_batch-draft.ensures in
    let added = c.in_ok-add_leaf_digests.ensures.ok in
    let older = c.in_ok-batch.ensures.older ∙ ap (λ (d : Draft _). d.layers) (added ∙ ap (λ (d : Draft _). record d { added = d.added ++ c.args.leaves.now }) begun) in
    let start = c.in_ok-batch.ensures.base ∙ ap (λ (d : Draft _). d.base) added ∙ ap (λ (d : Draft _). d.base) begun in
    record { reach = reaches c.in_ok-batch.batch.newest.tree.leaves c.in_ok-batch.batch.newest.tree.start c.args.tree.now.leaves c.in_ok-batch.batch.older older start }
