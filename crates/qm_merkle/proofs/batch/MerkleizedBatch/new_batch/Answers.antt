use Rattle.std.proofs.Common.{◌≡◌, ◌∙◌, [], List, ap, subst}
use Rattle.std.specs.Prelude.{IfOk}
use Rattle.qm_merkle.specs.Batches.{Layer, all_layers, layers_since}
use Rattle.qm_merkle.proofs.Since.{since-all}
use Rattle.qm_merkle.proofs.batch.MerkleizedBatch.new_batch.Goals as goal

pub returns : goal.returns
returns g c =
    let batch = c.args.self.now in
    subst (λ (layers : List (Layer g.row.D.Denot)). IfOk c.new_batch_since.result (λ b. b ≡ record { start = batch.start; base = batch.newest.tree.leaves; layers = layers; replaced = []; added = [] }))
    (ap (λ n. layers_since n (all_layers batch)) c.new.ensures ∙ since-all (all_layers batch)) c.new_batch_since.ensures.draft
