use Rattle.std.proofs.Common.{◌∙◌, ◌+◌, ap, length, map, sym, subst}
use Rattle.std.proofs.lemmas.List.{length-map}
use Rattle.qm_operations.specs.Views.{operation_view}
use Rattle.qm_step.specs.Layers.{Layer}
use Rattle.qm_any.specs.Databases.{AreAgreed}
use Rattle.qm_any.proofs.Firsts.{own-count, own-behind}
use Rattle.qm_any.proofs.batch.MerkleizedBatch.operations.Goals as goal

pub returns : goal.returns
returns g c =
    let batch = c.args.self.now in
    let layers = ap (λ i. map (λ l. l.value) i.steps.items) c.self-inside.view_is ∙ ap (λ b. b.layers) c.self.view_is in
    let given = c.operations.ensures ∙ ap (λ (l : Layer). l.operations) c.deref.ensures in
    let base = c.new.ensures ∙ ap (λ i. i.bounds.base.size) c.self-inside.view_is ∙ ap (λ b. b.bounds.base.size) c.self.view_is in
    record {
      base = base;
      own = λ hashing chain tip made. given ∙ own-behind (λ l. l.value) batch _ c.index.result.now chain tip layers made.steps c.index.ensures;
      count =
          let own = c.operations.result.now in
          let counted = sym (length-map own (operation_view g.U.Update.view g.U.Key.ByteString.bytes g.U.Value.ByteString.bytes)) ∙ ap length given in
          ap (λ n. n + length own) base ∙ ap (λ k. batch.bounds.base.size + k) counted
          ∙ own-count (λ l. l.value) batch _ c.index.result.now layers (subst AreAgreed c.self.view_is c.self.invariant.0) c.index.ensures;
    }
