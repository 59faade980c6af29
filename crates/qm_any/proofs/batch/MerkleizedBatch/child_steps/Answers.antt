use Rattle.std.proofs.Common.{arith, ◌∷◌, ◌∙◌, ◌++◌, [], length, subst, sym, ap, ap₂, map, take}
use Rattle.std.proofs.lemmas.List.{take-map, length-map, length-append}
use Rattle.std.proofs.lemmas.Result.{IfOk-from_err}
use Rattle.qm_step.specs.Layers.{Layer}
use Rattle.qm_any.specs.Databases.{AreAgreed}
use Rattle.qm_merkle.proofs.Histories.{values-same}
use Rattle.qm_any.proofs.batch.MerkleizedBatch.child_steps.Goals as goal

pub returns : goal.returns
returns g c =
    let kept = c.self.inside.steps.items in
    record {
      steps =
          ap (map (λ l. l.value)) c.in_ok-insert.ensures.items
          ∙ ap₂ (λ (l : Layer) ls. l ∷ ls) c.in_ok-own.ensures (values-same (λ l. l.value) c.split_at.result.0.now c.in_ok-steps.steps.items c.in_ok-steps.ensures.ok
          ∙ ap (map (λ l. l.value)) (c.split_at.ensures.front ∙ ap (take c.args.keep) c.deref.ensures.value)
          ∙ sym (take-map (λ l. l.value) c.args.keep kept)
          ∙ ap (λ b. take c.args.keep b.layers) c.self.view_is);
      diffs = c.in_ok-diffs.ensures ∙ ap (λ ls. map (λ (l : Layer). l.changes) (map (λ l. l.value) ls)) c.deref-2.ensures.value;
    }

pub split_at-requires : goal.split_at-requires
split_at-requires g c =
    let batch = c.args.self.now in
    let agreed = subst AreAgreed c.self.view_is c.self.invariant.0 in
    let starts = ap length agreed.starts ∙ length-map (batch.bounds.ancestors ++ batch.bounds.db ∷ []) (λ k. k.size) ∙ length-append batch.bounds.ancestors (batch.bounds.db ∷ []) in
    let layers = ap (λ b. length b.layers) c.self.view_is in
    omega (arith, c.requires, starts, length-map batch.layers (λ l. l.base), layers, length-map c.self.inside.steps.items (λ l. l.value), c.deref.ensures.len)

pub insert-requires : goal.insert-requires
insert-requires g c = omega arith

pub returns-in_err-own : goal.returns-in_err-own
returns-in_err-own g c = record {
  steps = IfOk-from_err c.from_residual.result _ c.from_residual.ensures.0;
  diffs = IfOk-from_err c.from_residual.result _ c.from_residual.ensures.0;
}

pub returns-in_err-steps : goal.returns-in_err-steps
returns-in_err-steps g c = record {
  steps = IfOk-from_err c.from_residual-in_err-steps.result _ c.from_residual-in_err-steps.ensures.0;
  diffs = IfOk-from_err c.from_residual-in_err-steps.result _ c.from_residual-in_err-steps.ensures.0;
}

pub returns-in_err-insert : goal.returns-in_err-insert
returns-in_err-insert g c = record {
  steps = IfOk-from_err c.from_residual-in_err-insert.result _ c.from_residual-in_err-insert.ensures.0;
  diffs = IfOk-from_err c.from_residual-in_err-insert.result _ c.from_residual-in_err-insert.ensures.0;
}

pub returns-in_err-diffs : goal.returns-in_err-diffs
returns-in_err-diffs g c = record {
  steps = IfOk-from_err c.from_residual-in_err-diffs.result _ c.from_residual-in_err-diffs.ensures.0;
  diffs = IfOk-from_err c.from_residual-in_err-diffs.result _ c.from_residual-in_err-diffs.ensures.0;
}
