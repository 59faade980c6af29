use Rattle.std.proofs.Common.{◌≤◌, All, sym, rules, ◌≡◌, ◌∙◌, ◌∷◌, ◌+◌, ap, subst, refl, take, length, option_map}
use Rattle.qm_operations.specs.Views.{operation_views}
use Rattle.qm_merkle.specs.Batches.{stops}
use Rattle.qm_chain.specs.Bounds.{commitment_view}
use Rattle.qm_step.specs.Layers.{Layer}
use Rattle.qm_step.specs.Views.{changes_view}
use Rattle.qm_any.specs.Databases.{Made, AreAgreed}
use Rattle.qm_any.proofs.Making.{child-agreed, sealed-child}
use Rattle.qm_any.proofs.batch.sealed.Goals as goal

pub invariant_of-new : goal.invariant_of-new
invariant_of-new g c =
    let key = g.U.Key.ByteString.bytes in
    let value = g.U.Value.ByteString.bytes in
    let view = commitment_view g.D.Digest.bytes in
    let parent = c.args.parent.now in
    let plan = c.args.plan in
    let tree = c.args.tree in
    let root = g.D.Digest.bytes c.args.root in
    let meta = option_map (λ m. value m.value) c.args.child.metadata in
    let agreed = subst AreAgreed c.parent.view_is c.parent.invariant.0 in
    let count : parent.bounds.tip.size + length plan.operations ≡ tree.leaves = ap (λ n. n + length plan.operations) (sym agreed.leaves) ∙ sym (c.requires.after).leaves in
    let base : view (c.parent-inside.inside.0.0).tip ≡ parent.bounds.tip = ap (λ i. i.bounds.tip) c.parent-inside.view_is ∙ ap (λ m. m.bounds.tip) c.parent.view_is in
    let own = ap (λ n. record { base = n; operations = operation_views g.U.Update.view key value c.plan.inside.operations.items; changes = changes_view key value c.plan.inside.diff }) (ap (λ k. k.size) base)
    ∙ ap (λ p. record { base = parent.bounds.tip.size; operations = p.operations; changes = p.changes }) c.plan.view_is in (
      subst AreAgreed (sealed-child root meta parent c.args.keep plan tree _ _ _ _ _ _ _ _ _ base (c.requires.placed).0 c.leaves.ensures (c.requires.placed).1 (ap (λ p. p.floor) c.plan.view_is)
          (c.in_ok-steps.ensures.steps ∙ ap (λ (l : Layer). l ∷ take c.args.keep parent.layers) own) refl (ap (λ p. p.live) c.plan.view_is) (ap (λ p. p.evicted) c.plan.view_is))
          (child-agreed parent c.args.keep c.requires.keep agreed plan tree root meta count (c.requires.after).spelled.few c.requires.live (c.requires.after).through),
      c.in_ok-steps.ensures.diffs,
    )

pub returns-clause-value : goal.returns-clause-value
returns-clause-value g c = search rules

pub returns-clause-above : goal.returns-clause-above
returns-clause-above g c =
    let parent = c.args.parent.now in
    let agreed = subst AreAgreed c.parent.view_is c.parent.invariant.0 in
    let root = g.D.Digest.bytes c.args.root in
    let count : parent.bounds.tip.size + length c.args.plan.operations ≡ c.args.tree.leaves = ap (λ n. n + length c.args.plan.operations) (sym agreed.leaves) ∙ sym (c.requires.after).leaves in
    let meta = option_map (λ m. g.U.Value.ByteString.bytes m.value) c.args.child.metadata in
    let made = child-agreed parent c.args.keep c.requires.keep agreed c.args.plan c.args.tree root meta count (c.requires.after).spelled.few c.requires.live (c.requires.after).through in
    subst (λ (b : Made g.row.D.Denot). All (λ n. b.bounds.db.size ≤ n) (stops b.tree.leaves b.tree.layers)) (sym (returns-clause-value g c)) made.above
