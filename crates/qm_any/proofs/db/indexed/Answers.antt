use Rattle.std.proofs.Common.{◌≡◌, ◌∙◌, arith, ap, subst, sym}
use Rattle.qm_model.specs.Bits.{bits}
use Rattle.qm_bits.specs.Bitmaps.{all_bits}
use Rattle.qm_index.specs.Indexed.{IsIndexed}
use Rattle.qm_any.proofs.db.indexed.Goals as goal

pub brought_up-requires-clause-bits : goal.brought_up-requires-clause-bits
brought_up-requires-clause-bits g c = omega (arith, c.state.invariant.1, ap (λ b. b.commitment.size) c.state.view_is, c.requires.grown, c.requires.size, ap (λ b. b.bounds.tip.size) c.batch-inside.view_is, ap (λ b. b.bounds.tip.size) c.batch.view_is)

pub brought_up-requires-clause-few : goal.brought_up-requires-clause-few
brought_up-requires-clause-few g c =
    let few = c.batch.invariant.0.few in
    omega (arith, few, ap (λ b. b.bounds.tip.size) c.batch-inside.view_is)

pub returns-in-Ok-clause-index : goal.returns-in-Ok-clause-index
returns-in-Ok-clause-index g c = λ list tip lead indexed.
    c.in-Ok.ensures.index list tip lead (subst (λ b. IsIndexed g.I.Unordered.index_key b.entries list) (sym c.state.view_is) indexed)

pub returns-in-Ok-clause-active : goal.returns-in-Ok-clause-active
returns-in-Ok-clause-active g c = λ list tip lead ended size from.
    c.in-Ok.ensures.active list tip lead ended (ap (λ b. b.bounds.tip.size) c.batch-inside.view_is ∙ ap (λ b. b.bounds.tip.size) c.batch.view_is ∙ size)
    (subst (λ b. all_bits g.N.Chunks.LEN b.activity ≡ bits list) (sym c.state.view_is) from)
