use Rattle.std.proofs.Common.{◌≡◌, ◌∙◌, ◌-◌, ap, arith, refl, length, sym, subst, map}
use Rattle.std.proofs.lemmas.Option.{slice_get_read, slice_get_past}
use Rattle.qm_chain.specs.Bounds.{commitment_view}
use Rattle.qm_any.specs.Databases.{child_boundary}
use Rattle.qm_any.proofs.Making.{child-kept, child-last}
use Rattle.qm_any.proofs.batch.MerkleizedBatch.child_boundary.Goals as goal

pub returns-then-keep-eq0 : goal.returns-then-keep-eq0
returns-then-keep-eq0 g c =
    let tip = commitment_view g.D.Digest.bytes (c.self-inside.inside.0.0).tip in
    let bounds = c.args.self.now.bounds in
    subst (λ k. tip ≡ child_boundary k bounds) (sym c.if-keep-eq0.true) (ap (λ i. i.bounds.tip) c.self-inside.view_is ∙ ap (λ m. m.bounds.tip) c.self.view_is)

pub returns-in-Some : goal.returns-in-Some
returns-in-Some g c =
    let view = commitment_view g.D.Digest.bytes in
    let bounds = c.args.self.now.bounds in
    let older = ap (map view) c.deref.ensures.value ∙ ap (λ i. i.bounds.ancestors) c.self-inside.view_is ∙ ap (λ m. m.bounds.ancestors) c.self.view_is in
    let found = c.in-Some.ensures.lookup in
    child-kept view bounds c.args.keep c.deref.result.now c.in-Some.state.now older (omega (arith, c.if-keep-eq0.false)) (slice_get_read c.deref.result.now (length c.deref.result.now) (c.args.keep - 1) c.in-Some.state.now refl found.3.0 found.1)

pub returns-in-None : goal.returns-in-None
returns-in-None g c =
    let view = commitment_view g.D.Digest.bytes in
    let bounds = c.args.self.now.bounds in
    let older = ap (map view) c.deref.ensures.value ∙ ap (λ i. i.bounds.ancestors) c.self-inside.view_is ∙ ap (λ m. m.bounds.ancestors) c.self.view_is in
    let db = ap (λ i. i.bounds.db) c.self-inside.view_is ∙ ap (λ m. m.bounds.db) c.self.view_is in
    let found = c.in-None.ensures.lookup in
    db ∙ child-last view bounds c.args.keep c.deref.result.now older (omega (arith, c.if-keep-eq0.false)) (slice_get_past c.deref.result.now (c.args.keep - 1) found.3)
