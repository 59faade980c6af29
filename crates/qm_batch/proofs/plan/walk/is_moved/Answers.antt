use Rattle.std.proofs.Common.{◌∙◌, ℕ, List, Bor, ap, sym}
use Rattle.std.specs.Prelude.{option_map}
use Rattle.qm_batch.proofs.PlanFinds.{moved-keyless, moved-replaced, moved-live}
use Rattle.qm_batch.proofs.plan.walk.is_moved.Goals as goal

pub returns-then-contains : goal.returns-then-contains
returns-then-contains g c = λ lent base made op indexed leads from keyed replaced there is.
    let own = sym is ∙ ap (option_map (λ (b : Bor (List ℕ)). b.now)) c.in-Some.is in
    moved-replaced base made c.args.at op there from keyed c.in-Some.key.now own (sym (replaced c.args.at) ∙ sym c.contains.ensures ∙ c.if-contains.true)

pub returns-else-contains : goal.returns-else-contains
returns-else-contains g c = λ lent base made op indexed leads from keyed replaced there is.
    let own = sym is ∙ ap (option_map (λ (b : Bor (List ℕ)). b.now)) c.in-Some.is in
    moved-live base made c.args.at op there from keyed c.in-Some.key.now own (sym (replaced c.args.at) ∙ sym c.contains.ensures ∙ c.if-contains.false) c.is_live_there.result
    (λ value next here. c.is_live_there.ensures lent base value next indexed leads here)

pub returns-in-None : goal.returns-in-None
returns-in-None g c = λ lent base made op indexed leads from keyed replaced there is.
    moved-keyless base made c.args.at op there (sym is ∙ ap (option_map (λ (b : Bor (List ℕ)). b.now)) c.in-None.is)
