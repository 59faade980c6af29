use Rattle.std.proofs.Common.{◌≡◌, ◌∙◌, ◌≤◌, ◌++◌, ◌∷◌, [], ap, sym, subst, map}
use Rattle.std.proofs.lemmas.List.{map-append}
use Rattle.qm_bits.specs.Bitmaps.{bit_count}
use Rattle.qm_overlay.specs.Layers.{laid, layered, seen, AreStacked}
use Rattle.qm_overlay.proofs.Stacks.{layered-more, stacked-more}
use Rattle.qm_overlay.proofs.batch.BitmapBatch.push.Given
use Rattle.qm_overlay.proofs.batch.BitmapBatch.push.Goals as goal

more : (g : Given.Over) (c : goal.In_ok-push g) → map (λ r. r.value) c.push.new.self.items ≡ map (λ r. r.value) c.self.inside.layers.items ++ c.args.layer.value ∷ []
more g c = ap (map (λ r. r.value)) c.in_ok-push.ensures.items ∙ map-append (λ r. r.value) c.self.inside.layers.items (c.args.layer ∷ [])

pub invariant_of-self-2 : goal.invariant_of-self-2
invariant_of-self-2 g c =
    subst (λ os. AreStacked g.N.Chunks.LEN os c.self.inside.base.now) (sym (more g c))
    (stacked-more g.N.Chunks.LEN (map (λ r. r.value) c.self.inside.layers.items) c.args.layer.value c.self.inside.base.now c.self.invariant (subst (λ m. bit_count g.N.Chunks.LEN (seen g.N.Chunks.LEN m) ≤ c.args.layer.value.count) (sym c.self.view_is) c.requires))

pub returns-clause-ok : goal.returns-clause-ok
returns-clause-ok g c =
    ap (λ os. record { base = c.self.inside.base.now; layers = os }) (more g c)
    ∙ ap (λ m. record { base = m.base; layers = m.layers ++ c.args.layer.value ∷ [] }) c.self.view_is

pub returns-clause-bits : goal.returns-clause-bits
returns-clause-bits g c =
    ap (λ os. layered g.N.Chunks.LEN os c.self.inside.base.now) (more g c)
    ∙ layered-more g.N.Chunks.LEN (map (λ r. r.value) c.self.inside.layers.items) c.args.layer.value c.self.inside.base.now
    ∙ ap (λ m. laid g.N.Chunks.LEN c.args.layer.value (seen g.N.Chunks.LEN m)) c.self.view_is
