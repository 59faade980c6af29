use Rattle.std.proofs.Common.{◌≡◌, ◌≢◌, ◌∙◌, ◌/◌, ◌≤◌, ◌<◌, ⊎_elim, Option, Some, None, List, Bool, sym, subst, subst₂, set, refl, IsSome, arith}
use Rattle.std.proofs.lemmas.Bool.{cases_eq}
use Rattle.qm_bits.specs.Bitmaps.{Bitmap, start, all_bits}
use Rattle.qm_overlay.specs.Layers.{Overlay, changed_at, laid}
use Rattle.qm_overlay.proofs.Laying.{IsPut, is_put_bits}
use Rattle.qm_overlay.proofs.overlay.ChunkOverlay.put.Given
use Rattle.qm_overlay.proofs.overlay.ChunkOverlay.put.Goals as goal

is_put : (g : Given.Over) (c : goal.After-put_in g) → IsPut c.span-span.result g.N.Chunks.LEN (record { count = c.self.inside.len; changed = c.self.inside.changed.entries }) (record { count = c.self.inside.len; changed = c.put_in.new.changed.entries }) c.args.at c.args.value
is_put g c = record {
  held = subst₂ (λ o n. IsSome (changed_at o.changed (c.args.at / n))) (sym c.self.view_is) (sym c.span-span.ensures) c.requires.held;
  here = c.put_in.ensures.here;
  long = c.put_in.ensures.long;
  other = c.put_in.ensures.other;
}

pub returns-clause-bits : goal.returns-clause-bits
returns-clause-bits g c =
    let old : Overlay = record { count = c.self.inside.len; changed = c.self.inside.changed.entries } in
    let new : Overlay = record { count = c.self.inside.len; changed = c.put_in.new.changed.entries } in
    let within : c.args.at < old.count = subst (λ o. c.args.at < o.count) (sym c.self.view_is) c.requires.within in
    subst (λ o. (base : Bitmap) → start g.N.Chunks.LEN base ≤ c.args.at → all_bits g.N.Chunks.LEN (laid g.N.Chunks.LEN new base) ≡ set (all_bits g.N.Chunks.LEN (laid g.N.Chunks.LEN o base)) c.args.at c.args.value) c.self.view_is
    (is_put_bits c.span-span.result g.N.Chunks.LEN old new c.args.at c.args.value c.span-span.ensures (omega (arith, g.met.N.Chunks.least)) refl within (is_put g c))

gone : (o : Option (List Bool)) → o ≡ None → IsSome o → ⊥
gone None none some = cc
gone (Some bits) none some = cc

pub returns-clause-from : goal.returns-clause-from
returns-clause-from g c = λ least is k lt.
    let kept : changed_at c.self.inside.changed.entries k ≡ None = subst (λ o. changed_at o.changed k ≡ None) (sym c.self.view_is) (is k lt) in
    ⊎_elim
    (λ (same : k ≡ c.args.at / c.span-span.result).
    let there : IsSome (changed_at c.self.inside.changed.entries (c.args.at / c.span-span.result)) = subst₂ (λ o n. IsSome (changed_at o.changed (c.args.at / n))) (sym c.self.view_is) (sym c.span-span.ensures) c.requires.held in
    absurd (gone (changed_at c.self.inside.changed.entries k) kept (subst (λ j. IsSome (changed_at c.self.inside.changed.entries j)) (sym same) there)))
    (λ (other : k ≢ c.args.at / c.span-span.result). c.put_in.ensures.other k other ∙ kept)
    (cases_eq k (c.args.at / c.span-span.result))
