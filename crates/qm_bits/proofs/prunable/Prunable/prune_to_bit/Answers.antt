use Rattle.std.proofs.Common.{◌≡◌, ◌-◌, ◌+◌, ◌*◌, ◌/◌, ◌^◌, ◌<◌, ◌≤◌, ◌∙◌, max, ap, arith, sym, subst, drop, length}
use Rattle.qm_bits.specs.Bitmaps.{bit_count}
use Rattle.qm_bits.proofs.Kept.{chunks_within, words_within, pruned_fits, pruned_is, pruned_same}
use Rattle.qm_bits.proofs.prunable.Prunable.prune_to_bit.Goals as goal

pub nonzero_div-chunks : goal.nonzero_div-chunks
nonzero_div-chunks g c = omega (arith, c.span-span.ensures, g.met.N.Chunks.least)

pub overflow_sub-bits : goal.overflow_sub-bits
overflow_sub-bits g c = omega (arith, c.if-self-chunks.true)

pub overflow_mul-bits : goal.overflow_mul-bits
overflow_mul-bits g c =
    let order : c.self.inside.pruned < c.args.at / (8 * g.N.Chunks.LEN) = subst (λ s. c.self.inside.pruned < c.args.at / s) c.span-span.ensures c.if-self-chunks.true in
    let within = subst (λ m. c.args.at ≤ bit_count g.N.Chunks.LEN m) (sym c.self.view_is) c.requires in
    let few : (c.args.at / c.span-span.result - c.self.inside.pruned) * c.span-span.result ≤ c.args.at = subst (λ s. (c.args.at / s - c.self.inside.pruned) * s ≤ c.args.at) (sym c.span-span.ensures)
    (chunks_within g.N.Chunks.LEN c.args.at (record { pruned = c.self.inside.pruned; kept = c.self.inside.bits }) g.met.N.Chunks.whole_words within order) in
    omega (arith, few, c.ranges.at.fits)

pub returns-else-self-chunks : goal.returns-else-self-chunks
returns-else-self-chunks g c =
    let low : c.args.at / (8 * g.N.Chunks.LEN) ≤ c.self.inside.pruned = subst (λ s. c.args.at / s ≤ c.self.inside.pruned) c.span-span.ensures c.if-self-chunks.false in
    subst (λ m. m ≡ record { pruned = max m.pruned (c.args.at / (8 * g.N.Chunks.LEN)); kept = drop ((c.args.at / (8 * g.N.Chunks.LEN) - m.pruned) * (8 * g.N.Chunks.LEN)) m.kept }) c.self.view_is
    (pruned_same g.N.Chunks.LEN c.args.at (record { pruned = c.self.inside.pruned; kept = c.self.inside.bits }) low)

pub drop_words-requires : goal.drop_words-requires
drop_words-requires g c =
    let order : c.self.inside.pruned < c.args.at / (8 * g.N.Chunks.LEN) = subst (λ s. c.self.inside.pruned < c.args.at / s) c.span-span.ensures c.if-self-chunks.true in
    let within = subst (λ m. c.args.at ≤ bit_count g.N.Chunks.LEN m) (sym c.self.view_is) c.requires in
    subst (λ s. 64 * ((c.args.at / s - c.self.inside.pruned) * s / 64) ≤ length c.self.inside.bits) (sym c.span-span.ensures)
    (words_within g.N.Chunks.LEN c.args.at (record { pruned = c.self.inside.pruned; kept = c.self.inside.bits }) g.met.N.Chunks.whole_words within order)

pub invariant_of-self : goal.invariant_of-self
invariant_of-self g c =
    let order : c.self.inside.pruned < c.args.at / (8 * g.N.Chunks.LEN) = subst (λ s. c.self.inside.pruned < c.args.at / s) c.span-span.ensures c.if-self-chunks.true in
    let within = subst (λ m. c.args.at ≤ bit_count g.N.Chunks.LEN m) (sym c.self.view_is) c.requires in
    subst (λ bits. c.args.at / c.span-span.result * (8 * g.N.Chunks.LEN) + length bits ≤ 2 ^ 62) (sym c.drop_words.ensures)
    (subst (λ s. c.args.at / s * (8 * g.N.Chunks.LEN) + length (drop (64 * ((c.args.at / s - c.self.inside.pruned) * s / 64)) c.self.inside.bits) ≤ 2 ^ 62) (sym c.span-span.ensures)
    (pruned_fits g.N.Chunks.LEN c.args.at (record { pruned = c.self.inside.pruned; kept = c.self.inside.bits }) g.met.N.Chunks.whole_words within order c.self.invariant))

pub returns-then-self-chunks : goal.returns-then-self-chunks
returns-then-self-chunks g c =
    let order : c.self.inside.pruned < c.args.at / (8 * g.N.Chunks.LEN) = subst (λ s. c.self.inside.pruned < c.args.at / s) c.span-span.ensures c.if-self-chunks.true in
    let within = subst (λ m. c.args.at ≤ bit_count g.N.Chunks.LEN m) (sym c.self.view_is) c.requires in
    ap (λ bits. record { pruned = c.args.at / c.span-span.result; kept = bits }) c.drop_words.ensures
    ∙ ap (λ s. record { pruned = c.args.at / s; kept = drop (64 * ((c.args.at / s - c.self.inside.pruned) * s / 64)) c.self.inside.bits }) c.span-span.ensures
    ∙ pruned_is g.N.Chunks.LEN c.args.at (record { pruned = c.self.inside.pruned; kept = c.self.inside.bits }) g.met.N.Chunks.whole_words within order
    ∙ ap (λ m. record { pruned = max m.pruned (c.args.at / (8 * g.N.Chunks.LEN)); kept = drop ((c.args.at / (8 * g.N.Chunks.LEN) - m.pruned) * (8 * g.N.Chunks.LEN)) m.kept }) c.self.view_is
