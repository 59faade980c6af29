use Rattle.std.proofs.Common.{◌-◌, ◌+◌, ◌*◌, ◌/◌, ◌^◌, ◌≤◌, ◌∙◌, ap, sym, subst, drop, length, arith, rules}
use Rattle.std.proofs.lemmas.Result.{IfOk-weaker}
use Rattle.qm_model.specs.Bits.{packed, chunk}
use Rattle.qm_bits.specs.Bitmaps.{bit_count, all_bits}
use Rattle.qm_bits.proofs.Kept.{chunk_is, chunk_fits}
use Rattle.qm_bits.proofs.prunable.Prunable.chunk_bytes.Goals as goal

pub overflow_mul-first : goal.overflow_mul-first
overflow_mul-first g c =
    let from : c.self.inside.pruned ≤ c.args.at = subst (λ m. m.pruned ≤ c.args.at) (sym c.self.view_is) c.requires.not_pruned in
    let begun : c.args.at * (8 * g.N.Chunks.LEN) ≤ c.self.inside.pruned * (8 * g.N.Chunks.LEN) + length c.self.inside.bits = subst (λ m. c.args.at * (8 * g.N.Chunks.LEN) ≤ bit_count g.N.Chunks.LEN m) (sym c.self.view_is) c.requires.begun in
    let most = chunk_fits g.N.Chunks.LEN c.self.inside.pruned c.args.at g.met.N.Chunks.whole_words from (length c.self.inside.bits) c.self.invariant begun in
    let small : (c.args.at - c.self.inside.pruned) * c.span-span.result ≤ 2 ^ 62 = subst (λ s. (c.args.at - c.self.inside.pruned) * s ≤ 2 ^ 62) (sym c.span-span.ensures) most in
    search rules

pub bytes-requires : goal.bytes-requires
bytes-requires g c =
    let from : c.self.inside.pruned ≤ c.args.at = subst (λ m. m.pruned ≤ c.args.at) (sym c.self.view_is) c.requires.not_pruned in
    let begun : c.args.at * (8 * g.N.Chunks.LEN) ≤ c.self.inside.pruned * (8 * g.N.Chunks.LEN) + length c.self.inside.bits = subst (λ m. c.args.at * (8 * g.N.Chunks.LEN) ≤ bit_count g.N.Chunks.LEN m) (sym c.self.view_is) c.requires.begun in
    let most = chunk_fits g.N.Chunks.LEN c.self.inside.pruned c.args.at g.met.N.Chunks.whole_words from (length c.self.inside.bits) c.self.invariant begun in
    let few : 8 * g.N.Chunks.LEN ≤ 524288 = omega (arith, g.met.N.Chunks.most) in
    subst (λ s. (c.args.at - c.self.inside.pruned) * s / 64 + s / 64 ≤ 2 ^ 60) (sym c.span-span.ensures) (omega arith)

pub returns : goal.returns
returns g c =
    let from : c.self.inside.pruned ≤ c.args.at = subst (λ m. m.pruned ≤ c.args.at) (sym c.self.view_is) c.requires.not_pruned in
    IfOk-weaker c.bytes.result _ _
    (λ bytes made.
    made
    ∙ ap (λ s. packed (8 * (s / 64)) (drop (64 * ((c.args.at - c.self.inside.pruned) * s / 64)) c.self.inside.bits)) c.span-span.ensures
    ∙ chunk_is g.N.Chunks.LEN c.self.inside.pruned c.args.at g.met.N.Chunks.whole_words from c.self.inside.bits
    ∙ ap (λ m. chunk g.N.Chunks.LEN (all_bits g.N.Chunks.LEN m) c.args.at) c.self.view_is)
    c.bytes.ensures
