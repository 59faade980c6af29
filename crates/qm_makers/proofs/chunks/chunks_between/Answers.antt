use Rattle.std.proofs.Common.{◌≡◌, ◌∙◌, ◌-◌, ◌*◌, ◌/◌, ◌^◌, ◌++◌, ◌∷◌, [], suc, arith, ap, ap₂}
use Rattle.std.proofs.lemmas.Nat.{pow_pos}
use Rattle.std.proofs.lemmas.List.{map-append}
use Rattle.qm_model.specs.Bits.{chunk}
use Rattle.qm_model.specs.RangeProofs.{chunks_from}
use Rattle.qm_bits.specs.Bitmaps.{all_bits}
use Rattle.qm_graft.specs.Grafting.{grafting}
use Rattle.qm_keyproofs.specs.Views.{chunk_views}
use Rattle.qm_makers.proofs.Chunking.{chunk_begins, chunk_kept, chunks_next, later_chunk}
use Rattle.qm_makers.proofs.chunks.chunks_between.Goals as goal

pub chunk_at-requires-clause-begun : goal.chunk_at-requires-clause-begun
chunk_at-requires-clause-begun g c =
    let w = 2 ^ c.height-height.result in
    let begins = chunk_begins w c.chunks.at c.args.end (pow_pos c.height-height.result) (omega (arith, c.chunks-test.true)) (omega (arith, c.requires.order)) in
    let wide = ap (λ n. c.chunks.at * n) c.height-height.ensures.span in
    omega (arith, begins, wide, c.requires.within)

pub chunk_at-requires-clause-kept : goal.chunk_at-requires-clause-kept
chunk_at-requires-clause-kept g c =
    let h = grafting g.N.Chunks.LEN in
    let kept = chunk_kept (2 ^ h) c.args.bits.now.pruned c.args.start (pow_pos h) c.requires.kept in
    let same = ap (λ n. c.args.start / 2 ^ n) c.height-height.ensures.exact in
    omega (arith, kept, same, c.chunks.auto.at)

pub chunks-preserved : goal.chunks-preserved
chunks-preserved g c =
    let size = g.N.Chunks.LEN in
    let first = c.args.start / 2 ^ grafting size in
    let same = ap (λ n. c.args.start / 2 ^ n) c.height-height.ensures.exact in
    let f = chunk size (all_bits size c.args.bits.now) in
    ap chunk_views c.in_ok-push.ensures.items ∙ map-append (λ c. c.bytes.items) c.chunks.chunks.items (c.in_ok-chunk_at.field-0 ∷ [])
    ∙ ap₂ (λ l v. l ++ v ∷ []) c.chunks.invariant c.in_ok-chunk_at.ensures
    ∙ chunks_next f first c.chunks.at (omega (arith, same, c.chunks.auto.at))

pub returns : goal.returns
returns g c =
    let size = g.N.Chunks.LEN in
    let h = grafting size in
    let f = chunk size (all_bits size c.args.bits.now) in
    let first = c.args.start / 2 ^ h in
    let same = ap (λ n. c.args.start / 2 ^ n) c.height-height.ensures.exact in
    let last = ap (λ n. (c.args.end - 1) / 2 ^ n) c.height-height.ensures.exact in
    let order = later_chunk (2 ^ h) c.args.start (c.args.end - 1) (pow_pos h) (omega (arith, c.requires.order)) in
    let high = c.chunks.auto.at-end (omega (arith, same, last, order)) in
    let end : c.chunks.at ≡ suc ((c.args.end - 1) / 2 ^ h) = omega (arith, high, last, c.chunks-test.false) in
    c.chunks.invariant ∙ ap (λ n. chunks_from f first (n - first)) end
