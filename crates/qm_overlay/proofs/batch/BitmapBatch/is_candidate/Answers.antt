use Rattle.std.proofs.Common.{◌/◌, ◌<◌, ◌≤◌, ◌∙◌, sym, subst, true, arith}
use Rattle.std.proofs.lemmas.List.{get_or_past}
use Rattle.qm_bits.specs.Bitmaps.{all_bits}
use Rattle.qm_overlay.specs.Layers.{seen}
use Rattle.qm_overlay.proofs.Laying.{some_bits, length-all, place_pruned, place_kept}
use Rattle.qm_overlay.proofs.Applying.{below_start}
use Rattle.qm_overlay.proofs.Stacks.{candidate_kept}
use Rattle.qm_overlay.proofs.batch.BitmapBatch.is_candidate.Goals as goal

pub returns-then-len-at : goal.returns-then-len-at
returns-then-len-at g c =
    let map = seen g.N.Chunks.LEN c.args.self.now in
    let long = length-all g.N.Chunks.LEN map in
    sym (get_or_past (all_bits g.N.Chunks.LEN map) c.args.at true (omega (arith, long, c.if-len-at.true, c.len.ensures)))

pub returns-then-at-span : goal.returns-then-at-span
returns-then-at-span g c =
    let map = seen g.N.Chunks.LEN c.args.self.now in
    let low = place_pruned g.N.Chunks.LEN map c.span.result c.args.at c.span.ensures (some_bits g.N.Chunks.LEN g.met.N.Chunks.least) (omega (arith, c.if-at-span.true, c.pruned_chunks.ensures)) in
    sym (candidate_kept g.N.Chunks.LEN map c.args.at (omega (arith, c.if-len-at.false, c.len.ensures)) ∙ below_start g.N.Chunks.LEN map c.args.at low)

pub get_bit-requires-clause-kept : goal.get_bit-requires-clause-kept
get_bit-requires-clause-kept g c =
    place_kept g.N.Chunks.LEN (seen g.N.Chunks.LEN c.args.self.now) c.span.result c.args.at c.span.ensures (some_bits g.N.Chunks.LEN g.met.N.Chunks.least) (subst (λ p. p ≤ c.args.at / c.span.result) c.pruned_chunks.ensures c.if-at-span.false)

pub get_bit-requires-clause-within : goal.get_bit-requires-clause-within
get_bit-requires-clause-within g c = subst (λ n. c.args.at < n) c.len.ensures c.if-len-at.false

pub returns : goal.returns
returns g c = c.get_bit.ensures ∙ sym (candidate_kept g.N.Chunks.LEN (seen g.N.Chunks.LEN c.args.self.now) c.args.at (subst (λ n. c.args.at < n) c.len.ensures c.if-len-at.false))
