use Rattle.std.proofs.Common.{◌≡◌, ℕ, ◌*◌, ◌/◌, ◌%◌, ◌<◌, ◌≤◌, ◌∙◌, ap₂, sym, subst₂, Result, Ok, Err, IfOk, arith, subst}
use Rattle.std.specs.Result.{IsErr}
use Rattle.std.proofs.Math.Nat.{le-div_iff_mul-le}
use Rattle.qm_model.specs.Bits.{chunk}
use Rattle.qm_bits.specs.Bitmaps.{Bitmap, bit_count, all_bits}
use Rattle.qm_overlay.specs.Layers.{seen}
use Rattle.qm_overlay.proofs.Laying.{some_bits}
use Rattle.qm_overlay.proofs.batch.BitmapBatchReadable.last_chunk.Goals as goal

-- no pruned chunk is past the bits
pruned_within : (size : ℕ) (map : Bitmap) (span len : ℕ) → span ≡ 8 * size → len ≡ bit_count size map → 0 < 8 * size → map.pruned ≤ len / span
pruned_within size map span len span_is len_is some =
    let low : map.pruned * (8 * size) ≤ bit_count size map = omega arith in
    subst₂ (λ n s. map.pruned ≤ n / s) (sym len_is) (sym span_is) ((le-div_iff_mul-le some).1 low)

if_ok_of_err : {X E : Type 0} (P : X → Type 0) (r : Result X E) → IsErr r → IfOk r P
if_ok_of_err P (Ok x) err = absurd (cc)
if_ok_of_err P (Err e) err = tt

pub nonzero_div-len : goal.nonzero_div-len
nonzero_div-len g c = subst (λ n. 0 < n) (sym c.span-span.ensures) (some_bits g.N.Chunks.LEN g.met.N.Chunks.least)

pub chunk-requires : goal.chunk-requires
chunk-requires g c = pruned_within g.N.Chunks.LEN (seen g.N.Chunks.LEN c.args.self.now) c.span-span.result c.len-len.result c.span-span.ensures c.len-len.ensures (some_bits g.N.Chunks.LEN g.met.N.Chunks.least)

pub returns-in_err-bytes : goal.returns-in_err-bytes
returns-in_err-bytes g c = record {
  bytes = if_ok_of_err _ c.from_residual.result c.from_residual.ensures.0;
  bits = if_ok_of_err _ c.from_residual.result c.from_residual.ensures.0;
}

pub nonzero_rem-result : goal.nonzero_rem-result
nonzero_rem-result g c = subst (λ n. 0 < n) (sym c.span-span.ensures) (some_bits g.N.Chunks.LEN g.met.N.Chunks.least)

pub returns : goal.returns
returns g c = record {
  bytes = c.in_ok-bytes.ensures ∙ ap₂ (λ n s. chunk g.N.Chunks.LEN (all_bits g.N.Chunks.LEN (seen g.N.Chunks.LEN c.args.self.now)) (n / s)) c.len-len.ensures c.span-span.ensures;
  bits = ap₂ (λ n s. n % s) c.len-len.ensures c.span-span.ensures;
}
