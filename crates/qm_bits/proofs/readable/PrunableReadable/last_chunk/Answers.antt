use Rattle.std.proofs.Common.{◌*◌, ◌/◌, ◌%◌, ◌≤◌, ◌∙◌, ap₂, arith, subst₂, sym}
use Rattle.std.proofs.lemmas.Result.{IfOk-from_err}
use Rattle.qm_model.specs.Bits.{chunk}
use Rattle.qm_bits.specs.Bitmaps.{bit_count, all_bits}
use Rattle.qm_bits.proofs.Kept.{last_kept, last_begun}
use Rattle.qm_bits.proofs.readable.PrunableReadable.last_chunk.Goals as goal

pub nonzero_div-len : goal.nonzero_div-len
nonzero_div-len g c = omega (arith, c.span-span.ensures, g.met.N.Chunks.least)

pub nonzero_rem-result : goal.nonzero_rem-result
nonzero_rem-result g c = omega (arith, c.span-span.ensures, g.met.N.Chunks.least)

pub chunk_bytes-requires-clause-not_pruned : goal.chunk_bytes-requires-clause-not_pruned
chunk_bytes-requires-clause-not_pruned g c = subst₂ (λ n s. c.args.self.now.pruned ≤ n / s) (sym c.len-len.ensures.value) (sym c.span-span.ensures) (last_kept g.N.Chunks.LEN c.args.self.now g.met.N.Chunks.least)

pub chunk_bytes-requires-clause-begun : goal.chunk_bytes-requires-clause-begun
chunk_bytes-requires-clause-begun g c =
    subst₂ (λ n s. n / s * (8 * g.N.Chunks.LEN) ≤ bit_count g.N.Chunks.LEN c.args.self.now) (sym c.len-len.ensures.value) (sym c.span-span.ensures) (last_begun g.N.Chunks.LEN c.args.self.now)

pub returns-in_err-bytes : goal.returns-in_err-bytes
returns-in_err-bytes g c = record {
  bytes = IfOk-from_err c.from_residual.result _ c.from_residual.ensures.0;
  bits = IfOk-from_err c.from_residual.result _ c.from_residual.ensures.0;
}

pub returns : goal.returns
returns g c = record {
  bytes = c.in_ok-bytes.ensures ∙ ap₂ (λ n s. chunk g.N.Chunks.LEN (all_bits g.N.Chunks.LEN c.args.self.now) (n / s)) c.len-len.ensures.value c.span-span.ensures;
  bits = ap₂ (λ n s. n % s) c.len-len.ensures.value c.span-span.ensures;
}
