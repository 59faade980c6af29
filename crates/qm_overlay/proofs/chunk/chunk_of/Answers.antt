use Rattle.std.proofs.Common.{◌≡◌, ◌∙◌, ◌*◌, ◌/◌, ◌<◌, replicate, ap, arith}
use Rattle.std.proofs.lemmas.Result.{IfOk-weaker}
use Rattle.qm_bits.specs.Bitmaps.{bit_count, all_bits}
use Rattle.qm_overlay.proofs.Bytes.{zeros_behind}
use Rattle.qm_overlay.proofs.Laying.{behind_all}
use Rattle.qm_overlay.proofs.chunk.chunk_of.Goals as goal

pub returns : goal.returns
returns g c =
    let base = g.B.Readable.bitmap c.args.base.now in
    let least = g.met.N.Chunks.least in
    let eighth : c.span.result / 8 ≡ g.N.Chunks.LEN = omega (arith, c.span.ensures) in
    let past : bit_count g.N.Chunks.LEN base / (8 * g.N.Chunks.LEN) < c.args.at = omega (arith, c.complete_chunks-complete.ensures, c.if-at-complete.false, c.if-at-complete-2.false) in
    IfOk-weaker c.zeros.result _ _
    (λ bytes is. is ∙ ap (λ n. replicate n 0) eighth ∙ zeros_behind g.N.Chunks.LEN (all_bits g.N.Chunks.LEN base) c.args.at (behind_all g.N.Chunks.LEN base c.args.at (omega (arith, least)) past))
    c.zeros.ensures
