use Rattle.std.proofs.Common.{◌≡◌, ◌∙◌, ◌*◌, ◌/◌, ◌%◌, ap, sym, get_or, false, arith, rules}
use Rattle.std.specs.Prelude.{◌==◌}
use Rattle.std.proofs.lemmas.List.{get_or_read}
use Rattle.std.proofs.lemmas.Nat.Bits.{shr_and_one}
use Rattle.qm_overlay.proofs.Bytes.{bit_in}
use Rattle.qm_overlay.proofs.chunk.Chunk.get.Goals as goal

pub returns : goal.returns
returns g c =
    let byte : c.index.result.now ≡ get_or c.self.inside.bytes.items (c.args.at / 8) 0 = get_or_read c.self.inside.bytes.items (c.args.at / 8) c.index.result.now (omega (arith, c.requires, c.self.invariant.long)) (search rules) 0 in
    ap (λ n. n == 1) (shr_and_one c.index.result.now (c.args.at % 8) ∙ ap (λ b. Rattle.std.specs.Int.bit_at b (c.args.at % 8)) byte)
    ∙ sym (bit_in (8 * g.N.Chunks.LEN) c.self.inside.bytes.items c.args.at c.requires)
    ∙ ap (λ bits. get_or bits c.args.at false) c.self.view_is
