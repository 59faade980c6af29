use Rattle.std.proofs.Common.{length, ◌++◌, codes}
use Rattle.std.specs.String.{string_bytes}
use Rattle.qm_model.specs.Operations.{Bytes}
use Rattle.qm_machine.specs.Text as texts
use Rattle.qm_base.specs.Views.{pair_view}
use Rattle.qm_lines.proofs.Written.{all_written, fewer, one_more}
use Rattle.qm_lines.proofs.text.write_pairs.Goals as goal

pub loop-key-preserved : goal.loop-key-preserved
loop-key-preserved g c =
    one_more (λ (p : Bytes × Bytes). codes " " ++ (texts.hex_text p.0 ++ (codes "=" ++ texts.hex_text p.1))) (pair_view g.K.ByteString.bytes g.V.ByteString.bytes) c.args.pairs.now c.loop-key.key-index c.loop-key-item.result
    (string_bytes c.args.out.now) c.args.name.now (string_bytes c.loop-key.out) (string_bytes c.write_pair.new.out)
    c.loop-key-test.true c.loop-key-item.is c.loop-key.invariant (rw (c.as_bytes.ensures.value, c.as_bytes-in-loop-key.ensures.value) at c.in_ok-write_pair.ensures)

pub loop-key-smaller : goal.loop-key-smaller
loop-key-smaller g c = fewer (length c.args.pairs.now) c.loop-key.key-index c.loop-key-test.true

pub returns : goal.returns
returns g c = all_written (λ (p : Bytes × Bytes). codes " " ++ (texts.hex_text p.0 ++ (codes "=" ++ texts.hex_text p.1))) (pair_view g.K.ByteString.bytes g.V.ByteString.bytes) c.args.pairs.now c.loop-key.key-index (string_bytes c.args.out.now) c.args.name.now (string_bytes c.loop-key.out) c.loop-key-test.false c.loop-key.invariant
