use Rattle.std.proofs.Common.{length, ◌++◌, codes}
use Rattle.std.specs.String.{string_bytes}
use Rattle.qm_machine.specs.Text as texts
use Rattle.qm_lines.proofs.Written.{all_written, fewer, one_more}
use Rattle.qm_lines.proofs.text.write_keys.Goals as goal

pub loop-key-preserved : goal.loop-key-preserved
loop-key-preserved g c =
    one_more (λ k. codes " " ++ texts.hex_text k) g.K.ByteString.bytes c.args.keys.now c.loop-key.key-index c.key-item.result (string_bytes c.args.out.now) (codes "keys") (string_bytes c.loop-key.out) (string_bytes c.write_bytes.new.out)
    c.loop-key-test.true c.key-item.is c.loop-key.invariant (rw c.as_bytes.ensures.value at c.in_ok-write_bytes.ensures)

pub loop-key-smaller : goal.loop-key-smaller
loop-key-smaller g c = fewer (length c.args.keys.now) c.loop-key.key-index c.loop-key-test.true

pub returns : goal.returns
returns g c = all_written (λ k. codes " " ++ texts.hex_text k) g.K.ByteString.bytes c.args.keys.now c.loop-key.key-index (string_bytes c.args.out.now) (codes "keys") (string_bytes c.loop-key.out) c.loop-key-test.false c.loop-key.invariant
