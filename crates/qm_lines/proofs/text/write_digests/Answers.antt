use Rattle.std.proofs.Common.{length, ◌++◌, codes, []}
use Rattle.std.specs.String.{string_bytes}
use Rattle.hex.specs.Hex.{encode_lower}
use Rattle.qm_lines.proofs.Written.{all_written, fewer, one_more}
use Rattle.qm_lines.proofs.text.write_digests.Goals as goal

pub loop-digest-preserved : goal.loop-digest-preserved
loop-digest-preserved g c =
    one_more (λ d. codes " " ++ encode_lower d) g.D.Digest.bytes c.args.digests.now c.loop-digest.digest-index c.digest-item.result (string_bytes c.args.out.now) [] (string_bytes c.loop-digest.out) (string_bytes c.write_hex.new.out)
    c.loop-digest-test.true c.digest-item.is c.loop-digest.invariant (rw c.bytes.ensures at c.in_ok-write_hex.ensures)

pub loop-digest-smaller : goal.loop-digest-smaller
loop-digest-smaller g c = fewer (length c.args.digests.now) c.loop-digest.digest-index c.loop-digest-test.true

pub returns : goal.returns
returns g c = all_written (λ d. codes " " ++ encode_lower d) g.D.Digest.bytes c.args.digests.now c.loop-digest.digest-index (string_bytes c.args.out.now) [] (string_bytes c.loop-digest.out) c.loop-digest-test.false c.loop-digest.invariant
