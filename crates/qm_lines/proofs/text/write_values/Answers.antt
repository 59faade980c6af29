use Rattle.std.proofs.Common.{length, ◌++◌, codes, []}
use Rattle.std.specs.String.{string_bytes}
use Rattle.std.specs.Prelude.{option_map}
use Rattle.qm_machine.specs.Text as texts
use Rattle.qm_lines.proofs.Written.{all_written, fewer, one_more}
use Rattle.qm_lines.proofs.text.write_values.Goals as goal

pub loop-value-preserved : goal.loop-value-preserved
loop-value-preserved g c =
    one_more (λ v. codes " " ++ texts.optional_text v) (option_map g.V.ByteString.bytes) c.args.values.now c.loop-value.value-index c.value-item.result (string_bytes c.args.out.now) [] (string_bytes c.loop-value.out) (string_bytes c.write_optional.new.out)
    c.loop-value-test.true c.value-item.is c.loop-value.invariant c.in_ok-write_optional.ensures

pub loop-value-smaller : goal.loop-value-smaller
loop-value-smaller g c = fewer (length c.args.values.now) c.loop-value.value-index c.loop-value-test.true

pub returns : goal.returns
returns g c = all_written (λ v. codes " " ++ texts.optional_text v) (option_map g.V.ByteString.bytes) c.args.values.now c.loop-value.value-index (string_bytes c.args.out.now) [] (string_bytes c.loop-value.out) c.loop-value-test.false c.loop-value.invariant
