use Rattle.std.proofs.Common.{length, ◌∙◌, ◌++◌, [], ap, append_assoc, codes}
use Rattle.std.specs.String.{string_bytes}
use Rattle.qm_model.specs.Operations.{Bytes}
use Rattle.qm_machine.specs.Text as texts
use Rattle.qm_base.specs.Listed.{listed_view}
use Rattle.qm_lines.proofs.Written.{all_written, fewer, one_more}
use Rattle.qm_lines.proofs.text.write_operations.Goals as goal

pub loop-op-preserved : goal.loop-op-preserved
loop-op-preserved g c =
    let text : Bytes = texts.operation_text (listed_view g.K.ByteString.bytes g.V.ByteString.bytes c.op-item.result) in
    one_more (λ op. codes " " ++ texts.operation_text op) (listed_view g.K.ByteString.bytes g.V.ByteString.bytes) c.args.ops.now c.loop-op.op-index c.op-item.result (string_bytes c.args.out.now) [] (string_bytes c.loop-op.out) (string_bytes c.write_operation.new.out)
    c.loop-op-test.true c.op-item.is c.loop-op.invariant
    (c.in_ok-write_operation.ensures ∙ ap (λ (t : Bytes). t ++ text) c.in_ok-push_str.ensures.bytes ∙ append_assoc (string_bytes c.loop-op.out) (codes " ") text)

pub loop-op-smaller : goal.loop-op-smaller
loop-op-smaller g c = fewer (length c.args.ops.now) c.loop-op.op-index c.loop-op-test.true

pub returns : goal.returns
returns g c = all_written (λ op. codes " " ++ texts.operation_text op) (listed_view g.K.ByteString.bytes g.V.ByteString.bytes) c.args.ops.now c.loop-op.op-index (string_bytes c.args.out.now) [] (string_bytes c.loop-op.out) c.loop-op-test.false c.loop-op.invariant
