use Rattle.std.proofs.Common.{◌+◌, ◌∙◌, ap, ap₂, length, arith}
use Rattle.std.specs.Iterator.Adapters.{zip_first, zip_second}
use Rattle.std.specs.Slice.Iter.{iter_rest}
use Rattle.std.proofs.lemmas.Slice.Zip.{Zip-more, either_empty_from_Zip}
use Rattle.qm_lines.specs.Parsed.{byte_line}
use Rattle.qm_fill.specs.Summary.{both}
use Rattle.qm_fill.proofs.Counting.{one-command}
use Rattle.qm_fill.proofs.Tallied.{byte_answer, counts_beside, counted-next, counted-end}
use Rattle.qm_fill.proofs.tally.Tally.with.Goals as goal

pub loop-command-init : goal.loop-command-init
loop-command-init g c =
    let begins = c.into_iter-command-iterator.ensures.into_iter_gives in
    let first = ap (λ z. iter_rest (zip_first z)) begins ∙ ap iter_rest c.zip-command-items.ensures.first ∙ c.iter.ensures.rest in
    let second = ap (λ z. iter_rest (zip_second z)) begins ∙ (c.zip-command-items.ensures.second).0 in
    (ap₂ (λ ks vs. both c.args.self (counts_beside g.D.Digest.bytes ks vs)) first second, ap (λ ks. c.args.self.commands + length ks) first)

pub add-requires : goal.add-requires
add-requires g c =
    let taken = Zip-more c.loop-command.command-iterator c.next.new.self c.next.result (c.in-Some.command, c.in-Some.reply) c.in-Some.is c.next.ensures.steps in
    omega (arith, ap length taken.0, c.loop-command.invariant.1, c.requires.room)

pub loop-command-preserved : goal.loop-command-preserved
loop-command-preserved g c =
    let taken = Zip-more c.loop-command.command-iterator c.next.new.self c.next.result (c.in-Some.command, c.in-Some.reply) c.in-Some.is c.next.ensures.steps in
    let counted = c.in_ok-add.ensures.ok in (
      counted-next g.D.Digest.bytes c.loop-command.tally c.add.new.self (both c.args.self (counts_beside g.D.Digest.bytes c.args.commands.now c.args.replies.now)) (iter_rest (zip_first c.loop-command.command-iterator)) (iter_rest (zip_first c.next.new.self)) (iter_rest (zip_second c.loop-command.command-iterator)) (iter_rest (zip_second c.next.new.self)) c.in-Some.command.now c.in-Some.reply.now taken.0 taken.1 c.loop-command.invariant.0 counted,
      omega (arith, ap length taken.0, c.loop-command.invariant.1, one-command c.loop-command.tally c.add.new.self (byte_line c.in-Some.command.now, byte_answer g.D.Digest.bytes c.in-Some.reply.now) counted),
    )

pub returns : goal.returns
returns g c =
    counted-end g.D.Digest.bytes c.loop-command.tally _ _ _ (either_empty_from_Zip c.loop-command.command-iterator c.next.new.self c.next.result c.in-None.is c.next.ensures.steps) c.loop-command.invariant.0
