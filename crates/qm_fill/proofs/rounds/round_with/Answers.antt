use Rattle.std.proofs.Common.{ap, map}
use Rattle.qm_lines.specs.Parsed.{byte_line}
use Rattle.qm_fill.specs.Commands.{round_with}
use Rattle.qm_fill.proofs.Assembly.{assembled}
use Rattle.qm_fill.proofs.rounds.round_with.Goals as goal

pub returns : goal.returns
unfolding round_with
returns c =
    assembled _ _ _ _ _ _ _ _ _ _ _ (ap (map byte_line) c.new-commands.ensures.items) c.in_ok-push.ensures c.in_ok-push_writes.ensures c.in_ok-push-2.ensures c.in_ok-push-3.ensures c.in_ok-push_settling.ensures
