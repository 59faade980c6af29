use Rattle.std.proofs.Common.{◌∙◌}
use Rattle.qm_fill.proofs.Keys.{key_known, value_known, written_away, written_there}
use Rattle.qm_fill.proofs.rounds.write_of.Goals as goal

pub from_bytes-requires : goal.from_bytes-requires
from_bytes-requires c = rw c.key_of.ensures (key_known c.args.draw)

pub returns-then-draw-eq0 : goal.returns-then-draw-eq0
returns-then-draw-eq0 c = written_away c.args.number c.args.draw c.in_ok-key.key (c.in_ok-key.ensures ∙ c.key_of.ensures) c.if-draw-eq0.true

pub from_bytes-requires-2 : goal.from_bytes-requires-2
from_bytes-requires-2 c = rw c.four_bytes.ensures (value_known c.args.draw)

pub returns : goal.returns
returns c =
    written_there c.args.number c.args.draw c.in_ok-key.key c.in_ok-value.value (c.in_ok-key.ensures ∙ c.key_of.ensures) (c.in_ok-value.ensures ∙ c.four_bytes.ensures) c.if-draw-eq0.false
