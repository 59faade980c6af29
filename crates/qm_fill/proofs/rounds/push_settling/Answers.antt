use Rattle.std.proofs.Common.{sym, append-nil}
use Rattle.qm_fill.proofs.Keys.{settles, settles_not}
use Rattle.qm_fill.proofs.rounds.push_settling.Goals as goal

pub returns-then-number-eq0 : goal.returns-then-number-eq0
returns-then-number-eq0 c = rw (settles c.args.number c.if-number-eq0.true) c.push.ensures

pub returns : goal.returns
returns c = rw (settles_not c.args.number c.if-number-eq0.false) (sym (append-nil _))
