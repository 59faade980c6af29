use Rattle.std.proofs.Common.{sym}
use Rattle.qm_pinned.proofs.Finding.{count-none}
use Rattle.qm_pinned.proofs.pinned.count_of.Goals as goal

pub returns-in-None : goal.returns-in-None
returns-in-None c = count-none c.args.entries.now (sym c.in-None.ensures)
