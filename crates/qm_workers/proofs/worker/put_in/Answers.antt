use Rattle.std.proofs.Common.{sym, subst, None}
use Rattle.std.specs.Bool.{then_some}
use Rattle.qm_workers.specs.Working.{IsReplaced}
use Rattle.qm_workers.proofs.Located.{put}
use Rattle.qm_workers.proofs.worker.put_in.Goals as goal

pub returns-in_ok-insert : goal.returns-in_ok-insert
returns-in_ok-insert c =
    subst (λ t. IsReplaced None (then_some t c.args.at) c.args.located.now.keys c.insert.new.self.keys) (sym c.if-is_update.true)
    (put c.args.located.now c.insert.new.self c.args.at c.in_ok-insert.ensures.updates)
