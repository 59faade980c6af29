use Rattle.std.proofs.Common.{sym, subst, None}
use Rattle.std.specs.Prelude.{option_map}
use Rattle.qm_build.specs.declared.read.Found.{Found}
use Rattle.qm_workers.specs.Working.{IsReplaced}
use Rattle.qm_workers.proofs.Located.{removed}
use Rattle.qm_workers.proofs.worker.take_out.Goals as goal

pub returns-in-Some : goal.returns-in-Some
returns-in-Some c =
    subst (λ o. IsReplaced (option_map (λ (f : Found). f.location) o) None c.args.located.now.keys c.remove.new.self.keys) (sym c.in-Some.is)
    (removed c.args.located.now c.remove.new.self c.in-Some.found.location c.remove.ensures.updates)
