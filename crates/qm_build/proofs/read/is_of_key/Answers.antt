use Rattle.std.proofs.Common.{◌≡◌, sym, subst, Some, true}
use Rattle.std.specs.Prelude.{◌↔◌, IfOk, option_and_then}
use Rattle.std.proofs.lemmas.Option.{IfSome_then}
use Rattle.qm_operations.specs.Parts.{update_key}
use Rattle.qm_build.proofs.read.is_of_key.Goals as goal

pub returns-in-None-clause-value : goal.returns-in-None-clause-value
returns-in-None-clause-value g c = λ ops op is keys.
    IfSome_then (g.C.Store.told c.args.log.now.store) (c.has_key.ensures.value op) (λ s said spells.
    subst (λ o. IfOk c.has_key.result (λ yes. (yes ≡ true) ↔ (option_and_then update_key o ≡ Some c.args.key.now))) (sym is) (said spells))
