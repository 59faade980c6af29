use Rattle.std.proofs.Common.{◌++◌, [], arith, sym, ◌∙◌, ap, subst, append-nil}
use Rattle.std.specs.Prelude.{⊤}
use Rattle.qm_model.specs.Policies.{policies}
use Rattle.qm_model.specs.Schemes.{chunks_of}
use Rattle.qm_model.specs.StoreModel.{Turns}
use Rattle.qm_machine.specs.Machine.{initial}
use Rattle.qm_machine.proofs.Sounds.{kept-low}
use Rattle.qm_lines.specs.Policies.{rules_of}
use Rattle.qm_store.specs.Given.{store_given}
use Rattle.qm_engine.specs.Stores.{HasEnds}
use Rattle.qm_engine.specs.Parts.{Between, Chose}
use Rattle.qm_engine.proofs.Loops.{each, log-of, begins-between}
use Rattle.qm_engine.proofs.Owned.{none-left}
use Rattle.qm_engine.proofs.Answerings.{end-memory_not_fault}
use Rattle.qm_filling.proofs.Crossed.{kept-named}
use Rattle.qm_filling.proofs.Joined.{filled}
use Rattle.qm_filling.proofs.runs.run_fill.Goals as goal

pub returns-in-Err-clause-machine : goal.returns-in-Err-clause-machine
returns-in-Err-clause-machine g c =
    let m = g.X.Meaning.scheme in
    each (g.C.Store.told c.args.store) (λ stored is log own choices turns. record {
      all = tt;
      stopped = (
        0,
        omega arith,
        λ e. absurd (end-memory_not_fault e),
        λ apart. none-left m policies (g.C.Store.told c.in-Err.store) log _ (log-of m policies _ stored log (ap g.C.Store.told c.in-Err.ensures.back ∙ is) own) own.kept,
      );
    })

pub returns-clause-machine : goal.returns-clause-machine
returns-clause-machine g c =
    let m = g.X.Meaning.scheme in
    let session = c.in-Ok.session in
    let after = c.fill_all-session in
    let told = g.C.Store.told (store_given g.X.Meaning.inside after.result.0.held) in
    let same = ap g.C.Store.told c.in-Ok.ensures.store in
    each (g.C.Store.told c.args.store) (λ stored is log own choices turns.
    let chose : Chose g.C.Store g.X.Meaning session after.result.0 choices = subst (λ o. Turns o told (HasEnds (chunks_of m) ⊤ choices)) (sym same) (rw c.returned.ensures.store at turns) in
    let between : Between g.C.Store g.X.Meaning rules_of session (choices ++ []) (initial log choices) = subst (λ xs. Between g.C.Store g.X.Meaning rules_of session xs (initial log choices)) (sym (append-nil choices))
    (begins-between g.C.Store g.X.Meaning rules_of session log choices (c.in-Ok.ensures.session log choices (log-of m policies (g.C.Store.told c.args.store) stored log is own) (kept-low m policies log own.kept) own.kept.stable) (kept-named m log own.kept)) in
    rw c.returned.ensures.store (filled g.C.Store g.X.Meaning _ session after.result.0 after.result.1 after.ensures log choices chose between (rw c.returned.ensures.store at c.returned.ensures.stable)))
