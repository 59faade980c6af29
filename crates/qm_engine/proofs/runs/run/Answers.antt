use Rattle.std.proofs.Common.{[], ◌++◌, map, arith, sym, ◌∙◌, ap, subst, append-nil}
use Rattle.std.specs.Prelude.{⊤}
use Rattle.std.proofs.lemmas.List.{length-map}
use Rattle.qm_machine.specs.Machine.{initial}
use Rattle.qm_model.specs.Schemes.{chunks_of}
use Rattle.qm_model.specs.StoreModel.{Turns}
use Rattle.qm_lines.specs.Views.{line_view, answer_view}
use Rattle.qm_store.specs.Given.{store_given}
use Rattle.qm_engine.specs.Stores.{HasEnds}
use Rattle.qm_engine.specs.Parts.{Between, Chose}
use Rattle.qm_machine.proofs.Sounds.{kept-low}
use Rattle.qm_engine.proofs.LastingStores.{turns-same}
use Rattle.qm_engine.proofs.Loops.{each, log-of, begins-between, run-of, run-none}
use Rattle.qm_engine.proofs.Owned.{own-of}
use Rattle.qm_engine.proofs.Answerings.{is-done, end-fault_not_done}
use Rattle.qm_engine.proofs.runs.run.Goals as goal

pub returns-in-Err-clause-machine : goal.returns-in-Err-clause-machine
returns-in-Err-clause-machine g c =
    let f = line_view g.X.Key.ByteString.bytes g.X.Value.ByteString.bytes (λ p. p) in
    let a = answer_view g.X.Key.ByteString.bytes g.X.Value.ByteString.bytes g.X.Digest.Digest.bytes in
    each (g.C.Store.told c.args.store) (λ stored is log own choices told.
    run-none g.X.Meaning.scheme g.P.Policy.rules log choices (map f c.args.commands.now) _ _ (ap (map a) c.new.ensures.items)
    (log-of g.X.Meaning.scheme g.P.Policy.rules _ stored log (ap g.C.Store.told c.in-Err.ensures.back ∙ is) own) own.kept)

pub returns-in-Err-clause-ends : goal.returns-in-Err-clause-ends
returns-in-Err-clause-ends g c = ([], turns-same _ (chunks_of g.X.Meaning.scheme) (g.C.Store.told c.args.store) _ (ap g.C.Store.told c.in-Err.ensures.back))

pub returns-clause-machine : goal.returns-clause-machine
returns-clause-machine g c =
    let f = line_view g.X.Key.ByteString.bytes g.X.Value.ByteString.bytes (λ p. p) in
    let a = answer_view g.X.Key.ByteString.bytes g.X.Value.ByteString.bytes g.X.Digest.Digest.bytes in
    let m = g.X.Meaning.scheme in
    let rules = g.P.Policy.rules in
    let session = c.in-Ok.session in
    let part = c.run_part-replies in
    let told = g.C.Store.told (store_given g.X.Meaning.inside part.result.session.held) in
    let same = ap g.C.Store.told c.in-Ok.ensures.store in
    each (g.C.Store.told c.args.store) (λ stored is log own choices turns.
    let chose : Chose g.C.Store g.X.Meaning session part.result.session choices = subst (λ o. Turns o told (HasEnds (chunks_of m) ⊤ choices)) (sym same) (rw c.returned.ensures.store at turns) in
    let between : Between g.C.Store g.X.Meaning rules session (choices ++ []) (initial log choices) = subst (λ xs. Between g.C.Store g.X.Meaning rules session xs (initial log choices)) (sym (append-nil choices))
    (begins-between g.C.Store g.X.Meaning rules session log choices (c.in-Ok.ensures.session log choices (log-of m rules (g.C.Store.told c.args.store) stored log is own) (kept-low m rules log own.kept) own.kept.stable) own.kept) in
    rw c.returned.ensures.store (run-of m rules log choices (map f c.args.commands.now) (map a part.result.replies.items) told (rw c.returned.ensures.store at c.returned.ensures.stable)
    (part.ensures.machine (initial log choices) choices [] chose between)
    (λ all apart.
    let done = is-done part.result.end (λ other. let short = part.ensures.short other in omega (arith, short, all, length-map part.result.replies.items a, length-map c.args.commands.now f)) in
    let at_end = part.ensures.onward done (initial log choices) choices [] chose between apart in
    own-of m rules told _ at_end.stands.store.told at_end.sound.kept)))

pub returns-clause-short : goal.returns-clause-short
returns-clause-short g c = λ e. c.run_part-replies.ensures.short (λ done. end-fault_not_done (sym e ∙ done))

pub returns-clause-ends : goal.returns-clause-ends
returns-clause-ends g c = rw (c.returned.ensures.store, sym c.in-Ok.ensures.store) c.run_part-replies.ensures.ends

pub returns-clause-fault : goal.returns-clause-fault
returns-clause-fault g c = λ e. rw (c.returned.ensures.store, sym c.in-Ok.ensures.store) (c.run_part-replies.ensures.fault e)
