use Rattle.std.proofs.Common.{◌∙◌, ap, sym, subst}
use Rattle.std.specs.Prelude.{IfErr}
use Rattle.std.proofs.lemmas.Result.{err_from_is_err_and}
use Rattle.qm_model.specs.Live.{live, live_of}
use Rattle.qm_model.specs.RangeProofs as range_proofs
use Rattle.qm_graft.specs.Grafting.{grafting}
use Rattle.qm_graft.proofs.Fitting.{grafting-span}
use Rattle.qm_any.specs.Layouts.{layout_of}
use Rattle.qm_any.proofs.Reading.{left-database}
use Rattle.qm_model.specs.Refusals.{lacking_refusal}
use Rattle.qm_store.specs.Refusals.{IsDue}
use Rattle.qm_shown.proofs.Keys.{found-at, kept-none, live-offered, due-as}
use Rattle.qm_shown.proofs.key.update_proof.Goals as goal

pub returns-clause-proof : goal.returns-clause-proof
returns-clause-proof g c = λ list stands own.
    let size = g.N.Chunks.LEN in
    let layout = layout_of size g.H.Digest.Digest.bytes g.H.Hasher g.F.Family g.U.Update g.I.Unordered in
    let after = left-database g.C.Store layout c.args.db.now c.found.new.db list c.found.ensures.left stands in
    c.in_ok-proof.ensures.proof list after own
    ∙ ap (range_proofs.operation_proof g.H.Hasher.hash g.F.Family.shape (grafting size) g.U.Update.form list) (sym c.in_ok-proof.ensures.loc)

pub returns-in_err-proof-clause-refused : goal.returns-in_err-proof-clause-refused
returns-in_err-proof-clause-refused g c = λ list stands own.
    let size = g.N.Chunks.LEN in
    let power = g.met.N.Chunks.power in
    let key = g.U.Key.ByteString.bytes c.args.key.now in
    let layout = layout_of size g.H.Digest.Digest.bytes g.H.Hasher g.F.Family g.U.Update g.I.Unordered in
    let left = c.found.ensures.left in
    let new = c.found.new.db in
    let after = left-database g.C.Store layout c.args.db.now new list left stands in
    let there = found-at list key c.in_ok-at.at (g.U.Update.view c.in_ok-at.update) (c.in_ok-at.ensures.update list stands) in
    let low = kept-none g.C.Store layout new list after in
    let offered = live-offered g.C.Store size new list (grafting-span size power.0 power.1) after.active key c.in_ok-at.at there low in
    let due : IsDue c.in_err-proof.field-0.0 (lacking_refusal (live_of (live list) key)) =
    due-as c.in_err-proof.field-0.0 _ (lacking_refusal (live_of (live list) key)) (offered ∙ sym (ap lacking_refusal there.found)) (c.in_err-proof.ensures.refused list after own) in
    let exit = err_from_is_err_and c.from_residual-in_err-proof.result c.from_residual-in_err-proof.ensures.1 in
    subst (λ r. IfErr r (λ e. IsDue e (lacking_refusal (live_of (live list) key)))) (sym exit.1) (subst (λ e. IsDue e (lacking_refusal (live_of (live list) key))) (sym exit.2) due)
