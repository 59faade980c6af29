use Rattle.std.proofs.Common.{◌∙◌, ◌<◌, ◌+◌, ap, ap₂, sym, subst, length, arith}
use Rattle.std.specs.Prelude.{IfErr}
use Rattle.std.specs.NonZero.{non_zero_u64_get}
use Rattle.std.proofs.lemmas.Result.{err_from_is_err_and}
use Rattle.qm_model.specs.Batches.{Commitment}
use Rattle.qm_model.specs.RangeProofs as range_proofs
use Rattle.qm_model.specs.Refusals.{proof_count}
use Rattle.qm_store.specs.Refusals.{IsDue}
use Rattle.qm_graft.specs.Grafting.{grafting}
use Rattle.qm_shown.specs.Refusals.{from_refusal}
use Rattle.qm_shown.proofs.Ended.{whole-offered}
use Rattle.qm_shown.proofs.Keys.{call-due}
use Rattle.qm_shown.proofs.range.range_proof.Goals as goal

pub returns-clause-proof : goal.returns-clause-proof
returns-clause-proof g c = λ list stands own.
    let size = ap (λ (k : Commitment). k.size) stands.commitment in
    let most = non_zero_u64_get c.args.max in
    let first = c.new.ensures ∙ c.get-3.ensures in
    let count = ap₂ (λ n a. a + proof_count n a most) (c.get.ensures ∙ c.size.ensures ∙ size) c.get-2.ensures in
    c.in-Ok.ensures.proof list stands own
    ∙ ap₂ (range_proofs.range_proof g.H.Hasher.hash g.F.Family.shape (grafting g.N.Chunks.LEN) g.U.Update.form list) first (c.new-2.ensures ∙ c.end_of-end.ensures.exact ∙ count)

pub returns-clause-chunks : goal.returns-clause-chunks
returns-clause-chunks g c = λ list stands own.
    let size = ap (λ (k : Commitment). k.size) stands.commitment in
    let most = non_zero_u64_get c.args.max in
    let first = c.new.ensures ∙ c.get-3.ensures in
    let count = ap₂ (λ n a. a + proof_count n a most) (c.get.ensures ∙ c.size.ensures ∙ size) c.get-2.ensures in
    c.in-Ok.ensures.chunks list stands own
    ∙ ap₂ (range_proofs.chunks_of (grafting g.N.Chunks.LEN) list) first (c.new-2.ensures ∙ c.end_of-end.ensures.exact ∙ count)

pub returns-clause-operations : goal.returns-clause-operations
returns-clause-operations g c = λ list stands own. c.in_ok-operations.ensures.operations list stands

pub returns-in_err-operations-clause-refused : goal.returns-in_err-operations-clause-refused
returns-in_err-operations-clause-refused g c = λ list stands own.
    let size = ap (λ (k : Commitment). k.size) stands.commitment in
    let kept = g.C.Store.start c.args.db.now.log.store in
    let due = from_refusal g.C.Store g.N.Chunks.LEN c.args.db.now list c.args.start in
    let before : c.args.start < length list = omega (arith, c.in_ok-provable_from.ensures.within, size) in
    let none = whole-offered kept list c.args.start stands.good before c.in_ok-provable_from.ensures.kept in
    let told = subst (IsDue c.in_err-operations.field-0.0) none (c.in_err-operations.ensures.refused list stands) in
    let exit = err_from_is_err_and c.from_residual-in_err-operations.result c.from_residual-in_err-operations.ensures.1 in
    subst (λ r. IfErr r (λ e. IsDue e due)) (sym exit.1) (subst (λ e. IsDue e due) (sym exit.2) (call-due c.in_err-operations.field-0.0 due told))
