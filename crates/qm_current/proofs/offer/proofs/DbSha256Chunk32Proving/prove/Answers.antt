use Rattle.std.proofs.Common.{◌∙◌, ◌+◌, ap, ap₂, drop, sym, take}
use Rattle.std.specs.Int.NonZero.{non_zero_u64_get}
use Rattle.std.proofs.lemmas.Result.{err_from_is_err_and}
use Rattle.qm_model.specs.Proofs.{ops_proof}
use Rattle.qm_model.specs.Refusals.{proof_count, proof_refusal}
use Rattle.qm_operations.specs.Views.{operation_views}
use Rattle.qm_any.proofs.Offered.{err-exit, memory-exit}
use Rattle.qm_any.specs.Offered.{sha256_layout}
use Rattle.sha2.specs.Sha256.{sha256}
use Rattle.qm_current.proofs.Offering.{left-offered}
use Rattle.qm_current.proofs.ReadingOffered.{left-numbered, left-store}
use Rattle.qm_current.proofs.offer.proofs.DbSha256Chunk32Proving.prove.Goals as goal

pub returns-clause-offered : goal.returns-clause-offered
returns-clause-offered g c = λ list is. ap₂ (proof_refusal (g.C.Store.start c.args.self.now.any.log.store) list) (sym c.new-size.ensures) (sym c.new-start.ensures) ∙ c.in_ok-proof.ensures.offered list is.at.any

pub returns-clause-proof : goal.returns-clause-proof
returns-clause-proof g c = λ list is.
    let max = non_zero_u64_get c.args.max in
    c.in_ok-proof.ensures.proof list is.at.any
    ∙ ap₂ (λ n a. ops_proof sha256 g.F.Family.shape g.U.Update.form (take n list) a (a + proof_count n a max)) c.new-size.ensures c.new-start.ensures

pub returns-clause-ops : goal.returns-clause-ops
returns-clause-ops g c = λ list is.
    let max = non_zero_u64_get c.args.max in
    c.in_ok-operations.ensures ∙ ap (operation_views g.U.Update.view g.U.Key.ByteString.bytes g.U.Value.ByteString.bytes) c.deref.ensures.value ∙ c.in_ok-proof.ensures.operations list is.at.any
    ∙ ap₂ (λ n a. take (proof_count n a max) (drop a list)) c.new-size.ensures c.new-start.ensures

pub returns-in_err-proof-clause-reads : goal.returns-in_err-proof-clause-reads
returns-in_err-proof-clause-reads g c =
    let exit = err_from_is_err_and c.from_residual.result c.from_residual.ensures.1 in
    let layout = sha256_layout g.F.Family.shape 32 g.U.Update.form g.I.Unordered.index_key in
    let left = c.ops_historical_proof.ensures.left in
    record {
      same = λ list is. left-offered g.C.Store layout c.args.self.now c.ops_historical_proof.new.self left list is;
      numbered = λ n is. left-numbered g.C.Store layout c.args.self.now c.ops_historical_proof.new.self left n is;
      store = left-store g.C.Store layout c.args.self.now c.ops_historical_proof.new.self left;
      faults = record { later = left.any.read.keeps.later; failed = λ fault. (c.in_err-proof.ensures.unproved).cause (err-exit c.from_residual.result exit.0 _ _ exit.1 exit.2 fault) };
    }

pub returns-in_err-operations-clause-reads : goal.returns-in_err-operations-clause-reads
returns-in_err-operations-clause-reads g c =
    let exit = err_from_is_err_and c.from_residual-in_err-operations.result c.from_residual-in_err-operations.ensures.1 in
    let layout = sha256_layout g.F.Family.shape 32 g.U.Update.form g.I.Unordered.index_key in
    let left = c.ops_historical_proof.ensures.left in
    record {
      same = λ list is. left-offered g.C.Store layout c.args.self.now c.ops_historical_proof.new.self left list is;
      numbered = λ n is. left-numbered g.C.Store layout c.args.self.now c.ops_historical_proof.new.self left n is;
      store = left-store g.C.Store layout c.args.self.now c.ops_historical_proof.new.self left;
      faults = record { later = left.any.read.keeps.later; failed = λ fault. absurd (memory-exit c.from_residual-in_err-operations.result exit.0 exit.1 exit.2 fault) };
    }

pub returns-clause-reads : goal.returns-clause-reads
returns-clause-reads g c =
    let layout = sha256_layout g.F.Family.shape 32 g.U.Update.form g.I.Unordered.index_key in
    let left = c.ops_historical_proof.ensures.left in
    record {
      same = λ list is. left-offered g.C.Store layout c.args.self.now c.ops_historical_proof.new.self left list is;
      numbered = λ n is. left-numbered g.C.Store layout c.args.self.now c.ops_historical_proof.new.self left n is;
      store = left-store g.C.Store layout c.args.self.now c.ops_historical_proof.new.self left;
      faults = record { later = left.any.read.keeps.later; failed = λ fault. absurd (cc fault) };
    }
