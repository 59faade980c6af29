use Rattle.std.proofs.Common.{◌∙◌, ◌+◌, ap, ap₂, drop, sym, take}
use Rattle.std.specs.Int.NonZero.{non_zero_u64_get}
use Rattle.std.proofs.lemmas.Result.{err_from_is_err_and}
use Rattle.qm_model.specs.Proofs.{ops_proof}
use Rattle.qm_model.specs.Refusals.{proof_count, proof_refusal}
use Rattle.qm_operations.specs.Views.{operation_views}
use Rattle.qm_any.proofs.Reading.{left-database}
use Rattle.qm_any.proofs.Offered.{err-exit, memory-exit, left-store}
use Rattle.qm_any.proofs.offer.proofs.DbSha256Proving.prove.Goals as goal
use Rattle.qm_any.specs.Offered.{sha256_hashing, sha256_layout}
use Rattle.sha2.specs.Sha256.{sha256}

pub returns-clause-offered : goal.returns-clause-offered
returns-clause-offered g c = λ list is. ap₂ (proof_refusal (g.C.Store.start c.args.self.now.log.store) list) (sym c.new-size.ensures) (sym c.new-start.ensures) ∙ c.in_ok-proof.ensures.offered list is

pub returns-clause-proof : goal.returns-clause-proof
returns-clause-proof g c = λ list is.
    let max = non_zero_u64_get c.args.max in
    c.in_ok-proof.ensures.proof list is
    ∙ ap₂ (λ n a. ops_proof sha256 g.F.Family.shape g.U.Update.form (take n list) a (a + proof_count n a max)) c.new-size.ensures c.new-start.ensures

pub returns-clause-ops : goal.returns-clause-ops
returns-clause-ops g c = λ list is.
    let max = non_zero_u64_get c.args.max in
    c.in_ok-operations.ensures ∙ ap (operation_views g.U.Update.view g.U.Key.ByteString.bytes g.U.Value.ByteString.bytes) c.deref.ensures.value ∙ c.in_ok-proof.ensures.operations list is
    ∙ ap₂ (λ n a. take (proof_count n a max) (drop a list)) c.new-size.ensures c.new-start.ensures

pub returns-in_err-proof-clause-reads : goal.returns-in_err-proof-clause-reads
returns-in_err-proof-clause-reads g c =
    let exit = err_from_is_err_and c.from_residual.result c.from_residual.ensures.1 in
    record {
      same = λ list is. left-database g.C.Store (sha256_layout g.F.Family.shape g.N.Chunks.LEN g.U.Update.form g.I.Unordered.index_key) c.args.self.now c.historical_proof.new.self list c.historical_proof.ensures.left is;
      numbered = λ n is. tt;
      store = left-store g.C.Store (sha256_hashing g.F.Family.shape g.U.Update.form) c.args.self.now c.historical_proof.new.self c.historical_proof.ensures.left;
      faults = record { later = (c.historical_proof.ensures.left).read.keeps.later; failed = λ fault. (c.in_err-proof.ensures.unproved).cause (err-exit c.from_residual.result exit.0 _ _ exit.1 exit.2 fault) };
    }

pub returns-in_err-operations-clause-reads : goal.returns-in_err-operations-clause-reads
returns-in_err-operations-clause-reads g c =
    let exit = err_from_is_err_and c.from_residual-in_err-operations.result c.from_residual-in_err-operations.ensures.1 in
    record {
      same = λ list is. left-database g.C.Store (sha256_layout g.F.Family.shape g.N.Chunks.LEN g.U.Update.form g.I.Unordered.index_key) c.args.self.now c.historical_proof.new.self list c.historical_proof.ensures.left is;
      numbered = λ n is. tt;
      store = left-store g.C.Store (sha256_hashing g.F.Family.shape g.U.Update.form) c.args.self.now c.historical_proof.new.self c.historical_proof.ensures.left;
      faults = record { later = (c.historical_proof.ensures.left).read.keeps.later; failed = λ fault. absurd (memory-exit c.from_residual-in_err-operations.result exit.0 exit.1 exit.2 fault) };
    }

pub returns-clause-reads : goal.returns-clause-reads
returns-clause-reads g c = record {
  same = λ list is. left-database g.C.Store (sha256_layout g.F.Family.shape g.N.Chunks.LEN g.U.Update.form g.I.Unordered.index_key) c.args.self.now c.historical_proof.new.self list c.historical_proof.ensures.left is;
  numbered = λ n is. tt;
  store = left-store g.C.Store (sha256_hashing g.F.Family.shape g.U.Update.form) c.args.self.now c.historical_proof.new.self c.historical_proof.ensures.left;
  faults = record { later = (c.historical_proof.ensures.left).read.keeps.later; failed = λ fault. absurd (cc fault) };
}
