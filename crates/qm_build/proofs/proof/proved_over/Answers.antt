use Rattle.std.proofs.Common.{◌≡◌, ◌≢◌, ◌⊎◌, ◌≤◌, ℕ, sym, subst, ◌+◌, ◌∙◌, Some, Err, inl, inr, arith, length, map, take, drop, ap, ap₂}
use Rattle.std.specs.Prelude.{Contains, nat_le}
use Rattle.std.specs.NonZero.{non_zero_u64_get}
use Rattle.std.proofs.lemmas.List.{length-map}
use Rattle.std.proofs.lemmas.List.Sums.{count_by-le-length}
use Rattle.std.proofs.lemmas.Result.{err_from_is_err_and}
use Rattle.qm_model.proofs.Results.{told-any, told-one}
use Rattle.qm_model.specs.Forms.{spelling}
use Rattle.qm_model.specs.Refusals.{proof_count, proof_refusal}
use Rattle.qm_model.specs.Trees.{Shape, end_of, inactive_peaks, peaks}
use Rattle.qm_base.specs.declared.error.Corrupt.TheVariants as corrupt
use Rattle.qm_base.specs.declared.error.Error.{Error}
use Rattle.qm_base.specs.declared.error.Error.TheVariants as errors
use Rattle.qm_base.specs.declared.error.JournalError.TheVariants as journal
use Rattle.qm_store.proofs.Reading.{read-then}
use Rattle.qm_build.proofs.Reading.{told as handed}
use Rattle.qm_build.specs.Reasons.{proof_reasons}
use Rattle.qm_build.proofs.Telling.{proof-spelled, part-spelled, part-of, due-memory, no-refusal, decoded-among}
use Rattle.qm_build.proofs.proof.proved_over.Goals as goal

pub inactive_peaks-inactive-requires : goal.inactive_peaks-inactive-requires
inactive_peaks-inactive-requires g c = omega (arith, c.new.ensures, c.in_ok-floor.ensures.within.0, c.bounds.ensures.size, c.bounds.ensures.limit)

pub returns-in_err-floor : goal.returns-in_err-floor
returns-in_err-floor g c =
    let told = g.C.Store.told c.args.log.now.store in
    let exit = err_from_is_err_and c.from_residual.result c.from_residual.ensures.1 in
    let refused = c.in_err-floor.ensures in
    rw (exit.1, exit.2) (record {
      offered = λ list is all. told-any _ told tt;
      kept = tt;
      proof = λ list is all. told-any _ told tt;
      operations = λ list is all. told-any _ told tt;
      refused = refused.refused;
      causes = refused.causes;
      never = refused.never;
      cause = refused.cause;
      read = c.offered.ensures.read;
    })

failed-late : (e : Error) → (e ≡ errors.Memory) ⊎ (e ≡ errors.Journal journal.Store) → e ≢ errors.StaleBatch
failed-late e (inl memory) = λ is. cc
failed-late e (inr fault) = λ is. cc

decoded-late : (e : Error) → (e ≡ errors.Memory) ⊎ (e ≡ errors.DataCorrupted corrupt.ItemDoesNotDecode) → e ≢ errors.StaleBatch
decoded-late e (inl memory) = λ is. cc
decoded-late e (inr wrong) = λ is. cc

decoded-fault : (e : Error) → (e ≡ errors.Memory) ⊎ (e ≡ errors.DataCorrupted corrupt.ItemDoesNotDecode) → e ≢ errors.Journal journal.Store
decoded-fault e (inl memory) = λ is. cc
decoded-fault e (inr wrong) = λ is. cc

pub returns-in_err-proof : goal.returns-in_err-proof
returns-in_err-proof g c =
    let members = g.C.Store in
    let log = c.args.log.now in
    let told = members.told log.store in
    let exit = err_from_is_err_and c.from_residual-in_err-proof.result c.from_residual-in_err-proof.ensures.1 in
    let error = c.in_err-proof.field-0.0 in
    let within = c.in_ok-floor.ensures.within in
    let first = c.offered.ensures.read in
    let after = c.historical_proof.ensures in
    let tree = first.keeps.tree in
    let size : c.args.size ≤ c.offered.new.log.tree.leaves = omega (arith, within.0, ap (λ t. t.leaves) tree) in
    let from : c.offered.new.log.tree.start ≤ c.args.start = omega (arith, c.in_ok-floor.ensures.kept, c.bounds.ensures.first, ap (λ t. t.start) tree) in
    let never = c.in_err-proof.ensures.never size within.1 from in
    rw (exit.1, exit.2) (record {
      offered = λ list is all. told-any _ told tt;
      kept = tt;
      proof = λ list is all. told-any _ told tt;
      operations = λ list is all. told-any _ told tt;
      refused = λ list is all. told-any _ told (no-refusal (λ r. proof_refusal (members.start log.store) list c.args.size c.args.start ≡ Some r) error never);
      causes = no-refusal (Contains (proof_reasons c.args.size c.args.start)) error never;
      never = failed-late error never;
      cause = λ fault. let rose = after.cause.failed (c.in_err-proof.was ∙ ap Err fault) in let later = first.keeps.later in omega (arith, rose, later);
      read = read-then g.C.Store g.F.Family.shape g.H.Digest.Digest.bytes g.H.Hasher.hash log c.offered.new.log c.historical_proof.new.self first
          (record { stands = after.stands; start = ap (λ t. t.start) after.tree; told = after.kept.told; keeps = record { tree = after.tree; kept = after.kept; later = after.cause.later } });
    })

pub returns-in_err-operations : goal.returns-in_err-operations
returns-in_err-operations g c =
    let members = g.C.Store in
    let log = c.args.log.now in
    let told = members.told log.store in
    let exit = err_from_is_err_and c.from_residual-in_err-operations.result c.from_residual-in_err-operations.ensures.1 in
    let error = c.in_err-operations.field-0.0 in
    let form = g.U.Update.form in
    let start = c.args.start in
    let count = proof_count c.args.size start (non_zero_u64_get c.args.max) in
    let first = c.offered.ensures.read in
    let after = c.historical_proof.ensures in
    rw (exit.1, exit.2) (record {
      offered = λ list is all. told-any _ told tt;
      kept = tt;
      proof = λ list is all. told-any _ told tt;
      operations = λ list is all. told-any _ told tt;
      refused = λ list is all.
          told-one _ _ told (handed _ _ _ first.told (c.in_ok-proof.ensures.items (map (spelling form) list) (first.stands (map (spelling form) list) is))) (λ shown.
          due-memory error (proof_refusal (members.start log.store) list c.args.size start)
          (c.in_err-operations.ensures.whole (take count (drop start list)) (part-of form list start count all) (ap (map (λ v. v.items)) c.deref.ensures.value ∙ shown ∙ part-spelled form list start count)));
      causes = decoded-among c.args.size start error c.in_err-operations.ensures.never;
      never = decoded-late error c.in_err-operations.ensures.never;
      cause = λ fault. absurd (decoded-fault error c.in_err-operations.ensures.never fault);
      read = read-then g.C.Store g.F.Family.shape g.H.Digest.Digest.bytes g.H.Hasher.hash log c.offered.new.log c.historical_proof.new.self first
          (record { stands = after.stands; start = ap (λ t. t.start) after.tree; told = after.kept.told; keeps = record { tree = after.tree; kept = after.kept; later = after.cause.later } });
    })

pub returns : goal.returns
returns g c =
    let log = c.args.log.now in
    let told = g.C.Store.told log.store in
    let shape = g.F.Family.shape in
    let form = g.U.Update.form in
    let start = c.args.start in
    let count = proof_count c.args.size start (non_zero_u64_get c.args.max) in
    let first = c.offered.ensures.read in
    let after = c.historical_proof.ensures in
    record {
      offered = c.in_ok-floor.ensures.offered;
      kept = c.in_ok-floor.ensures.kept;
      proof = λ list is all.
          let within : c.args.size ≤ length list = omega (arith, c.in_ok-floor.ensures.within.0, is.size, length-map list (spelling form)) in
          told-one _ _ told (c.in_ok-floor.ensures.floor list is all) (λ floor.
          c.in_ok-proof.ensures.proof (map (spelling form) list) (first.stands (map (spelling form) list) is)
          ∙ proof-spelled g.H.Hasher.hash shape form list c.args.size c.inactive_peaks-inactive.result start (start + count) within
          (c.inactive_peaks-inactive.ensures ∙ ap₂ (inactive_peaks shape) c.new.ensures (c.new-2.ensures ∙ floor)));
      operations = λ list is all.
          told-one _ _ told (handed _ _ _ first.told (c.in_ok-proof.ensures.items (map (spelling form) list) (first.stands (map (spelling form) list) is))) (λ shown.
          c.in_ok-operations.ensures.value (take count (drop start list)) (part-of form list start count all) (ap (map (λ v. v.items)) c.deref.ensures.value ∙ shown ∙ part-spelled form list start count));
      refused = λ list is all. told-any _ told tt;
      causes = tt;
      never = tt;
      cause = tt;
      read = read-then g.C.Store g.F.Family.shape g.H.Digest.Digest.bytes g.H.Hasher.hash log c.offered.new.log c.historical_proof.new.self first
          (record { stands = after.stands; start = ap (λ t. t.start) after.tree; told = after.kept.told; keeps = record { tree = after.tree; kept = after.kept; later = after.cause.later } });
    }

-- no more peaks are inactive than there are
no-more : (shape : Shape) (n size floor inactive : ℕ) → inactive ≡ inactive_peaks shape n floor → n ≡ size → inactive ≤ length (peaks shape size)
no-more shape n size floor inactive is same =
    subst (λ k. k ≤ length (peaks shape size)) (sym (is ∙ ap (λ m. inactive_peaks shape m floor) same)) (count_by-le-length (λ p. nat_le (end_of p) floor) (peaks shape size))

pub historical_proof-requires : goal.historical_proof-requires
historical_proof-requires g c = λ within. no-more g.F.Family.shape c.new.result c.args.size c.new-2.result c.inactive_peaks-inactive.result c.inactive_peaks-inactive.ensures c.new.ensures
