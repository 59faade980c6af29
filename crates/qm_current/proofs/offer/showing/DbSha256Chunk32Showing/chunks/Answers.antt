use Rattle.std.proofs.Common.{◌≡◌, ◌∙◌, ◌+◌, ℕ, Bool, None, ap, arith, drop, length, map, subst, take}
use Rattle.std.proofs.lemmas.List.{length-map}
use Rattle.std.specs.NonZero.{non_zero_u64_get}
use Rattle.qm_graft.specs.Grafting.{grafting}
use Rattle.qm_keyproofs.specs.Views.{chunk_views, range_view}
use Rattle.qm_operations.specs.Views.{operation_view}
use Rattle.qm_any.specs.Offered.{digest_bytes, sha256_layout}
use Rattle.qm_model.specs.Forms.{spelling}
use Rattle.qm_model.specs.RangeProofs as range_proofs
use Rattle.qm_model.specs.Refusals.{proof_count, range_refusal}
use Rattle.sha2.specs.Sha256.{sha256}
use Rattle.qm_store.specs.Refusals.{IsDue}
use Rattle.qm_shown.specs.Refusals.{from_refusal}
use Rattle.qm_current.specs.Databases.{Database}
use Rattle.qm_current.proofs.Checking.{count-shown, range-shown}
use Rattle.qm_current.proofs.Offering.{left-offered}
use Rattle.qm_current.proofs.ReadingOffered.{left-numbered, left-store}
use Rattle.qm_current.proofs.ShowingOffered.{counted-at}
use Rattle.qm_current.proofs.offer.showing.DbSha256Chunk32Showing.chunks.Goals as goal

pub returns-in-Ok : goal.returns-in-Ok
returns-in-Ok g c =
    let form = g.U.Update.form in
    let layout = sha256_layout g.F.Family.shape 32 form g.I.Unordered.index_key in
    let height = grafting 32 in
    let view = operation_view g.U.Update.view g.U.Key.ByteString.bytes g.U.Value.ByteString.bytes in
    let left = c.range_proof.ensures.left in
    let old = c.args.self.now in
    let new = c.range_proof.new.self in
    let max = non_zero_u64_get c.args.max in
    let operations = c.in-Ok.operations.items in
    let chunks = chunk_views c.in-Ok.chunks.items in
    let proof = range_view digest_bytes c.in-Ok.proof in
    record {
      offered = λ list is. counted-at g.C.Store layout old list is (λ n. range_refusal height n (g.C.Store.start old.any.log.store) list c.args.start ≡ None)
          (subst (λ n. from_refusal g.C.Store 32 old.any list n ≡ None) c.new-from.ensures (c.in-Ok.ensures.offered list is.at));
      shown = λ list is.
          let count = proof_count (length list) c.args.start max in
          let are = c.in-Ok.ensures.operations list is.at ∙ ap (λ a. take (proof_count (length list) a max) (drop a list)) c.new-from.ensures in
          let parts = c.in-Ok.ensures.chunks list is.at ∙ ap (λ a. range_proofs.chunks_of height list a (a + proof_count (length list) a max)) c.new-from.ensures in
          let made = c.in-Ok.ensures.proof list is.at ∙ ap (λ a. range_proofs.range_proof sha256 g.F.Family.shape height form list a (a + proof_count (length list) a max)) c.new-from.ensures in
          let root = c.root-root.ensures ∙ ap (λ (d : Database _ _). d.canonical.root) left.rest ∙ is.at.canonical.root in
          let root_bytes = digest_bytes c.root-root.result in
          let told =
          c.verify_range_proof-is_accepted.ensures
          ∙ ap (λ ops. range_proofs.range_verdict sha256 g.F.Family.shape height (map (λ e. spelling form (view e)) ops) c.new-at.result (chunk_views c.deref-in-Ok.result.now) proof root_bytes) c.deref.ensures.value
          ∙ ap (λ at. range_proofs.range_verdict sha256 g.F.Family.shape height (map (λ e. spelling form (view e)) operations) at (chunk_views c.deref-in-Ok.result.now) proof root_bytes) c.new-at.ensures
          ∙ ap (λ cs. range_proofs.range_verdict sha256 g.F.Family.shape height (map (λ e. spelling form (view e)) operations) c.args.start (chunk_views cs) proof root_bytes) c.deref-in-Ok.ensures.value in
          let counted = count-shown sha256 g.F.Family.shape height form list view operations c.args.start max are in
          let as_many : length chunks ≡ length c.in-Ok.chunks.items = length-map c.in-Ok.chunks.items _ in
          let number : c.len-in-Ok.result ≡ length chunks = omega (arith, c.len-in-Ok.ensures, as_many) in (
            omega (arith, c.len.ensures, counted),
            ap {B = ℕ × Bool} (λ n. (n, c.verify_range_proof-is_accepted.result)) number
                ∙ range-shown sha256 g.F.Family.shape height form list view operations c.args.start count chunks proof root_bytes c.verify_range_proof-is_accepted.result are parts made root told,
          );
      refused = tt;
      reads = record {
        same = λ list is. left-offered g.C.Store layout old new left list is;
        numbered = λ n is. left-numbered g.C.Store layout old new left n is;
        store = left-store g.C.Store layout old new left;
        faults = record { later = left.any.read.keeps.later; failed = λ fault. absurd (cc fault) };
      };
      never = tt;
    }

pub returns-in-Err : goal.returns-in-Err
returns-in-Err g c =
    let layout = sha256_layout g.F.Family.shape 32 g.U.Update.form g.I.Unordered.index_key in
    let left = c.range_proof.ensures.left in
    let old = c.args.self.now in
    let new = c.range_proof.new.self in
    record {
      offered = tt;
      shown = tt;
      refused = λ list is. counted-at g.C.Store layout old list is (λ n. IsDue c.in-Err.error (range_refusal (grafting 32) n (g.C.Store.start old.any.log.store) list c.args.start))
          (subst (λ n. IsDue c.in-Err.error (from_refusal g.C.Store 32 old.any list n)) c.new-from.ensures (c.in-Err.ensures.refused list is.at));
      reads = record {
        same = λ list is. left-offered g.C.Store layout old new left list is;
        numbered = λ n is. left-numbered g.C.Store layout old new left n is;
        store = left-store g.C.Store layout old new left;
        faults = record { later = left.any.read.keeps.later; failed = λ fault. c.in-Err.ensures.caused.cause (cc fault) };
      };
      never = c.in-Err.ensures.caused.fresh;
    }
