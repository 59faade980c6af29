use Rattle.std.proofs.Common.{◌≡◌, ◌≤◌, ◌+◌, take, drop, map, ap, subst, IfSome, IfOk, None}
use Rattle.std.specs.Prelude.{IfErr, OnOk}
use Rattle.std.specs.NonZero.{non_zero_u64_get}
use Rattle.qm_model.proofs.Results.{told-here}
use Rattle.qm_model.specs.Forms.{spelling}
use Rattle.qm_model.specs.Proofs.{ops_proof}
use Rattle.qm_model.specs.Refusals.{proof_count, proof_refusal}
use Rattle.qm_operations.specs.Views.{operation_views}
use Rattle.qm_proofs.specs.Proofs.{proof_view}
use Rattle.qm_store.specs.Log.{IsLog}
use Rattle.qm_store.specs.Reads.{IsRead}
use Rattle.qm_store.specs.Refusals.{IsDue}
use Rattle.qm_build.specs.Reasons.{proof_reasons}
use Rattle.qm_any.specs.Databases.{Database}
use Rattle.qm_any.specs.Reasons.{IsProofError}
use Rattle.qm_any.proofs.Reasons.{proof-error}
use Rattle.qm_any.proofs.Telling.{three}
use Rattle.qm_any.proofs.db.Db.historical_proof.Goals as goal

pub returns : goal.returns
returns g c =
    let hash = g.H.Hasher.hash in
    let shape = g.F.Family.shape in
    let bytes = g.H.Digest.Digest.bytes in
    let form = g.U.Update.form in
    let members = g.C.Store in
    let max = non_zero_u64_get c.args.max in
    let shown = c.proved_over.result in
    let proved = c.proved_over.ensures in
    let new = c.proved_over.new.log in
    let here = ap (λ b. b.log) c.self.view_is in
    record {
      offered = λ list is.
          told-here _ (members.told c.args.self.now.log.store) is.told
          (three (λ n a log. IsLog members shape bytes hash log (map (spelling form) list) → IfSome (members.told log.store) (λ _. OnOk shown (proof_refusal (members.start log.store) list n a ≡ None)))
          c.get.ensures c.get-2.ensures here (λ logged. proved.offered list logged is.lent.of) is.lent.logged);
      kept = three (λ n a log. OnOk shown (members.start log.store ≤ a)) c.get.ensures c.get-2.ensures here proved.kept;
      proof = λ list is.
          told-here _ (members.told c.args.self.now.log.store) is.told
          (three (λ n a log. IsLog members shape bytes hash log (map (spelling form) list) → IfSome (members.told log.store)
          (λ _. IfOk shown (λ s. proof_view bytes s.0 ≡ ops_proof hash shape form (take n list) a (a + proof_count n a max))))
          c.get.ensures c.get-2.ensures here (λ logged. proved.proof list logged is.lent.of) is.lent.logged);
      operations = λ list is.
          told-here _ (members.told c.args.self.now.log.store) is.told
          (three (λ n a log. IsLog members shape bytes hash log (map (spelling form) list) → IfSome (members.told log.store)
          (λ _. IfOk shown (λ s. operation_views g.U.Update.view g.U.Key.ByteString.bytes g.U.Value.ByteString.bytes s.1.items ≡ take (proof_count n a max) (drop a list))))
          c.get.ensures c.get-2.ensures here (λ logged. proved.operations list logged is.lent.of) is.lent.logged);
      refused = λ list is.
          told-here _ (members.told c.args.self.now.log.store) is.told
          (three (λ n a log. IsLog members shape bytes hash log (map (spelling form) list) → IfSome (members.told log.store) (λ _. IfErr shown (λ e. IsDue e (proof_refusal (members.start log.store) list n a))))
          c.get.ensures c.get-2.ensures here (λ logged. proved.refused list logged is.lent.of) is.lent.logged);
      unproved = three (λ n a log. IfErr shown (IsProofError members (proof_reasons n a) log new)) c.get.ensures c.get-2.ensures here (proof-error members _ c.self.inside.log new shown proved.causes proved.never proved.cause);
      left = record {
        rest = ap {A = Database g.row.C.Denot g.row.H-Digest.Denot} (λ db. record db { log = new }) c.self.view_is;
        read = subst (λ log. IsRead members shape bytes hash log new) here proved.read;
      };
    }
