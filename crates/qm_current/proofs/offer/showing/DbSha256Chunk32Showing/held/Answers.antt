use Rattle.std.proofs.Common.{◌∙◌, ℕ, Bool, Option, Some, ap, sym}
use Rattle.qm_graft.specs.Grafting.{grafting}
use Rattle.qm_keyproofs.specs.Views.{operation_view}
use Rattle.qm_any.specs.Offered.{digest_bytes, sha256_layout}
use Rattle.sha2.specs.Sha256.{sha256}
use Rattle.qm_current.specs.Databases.{Database}
use Rattle.qm_current.proofs.Checking.{held-shown}
use Rattle.qm_current.proofs.Offering.{left-offered}
use Rattle.qm_current.proofs.ReadingOffered.{left-numbered, left-store}
use Rattle.qm_current.proofs.offer.showing.DbSha256Chunk32Showing.held.Goals as goal

pub returns-in-Ok : goal.returns-in-Ok
returns-in-Ok g c =
    let form = g.U.Update.form in
    let layout = sha256_layout g.F.Family.shape 32 form g.I.Unordered.index_key in
    let left = c.update_proof.ensures.left in
    let old = c.args.self.now in
    let new = c.update_proof.new.self in
    record {
      shown = λ list is.
          held-shown sha256 g.F.Family.shape (grafting 32) form list (g.U.Key.ByteString.bytes c.args.key.now) c.in-Ok.proof.loc (g.U.Update.view c.in-Ok.update) (operation_view digest_bytes c.in-Ok.proof) (digest_bytes c.root-root.result) c.verify-is_accepted.result
          (c.in-Ok.ensures.update list is.at) (c.in-Ok.ensures.proof list is.at) (c.root-root.ensures ∙ ap (λ (d : Database _ _). d.canonical.root) left.rest ∙ is.at.canonical.root) c.verify-is_accepted.ensures.answer
          ∙ ap {B = Option (ℕ × Bool)} (λ n. Some (n, c.verify-is_accepted.result)) (sym c.get.ensures);
      refused = tt;
      reads = record {
        same = λ list is. left-offered g.C.Store layout old new left list is;
        numbered = λ n is. left-numbered g.C.Store layout old new left n is;
        store = left-store g.C.Store layout old new left;
        faults = record { later = left.any.read.keeps.later; failed = λ fault. absurd (cc fault) };
      };
      never = tt;
    }

pub returns-in-Err : goal.returns-in-Err
returns-in-Err g c =
    let layout = sha256_layout g.F.Family.shape 32 g.U.Update.form g.I.Unordered.index_key in
    let left = c.update_proof.ensures.left in
    let old = c.args.self.now in
    let new = c.update_proof.new.self in
    record {
      shown = tt;
      refused = λ list is. c.in-Err.ensures.refused list is.at;
      reads = record {
        same = λ list is. left-offered g.C.Store layout old new left list is;
        numbered = λ n is. left-numbered g.C.Store layout old new left n is;
        store = left-store g.C.Store layout old new left;
        faults = record { later = left.any.read.keeps.later; failed = λ fault. c.in-Err.ensures.caused.cause (cc fault) };
      };
      never = c.in-Err.ensures.caused.fresh;
    }
