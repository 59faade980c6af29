use Rattle.std.proofs.Common.{◌≡◌, ◌∙◌, true, false, None, sym, subst}
use Rattle.qm_model.specs.Trees.{peak_positions}
use Rattle.qm_model.proofs.Chains.{readable-known}
use Rattle.qm_any.specs.Databases.{AreAgreed, IsMade, Made}
use Rattle.qm_chain.specs.Bounds.{knows}
use Rattle.qm_proofs.specs.Proofs.{first_lacked, needed_positions}
use Rattle.qm_store.specs.KeptTrees.{held_at}
use Rattle.qm_store.specs.Log.{IsLacked}
use Rattle.qm_any.specs.Layouts.{list_root}
use Rattle.qm_any.proofs.Offered.{knows-readable, unknown}
use Rattle.qm_any.proofs.OfferedProofs.{proof-offered, proof-due, peaks-due}
use Rattle.qm_any.proofs.offer.proofs.DbSha256Proving.proof.Goals as goal
use Rattle.qm_any.specs.Offered.{digest_bytes, sha256_hashing}
use Rattle.sha2.specs.Sha256.{sha256}

pub returns-in-Ok-pinned_nodes-clause-readable : goal.returns-in-Ok-pinned_nodes-clause-readable
returns-in-Ok-pinned_nodes-clause-readable g c = λ list chain tip is batch. sym (knows-readable (sha256_hashing g.F.Family.shape g.U.Update.form) list chain tip c.args.self.now.commitment c.args.batch.now.value.bounds is.commitment batch.bounds) ∙ subst (λ (b : Made _). knows b.bounds c.args.self.now.commitment ≡ true) c.deref-2.ensures c.in-Ok.ensures.readable

pub returns-in-Ok-pinned_nodes-clause-proof : goal.returns-in-Ok-pinned_nodes-clause-proof
returns-in-Ok-pinned_nodes-clause-proof g c = λ list chain tip is batch known.
    let form = g.U.Update.form in
    let db = c.args.self.now in
    let made = c.args.batch.now.value in
    let knowing = subst (λ (b : Made _). knows b.bounds db.commitment ≡ true) c.deref-2.ensures c.in-Ok.ensures.readable in
    let held = subst (λ (b : Made _). first_lacked (held_at g.F.Family.shape b.tree db.log.tree) (needed_positions g.F.Family.shape b.bounds.tip.size b.bounds.base.size b.bounds.tip.size) ≡ None) c.deref-2.ensures c.in-Ok.ensures.held in
    let pins = subst (λ (b : Made _). first_lacked (held_at g.F.Family.shape b.tree db.log.tree) (peak_positions g.F.Family.shape b.bounds.base.size) ≡ None) c.deref-in-Ok.ensures c.in-Ok-pinned_nodes.ensures.held in (
      proof-offered digest_bytes sha256 g.F.Family.shape g.F.Family.births g.met.F.Family.numbered g.met.F.Family.peaked g.C.Store form g.N.Chunks.LEN g.I.Unordered.index_key db list is made chain tip batch (subst AreAgreed c.deref.ensures c.bounds.ensures.agreed) knowing held pins,
      c.in-Ok.ensures.proof list chain tip is (subst (λ b. IsMade (sha256_hashing g.F.Family.shape g.U.Update.form) b chain tip) (sym c.deref-2.ensures) batch) known,
      c.in-Ok-pinned_nodes.ensures.pins list chain tip is (subst (λ b. IsMade (sha256_hashing g.F.Family.shape g.U.Update.form) b chain tip) (sym c.deref-in-Ok.ensures) batch) known,
    )

pub returns-in-Err-clause-failure : goal.returns-in-Err-clause-failure
returns-in-Err-clause-failure g c = λ list chain tip is batch.
    let form = g.U.Update.form in
    let db = c.args.self.now in
    let made = c.args.batch.now.value in
    let can = knows-readable (sha256_hashing g.F.Family.shape g.U.Update.form) list chain tip db.commitment made.bounds is.commitment batch.bounds in
    let told = λ (P : Made _ → Type 0). subst P c.deref-2.ensures in
    record {
      stale = λ stale. unknown (list_root (sha256_hashing g.F.Family.shape g.U.Update.form)) list chain tip (sym can ∙ told (λ b. knows b.bounds db.commitment ≡ false) ((c.in-Err.ensures.lacking).stale stale));
      refused = λ fresh known.
          proof-due digest_bytes sha256 g.F.Family.shape g.F.Family.births g.met.F.Family.numbered g.met.F.Family.peaked g.C.Store form g.N.Chunks.LEN g.I.Unordered.index_key db list is made chain tip batch (subst AreAgreed c.deref.ensures c.bounds.ensures.agreed) (can ∙ readable-known (list_root (sha256_hashing g.F.Family.shape g.U.Update.form)) list chain tip known) c.in-Err.error
          (told (λ b. IsLacked (held_at g.F.Family.shape b.tree db.log.tree) (needed_positions g.F.Family.shape b.bounds.tip.size b.bounds.base.size b.bounds.tip.size) c.in-Err.error) ((c.in-Err.ensures.lacking).lacked fresh));
      order = λ fresh other. sym can ∙ told (λ b. knows b.bounds db.commitment ≡ true) ((c.in-Err.ensures.lacking).order other fresh);
    }

pub returns-in-Err-pinned_nodes-clause-failure : goal.returns-in-Err-pinned_nodes-clause-failure
returns-in-Err-pinned_nodes-clause-failure g c = λ list chain tip is batch.
    let form = g.U.Update.form in
    let db = c.args.self.now in
    let made = c.args.batch.now.value in
    let can = knows-readable (sha256_hashing g.F.Family.shape g.U.Update.form) list chain tip db.commitment made.bounds is.commitment batch.bounds in
    let told = λ (P : Made _ → Type 0). subst P c.deref-in-Ok.ensures in
    let held = subst (λ (b : Made _). first_lacked (held_at g.F.Family.shape b.tree db.log.tree) (needed_positions g.F.Family.shape b.bounds.tip.size b.bounds.base.size b.bounds.tip.size) ≡ None) c.deref-2.ensures c.in-Ok.ensures.held in
    record {
      stale = λ stale. unknown (list_root (sha256_hashing g.F.Family.shape g.U.Update.form)) list chain tip (sym can ∙ told (λ b. knows b.bounds db.commitment ≡ false) ((c.in-Err-pinned_nodes.ensures.lacking).stale stale));
      refused = λ fresh known.
          peaks-due digest_bytes sha256 g.F.Family.shape g.F.Family.births g.met.F.Family.numbered g.met.F.Family.peaked g.C.Store form g.N.Chunks.LEN g.I.Unordered.index_key db list is made chain tip batch (subst AreAgreed c.deref.ensures c.bounds.ensures.agreed) (can ∙ readable-known (list_root (sha256_hashing g.F.Family.shape g.U.Update.form)) list chain tip known) c.in-Err-pinned_nodes.error held
          (told (λ b. IsLacked (held_at g.F.Family.shape b.tree db.log.tree) (peak_positions g.F.Family.shape b.bounds.base.size) c.in-Err-pinned_nodes.error) ((c.in-Err-pinned_nodes.ensures.lacking).lacked fresh));
      order = λ fresh other. sym can ∙ told (λ b. knows b.bounds db.commitment ≡ true) ((c.in-Err-pinned_nodes.ensures.lacking).order other fresh);
    }
