use Rattle.std.proofs.Common.{ℕ, arith, true, false, None, ◌≡◌, ◌∙◌, ◌∷◌, Contains, length, map, ap, ap₂, sym, subst, IfOk}
use Rattle.std.proofs.lemmas.List.{length-map}
use Rattle.std.specs.Prelude.{IfErr, OnOk}
use Rattle.std.proofs.lemmas.Result.{IfOk-from_err, err_from_is_err_and}
use Rattle.qm_model.proofs.Results.{err-then}
use Rattle.qm_merkle.specs.Batches.{stops}
use Rattle.qm_model.specs.Forms.{spelling}
use Rattle.qm_model.specs.Trees.{inactive_peaks}
use Rattle.qm_store.specs.KeptTrees.{KeptTree, held_at}
use Rattle.qm_store.specs.Log.{IsLacked, IsLog, Log}
use Rattle.qm_model.specs.Proofs.{ops_proof}
use Rattle.qm_proofs.specs.Proofs.{proof_view, first_lacked, needed_positions}
use Rattle.qm_chain.specs.Bounds.{commitment_view, knows}
use Rattle.qm_any.specs.Layouts.{hashing_of, list_root, spellings}
use Rattle.qm_any.specs.Databases.{AreAgreed, IsTree, bases_of}
use Rattle.qm_any.proofs.Known.{contains-mapped, known-base}
use Rattle.qm_any.proofs.Telling.{three}
use Rattle.qm_any.proofs.Trees.{known-read, proof-kept}
use Rattle.qm_any.proofs.Reasons.{on-ok, lacked-node, stale-node}
use Rattle.qm_any.proofs.batch.MerkleizedBatch.proof.Goals as goal

pub returns-in_err-known : goal.returns-in_err-known
returns-in_err-known g c =
    let exit = err_from_is_err_and c.from_residual.result c.from_residual.ensures.1 in
    let stale = c.in_err-known.ensures.stale.0 in
    let off = subst (λ k. knows c.args.self.now.bounds k ≡ false) c.commitment.ensures.value c.in_err-known.ensures.stale.1 in
    record {
      proof = λ list chain tip is made known. IfOk-from_err c.from_residual.result _ c.from_residual.ensures.0;
      readable = IfOk-from_err c.from_residual.result _ c.from_residual.ensures.0;
      held = IfOk-from_err c.from_residual.result _ c.from_residual.ensures.0;
      lacking = rw (exit.1, exit.2) (stale-node _ _ _ (knows c.args.self.now.bounds c.args.db.now.commitment) off stale);
      whole = λ first list chain tip is made known.
          known-read (list_root (hashing_of g.D.Digest.bytes g.H.Hasher g.F.Family g.U.Update)) c.args.self.now.bounds chain tip list (commitment_view g.D.Digest.bytes c.commitment.result.now) made.bounds (c.commitment.ensures.value ∙ is.commitment) known c.in_err-known.ensures.stale.1;
    }

pub proof-requires-clause-reach : goal.proof-requires-clause-reach
proof-requires-clause-reach g c =
    three (λ (t : KeptTree g.row.D.Denot) (n m : ℕ). Contains (stops t.leaves t.layers) n) (sym (ap (λ b. b.tree) c.self.view_is))
    (ap (λ k. k.size) c.commitment.ensures.value ∙ sym (ap (λ db. db.commitment.size) c.db.view_is) ∙ c.db.invariant.0) (sym c.db.invariant.0) c.in_ok-known.ensures.reached

pub inactive_peaks-inactive-requires : goal.inactive_peaks-inactive-requires
inactive_peaks-inactive-requires g c =
    let agreed = subst AreAgreed c.self.view_is c.self.invariant.0 in
    omega (arith, c.new.ensures, c.leaves-end.ensures, agreed.few, agreed.leaves, ap (λ b. b.tree.leaves) c.self.view_is)

pub returns : goal.returns
returns g c =
    let hash = g.H.Hasher.hash in
    let shape = g.F.Family.shape in
    let bytes = g.D.Digest.bytes in
    let by = hashing_of bytes g.H.Hasher g.F.Family g.U.Update in
    let sp = spellings by in
    let tree = ap (λ b. b.tree) c.self.view_is in
    let log = ap (λ db. db.log) c.db.view_is in
    let on = subst (λ k. knows c.args.self.now.bounds k ≡ true) c.commitment.ensures.value c.in_ok-known.ensures.readable in
    let agreed = subst AreAgreed c.self.view_is c.self.invariant.0 in
    let end = c.leaves-end.ensures ∙ ap (λ t. t.leaves) tree ∙ agreed.leaves in
    let cause = c.proof.ensures.cause in
    record {
      proof = λ list chain tip is made known.
          let kept = subst (λ t. IsTree by t tip (bases_of chain)) (sym tree) made.tree in
          let logged = subst (λ l. IsLog g.C.Store shape bytes hash l (sp list)) (sym log) is.lent.logged in
          let size : c.leaves-end.result ≡ length tip = c.leaves-end.ensures ∙ kept.leaves ∙ length-map tip (spelling g.U.Update.form) in
          let inactive = c.inactive_peaks-inactive.ensures ∙ ap₂ (inactive_peaks shape) c.new.ensures c.new-2.ensures in
          subst (λ shown. IfOk c.proof.result (λ p. proof_view bytes p ≡ shown))
          (proof-kept by tip c.inactive_peaks-inactive.result c.start-start.result c.leaves-end.result c.floor.result size (c.floor.ensures ∙ made.lowest) inactive
          ∙ ap (λ a. ops_proof hash shape g.U.Update.form tip a (length tip)) (c.start-start.ensures.value ∙ ap (λ k. k.size) made.bounds.base))
          (c.proof.ensures.value (sp list) (sp tip) (map sp (bases_of chain)) logged kept (contains-mapped sp (tip ∷ bases_of chain) list (known-base list chain tip made.linked known)));
      readable = on-ok c.proof.result on;
      held =
          three (λ (a b d : ℕ). OnOk c.proof.result (first_lacked (held_at shape c.args.self.now.tree c.args.db.now.log.tree) (needed_positions shape a c.args.self.now.bounds.base.size b) ≡ None)) agreed.leaves end end
          (three (λ (n : ℕ) (t : KeptTree g.row.D.Denot) (l : Log g.row.C.Denot g.row.D.Denot). OnOk c.proof.result (first_lacked (held_at shape t l.tree) (needed_positions shape t.leaves n c.leaves-end.result) ≡ None)) c.start-start.ensures.value tree log c.proof.ensures.held);
      lacking = err-then c.proof.result
          (three (λ (a b d : ℕ). IfErr c.proof.result (IsLacked (held_at shape c.args.self.now.tree c.args.db.now.log.tree) (needed_positions shape a c.args.self.now.bounds.base.size b))) agreed.leaves end end
          (three (λ (n : ℕ) (t : KeptTree g.row.D.Denot) (l : Log g.row.C.Denot g.row.D.Denot). IfErr c.proof.result (IsLacked (held_at shape t l.tree) (needed_positions shape t.leaves n c.leaves-end.result))) c.start-start.ensures.value tree log cause))
          (λ e lacked. lacked-node _ _ e (knows c.args.self.now.bounds c.args.db.now.commitment) on lacked);
      whole = λ first list chain tip is made known.
          let kept = subst (λ t. IsTree by t tip (bases_of chain)) (sym tree) made.tree in
          let logged = subst (λ l. IsLog g.C.Store shape bytes hash l (sp list)) (sym log) is.lent.logged in
          let start : c.db.inside.log.tree.start ≡ 0 = sym c.bounds.ensures.first ∙ ap (λ l. g.C.Store.start l.store) log ∙ first in
          c.proof.ensures.whole (omega (arith, start)) (sp list) (sp tip) (map sp (bases_of chain)) logged kept (contains-mapped sp (tip ∷ bases_of chain) list (known-base list chain tip made.linked known));
    }
