use Rattle.std.proofs.Common.{ℕ, true, false, None, ◌≡◌, ◌∙◌, ◌∷◌, Contains, arith, map, ap, sym, subst, IfOk}
use Rattle.std.proofs.lemmas.Result.{IfOk-from_err, err_from_is_err_and}
use Rattle.qm_model.proofs.Results.{err-then}
use Rattle.std.specs.Prelude.{IfErr, OnOk}
use Rattle.qm_model.specs.Trees.{peak_positions}
use Rattle.qm_proofs.specs.Proofs.{first_lacked}
use Rattle.qm_merkle.specs.Batches.{stops}
use Rattle.qm_store.specs.KeptTrees.{KeptTree, held_at}
use Rattle.qm_store.specs.Log.{IsLacked, IsLog, Log}
use Rattle.qm_model.specs.Proofs.{pins_at}
use Rattle.qm_chain.specs.Bounds.{commitment_view, knows}
use Rattle.qm_any.specs.Layouts.{hashing_of, list_root, spellings}
use Rattle.qm_any.specs.Databases.{IsTree, bases_of}
use Rattle.qm_any.proofs.Known.{contains-mapped, known-base}
use Rattle.qm_any.proofs.Telling.{three}
use Rattle.qm_any.proofs.Trees.{known-read, pins-kept}
use Rattle.qm_any.proofs.Reasons.{on-ok, lacked-node, stale-node}
use Rattle.qm_any.proofs.batch.MerkleizedBatch.pinned_nodes.Goals as goal

pub returns-in_err-known : goal.returns-in_err-known
returns-in_err-known g c =
    let exit = err_from_is_err_and c.from_residual.result c.from_residual.ensures.1 in
    let stale = c.in_err-known.ensures.stale.0 in
    let off = subst (λ k. knows c.args.self.now.bounds k ≡ false) c.commitment.ensures.value c.in_err-known.ensures.stale.1 in
    record {
      pins = λ list chain tip is made known. IfOk-from_err c.from_residual.result _ c.from_residual.ensures.0;
      readable = IfOk-from_err c.from_residual.result _ c.from_residual.ensures.0;
      held = IfOk-from_err c.from_residual.result _ c.from_residual.ensures.0;
      lacking = rw (exit.1, exit.2) (stale-node _ _ _ (knows c.args.self.now.bounds c.args.db.now.commitment) off stale);
      whole = λ first list chain tip is made known.
          known-read (list_root (hashing_of g.D.Digest.bytes g.H.Hasher g.F.Family g.U.Update)) c.args.self.now.bounds chain tip list (commitment_view g.D.Digest.bytes c.commitment.result.now) made.bounds (c.commitment.ensures.value ∙ is.commitment) known c.in_err-known.ensures.stale.1;
    }

pub pins-requires-clause-reach : goal.pins-requires-clause-reach
pins-requires-clause-reach g c =
    three (λ (t : KeptTree g.row.D.Denot) (n m : ℕ). Contains (stops t.leaves t.layers) n) (sym (ap (λ b. b.tree) c.self.view_is))
    (ap (λ k. k.size) c.commitment.ensures.value ∙ sym (ap (λ db. db.commitment.size) c.db.view_is) ∙ c.db.invariant.0) (sym c.db.invariant.0) c.in_ok-known.ensures.reached

pub returns : goal.returns
returns g c =
    let hash = g.H.Hasher.hash in
    let shape = g.F.Family.shape in
    let bytes = g.D.Digest.bytes in
    let by = hashing_of bytes g.H.Hasher g.F.Family g.U.Update in
    let sp = spellings by in
    let tree = ap (λ b. b.tree) c.self.view_is in
    let log = ap (λ db. db.log) c.db.view_is in
    let on = subst (λ k. knows c.args.self.now.bounds k ≡ true) c.commitment.ensures.value c.in_ok-known.ensures.readable in
    let cause = c.pins.ensures.cause in
    record {
      pins = λ list chain tip is made known.
          let kept = subst (λ t. IsTree by t tip (bases_of chain)) (sym tree) made.tree in
          let logged = subst (λ l. IsLog g.C.Store shape bytes hash l (sp list)) (sym log) is.lent.logged in
          subst (λ ds. IfOk c.pins.result (λ pins. map bytes pins.items ≡ ds)) (pins-kept by tip c.start.result ∙ ap (pins_at hash shape g.U.Update.form tip) (c.start.ensures.value ∙ ap (λ k. k.size) made.bounds.base))
          (c.pins.ensures.value (sp list) (sp tip) (map sp (bases_of chain)) logged kept (contains-mapped sp (tip ∷ bases_of chain) list (known-base list chain tip made.linked known)));
      readable = on-ok c.pins.result on;
      held = three (λ (n : ℕ) (t : KeptTree g.row.D.Denot) (l : Log g.row.C.Denot g.row.D.Denot). OnOk c.pins.result (first_lacked (held_at shape t l.tree) (peak_positions shape n) ≡ None)) c.start.ensures.value tree log c.pins.ensures.held;
      lacking = err-then c.pins.result
          (three (λ (n : ℕ) (t : KeptTree g.row.D.Denot) (l : Log g.row.C.Denot g.row.D.Denot). IfErr c.pins.result (IsLacked (held_at shape t l.tree) (peak_positions shape n))) c.start.ensures.value tree log cause)
          (λ e lacked. lacked-node _ _ e (knows c.args.self.now.bounds c.args.db.now.commitment) on lacked);
      whole = λ first list chain tip is made known.
          let kept = subst (λ t. IsTree by t tip (bases_of chain)) (sym tree) made.tree in
          let logged = subst (λ l. IsLog g.C.Store shape bytes hash l (sp list)) (sym log) is.lent.logged in
          let start : c.db.inside.log.tree.start ≡ 0 = sym c.bounds.ensures.first ∙ ap (λ l. g.C.Store.start l.store) log ∙ first in
          c.pins.ensures.whole (omega (arith, start)) (sp list) (sp tip) (map sp (bases_of chain)) logged kept (contains-mapped sp (tip ∷ bases_of chain) list (known-base list chain tip made.linked known));
    }
