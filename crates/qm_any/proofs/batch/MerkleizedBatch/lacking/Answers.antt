use Rattle.std.proofs.Common.{◌≡◌, ◌∙◌, ◌∷◌, ◌+◌, List, length, map, take, ap, sym, subst, refl, inl, inr}
use Rattle.std.specs.Prelude.{Contains}
use Rattle.std.proofs.lemmas.List.{length-map}
use Rattle.std.proofs.lemmas.Result.{IfOk-from_err, err_from_is_err_and}
use Rattle.qm_model.specs.Forms.{spelling}
use Rattle.qm_step.specs.Layers.{Layer}
use Rattle.qm_step.specs.Views.{changes_view}
use Rattle.qm_index.proofs.Members.{Contains-later}
use Rattle.qm_any.specs.Databases.{AreAgreed, bases, unapplied, operations_in}
use Rattle.qm_any.proofs.Unapplied.{joined-counts, diffs-first}
use Rattle.qm_any.proofs.batch.MerkleizedBatch.lacking.Goals as goal

pub returns : goal.returns
returns g c =
    record {
      items =
          let n = c.args.current.now.size in
          let layers : List Layer = c.args.self.now.layers in
          let lacked : map (λ l. l.value) c.unapplied_of-steps.result.now ≡ unapplied n layers =
          c.unapplied_of-steps.ensures.value ∙ ap (λ ls. unapplied n (map (λ l. l.value) ls)) c.deref.ensures.value ∙ ap (λ b. unapplied n b.layers) c.self.view_is in
          c.in_ok-items.ensures ∙ ap (λ ls. map (spelling g.U.Update.form) (operations_in ls)) lacked;
      diffs =
          let n = c.args.current.now.size in
          let layers : List Layer = c.args.self.now.layers in
          let steps = c.unapplied_of-steps.result.now in
          let lacked : map (λ l. l.value) steps ≡ unapplied n layers =
          c.unapplied_of-steps.ensures.value ∙ ap (λ ls. unapplied n (map (λ l. l.value) ls)) c.deref.ensures.value ∙ ap (λ b. unapplied n b.layers) c.self.view_is in
          ap (map (λ d. changes_view g.U.Key.ByteString.bytes g.U.Value.ByteString.bytes d.value)) (c.split_at.ensures.front ∙ ap (take (length steps)) c.deref-2.ensures.value)
          ∙ diffs-first (λ d. changes_view g.U.Key.ByteString.bytes g.U.Value.ByteString.bytes d.value) (λ l. l.value) (λ (l : Layer). l.changes) c.self.inside.diffs.items c.self.inside.steps.items steps (length steps) c.self.invariant.1 (c.unapplied_of-steps.ensures.first ∙ ap (take (length steps)) c.deref.ensures.value)
          ∙ ap (map (λ (l : Layer). l.changes)) lacked;
      metadata = c.in_ok-metadata.ensures ∙ ap (λ b. b.metadata) c.self.view_is;
      count =
          let n = c.args.current.now.size in
          let batch = c.args.self.now in
          let size = batch.bounds.tip.size in
          let layers : List Layer = batch.layers in
          let agreed : AreAgreed batch = subst AreAgreed c.self.view_is c.self.invariant.0 in
          let among : Contains (size ∷ bases layers) n = Contains-later size (bases layers) n c.in_ok-fits.ensures.among in
          let lacked : map (λ l. l.value) c.unapplied_of-steps.result.now ≡ unapplied n layers =
          c.unapplied_of-steps.ensures.value ∙ ap (λ ls. unapplied n (map (λ l. l.value) ls)) c.deref.ensures.value ∙ ap (λ b. unapplied n b.layers) c.self.view_is in
          let count : length c.in_ok-items.items.items ≡ length (operations_in (unapplied n layers)) =
          sym (length-map c.in_ok-items.items.items (λ v. v.items)) ∙ ap length c.in_ok-items.ensures ∙ length-map (operations_in (map (λ l. l.value) c.unapplied_of-steps.result.now)) (spelling g.U.Update.form) ∙ ap (λ ls. length (operations_in ls)) lacked in
          ap (λ k. n + k) count ∙ joined-counts size n layers agreed.joined among;
      among = c.in_ok-fits.ensures.among;
      reached = c.in_ok-fits.ensures.reached;
      fits = c.in_ok-fits.ensures.fits;
      stale = tt;
    }

pub returns-in_err-fits : goal.returns-in_err-fits
returns-in_err-fits g c =
    let exit = err_from_is_err_and c.from_residual.result c.from_residual.ensures.1 in
    record {
      items = IfOk-from_err c.from_residual.result _ c.from_residual.ensures.0;
      diffs = IfOk-from_err c.from_residual.result _ c.from_residual.ensures.0;
      metadata = IfOk-from_err c.from_residual.result _ c.from_residual.ensures.0;
      count = IfOk-from_err c.from_residual.result _ c.from_residual.ensures.0;
      among = IfOk-from_err c.from_residual.result _ c.from_residual.ensures.0;
      reached = IfOk-from_err c.from_residual.result _ c.from_residual.ensures.0;
      fits = IfOk-from_err c.from_residual.result _ c.from_residual.ensures.0;
      stale =
          rw (exit.1, exit.2) (inr c.in_err-fits.ensures.stale);
    }

pub returns-in_err-items : goal.returns-in_err-items
returns-in_err-items g c =
    let exit = err_from_is_err_and c.from_residual-in_err-items.result c.from_residual-in_err-items.ensures.1 in
    record {
      items = IfOk-from_err c.from_residual-in_err-items.result _ c.from_residual-in_err-items.ensures.0;
      diffs = IfOk-from_err c.from_residual-in_err-items.result _ c.from_residual-in_err-items.ensures.0;
      metadata = IfOk-from_err c.from_residual-in_err-items.result _ c.from_residual-in_err-items.ensures.0;
      count = IfOk-from_err c.from_residual-in_err-items.result _ c.from_residual-in_err-items.ensures.0;
      among = IfOk-from_err c.from_residual-in_err-items.result _ c.from_residual-in_err-items.ensures.0;
      reached = IfOk-from_err c.from_residual-in_err-items.result _ c.from_residual-in_err-items.ensures.0;
      fits = IfOk-from_err c.from_residual-in_err-items.result _ c.from_residual-in_err-items.ensures.0;
      stale =
          rw (exit.1, exit.2) (inl refl);
    }

pub returns-in_err-metadata : goal.returns-in_err-metadata
returns-in_err-metadata g c =
    let exit = err_from_is_err_and c.from_residual-in_err-metadata.result c.from_residual-in_err-metadata.ensures.1 in
    record {
      items = IfOk-from_err c.from_residual-in_err-metadata.result _ c.from_residual-in_err-metadata.ensures.0;
      diffs = IfOk-from_err c.from_residual-in_err-metadata.result _ c.from_residual-in_err-metadata.ensures.0;
      metadata = IfOk-from_err c.from_residual-in_err-metadata.result _ c.from_residual-in_err-metadata.ensures.0;
      count = IfOk-from_err c.from_residual-in_err-metadata.result _ c.from_residual-in_err-metadata.ensures.0;
      among = IfOk-from_err c.from_residual-in_err-metadata.result _ c.from_residual-in_err-metadata.ensures.0;
      reached = IfOk-from_err c.from_residual-in_err-metadata.result _ c.from_residual-in_err-metadata.ensures.0;
      fits = IfOk-from_err c.from_residual-in_err-metadata.result _ c.from_residual-in_err-metadata.ensures.0;
      stale =
          rw (exit.1, exit.2) (inl refl);
    }
