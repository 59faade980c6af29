use Rattle.std.proofs.Common.{◌≡◌, ◌∙◌, ◌-◌, ◌≤◌, ◌<◌, length, ap, sym, subst, refl, inr, arith, IfSome, Some, Err}
use Rattle.std.proofs.Math.Nat.{le_refl}
use Rattle.std.proofs.lemmas.Result.{IfOk-from_err, err_from_is_err_and}
use Rattle.std.specs.Prelude.{slice_get, IsErrOf}
use Rattle.qm_model.specs.Causes.{IsCause}
use Rattle.qm_base.specs.declared.error.Error.TheVariants as errors
use Rattle.qm_base.specs.declared.error.JournalError.TheVariants as journal
use Rattle.qm_store.specs.Log.{IsLog, IsKept}
use Rattle.qm_store.proofs.Stores.{both, read-kept, of-store, handed-on}
use Rattle.qm_store.proofs.Exits.{unlike, no-error, never-pruned, log-kept}
use Rattle.qm_store.proofs.Shown.{item_read}
use Rattle.qm_store.proofs.log.AuthLog.read.Goals as goal

pub returns : goal.returns
returns g c = record {
  item = λ list is.
      let members = g.C.Store in
      let at = c.args.at in
      let item = c.in_ok-read.field-0.items in
      let store = c.self.inside.store in
      let start = c.self.inside.tree.start in
      let was = subst (λ l. IsLog members g.F.Family.shape g.H.Digest.Digest.bytes g.H.Hasher.hash l list) (sym c.self.view_is) is in
      let from : start ≤ at = omega (arith, c.bounds-start.ensures.start, c.get.ensures, c.if-at-get.false) in
      let within : at < length list = omega (arith, c.requires, is.size) in
      subst (λ l. IfSome (members.told l.store) (λ _. slice_get list at ≡ Some item)) c.self.view_is
      (both (members.told store) was.items (read-kept members store store at item (record { start = refl; end = refl; told = refl }) (g.met.C.Store.told_start store) c.in_ok-read.ensures.item)
      (λ held has given. item_read held.items list start at item from within has (ap (λ n. slice_get held.items (at - n)) was.start ∙ given)));
  held = subst (λ l. IfSome (g.C.Store.told l.store) (λ s. slice_get s.items (c.args.at - s.start) ≡ Some c.in_ok-read.field-0.items)) c.self.view_is c.in_ok-read.ensures.item;
  stands = λ list is. log-kept g.C.Store g.F.Family.shape g.H.Digest.Digest.bytes g.H.Hasher.hash _ c.args.self.now c.read.new.self list c.self.view_is (record { start = c.read.ensures.same_start; end = c.read.ensures.same_end; told = c.read.ensures.same }) is;
  pruned = (λ same. absurd cc, λ low. absurd (unlike c.args.at c.args.at c.get.result refl c.if-at-get.false (subst (λ n. c.args.at < n) (sym (c.get.ensures ∙ c.bounds-start.ensures.start ∙ ap (λ l. l.tree.start) c.self.view_is)) low)));
  tree = ap (λ l. l.tree) c.self.view_is;
  kept = subst (λ l. IsKept g.C.Store l.store c.read.new.self) c.self.view_is (record { start = c.read.ensures.same_start; end = c.read.ensures.same_end; told = c.read.ensures.same });
  cause = no-error _ _ _ _ (subst (λ l. g.C.Store.faults l.store ≤ g.C.Store.faults c.read.new.self) c.self.view_is c.read.ensures.cause.later);
  never = tt;
}

pub returns-then-at-get : goal.returns-then-at-get
returns-then-at-get g c = record {
  item = λ list is. tt;
  held = tt;
  stands = λ list is. is;
  pruned = (λ same. subst (λ n. c.args.at < n) (c.get.ensures ∙ c.bounds-start.ensures.start ∙ ap (λ l. l.tree.start) c.self.view_is) c.if-at-get.true, λ low. refl);
  never = inr (inr refl);
  tree = refl;
  kept = record { start = refl; end = refl; told = refl };
  cause = record { later = le_refl _; failed = λ fault. absurd cc };
}

pub returns-in_err-read : goal.returns-in_err-read
returns-in_err-read g c =
    let members = g.C.Store in
    let read = c.read in
    let e = c.in_err-read.field-0.0 in
    let result = c.from_residual.result in
    let failed = c.from_residual.ensures.0 in
    let exit = err_from_is_err_and result c.from_residual.ensures.1 in
    let kept : IsKept members c.self.inside.store read.new.self = record { start = c.read.ensures.same_start; end = c.read.ensures.same_end; told = c.read.ensures.same } in
    record {
      item = λ list is. IfOk-from_err result _ failed;
      held = IfOk-from_err result _ failed;
      stands = λ list is. log-kept members g.F.Family.shape g.H.Digest.Digest.bytes g.H.Hasher.hash _ c.args.self.now read.new.self list c.self.view_is kept is;
      pruned = (λ same. absurd (never-pruned e c.args.at exit.1 exit.2 same), λ low. absurd (unlike c.args.at c.args.at c.get.result refl c.if-at-get.false (subst (λ n. c.args.at < n) (sym (c.get.ensures ∙ c.bounds-start.ensures.start ∙ ap (λ l. l.tree.start) c.self.view_is)) low)));
      never = rw (exit.1, exit.2) (of-store e);
      tree = ap (λ l. l.tree) c.self.view_is;
      kept = subst (λ l. IsKept members l.store read.new.self) c.self.view_is kept;
      cause = subst (λ l. IsCause (members.faults l.store) (members.faults read.new.self) (IsErrOf result (errors.Journal journal.Store))) c.self.view_is
          (handed-on _ _ read.result e result c.in_err-read.was (exit.1 ∙ ap Err exit.2) read.ensures.cause);
    }
