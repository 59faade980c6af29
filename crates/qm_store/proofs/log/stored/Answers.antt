use Rattle.std.proofs.Common.{◌≡◌, ◌∙◌, ◌≤◌, length, map, ap, sym, subst, arith, Result, Ok, Err, IfErr}
use Rattle.std.specs.Prelude.{IsErrOf}
use Rattle.std.proofs.lemmas.List.{length-map}
use Rattle.std.proofs.lemmas.Result.{IfOk-weaker}
use Rattle.qm_model.specs.Causes.{IsCause, Rose}
use Rattle.qm_store.specs.declared.StoreError.TheVariants as stores
use Rattle.qm_store.specs.Log.{Log, HasGrown, HasGrownPart, IsRefused}
use Rattle.qm_store.proofs.Stores.{after-ok, err-both, ok-both, refused-after}
use Rattle.qm_store.proofs.log.stored.Goals as goal

-- what an error says of each value
of-each : {X E L : Type 0} (made : Result X E) (Q : L → Type 0) (P : L → E → Type 0) → ((l : L) → Q l → IfErr made (P l)) → IfErr made (λ e. (l : L) → Q l → P l e)
of-each (Ok x) Q P each = tt
of-each (Err e) Q P each = each

pub returns : goal.returns
returns g c = record {
  tree = IfOk-weaker c.log_after.result _ _ (λ log is. is.2) c.log_after.ensures.ok;
  grown =
      let members = g.C.Store in
      let more = map (λ v. v.items) c.args.items.now in
      after-ok c.append-done.result c.log_after.result c.append-done.new.self c.args.tree (λ log. HasGrown members c.args.store log.store more) c.log_after.ensures.ok
      (ok-both c.append-done.result c.append-done.ensures.ok_end c.append-done.ensures.ok
      (λ last told. record { start = c.append-done.ensures.same_start; end = omega (arith, last, length-map c.args.items.now (λ v. v.items)); told = told; called = c.append-done.ensures.counted }));
  later =
      let members = g.C.Store in
      after-ok c.append-done.result c.log_after.result c.append-done.new.self c.args.tree (λ log. members.faults c.args.store ≤ members.faults log.store) c.log_after.ensures.ok
      (ok-both c.append-done.result c.append-done.ensures.ok_end c.append-done.ensures.ok_end (λ last _. c.append-done.ensures.cause.later));
  refused =
      let members = g.C.Store in
      let new = c.append-done.new.self in
      let more = map (λ v. v.items) c.args.items.now in
      of-each c.log_after.result (λ (log : Log g.row.C.Denot g.row.H-Digest.Denot). log.store ≡ c.args.store) (λ log r. IsRefused members (λ old now. HasGrownPart members old now more) log r.given r.error) (λ log same.
      refused-after members (λ old now. HasGrownPart members old now more) log new c.append-done.result c.log_after.result c.log_after.ensures.err
      (err-both c.append-done.result c.append-done.ensures.err c.append-done.ensures.still (λ told still. subst (λ s. HasGrownPart members s new more) (sym same)
      (record { start = c.append-done.ensures.same_start; from = c.append-done.ensures.grows; within = omega (arith, c.append-done.ensures.within, length-map c.args.items.now (λ v. v.items)); told = told; still = λ none. still (sym (length-map c.args.items.now (λ v. v.items)) ∙ ap length none) })))
      (subst (λ s. IsCause (members.faults s) (members.faults new) (IsErrOf c.append-done.result stores.Failed)) (sym same) c.append-done.ensures.cause)
      (subst (λ s. Rose (members.calls s) (members.calls new)) (sym same) c.append-done.ensures.counted));
}
