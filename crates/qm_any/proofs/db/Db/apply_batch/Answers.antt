use Rattle.std.proofs.Common.{arith, List, ◌++◌, ◌≡◌, ◌∙◌, ◌≤◌, true, false, [], ap, refl, sym, subst, inr, map}
use Rattle.std.specs.Prelude.{Contains, if◌then◌else◌}
use Rattle.qm_model.proofs.Results.{err-then, ok-four, ok-then}
use Rattle.qm_merkle.specs.Batches.{stops}
use Rattle.qm_chain.specs.Bounds.{is_at}
use Rattle.qm_step.specs.Views.{changes_view}
use Rattle.qm_any.specs.Layouts.{hashing_of, layout_of}
use Rattle.qm_model.specs.StoreModel.{except_items}
use Rattle.qm_open.proofs.Checking.{on-ok}
use Rattle.qm_store.proofs.Told.{appended-beside, part-beside, unchanged-appended-part}
use Rattle.qm_model.specs.Batches.{Chain}
use Rattle.qm_model.specs.Operations.{Operation}
use Rattle.qm_any.specs.Databases.{IsMade}
use Rattle.qm_any.specs.Applying.{can_apply, lacked, store_in, Appends}
use Rattle.qm_any.proofs.Applying.{after-both, err-four, never-stale, stale-told, stale-or, stale-causes, stale-cause}
use Rattle.qm_store.specs.Given.{Appended, AppendedPart, store_given}
use Rattle.qm_any.proofs.Crashing.{applied-safe, unmoved-safe}
use Rattle.qm_any.proofs.Unapplied.{applied, lacked-spelled, ok-five}
use Rattle.qm_any.proofs.db.Db.apply_batch.Goals as goal

pub moved-requires-clause-reach : goal.moved-requires-clause-reach
moved-requires-clause-reach g c =
    let tree = c.args.batch.now.tree in
    subst (Contains (stops tree.leaves tree.layers)) (ap (λ db. db.commitment.size) c.self.view_is) c.in-Ok.ensures.reached

pub returns-in-Ok : goal.returns-in-Ok
returns-in-Ok g c =
    let hashing = hashing_of g.H.Digest.Digest.bytes g.H.Hasher g.F.Family g.U.Update in
    let appends : (chain : Chain) (tip : List Operation) → IsMade hashing c.args.batch.now chain tip → Appends g.C.Store c.args.self c.args.batch.now g.U.Update.form tip c.moved.result = λ chain tip made.
    let n = c.self.inside.commitment.size in
    let items = map (λ v. v.items) c.in-Ok.lacking.items.items in
    let behind = lacked-spelled g.C.Store (layout_of g.N.Chunks.LEN g.H.Digest.Digest.bytes g.H.Hasher g.F.Family g.U.Update g.I.Unordered) c.args.batch.now chain tip n c.args.self.commitment.size items made
    (ap (λ db. db.commitment.size) c.self.view_is) c.in-Ok.ensures.among c.in-Ok.ensures.items in
    let bounds = c.args.batch.now.bounds in
    let fits : can_apply c.args.self c.args.batch.now ≡ true = subst (λ k. is_at k bounds.db bounds.ancestors ≡ true) (ap (λ db. db.commitment) c.self.view_is) c.in-Ok.ensures.fits in
    let more = lacked g.U.Update.form c.args.self tip in
    record {
      grown = ok-then c.moved.result c.moved.ensures.grown (λ next grown. subst (Appended g.C.Store c.args.self.log.store next.log.store) behind grown);
      part = err-then c.moved.result c.moved.ensures.part (λ r part.
          let after = store_given store_in r.given in
          subst (λ b. AppendedPart g.C.Store c.args.self.log.store after (if b then more else [])) (sym fits)
          (subst (AppendedPart g.C.Store c.args.self.log.store after) behind part));
    } in
    record {
      stands = λ list chain tip is made on.
          let n = c.self.inside.commitment.size in
          let items = map (λ v. v.items) c.in-Ok.lacking.items.items in
          let changes = map (λ d. changes_view g.U.Key.ByteString.bytes g.U.Value.ByteString.bytes d.value) c.in-Ok.lacking.diffs.now in
          ok-five c.moved.result c.moved.ensures.log c.moved.ensures.index c.moved.ensures.active c.moved.ensures.rest c.moved.ensures.grown (λ next log index active rest grown.
          applied g.C.Store (layout_of g.N.Chunks.LEN g.H.Digest.Digest.bytes g.H.Hasher g.F.Family g.U.Update g.I.Unordered) c.args.self next c.args.batch.now list chain tip n items changes is made on
          (ap (λ db. db.commitment.size) c.self.view_is) c.in-Ok.ensures.items c.in-Ok.ensures.diffs log index active
          (rest.0, rest.1, rest.2, rest.3 ∙ c.in-Ok.ensures.metadata) grown);
      moved = ok-four c.moved.result c.moved.ensures.rest c.moved.ensures.pruned c.moved.ensures.rest c.moved.ensures.pruned (λ next rest pruned _ _. (rest.0, pruned));
      called = ok-then c.moved.result c.moved.ensures.grown (λ next grown. grown.called);
      fits =
          let bounds = c.args.batch.now.bounds in
          on-ok c.moved.result (subst (λ k. is_at k bounds.db bounds.ancestors ≡ true) (ap (λ db. db.commitment) c.self.view_is) c.in-Ok.ensures.fits);
      appends = appends;
      rest =
          let start = g.C.Store.start in
          let told = g.C.Store.told in
          let faults = g.C.Store.faults in
          let old = c.args.self.log.store in
          let items = map (λ v. v.items) c.in-Ok.lacking.items.items in
          record {
            start = after-both store_in c.moved.result (λ s. start s ≡ start old) (ok-then c.moved.result c.moved.ensures.grown (λ next grown. grown.start)) (err-then c.moved.result c.moved.ensures.part (λ r part. part.start));
            others = after-both store_in c.moved.result (λ s. except_items (told s) ≡ except_items (told old))
                (ok-then c.moved.result c.moved.ensures.grown (λ next grown. appended-beside g.C.Store old next.log.store items grown))
                (err-then c.moved.result c.moved.ensures.part (λ r part. part-beside g.C.Store old (store_given store_in r.given) items part));
            later = after-both store_in c.moved.result (λ s. faults old ≤ faults s) c.moved.ensures.later (err-then c.moved.result c.moved.ensures.cause (λ r cause. cause.later));
          };
      unapplied = err-four c.moved.result c.moved.ensures.causes c.moved.ensures.back c.moved.ensures.cause c.moved.ensures.called (λ r causes back cause called. record {
        stale = λ stale. never-stale r.error causes stale;
        first = λ stale.
            let bounds = c.args.batch.now.bounds in
            let fits : can_apply c.args.self c.args.batch.now ≡ true = subst (λ k. is_at k bounds.db bounds.ancestors ≡ true) (ap (λ db. db.commitment) c.self.view_is) c.in-Ok.ensures.fits in
            absurd (cc (stale, fits));
        back = λ x given.
            let was = back x given in
            (was.0, inr was.1);
        causes = inr causes;
        called = called;
        cause = cause;
      });
      crashes = λ rules log chain more is made kept.
          applied-safe g.C.Store hashing g.H.Digest.Digest.SIZE rules log more c.args.self c.args.batch.now c.moved.result
          (ap (λ k. k.size) is.commitment) kept (appends chain (log.list ++ more) made);
    }

pub returns-in-Err : goal.returns-in-Err
returns-in-Err g c =
    let error = c.in-Err.error in
    let why = c.in-Err.ensures.stale in
    let bounds = c.args.batch.now.bounds in
    let old = c.args.self.log.store in
    record {
      stands = λ list chain tip is made on. tt;
      moved = tt;
      called = tt;
      fits = tt;
      appends = λ chain tip made. record { grown = tt; part = unchanged-appended-part g.C.Store old old _ (record { start = refl; told = refl }) };
      rest = record { start = refl; others = refl; later = omega arith };
      unapplied = record {
        stale = λ stale. (
          refl,
          subst (λ k. is_at k bounds.db bounds.ancestors ≡ false) (ap (λ db. db.commitment) c.self.view_is) (stale-told error why stale),
        );
        first = λ stale. stale-or error why;
        back = λ x given. (cc given, stale-or error why);
        causes = stale-causes error why;
        called = λ s given. absurd (cc given);
        cause = stale-cause error why (g.C.Store.faults old);
      };
      crashes = λ rules log chain more is made kept.
          unmoved-safe g.C.Store (hashing_of g.H.Digest.Digest.bytes g.H.Hasher g.F.Family g.U.Update) g.H.Digest.Digest.SIZE rules log (record log { list = log.list ++ more }) old;
    }
