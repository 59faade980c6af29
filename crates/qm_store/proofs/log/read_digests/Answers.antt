use Rattle.std.proofs.Common.{◌≡◌, ◌∙◌, ◌-◌, length, take, map, ap, arith, refl, inl, subst, Err, IfSome}
use Rattle.std.specs.Prelude.{slice_get}
use Rattle.std.proofs.Math.Nat.{le_refl}
use Rattle.std.proofs.lemmas.Result.{IfOk-from_err, err_from_is_err_and}
use Rattle.qm_model.specs.Trees.{leaf, leaf_digest}
use Rattle.qm_store.specs.Log.{digests_from}
use Rattle.qm_store.proofs.Leaves.{read-next}
use Rattle.qm_store.proofs.Stores.{both, kept-then, read-kept, handed-on, no-fault}
use Rattle.qm_store.proofs.Exits.{over, no-error, later-cause, store-error}
use Rattle.qm_store.proofs.log.read_digests.Goals as goal

pub loop-at-preserved : goal.loop-at-preserved
loop-at-preserved g c =
    let members = g.C.Store in
    let bytes = g.H.Digest.Digest.bytes in
    let hash = g.H.Hasher.hash in
    let shape = g.F.Family.shape in
    let kept = c.loop-at.invariant.kept in
    let item = read-kept members c.args.store.now c.loop-at.store c.loop-at.at c.in_ok-item.item.items kept (g.met.C.Store.told_start c.loop-at.store) c.in_ok-item.ensures.item in
    record {
      kept = kept-then members c.args.store.now c.loop-at.store c.read.new.self kept
          (record { start = c.read.ensures.same_start; end = c.read.ensures.same_end; told = c.read.ensures.same });
      later = omega (arith, c.loop-at.invariant.later, c.read.ensures.cause.later);
      count = omega (arith, c.push_reserved.ensures.len, c.loop-at.invariant.count, c.loop-at.auto.at);
      room = c.push_reserved.ensures.capacity ∙ c.loop-at.invariant.room;
      digests = both (members.told c.args.store.now) c.loop-at.invariant.digests item
          (λ held so_far is.
          ap (λ ds. map bytes ds) c.push_reserved.ensures.items
          ∙ read-next hash shape bytes c.args.start c.loop-at.at c.loop-at.made.items c.leaf_digest.result held.items c.in_ok-item.item.items (omega (arith, c.loop-at.auto.at)) so_far
          (ap (λ k. slice_get held.items (c.loop-at.at - k)) c.requires.start ∙ is) (c.leaf_digest.ensures ∙ ap (leaf_digest hash (shape.position (leaf c.loop-at.at))) c.deref.ensures.value));
    }

pub returns-in_err-made : goal.returns-in_err-made
returns-in_err-made g c =
    let result = c.from_residual.result in
    let failed = c.from_residual.ensures.0 in
    let exit = err_from_is_err_and result c.from_residual.ensures.1 in
    record {
      count = IfOk-from_err result _ failed;
      digests = IfOk-from_err result _ failed;
      never = rw (exit.1, exit.2) (inl refl);
      kept = record { start = refl; end = refl; told = refl };
      cause = no-fault _ _ result exit.0 exit.1 exit.2 (le_refl _);
    }

pub returns-in_err-item : goal.returns-in_err-item
returns-in_err-item g c =
    let members = g.C.Store in
    let read = c.read in
    let e = c.in_err-item.field-0.0 in
    let result = c.from_residual-in_err-item.result in
    let failed = c.from_residual-in_err-item.ensures.0 in
    let exit = err_from_is_err_and result c.from_residual-in_err-item.ensures.1 in
    record {
      count = IfOk-from_err result _ failed;
      digests = IfOk-from_err result _ failed;
      never = rw (exit.1, exit.2) (store-error e);
      kept = kept-then members c.args.store.now c.loop-at.store read.new.self c.loop-at.invariant.kept (record { start = read.ensures.same_start; end = read.ensures.same_end; told = read.ensures.same });
      cause = later-cause _ _ _ c.loop-at.invariant.later (handed-on _ _ read.result e result c.in_err-item.was (exit.1 ∙ ap Err exit.2) read.ensures.cause);
    }

pub returns : goal.returns
returns g c =
    let over = over c.args.start c.args.size c.loop-at.at c.loop-at.auto.at-end c.requires.order c.loop-at-test.false in
    record {
      never = tt;
      kept = c.loop-at.invariant.kept;
      cause = no-error _ _ _ _ c.loop-at.invariant.later;
      count = subst (λ k. length c.loop-at.made.items ≡ k - c.args.start) over c.loop-at.invariant.count;
      digests = subst (λ k. IfSome (g.C.Store.told c.args.store.now) (λ held. map g.H.Digest.Digest.bytes c.loop-at.made.items ≡ digests_from g.H.Hasher.hash g.F.Family.shape c.args.start (take (k - c.args.start) held.items))) over c.loop-at.invariant.digests;
    }
