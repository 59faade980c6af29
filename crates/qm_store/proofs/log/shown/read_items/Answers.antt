use Rattle.std.proofs.Common.{◌≡◌, ◌∙◌, ◌-◌, length, take, drop, map, ap, arith, refl, inl, subst, Err, IfSome}
use Rattle.std.proofs.Math.Nat.{le_refl}
use Rattle.std.proofs.lemmas.Result.{IfOk-from_err, err_from_is_err_and}
use Rattle.qm_store.proofs.Shown.{item-next}
use Rattle.qm_store.proofs.Stores.{both, kept-then, read-kept, handed-on, no-fault}
use Rattle.qm_store.proofs.Exits.{over, no-error, later-cause, store-error}
use Rattle.qm_store.proofs.log.shown.read_items.Goals as goal

pub loop-at-preserved : goal.loop-at-preserved
loop-at-preserved g c =
    let members = g.C.Store in
    let from = members.start c.args.store.now in
    let kept = c.loop-at.invariant.kept in
    let item = read-kept members c.args.store.now c.loop-at.store c.loop-at.at c.in_ok-read.field-0.items kept (g.met.C.Store.told_start c.loop-at.store) c.in_ok-read.ensures.item in
    record {
      kept = kept-then members c.args.store.now c.loop-at.store c.read.new.self kept
          (record { start = c.read.ensures.same_start; end = c.read.ensures.same_end; told = c.read.ensures.same });
      later = omega (arith, c.loop-at.invariant.later, c.read.ensures.cause.later);
      count = omega (arith, c.push_reserved.ensures.len, c.loop-at.invariant.count, c.loop-at.auto.at);
      room = c.push_reserved.ensures.capacity ∙ c.loop-at.invariant.room;
      items = both (members.told c.args.store.now) c.loop-at.invariant.items item
          (λ held so_far is.
          ap (map (λ v. v.items)) c.push_reserved.ensures.items
          ∙ item-next (λ v. v.items) from c.args.start c.loop-at.at c.loop-at.items.items c.in_ok-read.field-0 held.items c.requires.start (omega (arith, c.loop-at.auto.at)) so_far
          is);
    }

pub returns-in_err-items : goal.returns-in_err-items
returns-in_err-items g c =
    let result = c.from_residual.result in
    let failed = c.from_residual.ensures.0 in
    let exit = err_from_is_err_and result c.from_residual.ensures.1 in
    record {
      count = IfOk-from_err result _ failed;
      items = IfOk-from_err result _ failed;
      never = rw (exit.1, exit.2) (inl refl);
      kept = record { start = refl; end = refl; told = refl };
      cause = no-fault _ _ result exit.0 exit.1 exit.2 (le_refl _);
    }

pub returns-in_err-read : goal.returns-in_err-read
returns-in_err-read g c =
    let members = g.C.Store in
    let read = c.read in
    let e = c.in_err-read.field-0.0 in
    let result = c.from_residual-in_err-read.result in
    let failed = c.from_residual-in_err-read.ensures.0 in
    let exit = err_from_is_err_and result c.from_residual-in_err-read.ensures.1 in
    record {
      count = IfOk-from_err result _ failed;
      items = IfOk-from_err result _ failed;
      never = rw (exit.1, exit.2) (store-error e);
      kept = kept-then members c.args.store.now c.loop-at.store read.new.self c.loop-at.invariant.kept (record { start = read.ensures.same_start; end = read.ensures.same_end; told = read.ensures.same });
      cause = later-cause _ _ _ c.loop-at.invariant.later (handed-on _ _ read.result e result c.in_err-read.was (exit.1 ∙ ap Err exit.2) read.ensures.cause);
    }

pub returns : goal.returns
returns g c =
    let members = g.C.Store in
    let over = over c.args.start c.args.end c.loop-at.at c.loop-at.auto.at-end c.requires.order c.loop-at-test.false in
    record {
      never = tt;
      kept = c.loop-at.invariant.kept;
      cause = no-error _ _ _ _ c.loop-at.invariant.later;
      count = subst (λ k. length c.loop-at.items.items ≡ k - c.args.start) over c.loop-at.invariant.count;
      items = subst (λ k. IfSome (members.told c.args.store.now) (λ held. map (λ v. v.items) c.loop-at.items.items ≡ take (k - c.args.start) (drop (c.args.start - members.start c.args.store.now) held.items))) over c.loop-at.invariant.items;
    }
