use Rattle.std.proofs.Common.{◌≡◌, ◌∙◌, ◌-◌, ◌^◌, ◌≤◌, ◌++◌, length, map, take, ap, sym, subst, arith, refl, inl, IfSome}
use Rattle.std.proofs.Math.Nat.{le_trans}
use Rattle.std.proofs.lemmas.Result.{IfOk-from_err, err_from_is_err_and}
use Rattle.qm_merkle.specs.Mems.{Stands}
use Rattle.qm_store.specs.Log.{digests_from}
use Rattle.qm_store.proofs.Leaves.{digests_from-split}
use Rattle.qm_store.proofs.Stores.{any-told, both, kept-then, no-fault}
use Rattle.qm_store.proofs.Exits.{handed-error, no-error, undamaged, either, later-cause}
use Rattle.qm_store.proofs.log.load.Goals as goal

pub returns : goal.returns
returns g c = record {
  stands = λ list long.
      let members = g.C.Store in
      let shape = g.F.Family.shape in
      let bytes = g.H.Digest.Digest.bytes in
      let hash = g.H.Hasher.hash in
      let n = members.start c.args.store.now in
      let before = digests_from hash shape 0 (take n list) in
      let kept = c.pruned.ensures.kept in
      let start = c.bounds-start.ensures.starts ∙ kept.start in
      let within : n ≤ length list = omega (arith, long, c.requires.start) in
      let read = subst (λ o. IfSome o (λ held. map bytes c.in_ok-digests.digests.items ≡ digests_from hash shape c.bounds-start.result.0 (take (c.args.size - c.bounds-start.result.0) held.items))) kept.told c.in_ok-digests.ensures.digests in
      both (members.told c.args.store.now) read (c.in_ok-tree.ensures.stands hash g.met.H.Hasher.sized list within)
      (λ held digests tree same told.
      subst (Stands shape bytes hash c.add_leaves.new.tree)
      (ap (λ ds. before ++ map bytes ds) c.deref.ensures.value
      ∙ ap (λ l. before ++ l) (digests ∙ ap (λ i. digests_from hash shape i (take (c.args.size - i) held.items)) start ∙ ap (digests_from hash shape n) same)
      ∙ digests_from-split hash shape n list within)
      (c.in_ok-add_leaves.ensures.stands before (tree told)));
  start = c.in_ok-add_leaves.ensures.start ∙ c.in_ok-tree.ensures.start;
  size =
      omega (arith, c.in_ok-add_leaves.ensures.leaves, c.in_ok-tree.ensures.leaves, ap length c.deref.ensures.value, c.in_ok-digests.ensures.count, c.bounds-start.ensures.starts, c.pruned.ensures.kept.start, c.requires.start);
  long = c.in_ok-tree.ensures.long;
  head = tt;
  never = tt;
  kept = kept-then g.C.Store c.args.store.now c.pruned.new.store c.read_digests.new.store c.pruned.ensures.kept c.read_digests.ensures.kept;
  cause = no-error _ _ _ _ (le_trans c.pruned.ensures.cause.later c.read_digests.ensures.cause.later);
}

pub returns-in_err-tree : goal.returns-in_err-tree
returns-in_err-tree g c =
    let members = g.C.Store in
    let result = c.from_residual.result in
    let failed = c.from_residual.ensures.0 in
    let exit = err_from_is_err_and result c.from_residual.ensures.1 in
    record {
      stands = λ list long. any-told (members.told c.args.store.now) (λ held is head. IfOk-from_err result _ failed);
      start = IfOk-from_err result _ failed;
      size = IfOk-from_err result _ failed;
      long = IfOk-from_err result _ failed;
      head = rw (exit.1, exit.2) c.in_err-tree.ensures.head;
      never = rw (exit.1, exit.2) c.in_err-tree.ensures.never;
      kept = c.pruned.ensures.kept;
      cause = handed-error _ _ c.pruned.result c.in_err-tree.field-0.0 result _ c.in_err-tree.was exit c.pruned.ensures.cause;
    }

pub returns-in_err-digests : goal.returns-in_err-digests
returns-in_err-digests g c =
    let members = g.C.Store in
    let result = c.from_residual-in_err-digests.result in
    let failed = c.from_residual-in_err-digests.ensures.0 in
    let exit = err_from_is_err_and result c.from_residual-in_err-digests.ensures.1 in
    record {
      stands = λ list long. any-told (members.told c.args.store.now) (λ held is head. IfOk-from_err result _ failed);
      start = IfOk-from_err result _ failed;
      size = IfOk-from_err result _ failed;
      long = IfOk-from_err result _ failed;
      head = rw (exit.1, exit.2) (λ is. absurd (undamaged c.in_err-digests.field-0.0 _ c.in_err-digests.ensures.never is));
      never = rw (exit.1, exit.2) (either c.in_err-digests.field-0.0 c.in_err-digests.ensures.never);
      kept = kept-then members c.args.store.now c.pruned.new.store c.read_digests.new.store c.pruned.ensures.kept c.read_digests.ensures.kept;
      cause = later-cause _ _ _ c.pruned.ensures.cause.later (handed-error _ _ c.read_digests.result c.in_err-digests.field-0.0 result _ c.in_err-digests.was exit c.read_digests.ensures.cause);
    }

pub returns-in_err-add_leaves : goal.returns-in_err-add_leaves
returns-in_err-add_leaves g c =
    let members = g.C.Store in
    let result = c.from_residual-in_err-add_leaves.result in
    let failed = c.from_residual-in_err-add_leaves.ensures.0 in
    let exit = err_from_is_err_and result c.from_residual-in_err-add_leaves.ensures.1 in
    record {
      stands = λ list long. any-told (members.told c.args.store.now) (λ held is head. IfOk-from_err result _ failed);
      start = IfOk-from_err result _ failed;
      size = IfOk-from_err result _ failed;
      long = IfOk-from_err result _ failed;
      head = rw (exit.1, exit.2) (λ is. absurd cc);
      never = rw (exit.1, exit.2) (inl refl);
      kept = kept-then members c.args.store.now c.pruned.new.store c.read_digests.new.store c.pruned.ensures.kept c.read_digests.ensures.kept;
      cause = no-fault _ _ result exit.0 exit.1 exit.2 (le_trans c.pruned.ensures.cause.later c.read_digests.ensures.cause.later);
    }

pub read_digests-requires : goal.read_digests-requires
read_digests-requires g c =
    let kept = c.pruned.ensures.kept in
    let within = subst (λ n. c.args.size ≤ n) (sym kept.end) c.requires.end in
    record {
      start = c.bounds-start.ensures.starts;
      order = subst (λ n. n ≤ c.args.size) (sym (c.bounds-start.ensures.starts ∙ kept.start)) c.requires.start;
      end = within;
      few = le_trans within (subst (λ n. n ≤ 2 ^ 62) c.bounds-start.ensures.ends c.bounds-start.ensures.limit);
    }
