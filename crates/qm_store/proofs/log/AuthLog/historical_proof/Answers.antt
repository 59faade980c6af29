use Rattle.std.proofs.Common.{◌≡◌, ◌∙◌, ◌+◌, ◌-◌, ◌<◌, ◌≤◌, ℕ, inl, length, take, drop, map, arith, refl, ap, ap₂, sym, subst, IfSome}
use Rattle.std.specs.Prelude.{min}
use Rattle.std.specs.Int.NonZero.{non_zero_u64_get}
use Rattle.std.proofs.lemmas.Result.{IfOk-from_err, err_from_is_err_and}
use Rattle.std.proofs.Math.Nat.{le_refl}
use Rattle.std.specs.Prelude.{IsErrOf}
use Rattle.qm_base.specs.declared.error.Error.TheVariants as errors
use Rattle.qm_base.specs.declared.error.JournalError.TheVariants as journal
use Rattle.qm_model.specs.Causes.{IsCause}
use Rattle.qm_model.specs.Proofs.{proof_of}
use Rattle.qm_merkle.specs.Mems.{Stands}
use Rattle.qm_store.specs.Log.{IsKept, digests_from}
use Rattle.qm_store.proofs.Leaves.{digests_from-take}
use Rattle.qm_store.proofs.Stores.{both, no-fault}
use Rattle.qm_store.proofs.Exits.{unlike, beyond, range-error, pruned-error, handed-error, no-error, log-kept}
use Rattle.qm_store.proofs.Shown.{part_read}
use Rattle.qm_store.proofs.log.AuthLog.historical_proof.Given
use Rattle.qm_store.proofs.log.AuthLog.historical_proof.Goals as goal

-- how many items are shown
shown : (g : Given.Over) (c : goal.In_ok-items g) → c.min.result ≡ min (non_zero_u64_get c.args.max) (c.args.size - c.args.start)
shown g c = c.min.ensures ∙ ap (λ k. min k (c.args.size - c.args.start)) c.get.ensures.value

pub returns-then-leaves-size : goal.returns-then-leaves-size
returns-then-leaves-size g c = record {
  proof = λ list is. tt;
  items = λ list is. tt;
  count = tt;
  size = λ past. refl;
  start = λ within past. absurd (beyond c.args.self.now.tree.leaves c.bounds-first.result.1 c.args.size c.bounds-first.ensures.size c.if-leaves-size.true within);
  pruned = λ within before low. absurd (beyond c.args.self.now.tree.leaves c.bounds-first.result.1 c.args.size c.bounds-first.ensures.size c.if-leaves-size.true within);
  never = λ within before from. absurd (beyond c.args.self.now.tree.leaves c.bounds-first.result.1 c.args.size c.bounds-first.ensures.size c.if-leaves-size.true within);
  stands = λ list is. is;
  tree = refl;
  kept = record { start = refl; end = refl; told = refl };
  cause = range-error _ _;
}

pub returns-then-size-start : goal.returns-then-size-start
returns-then-size-start g c = record {
  proof = λ list is. tt;
  items = λ list is. tt;
  count = tt;
  size = λ past. absurd (unlike c.args.self.now.tree.leaves c.bounds-first.result.1 c.args.size c.bounds-first.ensures.size c.if-leaves-size.false past);
  start = λ within past. refl;
  pruned = λ within before low. absurd (unlike c.args.start c.args.start c.args.size refl c.if-size-start.true before);
  never = λ within before from. absurd (unlike c.args.start c.args.start c.args.size refl c.if-size-start.true before);
  stands = λ list is. is;
  tree = refl;
  kept = record { start = refl; end = refl; told = refl };
  cause = range-error _ _;
}

pub returns-then-start-first : goal.returns-then-start-first
returns-then-start-first g c = record {
  proof = λ list is. tt;
  items = λ list is. tt;
  count = tt;
  size = λ past. absurd (unlike c.args.self.now.tree.leaves c.bounds-first.result.1 c.args.size c.bounds-first.ensures.size c.if-leaves-size.false past);
  start = λ within past. absurd (unlike c.args.start c.args.start c.args.size refl past c.if-size-start.false);
  pruned = λ within before low. refl;
  never = λ within before from. absurd (unlike c.args.start c.args.start c.bounds-first.result.0 refl (subst (λ n. n ≤ c.args.start) (sym c.bounds-first.ensures.start) from) c.if-start-first.true);
  stands = λ list is. is;
  tree = refl;
  kept = record { start = refl; end = refl; told = refl };
  cause = pruned-error _ _;
}

pub returns-in_err-proof : goal.returns-in_err-proof
returns-in_err-proof g c =
    let result = c.from_residual.result in
    let failed = c.from_residual.ensures.0 in
    let exit = err_from_is_err_and result c.from_residual.ensures.1 in
    let memory = c.in_err-proof.ensures.whole (subst (λ n. n ≤ c.args.start) (c.bounds-first.ensures.start ∙ sym (ap (λ l. l.tree.start) c.self.view_is)) c.if-start-first.false) in
    record {
      proof = λ list is. IfOk-from_err result _ failed;
      items = λ list is. IfOk-from_err result _ failed;
      count = IfOk-from_err result _ failed;
      size = λ past. absurd (unlike c.args.self.now.tree.leaves c.bounds-first.result.1 c.args.size c.bounds-first.ensures.size c.if-leaves-size.false past);
      start = λ within past. absurd (unlike c.args.start c.args.start c.args.size refl past c.if-size-start.false);
      pruned = λ within before low. absurd (unlike c.args.start c.args.start c.bounds-first.result.0 refl c.if-start-first.false (subst (λ n. c.args.start < n) (sym c.bounds-first.ensures.start) low));
      never = λ within before from. rw (exit.1, exit.2) (inl memory);
      stands = λ list is. is;
      tree = refl;
      kept = record { start = refl; end = refl; told = refl };
      cause = no-fault _ _ result exit.0 exit.1 (exit.2 ∙ memory) (le_refl _);
    }

pub returns-in_err-items : goal.returns-in_err-items
returns-in_err-items g c =
    let members = g.C.Store in
    let read = c.read_items in
    let result = c.from_residual-in_err-items.result in
    let failed = c.from_residual-in_err-items.ensures.0 in
    let exit = err_from_is_err_and result c.from_residual-in_err-items.ensures.1 in
    let cause = handed-error _ _ read.result c.in_err-items.field-0.0 result _ c.in_err-items.was exit read.ensures.cause in
    record {
      proof = λ list is. IfOk-from_err result _ failed;
      items = λ list is. IfOk-from_err result _ failed;
      count = IfOk-from_err result _ failed;
      size = λ past. absurd (unlike c.args.self.now.tree.leaves c.bounds-first.result.1 c.args.size c.bounds-first.ensures.size c.if-leaves-size.false past);
      start = λ within past. absurd (unlike c.args.start c.args.start c.args.size refl past c.if-size-start.false);
      pruned = λ within before low. absurd (unlike c.args.start c.args.start c.bounds-first.result.0 refl c.if-start-first.false (subst (λ n. c.args.start < n) (sym c.bounds-first.ensures.start) low));
      never = λ within before from. rw (exit.1, exit.2) c.in_err-items.ensures.never;
      stands = λ list is. log-kept members g.F.Family.shape g.H.Digest.Digest.bytes g.H.Hasher.hash _ c.args.self.now read.new.store list c.self.view_is read.ensures.kept is;
      tree = ap (λ l. l.tree) c.self.view_is;
      kept = subst (λ l. IsKept members l.store read.new.store) c.self.view_is read.ensures.kept;
      cause = subst (λ l. IsCause (members.faults l.store) (members.faults read.new.store) (IsErrOf result (errors.Journal journal.Store))) c.self.view_is cause;
    }

-- how many lie between
between : (from count : ℕ) → from + count - from ≡ count
between from count = omega arith

pub kept_proof-requires-clause-size : goal.kept_proof-requires-clause-size
kept_proof-requires-clause-size g c = subst (λ n. c.args.size ≤ n) (c.bounds-first.ensures.size ∙ sym (ap (λ l. l.tree.leaves) c.self.view_is)) c.if-leaves-size.false

pub kept_proof-requires-clause-inactive : goal.kept_proof-requires-clause-inactive
kept_proof-requires-clause-inactive g c = c.requires (subst (λ n. c.args.size ≤ n) c.bounds-first.ensures.size c.if-leaves-size.false)

pub read_items-requires-clause-start : goal.read_items-requires-clause-start
read_items-requires-clause-start g c =
    subst (λ l. g.C.Store.start l.store ≤ c.args.start) (sym c.self.view_is) (subst (λ n. n ≤ c.args.start) (c.bounds-first.ensures.start ∙ sym c.bounds-first.ensures.first) c.if-start-first.false)

pub read_items-requires-clause-end : goal.read_items-requires-clause-end
read_items-requires-clause-end g c =
    let within = subst (λ n. c.args.size ≤ n) c.bounds-first.ensures.size c.if-leaves-size.false in
    subst (λ l. c.args.start + c.min.result ≤ g.C.Store.«end» l.store) (sym c.self.view_is) (omega (arith, within, c.bounds-first.ensures.past, c.min.ensures, c.if-size-start.false))

pub read_items-requires-clause-few : goal.read_items-requires-clause-few
read_items-requires-clause-few g c = omega (arith, c.bounds-first.ensures.limit, c.if-leaves-size.false, c.min.ensures, c.if-size-start.false)

pub returns : goal.returns
returns g c = record {
  proof = λ list is.
      let shape = g.F.Family.shape in
      let hash = g.H.Hasher.hash in
      let leaves = digests_from hash shape 0 list in
      c.in_ok-proof.ensures.value hash leaves (subst (λ log. Stands shape g.H.Digest.Digest.bytes hash log.tree leaves) (sym c.self.view_is) is.tree)
      ∙ ap₂ (λ ds m. proof_of hash shape ds c.args.inactive c.args.start (c.args.start + m)) (digests_from-take hash shape 0 c.args.size list) (shown g c);
  items = λ list is.
      let members = g.C.Store in
      let log = c.args.self.now in
      let start = c.args.start in
      let m = min (non_zero_u64_get c.args.max) (c.args.size - start) in
      let count : start + c.min.result - start ≡ m = omega (arith, shown g c) in
      let within : start + m ≤ length list = omega (arith, is.size, c.bounds-first.ensures.size, c.if-leaves-size.false, c.if-size-start.false) in
      let read = subst (λ (l : _). IfSome (members.told l.store) (λ held. map (λ v. v.items) c.in_ok-items.items.items ≡ take (start + c.min.result - start) (drop (start - members.start l.store) held.items))) c.self.view_is c.in_ok-items.ensures.items in
      both (members.told log.store) is.items read
      (λ held told shown.
      shown ∙ ap₂ (λ j k. take j (drop (start - k) held.items)) count (sym is.start)
      ∙ part_read held.items list log.tree.start start m (omega (arith, c.bounds-first.ensures.start, c.if-start-first.false)) within told);
  count = c.in_ok-items.ensures.count ∙ between c.args.start c.min.result ∙ shown g c;
  size = λ past. absurd (unlike c.args.self.now.tree.leaves c.bounds-first.result.1 c.args.size c.bounds-first.ensures.size c.if-leaves-size.false past);
  start = λ within past. absurd (unlike c.args.start c.args.start c.args.size refl past c.if-size-start.false);
  pruned = λ within before low. absurd (unlike c.args.start c.args.start c.bounds-first.result.0 refl c.if-start-first.false (subst (λ n. c.args.start < n) (sym c.bounds-first.ensures.start) low));
  never = λ within before from. tt;
  stands = λ list is. log-kept g.C.Store g.F.Family.shape g.H.Digest.Digest.bytes g.H.Hasher.hash _ c.args.self.now c.read_items.new.store list c.self.view_is c.read_items.ensures.kept is;
  tree = ap (λ l. l.tree) c.self.view_is;
  kept = subst (λ l. IsKept g.C.Store l.store c.read_items.new.store) c.self.view_is c.read_items.ensures.kept;
  cause = no-error _ _ _ _ (subst (λ l. g.C.Store.faults l.store ≤ g.C.Store.faults c.read_items.new.store) c.self.view_is c.read_items.ensures.cause.later);
}
