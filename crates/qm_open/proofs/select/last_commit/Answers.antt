use Rattle.std.proofs.Common.{◌≡◌, ◌∙◌, ℕ, ◌<◌, ◌≤◌, ◌+◌, ◌-◌, suc, subst, arith, ap, sym, take, Option, Some, None, Err, IfSome, inl, refl}
use Rattle.std.proofs.Math.Nat.{le_trans}
use Rattle.std.proofs.lemmas.Result.{IfOk-from_err, err_from_is_err_and}
use Rattle.std.specs.Prelude.{min, slice_get, option_and_then}
use Rattle.std.specs.Option.{option_map_or}
use Rattle.qm_model.specs.Refusals.{commit_floor}
use Rattle.qm_model.specs.Forms.{decoded}
use Rattle.qm_model.specs.Opening.{last_commit}
use Rattle.qm_store.proofs.Stores.{both, kept-then, read-kept, handed-on, no-fault}
use Rattle.qm_store.proofs.Exits.{no-error, later-cause, store-error}
use Rattle.qm_open.specs.Selecting.{floor_told, kept_items, up_to}
use Rattle.qm_open.proofs.Selecting.{passed, found}
use Rattle.qm_open.proofs.select.last_commit.Goals as goal

pub returns-in-Some-clause-selected : goal.returns-in-Some-clause-selected
returns-in-Some-clause-selected g c =
    let members = g.C.Store in
    let form = g.U.Update.form in
    let store = c.args.store.now in
    let at = c.loop-at.at - 1 in
    let bytes = c.in_ok-item.item.items in
    let item = read-kept members store c.loop-at.store at bytes c.loop-at.invariant.kept (g.met.C.Store.told_start c.loop-at.store) c.in_ok-item.ensures.item in
    let some : Some c.in-Some.floor ≡ option_and_then commit_floor (decoded form bytes) = sym c.in-Some.is ∙ c.in_ok-floor.ensures ∙ ap (λ bs. option_and_then commit_floor (decoded form bs)) c.deref.ensures.value in
    let known : IfSome (members.told store) (λ s. (last_commit s.start None (up_to c.args.bound s (kept_items form s)) ≡ last_commit s.start None (take (c.loop-at.at - s.start) (kept_items form s))) × (slice_get s.items (at - members.start store) ≡ Some bytes)) = both (members.told store) c.loop-at.invariant.behind item (λ s behind is. (behind, is)) in
    both (members.told store) known (g.met.C.Store.told_start store) (λ s both first.
    let here : slice_get s.items (at - s.start) ≡ Some bytes = ap (λ n. slice_get s.items (at - n)) first ∙ both.1 in
    let low : s.start ≤ at = omega (arith, first, c.loop-at.auto.at, c.bounds-start.ensures.starts) in
    let next : suc at ≡ c.loop-at.at = omega (arith, low, c.loop-at-test.true) in
    sym (both.0 ∙ ap (λ n. last_commit s.start None (take (n - s.start) (kept_items form s))) (sym next) ∙ found form s at bytes c.in-Some.floor low here some ∙ ap (λ n. Some (record { size = n; floor = c.in-Some.floor })) (omega arith)))

pub returns-in-Some-clause-floor : goal.returns-in-Some-clause-floor
returns-in-Some-clause-floor g c =
    let members = g.C.Store in
    let form = g.U.Update.form in
    let store = c.args.store.now in
    let at = c.loop-at.at - 1 in
    let bytes = c.in_ok-item.item.items in
    let item = read-kept members store c.loop-at.store at bytes c.loop-at.invariant.kept (g.met.C.Store.told_start c.loop-at.store) c.in_ok-item.ensures.item in
    let some : Some c.in-Some.floor ≡ option_and_then commit_floor (decoded form bytes) = sym c.in-Some.is ∙ c.in_ok-floor.ensures ∙ ap (λ bs. option_and_then commit_floor (decoded form bs)) c.deref.ensures.value in
    both (members.told store) item (g.met.C.Store.told_start store) (λ s is first.
    ap (λ n. floor_told form s n) (omega arith) ∙ ap (λ n. option_and_then commit_floor (option_and_then (decoded form) (slice_get s.items (at - n)))) first ∙ ap (λ o. option_and_then commit_floor (option_and_then (decoded form) o)) is ∙ sym some)

pub loop-at-preserved : goal.loop-at-preserved
loop-at-preserved g c =
    let members = g.C.Store in
    let form = g.U.Update.form in
    let store = c.args.store.now in
    let at = c.loop-at.at - 1 in
    let bytes = c.in_ok-item.item.items in
    let kept = c.loop-at.invariant.kept in
    let item = read-kept members store c.loop-at.store at bytes kept (g.met.C.Store.told_start c.loop-at.store) c.in_ok-item.ensures.item in
    let none : None ≡ option_and_then commit_floor (decoded form bytes) = sym c.in_default.is ∙ c.in_ok-floor.ensures ∙ ap (λ bs. option_and_then commit_floor (decoded form bs)) c.deref.ensures.value in
    let known : IfSome (members.told store) (λ s. (last_commit s.start None (up_to c.args.bound s (kept_items form s)) ≡ last_commit s.start None (take (c.loop-at.at - s.start) (kept_items form s))) × (slice_get s.items (at - members.start store) ≡ Some bytes)) = both (members.told store) c.loop-at.invariant.behind item (λ s behind is. (behind, is)) in
    record {
      kept = kept-then members store c.loop-at.store c.read.new.self kept (record { start = c.read.ensures.same_start; end = c.read.ensures.same_end; told = c.read.ensures.same });
      later = omega (arith, c.loop-at.invariant.later, c.read.ensures.cause.later);
      behind = both (members.told store) known (g.met.C.Store.told_start store) (λ s both first.
          let here : slice_get s.items (at - s.start) ≡ Some bytes = ap (λ n. slice_get s.items (at - n)) first ∙ both.1 in
          let low : s.start ≤ at = omega (arith, first, c.loop-at.auto.at, c.bounds-start.ensures.starts) in
          let next : suc at ≡ c.loop-at.at = omega (arith, low, c.loop-at-test.true) in
          both.0 ∙ ap (λ n. last_commit s.start None (take (n - s.start) (kept_items form s))) (sym next) ∙ passed form s at bytes low here none);
    }

-- of whatever is told
each : {A : Type 0} {P : A → Type 0} (o : Option A) → ((x : A) → P x) → IfSome o P
each None all = tt
each (Some x) all = all x

pub returns-in_err-item : goal.returns-in_err-item
returns-in_err-item g c =
    let members = g.C.Store in
    let told = members.told c.args.store.now in
    let read = c.read in
    let e = c.in_err-item.field-0.0 in
    let result = c.from_residual.result in
    let failed = c.from_residual.ensures.0 in
    let exit = err_from_is_err_and result c.from_residual.ensures.1 in
    record {
      selected = each told (λ s. IfOk-from_err result _ failed);
      floor = each told (λ s. IfOk-from_err result _ failed);
      within = IfOk-from_err result _ failed;
      kept = kept-then members c.args.store.now c.loop-at.store read.new.self c.loop-at.invariant.kept (record { start = read.ensures.same_start; end = read.ensures.same_end; told = read.ensures.same });
      never = rw (exit.1, exit.2) (store-error e);
      cause = later-cause _ _ _ c.loop-at.invariant.later (handed-on _ _ read.result e result c.in_err-item.was (exit.1 ∙ ap Err exit.2) read.ensures.cause);
    }

pub returns-in_err-floor : goal.returns-in_err-floor
returns-in_err-floor g c =
    let members = g.C.Store in
    let told = members.told c.args.store.now in
    let read = c.read in
    let result = c.from_residual-in_err-floor.result in
    let failed = c.from_residual-in_err-floor.ensures.0 in
    let exit = err_from_is_err_and result c.from_residual-in_err-floor.ensures.1 in
    record {
      selected = each told (λ s. IfOk-from_err result _ failed);
      floor = each told (λ s. IfOk-from_err result _ failed);
      within = IfOk-from_err result _ failed;
      kept = kept-then members c.args.store.now c.loop-at.store read.new.self c.loop-at.invariant.kept (record { start = read.ensures.same_start; end = read.ensures.same_end; told = read.ensures.same });
      never = rw (exit.1, exit.2) (inl refl);
      cause = no-fault _ _ result exit.0 exit.1 exit.2 (le_trans c.loop-at.invariant.later read.ensures.cause.later);
    }

pub returns-in-Some-clause-kept : goal.returns-in-Some-clause-kept
returns-in-Some-clause-kept g c = kept-then g.C.Store c.args.store.now c.loop-at.store c.read.new.self c.loop-at.invariant.kept (record { start = c.read.ensures.same_start; end = c.read.ensures.same_end; told = c.read.ensures.same })

pub returns-in-Some-clause-never : goal.returns-in-Some-clause-never
returns-in-Some-clause-never g c = tt

pub returns-in-Some-clause-cause : goal.returns-in-Some-clause-cause
returns-in-Some-clause-cause g c = no-error _ _ _ _ (le_trans c.loop-at.invariant.later c.read.ensures.cause.later)

-- an end that is at most the store's
top_most : (bound : Option ℕ) (end : ℕ) → option_map_or (λ b. min b end) bound end ≤ end
top_most None end = omega arith
top_most (Some b) end = omega arith

-- the item before a place between these is one of the store's
item_before : (first last start end at top : ℕ) → first ≡ start → last ≡ end → first < at → at ≤ top → top ≤ last → (start < at - 1 + 1) × (at - 1 + 1 ≤ end)
item_before first last start end at top starts ends past before most = (omega arith, omega arith)

item_kept : (start end start' end' at : ℕ) → start' ≡ start → end' ≡ end → (start < at - 1 + 1) × (at - 1 + 1 ≤ end) → (start' ≤ at - 1) × (at - 1 < end')
item_kept start end start' end' at starts ends both = let low = both.0 in let high = both.1 in (omega arith, omega arith)

pub returns-in-Some-clause-within : goal.returns-in-Some-clause-within
returns-in-Some-clause-within g c = item_before c.bounds-start.result.0 c.bounds-start.result.1 _ _ c.loop-at.at c.top-at.result c.bounds-start.ensures.starts c.bounds-start.ensures.ends c.loop-at-test.true c.loop-at.auto.at
    (subst (λ n. n ≤ c.bounds-start.result.1) (sym c.top-at.ensures) (top_most c.args.bound c.bounds-start.result.1))

pub read-requires : goal.read-requires
read-requires g c =
    let members = g.C.Store in
    let kept = c.loop-at.invariant.kept in
    let inside = item_kept (members.start c.args.store.now) (members.«end» c.args.store.now) (members.start c.loop-at.store) (members.«end» c.loop-at.store) c.loop-at.at kept.start kept.«end»
    (item_before c.bounds-start.result.0 c.bounds-start.result.1 _ _ c.loop-at.at c.top-at.result c.bounds-start.ensures.starts c.bounds-start.ensures.ends c.loop-at-test.true c.loop-at.auto.at
    (subst (λ n. n ≤ c.bounds-start.result.1) (sym c.top-at.ensures) (top_most c.args.bound c.bounds-start.result.1))) in
    record { from = inside.0; before = inside.1 }

pub returns-clause-floor : goal.returns-clause-floor
returns-clause-floor g c = each (g.C.Store.told c.args.store.now) (λ s. tt)

pub returns-clause-within : goal.returns-clause-within
returns-clause-within g c = tt

pub returns-clause-kept : goal.returns-clause-kept
returns-clause-kept g c = c.loop-at.invariant.kept

pub returns-clause-never : goal.returns-clause-never
returns-clause-never g c = tt

pub returns-clause-cause : goal.returns-clause-cause
returns-clause-cause g c = no-error _ _ _ _ c.loop-at.invariant.later
