use Rattle.std.proofs.Common.{◌≡◌, ◌↔◌, ◌∙◌, ◌*◌, ◌^◌, ◌≤◌, Bool, true, false, length, ap, ap₂, sym, subst, arith, refl, inl, inr, Err}
use Rattle.std.proofs.Math.Nat.{le_trans}
use Rattle.std.specs.Prelude.{IsTrue}
use Rattle.std.proofs.lemmas.Option.{IfSome_then}
use Rattle.std.proofs.lemmas.Result.{IfOk-from_err, err_from_is_err_and}
use Rattle.qm_model.specs.Trees.{peaks}
use Rattle.qm_store.proofs.Trees.{stands-pruned}
use Rattle.qm_store.proofs.Stores.{any-told, of-store, never-corrupt, handed-on, no-fault}
use Rattle.qm_store.proofs.log.pruned.Goals as goal

pub returns-in_err-head : goal.returns-in_err-head
returns-in_err-head g c =
    let result = c.from_residual.result in
    let failed = c.from_residual.ensures.0 in
    let exit = err_from_is_err_and result c.from_residual.ensures.1 in
    record {
      stands = λ hash hashed list within. any-told (g.C.Store.told c.args.store.now) (λ held is. IfOk-from_err result _ failed);
      start = IfOk-from_err result _ failed;
      leaves = IfOk-from_err result _ failed;
      long = IfOk-from_err result _ failed;
      head = rw (exit.1, exit.2) (λ is. absurd (never-corrupt c.in_err-head.field-0.0 _ is));
      never = rw (exit.1, exit.2) (of-store c.in_err-head.field-0.0);
      kept = record { start = c.head.ensures.same_start; end = c.head.ensures.same_end; told = c.head.ensures.same };
      cause = handed-on _ _ c.head.result c.in_err-head.field-0.0 result c.in_err-head.was (exit.1 ∙ ap Err exit.2) c.head.ensures.cause;
    }

pub returns-in_err-bare_tree : goal.returns-in_err-bare_tree
returns-in_err-bare_tree g c =
    let result = c.from_residual-in_err-bare_tree.result in
    let failed = c.from_residual-in_err-bare_tree.ensures.0 in
    let exit = err_from_is_err_and result c.from_residual-in_err-bare_tree.ensures.1 in
    record {
      stands = λ hash hashed list within. any-told (g.C.Store.told c.args.store.now) (λ held is. IfOk-from_err result _ failed);
      start = IfOk-from_err result _ failed;
      leaves = IfOk-from_err result _ failed;
      long = IfOk-from_err result _ failed;
      head = rw (exit.1, exit.2) (λ is. absurd cc);
      never = rw (exit.1, exit.2) (inl refl);
      kept = record { start = c.head.ensures.same_start; end = c.head.ensures.same_end; told = c.head.ensures.same };
      cause = no-fault _ _ result exit.0 exit.1 exit.2 c.head.ensures.cause.later;
    }

-- a test that failed does not hold
untrue : {P : Type 0} (test : Bool) → (IsTrue test ↔ P) → test ≡ false → P → ⊥
untrue test tells failed holds = let passed : test ≡ true = tells.1 holds in absurd cc

pub returns-then-not-is_long : goal.returns-then-not-is_long
returns-then-not-is_long g c = record {
  stands = λ hash hashed list within. any-told (g.C.Store.told c.args.store.now) (λ held is. tt);
  start = tt;
  leaves = tt;
  long = tt;
  head = λ same.
      IfSome_then (g.C.Store.told c.args.store.now) c.in_ok-head.ensures.value
      (λ held is long.
      untrue c.is_long.result c.is_long.ensures c.if-not-is_long.true
      (c.len.ensures ∙ c.in_ok-head.head.ok.0 ∙ ap length is ∙ long
      ∙ sym (ap₂ (λ n size. n * size) (c.peak_count-count.ensures ∙ ap (λ m. length (peaks g.F.Family.shape m)) (c.new-start.ensures ∙ c.bounds-start.ensures.starts)) c.SIZE.ensures)));
  never = inr (inr refl);
  kept = record { start = c.head.ensures.same_start; end = c.head.ensures.same_end; told = c.head.ensures.same };
  cause = record { later = c.head.ensures.cause.later; failed = λ fault. absurd cc };
}

pub bare_tree-requires : goal.bare_tree-requires
bare_tree-requires g c = record {
  few = subst (λ n. n ≤ 2 ^ 62) (sym c.new-start.ensures) (le_trans c.bounds-start.ensures.order c.bounds-start.ensures.limit);
  count = c.peak_count-count.ensures;
  long = ap length c.deref.ensures.value ∙ sym (c.len.ensures ∙ c.in_ok-head.head.ok.0) ∙ c.is_long.ensures.0 c.if-not-is_long.false ∙ ap (λ size. c.peak_count-count.result * size) c.SIZE.ensures;
}

pub returns : goal.returns
returns g c =
    let members = g.C.Store in
    let shape = g.F.Family.shape in
    let bytes = g.D.Digest.bytes in
    let n = members.start c.args.store.now in
    let tree = c.in_ok-bare_tree.field-0 in
    let start : c.new-start.result ≡ n = c.new-start.ensures ∙ c.bounds-start.ensures.starts in
    let count = c.peak_count-count.ensures ∙ ap (λ m. length (peaks shape m)) start in
    let made = c.in_ok-bare_tree.ensures in
    record {
      stands = λ hash hashed list within.
          IfSome_then (members.told c.args.store.now) c.in_ok-head.ensures.value
          (λ held is told.
          stands-pruned bytes shape g.F.Family.births g.met.F.Family.numbered g.met.F.Family.peaked hash g.D.Digest.SIZE g.met.D.Digest.sized hashed tree n list held.head told
          (omega (arith, c.bounds-start.ensures.starts, c.bounds-start.ensures.order, c.bounds-start.ensures.limit)) within (made.start.0 ∙ start) (made.start.1 ∙ start) (made.pins.0 ∙ count)
          (made.pins.1 ∙ c.deref.ensures.value ∙ is));
      head = tt;
      never = tt;
      kept = record { start = c.head.ensures.same_start; end = c.head.ensures.same_end; told = c.head.ensures.same };
      cause = record { later = c.head.ensures.cause.later; failed = λ fault. absurd cc };
      start = made.start.0 ∙ start;
      leaves = made.start.1 ∙ start;
      long =
          IfSome_then (members.told c.args.store.now) c.in_ok-head.ensures.value
          (λ held is. sym (c.len.ensures ∙ c.in_ok-head.head.ok.0 ∙ ap length is) ∙ c.is_long.ensures.0 c.if-not-is_long.false ∙ ap₂ (λ n size. n * size) count c.SIZE.ensures);
    }
