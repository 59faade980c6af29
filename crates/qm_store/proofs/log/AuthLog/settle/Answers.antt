use Rattle.std.proofs.Common.{◌≡◌, ◌∙◌, ◌≤◌, ℕ, ap, sym, subst, refl, Option, Some, None, IfSome}
use Rattle.std.specs.Prelude.{min}
use Rattle.std.proofs.Math.Nat.{le_refl}
use Rattle.std.proofs.lemmas.Result.{on_ok_weaker, on_err_weaker}
use Rattle.qm_model.specs.StoreModel.{Stored, end_of, rewound, RewindLeaves, ReadsAs, Becomes}
use Rattle.qm_model.proofs.Results.{ok-then, err-then}
use Rattle.qm_model.proofs.Stores.{rewound-whole}
use Rattle.qm_store.specs.Log.{Log, IsLog, IsRefused, HasLeft}
use Rattle.qm_store.proofs.Stores.{after-ok, log-settled, refused-after}
use Rattle.qm_store.specs.declared.log.LogGiven.{LogGiven}
use Rattle.qm_store.specs.declared.log.LogGiven.TheVariants as variants
use Rattle.qm_store.proofs.log.AuthLog.settle.Goals as goal

-- a store that ends there is not changed by a rewind to there
rewound-end : (told : Option Stored) (to : ℕ) → IfSome told (λ s. (s.start ≤ s.stable) × (s.stable ≤ end_of s)) → IfSome told (λ s. end_of s ≡ to) → Becomes told told (rewound to)
rewound-end None to inside ends = refl
rewound-end (Some s) to inside ends = sym (ap (λ n. rewound n s) (sym ends) ∙ rewound-whole s inside.1)

-- a store is no log
never-log : {C L : Type 0} (given : LogGiven L C) (store : C) (log : L) → given ≡ variants.Store store → given ≡ variants.Log log → ⊥
never-log given store log is same = cc

pub returns-then-end-size : goal.returns-then-end-size
returns-then-end-size g c =
    let members = g.C.Store in
    let last = subst (λ l. members.«end» l.store ≡ c.args.self.tree.leaves) c.self.view_is (sym c.bounds-end.ensures.ends ∙ c.if-end-size.true ∙ c.size-size.ensures) in
    record {
      stands = λ list is. is;
      tree = refl;
      start = refl;
      last = last;
      settled = rewound-end (members.told c.args.self.store) c.args.self.tree.leaves (subst (λ l. IfSome (members.told l.store) (λ s. (s.start ≤ s.stable) × (s.stable ≤ end_of s))) c.self.view_is c.bounds-end.ensures.stable)
          (subst (λ n. IfSome (members.told c.args.self.store) (λ s. end_of s ≡ n)) last (g.met.C.Store.told_end c.args.self.store));
      refused = tt;
      given = tt;
      later = le_refl _;
    }

pub returns : goal.returns
returns g c = record {
  stands = λ list is.
      let members = g.C.Store in
      let shape = g.F.Family.shape in
      let bytes = g.H.Digest.Digest.bytes in
      let hash = g.H.Hasher.hash in
      let tree = c.self.inside.tree in
      let old : Log g.row.C.Denot g.row.H-Digest.Denot = record { store = c.self.inside.store; tree = tree } in
      let new : Log g.row.C.Denot g.row.H-Digest.Denot = record { store = c.rewind-done.new.self; tree = tree } in
      let was = subst (λ l. IsLog members shape bytes hash l list) (sym c.self.view_is) is in
      after-ok c.rewind-done.result c.log_after.result new.store tree (λ log. IsLog members shape bytes hash log list) c.log_after.ensures.ok
      (on_ok_weaker c.rewind-done.result (λ settled.
      log-settled members shape bytes hash old new list was (g.met.C.Store.told_start old.store) (g.met.C.Store.told_end old.store) refl c.rewind-done.ensures.same_start
      (subst (λ n. Becomes (members.told old.store) (members.told new.store) (rewound n)) (c.size-size.ensures ∙ sym (ap (λ l. l.tree.leaves) c.self.view_is)) settled)) c.rewind-done.ensures.ok);
  tree = ok-then c.log_after.result c.log_after.ensures.ok (λ log is. is.2 ∙ ap (λ l. l.tree) c.self.view_is);
  start =
      let members = g.C.Store in
      ok-then c.log_after.result c.log_after.ensures.ok (λ log is. ap members.start is.1 ∙ c.rewind-done.ensures.same_start ∙ ap (λ l. members.start l.store) c.self.view_is);
  last =
      after-ok c.rewind-done.result c.log_after.result c.rewind-done.new.self c.self.inside.tree (λ log. g.C.Store.«end» log.store ≡ c.args.self.tree.leaves) c.log_after.ensures.ok
      (on_ok_weaker c.rewind-done.result (λ ends. ends ∙ c.size-size.ensures) c.rewind-done.ensures.ok_end);
  settled =
      let members = g.C.Store in
      let new = c.rewind-done.new.self in
      after-ok c.rewind-done.result c.log_after.result new c.self.inside.tree (λ log. Becomes (members.told c.args.self.store) (members.told log.store) (rewound c.args.self.tree.leaves)) c.log_after.ensures.ok
      (on_ok_weaker c.rewind-done.result (λ settled.
      subst (λ l. Becomes (members.told l.store) (members.told new) (rewound c.args.self.tree.leaves)) c.self.view_is
      (subst (λ n. Becomes (members.told c.self.inside.store) (members.told new) (rewound n)) c.size-size.ensures settled)) c.rewind-done.ensures.ok);
  refused =
      let members = g.C.Store in
      let done = c.rewind-done in
      let old : Log g.row.C.Denot g.row.H-Digest.Denot = record { store = c.self.inside.store; tree = c.self.inside.tree } in
      let left = λ (n : ℕ) (s : Stored). ReadsAs (min s.stable n) (RewindLeaves n s) in
      err-then c.log_after.result
      (refused-after members (HasLeft members (left c.size-size.result)) old done.new.self done.result c.log_after.result c.log_after.ensures.err
      (on_err_weaker done.result (λ told. record { start = done.ensures.same_start; within = done.ensures.within; told = told }) done.ensures.err) done.ensures.cause done.ensures.counted)
      (λ r refused. subst (λ n. IsRefused members (HasLeft members (left n)) c.args.self r.given r.error) c.size-size.ensures (subst (λ log. IsRefused members (HasLeft members (left c.size-size.result)) log r.given r.error) c.self.view_is refused));
  given = err-then c.log_after.result c.log_after.ensures.err (λ r is. λ log same. never-log r.given c.rewind-done.new.self log is.0 same);
  later =
      let members = g.C.Store in
      let done = c.rewind-done in
      let later = subst (λ l. members.faults l.store ≤ members.faults done.new.self) c.self.view_is done.ensures.cause.later in
      ok-then c.log_after.result c.log_after.ensures.ok (λ log is. subst (λ s. members.faults c.args.self.store ≤ members.faults s) (sym is.1) later);
}
