-- What stores keep, and what holds of what they tell.
use Rattle.std.proofs.Common.{◌≡◌, ◌≢◌, ◌⊎◌, ◌∙◌, ◌≤◌, ◌-◌, ◌++◌, ℕ, List, length, take, drop, ap, sym, subst, refl, inl, inr, arith, Option, Some, None, IfSome, Result, Ok, Err, IfOk, IfErr, OnOk, OnErr}
use Rattle.std.specs.Prelude.{⊤, IsErrOf, slice_get}
use Rattle.std.proofs.lemmas.List.{take_all, take-take, drop-append-le, length-append, length-drop}
use Rattle.qm_model.specs.Operations.{Bytes}
use Rattle.qm_model.specs.Trees.{Shape}
use Rattle.qm_merkle.specs.Mems.{Kept, Stands}
use Rattle.qm_model.specs.Causes.{IsCause, Rose}
use Rattle.qm_model.specs.StoreModel.{Stored, end_of, appended, rewound, pruned, Becomes}
use Rattle.qm_base.specs.declared.error.Corrupt.{Corrupt}
use Rattle.qm_base.specs.declared.error.Error.{Error}
use Rattle.qm_base.specs.declared.error.Error.TheVariants as errors
use Rattle.qm_base.specs.declared.error.JournalError.TheVariants as journal
use Rattle.qm_store.specs.declared.Store as store
use Rattle.qm_store.specs.declared.StoreError.{StoreError}
use Rattle.qm_store.specs.declared.StoreError.TheVariants as stores
use Rattle.qm_store.specs.declared.log.LogGiven.TheVariants as variants
use Rattle.qm_store.specs.declared.log.LogRefusal.{LogRefusal}
use Rattle.qm_store.proofs.Leaves.{length-digests_from}
use Rattle.qm_store.proofs.Shown.{part_read}
use Rattle.qm_store.specs.Log.{Log, IsLog, IsKept, HasGrown, IsRefused, digests_from, log_error}

-- what holds of all that may be told
pub any-told : {X : Type 0} (o : Option X) {P : X → Type 0} → ((x : X) → P x) → IfSome o P
any-told None all = tt
any-told (Some x) all = all x

-- why a store's call failed, as an error of databases
failed-store : (e : StoreError) → log_error e ≡ errors.Journal journal.Store → e ≡ stores.Failed
failed-store stores.Memory fault = absurd cc
failed-store stores.Failed fault = refl

pub of-store : (e : StoreError) {X : Type 0} → (log_error e ≡ errors.Memory) ⊎ ((log_error e ≡ errors.Journal journal.Store) ⊎ X)
of-store stores.Memory = inl refl
of-store stores.Failed = inr (inl refl)

pub never-corrupt : (e : StoreError) (x : Corrupt) → log_error e ≡ errors.DataCorrupted x → ⊥
never-corrupt stores.Memory x is = cc
never-corrupt stores.Failed x is = cc

-- a fault that a call hands on is one of the store's call
pub handed-on : {T U : Type 0} (before now : ℕ) (done : Result T StoreError) (e : StoreError) (made : Result U Error) → done ≡ Err e → made ≡ Err (log_error e) →
    IsCause before now (IsErrOf done stores.Failed) → IsCause before now (IsErrOf made (errors.Journal journal.Store))
handed-on before now done e made was is cause = record {
  later = cause.later;
  failed = λ fault. let same : log_error e ≡ errors.Journal journal.Store = cc in cause.failed (was ∙ ap Err (failed-store e same));
}

-- want of memory is no fault
pub no-fault : {U : Type 0} (before now : ℕ) (made : Result U Error) (y : Error) → made ≡ Err y → y ≡ errors.Memory → before ≤ now → IsCause before now (IsErrOf made (errors.Journal journal.Store))
no-fault before now made y is memory later = record { later = later; failed = λ fault. absurd cc }

-- what holds of both
pub both : {X : Type 0} (o : Option X) {P Q R : X → Type 0} → IfSome o P → IfSome o Q → ((x : X) → P x → Q x → R x) → IfSome o R
both None p q then = tt
both (Some x) p q then = then x p q

-- a store keeps what another kept
pub kept-then : {C : Type 0} (members : store.Ghosts C) (a b c : C) → IsKept members a b → IsKept members b c → IsKept members a c
kept-then members a b c before after = record {
  start = after.start ∙ before.start;
  end = after.end ∙ before.end;
  told = after.told ∙ before.told;
}

-- the item that a store gave which has what another had is that one's
pub read-kept : {C : Type 0} (members : store.Ghosts C) (old now : C) (at : ℕ) (item : Bytes) → IsKept members old now → IfSome (members.told now) (λ s. s.start ≡ members.start now) →
    IfSome (members.told now) (λ s. slice_get s.items (at - s.start) ≡ Some item) → IfSome (members.told old) (λ s. slice_get s.items (at - members.start old) ≡ Some item)
read-kept members old now at item kept starts is =
    subst (λ o. IfSome o (λ s. slice_get s.items (at - members.start old) ≡ Some item)) kept.told
    (both (members.told now) starts is (λ s first given. ap (λ n. slice_get s.items (at - n)) (sym (first ∙ kept.start)) ∙ given))

-- a log that is given back as it was, for want of memory
pub refused-whole : {C D : Type 0} (members : store.Ghosts C) (Left : C → C → Type 0) (old log : Log C D) → log ≡ old → IsRefused members Left old (variants.Log log) errors.Memory
refused-whole members Left old log same = record {
  back = λ other is. (cc, refl);
  left = λ s is. absurd cc;
  called = λ s is. absurd cc;
  never = inl refl;
  cause = subst (λ l. IsCause (members.faults old.store) (members.faults l.store) (errors.Memory ≡ errors.Journal journal.Store)) (sym same) (record { later = omega arith; failed = λ never. absurd cc });
}

-- a log whose store failed a call
pub refused-store : {C D T : Type 0} (members : store.Ghosts C) (Left : C → C → Type 0) (old : Log C D) (new : C) (error : StoreError) → Left old.store new →
    IsCause (members.faults old.store) (members.faults new) (IsErrOf {T = T} (Err error) stores.Failed) → Rose (members.calls old.store) (members.calls new) → IsRefused members Left old (variants.Store new) (log_error error)
refused-store members Left old new error left cause counted = record {
  back = λ log same. absurd cc;
  left = λ s same. let is : new ≡ s = cc in subst (Left old.store) is left;
  called = λ s same. let is : new ≡ s = cc in subst (λ c. Rose (members.calls old.store) (members.calls c)) is counted;
  never = elim error as (λ e. (log_error e ≡ errors.Memory) ⊎ (log_error e ≡ errors.Journal journal.Store)) [ stores.Memory ↦ inl refl | stores.Failed ↦ inr refl ];
  cause = record {
    later = cause.later;
    failed = λ fault. cause.failed (ap Err (failed-store error fault));
  };
}

-- a log over a store that was called, if the call failed
pub refused-after : {C D X : Type 0} (members : store.Ghosts C) (Left : C → C → Type 0) (old : Log C D) (new : C) (done : Result ⊤ StoreError) (made : Result X (LogRefusal (Log C D) C)) →
    IfErr made (λ r. (r.given ≡ variants.Store new) × IfErr done (λ e. r.error ≡ log_error e) × (done ≢ Ok tt)) → OnErr done (Left old.store new) → IsCause (members.faults old.store) (members.faults new) (IsErrOf done stores.Failed) → Rose (members.calls old.store) (members.calls new) →
    IfErr made (λ r. IsRefused members Left old r.given r.error)
refused-after members Left old new done (Ok x) is left cause counted = tt
refused-after members Left old new (Ok tt) (Err r) is left cause counted = absurd (is.2 refl)
refused-after members Left old new (Err e) (Err r) is left cause counted =
    subst (λ given. IsRefused members Left old given r.error) (sym is.0) (subst (IsRefused members Left old (variants.Store new)) (sym is.1) (refused-store members Left old new e left cause counted))

-- what holds of what a store tells that was made this, by what held of it
pub made-then : (o new : Option Stored) (f : Stored → Stored) {P Q R : Stored → Type 0} (S : Stored → Type 0) → Becomes o new f → IfSome o P → IfSome o Q → IfSome o R → ((s : Stored) → P s → Q s → R s → S (f s)) → IfSome new S
made-then None new f S is p q r give = subst (λ o. IfSome o S) (sym is) tt
made-then (Some s) None f S is p q r give = absurd is
made-then (Some s) (Some t) f S is p q r give = subst S (sym is) (give s p q r)

-- what follows if a call came off
pub ok-both : {T E P Q R : Type 0} (done : Result T E) → OnOk done P → OnOk done Q → (P → Q → R) → OnOk done R
ok-both (Ok x) p q give = give p q
ok-both (Err e) p q give = tt

-- what follows if it did not
pub err-both : {T E P Q R : Type 0} (done : Result T E) → OnErr done P → OnErr done Q → (P → Q → R) → OnErr done R
err-both (Ok x) p q give = tt
err-both (Err e) p q give = give p q

-- what holds of a log over a store that was called, if the call came off
pub after-ok : {C D E G : Type 0} (done : Result ⊤ E) (made : Result (Log C D) G) (new : C) (tree : Kept D) (P : Log C D → Type 0) →
    IfOk made (λ log. (done ≡ Ok tt) × (log.store ≡ new) × (log.tree ≡ tree)) → OnOk done (P (record { store = new; tree = tree })) → IfOk made P
after-ok done (Ok log) new tree P is p =
    let there : P (record { store = new; tree = tree }) = subst (λ d. OnOk d (P (record { store = new; tree = tree }))) is.0 p in
    subst (λ t. P (record { store = log.store; tree = t })) (sym is.2) (subst (λ c. P (record { store = c; tree = tree })) (sym is.1) there)
after-ok done (Err e) new tree P is p = tt

module _ {C D : Type 0} (members : store.Ghosts C) (shape : Shape) (bytes : D → Bytes) (hash : Bytes → Bytes) (old new : Log C D) (list : List Bytes) (is : IsLog members shape bytes hash old list)
    (starts : IfSome (members.told old.store) (λ s. s.start ≡ members.start old.store)) (ends : IfSome (members.told old.store) (λ s. end_of s ≡ members.«end» old.store)) where
  -- a log over a store that was made this, and of a tree that stands for a list
  log-made : (f : Stored → Stored) (other : List Bytes) → Stands shape bytes hash new.tree (digests_from hash shape 0 other) → new.tree.start ≡ members.start new.store → Becomes (members.told old.store) (members.told new.store) f →
      ((s : Stored) → s.start ≡ old.tree.start → end_of s ≡ members.«end» old.store → take (length list - old.tree.start) s.items ≡ drop old.tree.start list → take (length other - new.tree.start) (f s).items ≡ drop new.tree.start other)
      → IsLog members shape bytes hash new other
  log-made f other stands start made give = record {
    tree = stands;
    start = start;
    size = stands.count ∙ length-digests_from hash shape 0 other;
    items = made-then (members.told old.store) (members.told new.store) f (λ s. take (length other - new.tree.start) s.items ≡ drop new.tree.start other) made starts ends is.items
        (λ s first last has. give s (first ∙ sym is.start) last has);
  }

  -- a log whose store grew, and whose tree has the new leaves
  pub log-grown : (more : List Bytes) → Stands shape bytes hash new.tree (digests_from hash shape 0 (list ++ more)) → new.tree.start ≡ old.tree.start → HasGrown members old.store new.store more →
      members.«end» old.store ≡ old.tree.leaves → members.start old.store ≤ members.«end» old.store → IsLog members shape bytes hash new (list ++ more)
  log-grown more stands start grown last order =
      log-made (appended more) (list ++ more) stands (start ∙ is.start ∙ sym grown.start) grown.told
      (λ s first end has.
      let n = old.tree.start in
      let whole : length s.items ≤ length list - n = omega (arith, first, end, last, is.size) in
      let within : n ≤ length list = omega (arith, is.start, is.size, last, order) in
      let rest : s.items ≡ drop n list = sym (take_all (length list - n) s.items whole) ∙ has in
      take_all (length (list ++ more) - new.tree.start) (s.items ++ more) (omega (arith, length-append s.items more, length-append list more, whole, within, start))
      ∙ ap (λ l. l ++ more) rest ∙ sym (drop-append-le n list more within) ∙ ap (λ k. drop k (list ++ more)) (sym start))

  -- a log whose store was made this, of the same items
  pub log-become : (f : Stored → Stored) → ((s : Stored) → (f s).items ≡ s.items) → new.tree ≡ old.tree → members.start new.store ≡ members.start old.store → Becomes (members.told old.store) (members.told new.store) f → IsLog members shape bytes hash new list
  log-become f items same start made =
      let from = ap (λ t. t.start) same in
      log-made f list (subst (λ t. Stands shape bytes hash t (digests_from hash shape 0 list)) (sym same) is.tree) (from ∙ is.start ∙ sym start) made
      (λ s first end has. subst (λ n. take (length list - n) (f s).items ≡ drop n list) (sym from) (ap (take (length list - old.tree.start)) (items s) ∙ has))

  -- a log whose store ends with it from now on
  pub log-settled : new.tree ≡ old.tree → members.start new.store ≡ members.start old.store → Becomes (members.told old.store) (members.told new.store) (rewound old.tree.leaves) → IsLog members shape bytes hash new list
  log-settled same start settled =
      let from = ap (λ t. t.start) same in
      log-made (rewound old.tree.leaves) list (subst (λ t. Stands shape bytes hash t (digests_from hash shape 0 list)) (sym same) is.tree) (from ∙ is.start ∙ sym start) settled
      (λ s first end has.
      subst (λ n. take (length list - n) (take (old.tree.leaves - s.start) s.items) ≡ drop n list) (sym from)
      (take-take (length list - old.tree.start) (old.tree.leaves - s.start) s.items (omega (arith, first, is.size)) ∙ has))

  -- a log that lets go of what stands before a location, with its store
  pub log-pruned : (to : ℕ) (head : Bytes) → Stands shape bytes hash new.tree (digests_from hash shape 0 list) → new.tree.start ≡ to → members.start new.store ≡ to → old.tree.start ≤ to → to ≤ length list →
      Becomes (members.told old.store) (members.told new.store) (pruned to head) → IsLog members shape bytes hash new list
  log-pruned to head stands start first from within made =
      log-made (pruned to head) list stands (start ∙ sym first) made
      (λ s begins end has.
      subst (λ n. take (length list - n) (drop (to - s.start) s.items) ≡ drop n list) (sym start)
      (ap (λ n. take (length list - to) (drop (to - n) s.items)) begins
      ∙ part_read s.items list old.tree.start to (length list - to) from (omega (arith, within)) has
      ∙ take_all (length list - to) (drop to list) (omega (arith, length-drop to list))))

-- a log of a store that has grown, and of a tree that has its leaves
pub log-stored : {C D E : Type 0} (members : store.Ghosts C) (shape : Shape) (bytes : D → Bytes) (hash : Bytes → Bytes) (old : Log C D) (tree : Kept D) (made : Result (Log C D) E) (list more : List Bytes) → IsLog members shape bytes hash old list →
    Stands shape bytes hash tree (digests_from hash shape 0 (list ++ more)) → tree.start ≡ old.tree.start → IfOk made (λ log. log.tree ≡ tree) → IfOk made (λ log. HasGrown members old.store log.store more) →
    IfSome (members.told old.store) (λ s. s.start ≡ members.start old.store) → IfSome (members.told old.store) (λ s. end_of s ≡ members.«end» old.store) →
    members.«end» old.store ≡ old.tree.leaves → members.start old.store ≤ members.«end» old.store → IfOk made (λ log. IsLog members shape bytes hash log (list ++ more))
log-stored members shape bytes hash old tree (Ok log) list more is stands start same grown starts ends last order =
    log-grown members shape bytes hash old log list is starts ends more (subst (λ t. Stands shape bytes hash t (digests_from hash shape 0 (list ++ more))) (sym same) stands) (ap (λ t. t.start) same ∙ start) grown last order
log-stored members shape bytes hash old tree (Err e) list more is stands start same grown starts ends last order = tt

-- the log of a store whose tree stands for what the store has
pub log-opened : {C D : Type 0} (members : store.Ghosts C) (shape : Shape) (bytes : D → Bytes) (hash : Bytes → Bytes) (old : C) (log : Log C D) (list : List Bytes) (size : ℕ) (B : Stored → Type 0) →
    IsKept members old log.store → log.tree.start ≡ members.start old → log.tree.leaves ≡ size → length list ≡ size →
    IfSome (members.told old) (λ held. take (size - members.start old) held.items ≡ drop (members.start old) list → B held → Stands shape bytes hash log.tree (digests_from hash shape 0 list)) →
    IfSome (members.told old) (λ held. take (size - members.start old) held.items ≡ drop (members.start old) list → B held → IsLog members shape bytes hash log list)
log-opened members shape bytes hash old log list size B kept start leaves long = by (members.told old) kept.told
  where
    by : (o : Option Stored) → members.told log.store ≡ o → IfSome o (λ held. take (size - members.start old) held.items ≡ drop (members.start old) list → B held → Stands shape bytes hash log.tree (digests_from hash shape 0 list)) →
        IfSome o (λ held. take (size - members.start old) held.items ≡ drop (members.start old) list → B held → IsLog members shape bytes hash log list)
    by None same stands = tt
    by (Some held) same stands = λ has head. record {
      tree = stands has head;
      start = start ∙ sym kept.start;
      size = leaves ∙ sym long;
      items = subst (λ o. IfSome o (λ s. take (length list - log.tree.start) s.items ≡ drop log.tree.start list)) (sym same)
          (subst (λ n. take (length list - n) held.items ≡ drop n list) (sym start) (subst (λ n. take (n - members.start old) held.items ≡ drop (members.start old) list) (sym long) has));
    }
