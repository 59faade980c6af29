-- What a call leaves that changes a log's store and none of its items.
use Rattle.std.proofs.Common.{◌≡◌, ◌≢◌, ◌≤◌, List, sym, subst, refl, Result, Ok, IfOk, IfErr, OnOk, OnErr, IfSome}
use Rattle.std.specs.Prelude.{⊤, IsErrOf}
use Rattle.std.proofs.lemmas.Result.{on_ok_weaker, on_err_weaker}
use Rattle.qm_model.specs.Causes.{IsCause, Rose}
use Rattle.qm_model.specs.Operations.{Bytes}
use Rattle.qm_model.specs.StoreModel.{Stored, end_of, Becomes, Leaves}
use Rattle.qm_model.specs.Trees.{Shape}
use Rattle.qm_model.proofs.Results.{ok-then, err-then}
use Rattle.qm_store.specs.declared.Store as store
use Rattle.qm_store.specs.declared.StoreError.{StoreError}
use Rattle.qm_store.specs.declared.StoreError.TheVariants as stores
use Rattle.qm_store.specs.declared.log.LogGiven.{LogGiven}
use Rattle.qm_store.specs.declared.log.LogGiven.TheVariants as variants
use Rattle.qm_store.specs.declared.log.LogRefusal.{LogRefusal}
use Rattle.qm_store.specs.Log.{Log, IsLog, HasBecome, HasLeft, IsRefused, log_error}
use Rattle.qm_store.proofs.Stores.{after-ok, ok-both, log-become, refused-after}

-- of a log whose store was made this if the call came off, and else is one of these
pub record IsCalled {C D : Type 0} (members : store.Ghosts C) (shape : Shape) (bytes : D → Bytes) (hash : Bytes → Bytes) (f : Stored → Stored) (R : Stored → Stored → Type 0) (made : Result (Log C D) (LogRefusal (Log C D) C)) (old : Log C D) : Type 0 where
  pub stands : (list : List Bytes) → IsLog members shape bytes hash old list → IfOk made (λ log. IsLog members shape bytes hash log list)
  pub tree : IfOk made (λ log. log.tree ≡ old.tree)
  pub become : IfOk made (λ log. HasBecome members old.store log.store f)
  pub refused : IfErr made (λ r. IsRefused members (HasLeft members R) old r.given r.error)
  pub given : IfErr made (λ r. (log : Log C D) → r.given ≢ variants.Log log)
  pub later : IfOk made (λ log. members.faults old.store ≤ members.faults log.store)

-- a store is no log
never-log : {C L : Type 0} (given : LogGiven L C) (store : C) (log : L) → given ≡ variants.Store store → given ≡ variants.Log log → ⊥
never-log given store log is same = cc

pub called : {C D : Type 0} (members : store.Ghosts C) (shape : Shape) (bytes : D → Bytes) (hash : Bytes → Bytes) (f : Stored → Stored) (R : Stored → Stored → Type 0) (made : Result (Log C D) (LogRefusal (Log C D) C)) (old self : Log C D) (new : C) (done : Result ⊤ StoreError) →
    old ≡ self → ((s : Stored) → (f s).items ≡ s.items) → IfSome (members.told old.store) (λ s. s.start ≡ members.start old.store) → IfSome (members.told old.store) (λ s. end_of s ≡ members.«end» old.store) →
    OnOk done (Becomes (members.told old.store) (members.told new) f) → OnOk done (members.«end» new ≡ members.«end» old.store) → OnErr done (Leaves (members.told old.store) (members.told new) R) →
    members.start new ≡ members.start old.store → members.«end» new ≤ members.«end» old.store → IsCause (members.faults old.store) (members.faults new) (IsErrOf done stores.Failed) → Rose (members.calls old.store) (members.calls new) →
    IfOk made (λ log. (done ≡ Ok tt) × (log.store ≡ new) × (log.tree ≡ old.tree)) → IfErr made (λ r. (r.given ≡ variants.Store new) × IfErr done (λ e. r.error ≡ log_error e) × (done ≢ Ok tt)) →
    IsCalled members shape bytes hash f R made self
called members shape bytes hash f R made old self new done view items starts ends ok ok_end failed start within cause counted after err = subst (IsCalled members shape bytes hash f R made) view (record {
  stands = λ list is. after-ok done made new old.tree (λ log. IsLog members shape bytes hash log list) after
      (on_ok_weaker done (λ told. log-become members shape bytes hash old (record { store = new; tree = old.tree }) list is starts ends f items refl start told) ok);
  tree = ok-then made after (λ log is. is.2);
  become = after-ok done made new old.tree (λ log. HasBecome members old.store log.store f) after (ok-both done ok_end ok (λ last told. record { start = start; end = last; told = told }));
  refused = refused-after members (HasLeft members R) old new done made err (on_err_weaker done (λ told. record { start = start; within = within; told = told }) failed) cause counted;
  given = err-then made err (λ r is. λ log same. never-log r.given new log is.0 same);
  later = ok-then made after (λ log is. subst (λ s. members.faults old.store ≤ members.faults s) (sym is.1) cause.later);
})
