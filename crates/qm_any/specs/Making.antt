-- What comes of making the list of a batch.
use Rattle.std.specs.Prelude.{◌≡◌, ◌≢◌, ◌⊎◌, Bool, true, false, List, Option, Result, IfOk, IfErr, OnOk}
use Rattle.qm_model.specs.Batches.{Chain}
use Rattle.qm_model.specs.Causes.{Rose}
use Rattle.qm_model.specs.Forms.{Form}
use Rattle.qm_model.specs.Operations.{Bytes, Operation}
use Rattle.qm_model.specs.Walk.{Rules}
use Rattle.qm_model.specs.Writes.{Write}
use Rattle.qm_base.specs.declared.error.Error.{Error}
use Rattle.qm_base.specs.declared.error.Error.TheVariants as errors
use Rattle.qm_base.specs.declared.error.JournalError.TheVariants as journal
use Rattle.qm_store.specs.declared.Store as store
use Rattle.qm_store.specs.Log.{Log}
use Rattle.qm_store.specs.Reads.{IsReadError}
use Rattle.qm_step.specs.Views.{stepped, left_after, evicted_after}
use Rattle.qm_any.specs.Reasons.{IsMakingError}
use Rattle.qm_any.specs.Tips.{IsTaken, IsRefused}

-- what a list is made by, on the list that it stands on: the rules of a policy, the policy, the writes in order, and the metadata of the commit
pub record Making (P : Type 0) : Type 0 where
  pub rules : Rules P
  pub policy : P
  pub writes : List Write
  pub metadata : Option Bytes

-- that of these
abbrev pub making_of : {P : Type 0} → Rules P → P → List Write → Option Bytes → Making P
making_of rules policy ws meta = record { rules = rules; policy = policy; writes = ws; metadata = meta }

-- the list that it makes of a base list
abbrev pub list_made : {P : Type 0} → Form → Making P → List Operation → List Operation
list_made form making base = stepped form making.rules base making.writes making.policy making.metadata

-- the keys that it evicts, each with the value that it had
abbrev pub evicted_made : {P : Type 0} → Form → Making P → List Operation → List (Bytes × Bytes)
evicted_made form making base = evicted_after form making.rules base making.writes making.policy

-- what it leaves of the policy
abbrev pub policy_left : {P : Type 0} → Form → Making P → List Operation → P
policy_left form making base = left_after form making.rules base making.writes making.policy

module _ {C D : Type 0} (members : store.Ghosts C) where
  -- What comes of making a list on a chain's base list, with a policy left and what reads leave of the log: what is made has the list, of
  -- which nothing is too long, and tells what was evicted, and the policy has moved on; or the list is refused, or a read failed.
  pub record IsMaking {P A : Type 0} (form : Form) (making : Making P) (chain : Chain) (left : P) (old new : Log C D) (result : Result A Error) (HasList : A → List Operation → List (Bytes × Bytes) → Type 0) : Type 0 where
    pub made : IfOk result (λ a. HasList a (list_made form making chain.base) (evicted_made form making chain.base))
    pub taken : OnOk result (IsTaken form chain.base (list_made form making chain.base))
    pub next : OnOk result (left ≡ policy_left form making chain.base)
    pub refused : IfErr result (λ e. IsRefused form chain.base (list_made form making chain.base) e ⊎ IsReadError members old new e)

  -- Why a list was not made, of a batch that is on the database's state or not: it is stale only if it is not; else, if memory was
  -- not short, it is on it, and a read failed or the list is too large.
  pub record IsUnmade (on : Bool) (old new : Log C D) (e : Error) : Type 0 where
    pub stale : e ≡ errors.StaleBatch → on ≡ false
    pub order : e ≢ errors.Memory → e ≢ errors.StaleBatch → on ≡ true
    pub causes : (e ≡ errors.StaleBatch) ⊎ IsMakingError members old new e
    pub cause : e ≡ errors.Journal journal.Store → Rose (members.faults old.store) (members.faults new.store)
