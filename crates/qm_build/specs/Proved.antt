-- What comes of asking for a proof of a log's operations.
use Rattle.std.specs.Prelude.{◌≡◌, ◌≢◌, ◌≤◌, ◌+◌, ℕ, List, map, take, drop, All, None, IfSome, Result, IfOk, IfErr, OnOk}
use Rattle.qm_model.specs.Causes.{Rose}
use Rattle.qm_model.specs.Forms.{Form, IsOf, spelling}
use Rattle.qm_model.specs.Operations.{Bytes, Operation}
use Rattle.qm_model.specs.Proofs.{Proof, ops_proof}
use Rattle.qm_model.specs.Refusals.{proof_refusal, proof_count}
use Rattle.qm_model.specs.Trees.{Shape}
use Rattle.qm_base.specs.declared.error.Error.{Error}
use Rattle.qm_base.specs.declared.error.Error.TheVariants as errors
use Rattle.qm_base.specs.declared.error.JournalError.TheVariants as journal
use Rattle.qm_store.specs.declared.Store as store
use Rattle.qm_store.specs.Log.{Log, IsLog}
use Rattle.qm_store.specs.Reads.{IsRead}
use Rattle.qm_store.specs.Refusals.{IsAmong, IsDue}
use Rattle.qm_build.specs.Reasons.{proof_reasons}

module _ {C D : Type 0} (members : store.Ghosts C) (shape : Shape) (bytes : D → Bytes) (hash : Bytes → Bytes) (form : Form) where
  -- at each list whose spellings the log has, if its store tells its items
  abbrev pub AtLogged : Log C D → (List Operation → Type 0) → Type 0
  AtLogged log P = (list : List Operation) → IsLog members shape bytes hash log (map (spelling form) list) → All (IsOf form) list → IfSome (members.told log.store) (λ _. P list)

  -- What comes of asking for at most max operations from `start` on, and their proof in the list of the first `size`: both are the list's; or
  -- it is refused as the definition says, and for no other reason whatever the store tells; or memory or the store failed. It only reads.
  pub record Proves {A : Type 0} (proof_in : A → Proof) (operations_in : A → List Operation) (size start max : ℕ) (old new : Log C D) (result : Result A Error) : Type 0 where
    pub offered : AtLogged old (λ list. OnOk result (proof_refusal (members.start old.store) list size start ≡ None))
    pub kept : OnOk result (members.start old.store ≤ start)
    pub proof : AtLogged old (λ list. IfOk result (λ shown. proof_in shown ≡ ops_proof hash shape form (take size list) start (start + proof_count size start max)))
    pub operations : AtLogged old (λ list. IfOk result (λ shown. operations_in shown ≡ take (proof_count size start max) (drop start list)))
    pub refused : AtLogged old (λ list. IfErr result (λ e. IsDue e (proof_refusal (members.start old.store) list size start)))
    pub causes : IfErr result (λ e. IsAmong e (proof_reasons size start))
    pub never : IfErr result (λ e. e ≢ errors.StaleBatch)
    pub cause : IfErr result (λ e. e ≡ errors.Journal journal.Store → Rose (members.faults old.store) (members.faults new.store))
    pub read : IsRead members shape bytes hash old new
