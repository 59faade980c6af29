-- What comes of making a batch's tip list.
use Rattle.std.specs.Prelude.{◌≡◌, ◌≢◌, ◌&&◌, true, ℕ, List, Result, Some, None, IfOk, IfErr, IfSome, if◌then◌else◌}
use Rattle.qm_model.specs.Operations.{Bytes, Operation}
use Rattle.qm_model.specs.Batches.{Chain, IsOnChain, commitment, fits}
use Rattle.qm_model.specs.Refusals.{tip_refusal}
use Rattle.qm_model.specs.Refused as refusals
use Rattle.qm_machine.specs.Lines.{Answer}
use Rattle.qm_machine.specs.Machine.{State, gone, with_slot, refuse, merkleize_tip}
use Rattle.qm_model.specs.Schemes.{Scheme, takes}
use Rattle.qm_base.specs.declared.error.Error.{Error}
use Rattle.qm_base.specs.declared.error.Error.TheVariants.{StaleBatch}
use Rattle.qm_store.specs.Refusals.{refusal_of}
use Rattle.qm_offer.specs.declared.meaning.Meaning as meaning
use Rattle.qm_offer.specs.Words.{Fits}

-- what the machine does if writes make this tip list of the batch of this number, and evict these keys
abbrev pub made_into : Scheme → State → ℕ → List Operation → Chain → List Operation → List (Bytes × Bytes) → Answer × State
made_into m s h list chain tip evicted =
    if takes m.grafts s.opened chain.instance && fits m.root (commitment m.root list) chain
    then merkleize_tip s h chain tip evicted (tip_refusal m.form chain tip)
    else refuse (with_slot s h gone) refusals.StaleBatch

module _ {X C B S M : Type 0} (means : meaning.Ghosts X C B S M) where
  -- the database of this instance number makes lists of batches of this chain
  abbrev pub TakesOf : ℕ → Chain → Type 0
  TakesOf n chain = takes means.scheme.grafts n chain.instance ≡ true

  -- the result of making this tip list of a batch of this chain, over this list, in the database of this instance number, with these
  -- keys evicted
  pub record IsMaking (n : ℕ) (list : List Operation) (chain : Chain) (tip : List Operation) (evicted : List (Bytes × Bytes)) (result : Result M Error) : Type 0 where
    pub instance : IfOk result (λ _. TakesOf n chain)
    pub fit : IfOk result (λ _. Fits means list chain)
    pub made : IfOk result (λ b. IsOnChain list chain → (tip_refusal means.scheme.form chain tip ≡ None) × means.is_merkleized b chain tip × (means.evictions b ≡ evicted))
    pub stale : IfErr result (λ e. e ≡ StaleBatch → TakesOf n chain → ¬ IsOnChain list chain)
    pub refused : IfErr result (λ e. e ≢ StaleBatch → IfSome (refusal_of e) (λ r.
        TakesOf n chain × Fits means list chain × (IsOnChain list chain → tip_refusal means.scheme.form chain tip ≡ Some r)))
