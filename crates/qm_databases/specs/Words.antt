-- What the clauses of the traits are said by.
use Rattle.std.specs.Prelude.{◌≡◌, ◌≢◌, ◌≤◌, ℕ, Bool, true, List, [], length, map, drop, Option, None, Some, IfSome, Result, IfOk, IfErr, IsErrOf, if◌then◌else◌}
use Rattle.qm_model.specs.Batches.{Chain, IsOnChain, commitment, fits}
use Rattle.qm_model.specs.Causes.{IsCause, Rose}
use Rattle.qm_model.specs.Forms.{Form, spelling}
use Rattle.qm_model.specs.Operations.{Bytes, Operation}
use Rattle.qm_model.specs.Refusals.{tip_refusal}
use Rattle.qm_model.specs.Step.{Kind, ordered, step, unordered}
use Rattle.qm_model.specs.StoreModel.{except_items}
use Rattle.qm_model.specs.Walk.{Rules}
use Rattle.qm_model.specs.Writes.{Write}
use Rattle.qm_base.specs.declared.error.Error.{Error}
use Rattle.qm_base.specs.declared.error.Error.TheVariants.{StaleBatch, Journal}
use Rattle.qm_base.specs.declared.error.JournalError.TheVariants as journal
use Rattle.qm_store.specs.declared.Store as store
use Rattle.qm_store.specs.declared.refusal.Given.TheVariants.{Database}
use Rattle.qm_store.specs.declared.refusal.Refusal.{Refusal}
use Rattle.qm_store.specs.Given.{store_given, store_after, Appended, AppendedPart, IsUnchanged}
use Rattle.qm_store.specs.Refusals.{refusal_of}

-- What a database and its batches mean: the store that it holds, the lists that it stands for, which instance it is, and whether an instance
-- makes lists of batches that began on another; the chains and writes that a batch is of, with its parent's chain, and the chains and tips
-- of a merkleized one; how lists are spelled, the root by which batches fit and the one that speaks for a list, and up to where a list may
-- be pruned.
pub record Means (X C B M : Type 0) : Type 1 where
  pub inside : X → C
  pub stands : X → List Operation → Type 0
  pub numbered : X → ℕ → Type 0
  pub takes : ℕ → ℕ → Bool
  pub is_batch : B → Chain → Chain → List Write → Type 0
  pub is_merkleized : M → Chain → List Operation → Type 0
  pub form : Form
  pub ops_root : List Operation → Bytes
  pub root : List Operation → Bytes
  pub boundary : List Operation → ℕ

-- the kind of databases of a form
abbrev pub kind_of : Form → Kind
kind_of form = if form.ordered then ordered else unordered

-- the list that writes make of a chain's base list, under a policy
abbrev pub tip_of : {P : Type 0} → Form → Rules P → Chain → List Write → P → Option Bytes → List Operation
tip_of form rules chain ws policy meta = step (kind_of form) rules chain.base ws policy meta

-- a value for a key
abbrev pub put_of : {K V : Type 0} → (K → Bytes) → (V → Bytes) → K × V → Write
put_of key value pair = record { key = key pair.0; value = Some (value pair.1) }

module _ {X C B M : Type 0} (means : Means X C B M) where
  -- at each list that the database stands for, and each chain and writes of the batch
  abbrev pub AtBatch : X → B → (List Operation → Chain → List Write → Type 0) → Type 0
  AtBatch db batch P = (list : List Operation) (chain above : Chain) (ws : List Write) → means.stands db list → means.is_batch batch chain above ws → P list chain ws

  -- at each list that the database stands for, and each chain and tip of the merkleized batch
  abbrev pub AtTip : X → M → (List Operation → Chain → List Operation → Type 0) → Type 0
  AtTip db batch P = (list : List Operation) (chain : Chain) (tip : List Operation) → means.stands db list → means.is_merkleized batch chain tip → P list chain tip

  -- a batch of this chain fits the list
  abbrev pub Fits : List Operation → Chain → Type 0
  Fits list chain = fits means.ops_root (commitment means.ops_root list) chain ≡ true

  -- the database makes lists of batches of this chain: whatever its instance number is, it takes the chain's
  abbrev pub Takes : X → Chain → Type 0
  Takes db chain = (n : ℕ) → means.numbered db n → means.takes n chain.instance ≡ true

  -- A call that read left what the database stands for, and what its store has; if it failed by that, its faults rose.
  pub record ReadsOnly (members : store.Ghosts C) (old new : X) {A : Type 0} (result : Result A Error) : Type 0 where
    pub same : (list : List Operation) → means.stands old list → means.stands new list
    pub numbered : (n : ℕ) → means.numbered old n → means.numbered new n
    pub store : IsUnchanged members (means.inside old) (means.inside new)
    pub faults : IsCause (members.faults (means.inside old)) (members.faults (means.inside new)) (IsErrOf result (Journal journal.Store))

  -- What comes of making this tip list of a batch of this chain, over this list. It is refused as stale if the batch's chain began on an
  -- instance whose batches the database does not take, then if the list is not on the chain; any other refusal is that of the tip list.
  pub record Makes (old : X) (list : List Operation) (chain : Chain) (tip : List Operation) (result : Result M Error) : Type 0 where
    pub instance : IfOk result (λ _. Takes old chain)
    pub fit : IfOk result (λ _. Fits list chain)
    pub made : IfOk result (λ b. IsOnChain list chain → (tip_refusal means.form chain tip ≡ None) × means.is_merkleized b chain tip)
    pub stale : IfErr result (λ e. e ≡ StaleBatch → (n : ℕ) → means.numbered old n → means.takes n chain.instance ≡ true → ¬ IsOnChain list chain)
    pub refused : IfErr result (λ e. e ≢ StaleBatch → IfSome (refusal_of e) (λ r.
        Takes old chain × Fits list chain × (IsOnChain list chain → tip_refusal means.form chain tip ≡ Some r)))

  -- What comes of taking a merkleized batch's tip list: the store has got what it lacked of it, or the batch is stale and the database as
  -- it was, or memory or the store failed, and a first part of that may be there.
  pub record Applies (members : store.Ghosts C) (old : X) (batch : M) (result : Result X (Refusal X C)) : Type 0 where
    pub fit : IfOk result (λ _. AtTip old batch (λ list chain tip. Fits list chain))
    pub applied : IfOk result (λ next. AtTip old batch (λ list chain tip. IsOnChain list chain → means.stands next tip))
    pub numbered : IfOk result (λ next. (n : ℕ) → means.numbered old n → means.numbered next n)
    pub grown : IfOk result (λ next. AtTip old batch (λ list chain tip. IsOnChain list chain
        → Appended members (means.inside old) (means.inside next) (map (spelling means.form) (drop (length list) tip))))
    pub stale : IfErr result (λ r. r.error ≡ StaleBatch → (r.given ≡ Database old) × AtTip old batch (λ list chain tip. ¬ IsOnChain list chain))
    pub refused : IfErr result (λ r. r.error ≢ StaleBatch → refusal_of r.error ≡ None)
    pub kept : IfErr result (λ r. AtTip old batch (λ list chain tip. AppendedPart members (means.inside old) (store_given means.inside r.given)
        (if fits means.ops_root (commitment means.ops_root list) chain then map (spelling means.form) (drop (length list) tip) else [])))
    pub back : IfErr result (λ r. (x : X) → r.given ≡ Database x → x ≡ old)
    pub start : members.start (store_after means.inside result) ≡ members.start (means.inside old)
    pub beside : except_items (members.told (store_after means.inside result)) ≡ except_items (members.told (means.inside old))
    pub cause : IfErr result (λ r. r.error ≡ Journal journal.Store → Rose (members.faults (means.inside old)) (members.faults (store_given means.inside r.given)))
    pub later : members.faults (means.inside old) ≤ members.faults (store_after means.inside result)
