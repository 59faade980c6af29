-- Why the list of a batch was not made, and how the parts of one that was agree.
use Rattle.std.proofs.Common.{◌≡◌, ◌≢◌, ◌∙◌, ◌⊎◌, ℕ, suc, ◌+◌, ◌≤◌, arith, ap, ap₂, sym, subst, refl, Bool, true, false, List, ◌∷◌, ◌++◌, length, map, Option, None, inl, inr}
use Rattle.std.specs.Prelude.{All, Contains}
use Rattle.std.proofs.lemmas.List.{length-map}
use Rattle.std.proofs.lemmas.List.Elements.{All-contains}
use Rattle.qm_model.specs.Forms.{Form, spelling}
use Rattle.qm_model.specs.Operations.{Bytes, Operation}
use Rattle.qm_model.specs.Refusals.{too_long}
use Rattle.qm_model.specs.Batches.{Commitment, Chain, IsOnChain}
use Rattle.qm_model.specs.Live.{floor}
use Rattle.qm_model.specs.Walk.{Rules}
use Rattle.qm_model.specs.Writes.{Write}
use Rattle.qm_base.specs.declared.error.Error.{Error}
use Rattle.qm_base.specs.declared.error.Error.TheVariants as errors
use Rattle.qm_base.specs.declared.error.JournalError.TheVariants as journal
use Rattle.qm_merkle.specs.Batches.{lists_since, stops}
use Rattle.qm_chain.specs.Bounds.{is_at}
use Rattle.qm_store.specs.declared.Store as store
use Rattle.qm_store.specs.KeptTrees.{KeptTree, IsKeptTree}
use Rattle.qm_store.specs.Log.{Log}
use Rattle.qm_store.specs.Reads.{IsReadError}
use Rattle.qm_step.specs.Bases.{Base, IsBase}
use Rattle.qm_step.specs.Views.{Plan, IsPlan, stepped}
use Rattle.qm_any.specs.Databases.{AreLinked, Begun, Made, IsBegun, IsChild, IsMade, base_of, bases_of, child_boundary, child_made, child_tips, is_on, kept_by}
use Rattle.qm_any.specs.Layouts.{Hashing, list_root, spellings}
use Rattle.qm_any.specs.Making.{IsUnmade}
use Rattle.qm_any.specs.Tips.{IsRefused, IsSpelled, IsTaken, IsTooLong}
use Rattle.qm_any.proofs.Known.{child-base, child-linked, on_chain-base}
use Rattle.qm_any.proofs.Making.{child-among, child-is_made, child-rises, plan-behind, plan-length, plan-refused, stepped-good, stepped-metadata, stepped-of, stepped-rises, stepped-ring, too_long-cause, too_long-fresh, too_long-kept, too_long-size}
use Rattle.qm_any.proofs.Reasons.{read-cause, read-fresh}

-- what is seen of a database whose log is the same
pub same-log : {L X : Type 0} (now : X) (view : L → X) (new old : L) → new ≡ old → view old ≡ now → view new ≡ now
same-log now view new old same is = ap view same ∙ is

-- whether a batch is at a state, by what it was begun on
pub on-same : {D : Type 0} (batch : Begun D) (parent : Made D) (keep : ℕ) (at current : Commitment) → parent ≡ batch.parent → keep ≡ batch.keep → at ≡ current
    → is_at at (child_boundary keep parent.bounds) (child_tips keep parent.bounds) ≡ is_on current batch
on-same batch parent keep at current above few same =
    ap (λ k. is_at k (child_boundary keep parent.bounds) (child_tips keep parent.bounds)) same
    ∙ ap₂ (λ (n : ℕ) (m : Made _). is_at current (child_boundary n m.bounds) (child_tips n m.bounds)) few above

-- a batch of a plan on a parent is its child
pub child-of : {D : Type 0} (batch : Begun D) (parent : Made D) (keep : ℕ) (plan : Plan) (tree : KeptTree D) (root : Bytes) (meta : Option Bytes) (made : Made D) → parent ≡ batch.parent → keep ≡ batch.keep
    → made ≡ child_made parent keep plan tree root meta → All (λ n. made.bounds.db.size ≤ n) (stops made.tree.leaves made.tree.layers) → IsChild batch.parent batch.keep made
child-of batch parent keep plan tree root meta made above few is high =
    subst (λ p. IsChild p batch.keep made) above (subst (λ k. IsChild parent k made) few
    (record { base = ap (λ m. m.bounds.base) is; db = ap (λ m. m.bounds.db) is; ancestors = ap (λ m. m.bounds.ancestors) is; above = high }))

-- what a test at these states says of a child
pub tested-at : {D : Type 0} (parent : Made D) (keep : ℕ) (current db : Commitment) (tips : List Commitment) (t : Bool) → db ≡ child_boundary keep parent.bounds → tips ≡ child_tips keep parent.bounds → is_at current db tips ≡ t
    → is_at current (child_boundary keep parent.bounds) (child_tips keep parent.bounds) ≡ t
tested-at parent keep current db tips t below kept tested = sym (ap₂ (is_at current) below kept) ∙ tested

-- what is known of the list that it was begun on
pub child-found : {D : Type 0} {hashing : Hashing D} (batch : Begun D) (at : Made D) (known : Base) (list : List Operation) (chain above : Chain) → known ≡ base_of at → at ≡ batch.parent
    → IsBegun hashing batch chain above → IsOnChain list chain → IsBase known list chain.base
child-found batch at known list chain above is same begun on =
    subst (λ b. IsBase b list chain.base) (sym (is ∙ ap base_of same)) (child-base batch.parent batch.keep list chain above begun.parent begun.kept on)

-- a list on its chain has its floor at or before that of the list that it was begun on
pub begun-low : {D : Type 0} {hashing : Hashing D} (batch : Begun D) (list : List Operation) (chain above : Chain) → IsBegun hashing batch chain above → IsOnChain list chain → floor list ≤ batch.parent.bounds.inactivity_floor
begun-low batch list chain above begun on =
    let linked = subst (AreLinked chain.base) (sym begun.kept) (child-linked batch.keep above chain.base begun.parent.linked) in
    let low : floor list ≤ floor chain.base = All-contains (λ (l : List Operation). floor l ≤ floor chain.base) (bases_of chain) list (child-rises batch.parent batch.keep chain above begun.parent begun.kept) (on_chain-base list chain linked on) in
    omega (arith, low, begun.parent.lowest)

-- a list on a child's chain is one that its parent's tree leads through
pub child-on : {D : Type 0} {hashing : Hashing D} (parent : Made D) (keep : ℕ) (chain above : Chain) → keep ≤ suc (length parent.bounds.ancestors) → IsMade hashing parent above chain.base → chain.kept ≡ kept_by keep above chain.base
    → (list : List Operation) → IsOnChain list chain → Contains (chain.base ∷ bases_of above) list
child-on parent keep chain above few made kept list on =
    child-among parent keep chain above few made kept list (on_chain-base list chain (subst (AreLinked chain.base) (sym kept) (child-linked keep above chain.base made.linked)) on)

module _ {C D : Type 0} (members : store.Ghosts C) (on : Bool) (old new : Log C D) (e : Error) where
  -- one of a batch that is not
  pub unplaced : (e ≡ errors.Memory) ⊎ ((e ≡ errors.StaleBatch) × (on ≡ false)) → IsUnmade members on old new e
  unplaced (inl memory) = record {
    stale = λ stale. absurd (cc (memory, stale));
    order = λ other fresh. absurd (other memory);
    causes = inr (inl (inl memory));
    cause = λ fault. absurd (cc (memory, fault));
  }
  unplaced (inr (stale, off)) = record {
    stale = λ same. off;
    order = λ other fresh. absurd (fresh stale);
    causes = inl stale;
    cause = λ fault. absurd (cc (stale, fault));
  }

  -- want of memory
  pub unsealed : on ≡ true → e ≡ errors.Memory → IsUnmade members on old new e
  unsealed is memory = record {
    stale = λ stale. absurd (cc (memory, stale));
    order = λ other fresh. is;
    causes = inr (inl (inl memory));
    cause = λ fault. absurd (cc (memory, fault));
  }

  -- one of a read
  pub unread : on ≡ true → IsReadError members old new e → IsUnmade members on old new e
  unread is failed = record {
    stale = λ stale. absurd (read-fresh members old new e failed stale);
    order = λ other fresh. is;
    causes = inr (inl failed);
    cause = read-cause members old new e failed;
  }

  -- one of the spellings
  pub unspelled : (spelt : List Bytes) (size : ℕ) → on ≡ true → (e ≡ errors.Memory) ⊎ IsTooLong spelt size e → IsUnmade members on old new e
  unspelled spelt size is (inl memory) = unsealed is memory
  unspelled spelt size is (inr long) = record {
    stale = λ stale. absurd (too_long-fresh spelt size e long stale);
    order = λ other fresh. is;
    causes = inr (inr (too_long-size spelt size e long));
    cause = too_long-cause spelt size e long;
  }

-- neither names an item
pub unplaced-kept : (on : Bool) (e : Error) → (e ≡ errors.Memory) ⊎ ((e ≡ errors.StaleBatch) × (on ≡ false)) → (n : ℕ) → e ≢ errors.Journal (journal.ItemPruned n)
unplaced-kept on e (inl memory) n pruned = absurd (cc (memory, pruned))
unplaced-kept on e (inr (stale, off)) n pruned = absurd (cc (stale, pruned))

pub unspelled-kept : (spelt : List Bytes) (size : ℕ) (e : Error) → (e ≡ errors.Memory) ⊎ IsTooLong spelt size e → (n : ℕ) → e ≢ errors.Journal (journal.ItemPruned n)
unspelled-kept spelt size e (inl memory) n pruned = absurd (cc (memory, pruned))
unspelled-kept spelt size e (inr long) n pruned = too_long-kept spelt size e long n pruned

-- the refusal of a list that has no place
pub unplaced-refused : (form : Form) (base tip : List Operation) (on : Bool) (e : Error) → (e ≡ errors.Memory) ⊎ ((e ≡ errors.StaleBatch) × (on ≡ false)) → IsRefused form base tip e
unplaced-refused form base tip on e (inl memory) = inl memory
unplaced-refused form base tip on e (inr (stale, off)) = inr (inl stale)

-- and of one whose spellings are refused
pub unspelled-refused : (form : Form) (plan : Plan) (base tip : List Operation) (size : ℕ) (e : Error) {evicted : List (Bytes × Bytes)} → IsPlan plan base tip evicted → size ≡ length base + length plan.operations
    → (e ≡ errors.Memory) ⊎ IsTooLong (map (spelling form) plan.operations) size e → IsRefused form base tip e
unspelled-refused form plan base tip size e is count (inl memory) = inl memory
unspelled-refused form plan base tip size e is count (inr long) = inr (inr (plan-refused form plan base tip (map (spelling form) plan.operations) size e is refl count long))

-- the list of a plan is taken if its spellings are
pub plan-taken : (form : Form) (plan : Plan) (base tip : List Operation) (size : ℕ) {evicted : List (Bytes × Bytes)} → IsPlan plan base tip evicted → IsSpelled form plan.operations size → size ≡ length base + length plan.operations → IsTaken form base tip
plan-taken form plan base tip size is spelt count =
    let few = spelt.few in (
      subst (λ ops. too_long (map (spelling form) ops) ≡ None) is.operations spelt.short,
      omega (arith, few, count, plan-length plan base tip is),
    )

-- the leaves of a parent's tree are as many as its list is long
pub made-leaves : {D : Type 0} {hashing : Hashing D} (parent : Made D) (chain : Chain) (tip : List Operation) → IsMade hashing parent chain tip → parent.tree.leaves ≡ length tip
made-leaves {D} {hashing} parent chain tip made = (made.tree).leaves ∙ length-map tip (spelling hashing.form)

-- what a step makes of the list of a parent, by its plan, its tree and its root, is of the child's chain
pub child-stepped : {D P : Type 0} {hashing : Hashing D} (parent : Made D) (keep : ℕ) (chain above : Chain)
    → keep ≤ suc (length parent.bounds.ancestors) → IsMade hashing parent above chain.base → chain.kept ≡ kept_by keep above chain.base
    → (rules : Rules P) (policy : P) (ws : List Write) (meta : Option Bytes) (plan : Plan) (tree : KeptTree D) (root : Bytes) (low : ℕ) (shared : Option Bytes) {evicted : List (Bytes × Bytes)}
    → IsPlan plan chain.base (stepped hashing.form rules chain.base ws policy meta) evicted → IsSpelled hashing.form plan.operations tree.leaves
    → IsKeptTree hashing.bytes hashing.hash hashing.shape tree (spellings hashing (chain.base ++ plan.operations)) (lists_since low (map (spellings hashing) (chain.base ∷ bases_of above)))
    → low ≡ (child_boundary keep parent.bounds).size
    → (plan.floor ≡ floor (chain.base ++ plan.operations) → root ≡ list_root hashing (chain.base ++ plan.operations)) → shared ≡ meta
    → IsMade hashing (child_made parent keep plan tree root shared) chain (stepped hashing.form rules chain.base ws policy meta)
child-stepped {D} {P} {hashing} parent keep chain above few made kept rules policy ws meta plan tree root low shared is spelt grown lowest rooted same =
    let form = hashing.form in
    let base = chain.base in
    let tip = stepped form rules base ws policy meta in
    let behind = plan-behind plan base tip is in
    let older : ℕ → List (List Bytes) = λ n. lists_since n (map (spellings hashing) (base ∷ bases_of above)) in
    let stands : IsKeptTree hashing.bytes hashing.hash hashing.shape tree (spellings hashing tip) (older (child_boundary keep parent.bounds).size) =
    subst (λ n. IsKeptTree hashing.bytes hashing.hash hashing.shape tree (spellings hashing tip) (older n)) lowest
    (subst (λ l. IsKeptTree hashing.bytes hashing.hash hashing.shape tree (spellings hashing l) (older low)) (sym behind) grown) in
    let room = spelt.few in
    let size : tree.leaves ≡ length tip = stands.leaves ∙ length-map tip (spelling form) in
    let all = stepped-of form rules base ws policy meta plan.operations made.of (is.changes).begins is.operations spelt.of (omega (arith, room, size)) in
    child-is_made parent keep chain above few made kept plan tree root shared tip is stands
    (rooted (is.floor ∙ ap floor behind) ∙ ap (list_root hashing) (sym behind))
    (same ∙ stepped-metadata form rules base ws policy meta) all
    (stepped-good form rules base ws policy meta made.good) (stepped-rises form rules base ws policy meta made.good) (stepped-ring form rules base ws policy meta made.ring)
