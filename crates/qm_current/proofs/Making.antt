-- What a batch that was made tells of its list, and what a call leaves that made it.
use Rattle.std.proofs.Common.{◌≡◌, ◌≢◌, ◌∙◌, ◌<◌, ◌≤◌, ◌*◌, ◌&&◌, ℕ, suc, true, false, ⊎_elim, List, [], ◌∷◌, length, map, take, arith, ap, ap₂, sym, subst, refl}
use Rattle.std.specs.Prelude.{◌==◌}
use Rattle.std.proofs.lemmas.Bool.{eq-eqb}
use Rattle.std.proofs.lemmas.Bool.Decides.{eqb_tells}
use Rattle.qm_model.specs.Operations.{Operation}
use Rattle.qm_model.specs.Batches.{Chain, Commitment, IsOnChain}
use Rattle.qm_model.specs.Families.{Births, IsFamily, HasPeaks}
use Rattle.qm_bits.specs.Bitmaps.{Bitmap, bit_count}
use Rattle.qm_proofs.specs.Proofs.{Tells}
use Rattle.qm_proofs.proofs.Telling.{layers_tell}
use Rattle.qm_step.specs.Changes.{LeadTo}
use Rattle.qm_step.specs.Layers.{Layer, LeadThrough}
use Rattle.qm_store.specs.declared.Store as store
use Rattle.qm_store.specs.KeptTrees.{held_at, leaves_of}
use Rattle.qm_store.proofs.Kept.{kept-among}
use Rattle.qm_store.proofs.Leaves.{leaves-spelled}
use Rattle.qm_chain.specs.Bounds.{is_at}
use Rattle.qm_roots.specs.Kept.{IsTip}
use Rattle.qm_any.specs.Databases as anys
use Rattle.qm_any.specs.Layouts.{Hashing, Layout, spellings}
use Rattle.qm_any.proofs.Known.{contains-mapped}
use Rattle.qm_current.specs.Databases.{Begun, Database, IsJoined}
use Rattle.qm_current.specs.Making.{can_make}
use Rattle.qm_current.proofs.Applying.{list-among}

-- what holds of two things holds of those that are the same
pub two : {A B : Type 0} {a a' : A} {b b' : B} (P : A → B → Type 0) → a ≡ a' → b ≡ b' → P a b → P a' b'
two {a' = a'} {b = b} P is at p = subst (λ y. P a' y) at (subst (λ x. P x b) is p)

-- a batch has a step of its own
pub some-layer : (layers : List Layer) (n : ℕ) → take 1 (anys.bases layers) ≡ n ∷ [] → 1 ≤ length layers
some-layer [] n own = absurd (omega (arith, ap length own))
some-layer (layer ∷ layers) n own = omega arith

-- the newest step leads from the newest of the older lists
pub own-step : (layers : List Layer) (tip base : List Operation) (older : List (List Operation)) → LeadThrough layers tip (base ∷ older) → LeadTo (take 1 (map (λ (l : Layer). l.changes) layers)) base tip
own-step [] tip base older leads = absurd leads
own-step (layer ∷ layers) tip base older leads = (base, leads.0.changes, refl)

module _ {C D : Type 0} {members : store.Ghosts C} {layout : Layout D} (births : Births) (family : IsFamily layout.hashing.shape births) (peaked : HasPeaks layout.hashing.shape) (db : anys.Database C D) (batch : anys.Made D)
    (list tip : List Operation) (chain : Chain) (is : anys.IsDatabase members layout db list) (made : anys.IsMade layout.hashing batch chain tip) (on : IsOnChain list chain) where
  -- size, floor, root and nodes of a batch over a database are those of its list
  pub tip-told : IsTip layout.hashing.bytes layout.hashing.hash layout.hashing.shape layout.hashing.form batch.bounds.tip.size batch.bounds.inactivity_floor batch.bounds.tip.root (held_at layout.hashing.shape batch.tree db.log.tree) tip
  tip-told =
      let by = layout.hashing in
      let own = spellings by tip in
      let older = map (spellings by) (anys.bases_of chain) in
      let among = kept-among by.hash by.shape by.bytes batch.tree own older made.tree (spellings by list) (contains-mapped (spellings by) (tip ∷ anys.bases_of chain) list (list-among list tip chain made.linked on)) in
      record {
        count = ap (λ (c : Commitment). c.size) made.bounds.tip;
        floor_is = made.lowest;
        root_is = ap (λ (c : Commitment). c.root) made.bounds.tip;
        tells = subst (Tells by.shape by.bytes by.hash (held_at by.shape batch.tree db.log.tree)) (sym (leaves-spelled by.hash by.shape by.form 0 tip))
            (layers_tell by.shape births family peaked by.bytes by.hash db.log.tree batch.tree.layers (leaves_of by.hash by.shape (spellings by list)) (leaves_of by.hash by.shape own) made.tree.lists made.tree.history among is.lent.logged.tree);
      }

-- reads of the any database leave the numbers as they were
pub left-joined : {C D : Type 0} (members : store.Ghosts C) (hashing : Hashing D) (chunk : ℕ) (old : Database C D) (new : anys.Database C D) → anys.IsLeft members hashing old.any new → IsJoined chunk old → IsJoined chunk (record old { any = new })
left-joined members hashing chunk old new left joined =
    let rest = left.rest in
    let commitment : new.commitment ≡ old.any.commitment = ap (λ (d : anys.Database _ _). d.commitment) rest in
    let activity : new.activity ≡ old.any.activity = ap (λ (d : anys.Database _ _). d.activity) rest in
    let start : new.log.tree.start ≡ old.any.log.tree.start = left.read.start in
    record {
      size_is = joined.size_is ∙ sym (ap (λ (c : Commitment). c.size) commitment);
      bits = subst (λ a. bit_count chunk a ≡ new.commitment.size) (sym activity) (joined.bits ∙ sym (ap (λ (c : Commitment). c.size) commitment));
      forgotten = joined.forgotten ∙ sym (ap (λ (m : Bitmap). m.pruned) activity);
      over = subst (λ a. new.log.tree.start < suc a.pruned * (8 * chunk)) (sym activity) (subst (λ n. n < suc old.any.activity.pruned * (8 * chunk)) (sym start) joined.over);
    }

-- whether a batch can be made, by the instances
module _ {C D : Type 0} (db : Database C D) (batch : Begun D) where
  pub can-on : db.instance ≡ batch.instance → can_make db batch ≡ anys.is_on db.any.commitment batch.any
  can-on same = ap (λ b. b && anys.is_on db.any.commitment batch.any) (eq-eqb db.instance batch.instance same)

  pub can-not : db.instance ≢ batch.instance → can_make db batch ≡ false
  can-not other = ⊎_elim
      (λ (is : ((db.instance == batch.instance) ≡ true) × (db.instance ≡ batch.instance)). absurd (other is.1))
      (λ (is : ((db.instance == batch.instance) ≡ false) × (db.instance ≢ batch.instance)). ap (λ b. b && anys.is_on db.any.commitment batch.any) is.0)
      (eqb_tells db.instance batch.instance)

-- a batch that can be made at a state can be applied there
pub child-on_state : {D : Type 0} (parent : anys.Made D) (keep : ℕ) (batch : anys.Made D) (current : Commitment) → anys.IsChild parent keep batch
    → is_at current (anys.child_boundary keep parent.bounds) (anys.child_tips keep parent.bounds) ≡ true → is_at current batch.bounds.db batch.bounds.ancestors ≡ true
child-on_state parent keep batch current child on = ap₂ (is_at current) child.db child.ancestors ∙ on
