-- What comes of applying a batch, by what comes of applying it to the any database.
use Rattle.std.proofs.Common.{◌≡◌, ◌∙◌, ◌≤◌, ℕ, true, List, [], ◌∷◌, ◌++◌, map, Option, None, Some, IfSome, ap, sym, subst, refl, inl, inr}
use Rattle.std.specs.Prelude.{Contains, Result, Ok, Err, IfOk, IfErr, OnOk, if◌then◌else◌}
use Rattle.std.specs.Option.{option_map_or}
use Rattle.qm_model.specs.Causes.{Rose}
use Rattle.qm_model.specs.Operations.{Bytes, Operation}
use Rattle.qm_model.specs.Opening.{count_in}
use Rattle.qm_model.specs.StoreModel.{Stored, except_items, metadata_in}
use Rattle.qm_model.specs.Forms.{Form}
use Rattle.qm_model.specs.Batches.{Commitment, Chain, IsOnChain}
use Rattle.qm_model.proofs.Chains.{Contains-more}
use Rattle.qm_base.specs.declared.error.Error.TheVariants as errors
use Rattle.qm_store.specs.declared.Store as store
use Rattle.qm_store.specs.declared.refusal.Given.{Given}
use Rattle.qm_store.specs.declared.refusal.Given.TheVariants as given
use Rattle.qm_store.specs.declared.refusal.Refusal.{Refusal}
use Rattle.qm_store.specs.Given.{AppendedPart, store_given, store_after}
use Rattle.qm_store.proofs.Told.{appended-part}
use Rattle.qm_chain.specs.Bounds.{is_at}
use Rattle.qm_roots.specs.Kept.{Kept, sizes_of}
use Rattle.qm_any.specs.Databases as anys
use Rattle.qm_any.specs.Applying as anys_applying
use Rattle.qm_any.specs.Applying.{Appends, IsUnapplied, KeepsRest, can_apply, lacked}
use Rattle.qm_any.proofs.Agreed.{fits-among}
use Rattle.qm_any.proofs.Known.{on_chain-base}
use Rattle.qm_any.proofs.Unapplied.{memory-cause}
use Rattle.qm_current.specs.Applying.{any_answer, any_given, store_in}
use Rattle.qm_current.specs.Databases.{Database, AreSized}

-- what is known anyway
pub on-ok : {X E : Type 0} {P : Type 0} (r : Result X E) → P → OnOk r P
on-ok (Ok x) p = p
on-ok (Err e) p = tt

-- metadata counts what it counted if it is what it was
pub counted-beside : (o new : Option Stored) (name after : Bytes) (count now : ℕ) → except_items new ≡ except_items o → after ≡ name → now ≡ count → IfSome o (λ s. count_in (metadata_in s.metadata name) ≡ count)
    → IfSome new (λ s. count_in (metadata_in s.metadata after) ≡ now)
counted-beside None None name after count now same named is counted = tt
counted-beside (Some s) None name after count now same named is counted = tt
counted-beside None (Some t) name after count now same named is counted = absurd (cc same)
counted-beside (Some s) (Some t) name after count now same named is counted =
    let metadata : t.metadata ≡ s.metadata = ap (λ o. option_map_or (λ (x : Stored). x.metadata) o []) same in
    ap (λ ms. count_in (metadata_in ms after)) metadata ∙ ap (λ n. count_in (metadata_in s.metadata n)) named ∙ counted ∙ sym is

-- a state at which a batch can be applied is as long as one of the lists that it leads through
pub sized-among : {D : Type 0} (batch : anys.Made D) (kept : Kept D) (current : Commitment) → anys.AreAgreed batch → AreSized batch kept → is_at current batch.bounds.db batch.bounds.ancestors ≡ true → Contains (sizes_of kept) current.size
sized-among batch kept current agreed sized fits =
    let older = map (λ (k : Commitment). k.size) (batch.bounds.ancestors ++ batch.bounds.db ∷ []) in
    let among = subst (λ ns. Contains ns current.size) agreed.starts (fits-among batch agreed current fits) in
    subst (λ ns. Contains ns current.size) (sym sized) (Contains-more older batch.bounds.tip.size current.size among)

-- a list on a chain is one that the batch leads through
pub list-among : (list tip : List Operation) (chain : Chain) → anys.AreLinked chain.base chain.kept → IsOnChain list chain → Contains (tip ∷ anys.bases_of chain) list
list-among list tip chain linked on = Contains-more (anys.bases_of chain) tip list (on_chain-base list chain linked on)

-- the store that is given back is that of the any database
pub store-given : {C D : Type 0} (g : Given (Database C D) C) → store_given store_in g ≡ store_given anys_applying.store_in (any_given g)
store-given (given.Database db) = refl
store-given (given.Store s) = refl

module _ {C D : Type 0} (members : store.Ghosts C) (old : anys.Database C D) (batch : anys.Made D) (next : anys.Database C D)
    (r : Result (Database C D) (Refusal (Database C D) C)) (taken : IfOk r (λ db. db.any ≡ next)) (refused : IfErr r (λ e. (e.given ≡ given.Store next.log.store) × (e.error ≡ errors.Memory))) where
  -- the any database took the batch, and what follows may want memory
  abbrev Answer : Type 0
  Answer = Result (Database C D) (Refusal (Database C D) C)

  pub joined-appends : (form : Form) (list : List Operation) → can_apply old batch ≡ true → Appends members old batch form list (Ok next) → Appends members old batch form list (any_answer r)
  joined-appends form list fits appends = at r taken refused
    where
      at : (r : Answer) → IfOk r (λ db. db.any ≡ next) → IfErr r (λ e. (e.given ≡ given.Store next.log.store) × (e.error ≡ errors.Memory)) → Appends members old batch form list (any_answer r)
      at (Ok db) is gone = subst (λ x. Appends members old batch form list (Ok x)) (sym is) appends
      at (Err e) is gone =
          let more = lacked form old list in
          record {
            grown = tt;
            part = subst (λ g. AppendedPart members old.log.store (store_given anys_applying.store_in (any_given g)) (if can_apply old batch then more else [])) (sym gone.0)
                (subst (λ b. AppendedPart members old.log.store next.log.store (if b then more else [])) (sym fits)
                (appended-part members old.log.store next.log.store more appends.grown));
          }

  pub joined-rest : KeepsRest members old.log.store next.log.store → KeepsRest members old.log.store (store_after store_in r)
  joined-rest rest = at r taken refused
    where
      at : (r : Answer) → IfOk r (λ db. db.any ≡ next) → IfErr r (λ e. (e.given ≡ given.Store next.log.store) × (e.error ≡ errors.Memory)) → KeepsRest members old.log.store (store_after store_in r)
      at (Ok db) is gone = subst (λ (x : anys.Database C D). KeepsRest members old.log.store x.log.store) (sym is) rest
      at (Err e) is gone = subst (λ g. KeepsRest members old.log.store (store_given store_in g)) (sym gone.0) rest

  pub joined-unapplied : KeepsRest members old.log.store next.log.store → Rose (members.calls old.log.store) (members.calls next.log.store) → IfErr (any_answer r) (IsUnapplied members old batch)
  joined-unapplied rest counted = at r taken refused
    where
      at : (r : Answer) → IfOk r (λ db. db.any ≡ next) → IfErr r (λ e. (e.given ≡ given.Store next.log.store) × (e.error ≡ errors.Memory)) → IfErr (any_answer r) (IsUnapplied members old batch)
      at (Ok db) is gone = tt
      at (Err e) is gone =
          let store_is = ap any_given gone.0 in
          let memory = gone.1 in
          let after = ap (store_given anys_applying.store_in) store_is in
          record {
            stale = λ stale. absurd (cc (memory, stale));
            first = λ stale. inr memory;
            back = λ x back. absurd (cc (store_is, back));
            causes = inr (inl memory);
            called = λ s given. let same : next.log.store ≡ s = cc (store_is, given) in subst (λ t. Rose (members.calls old.log.store) (members.calls t)) same counted;
            cause = memory-cause (members.faults old.log.store) (members.faults (store_given anys_applying.store_in (any_given e.given))) e.error
                (subst (λ s. members.faults old.log.store ≤ members.faults s) (sym after) rest.later) memory;
          }

  pub joined-back : (self : Database C D) → IfErr r (λ e. (x : Database C D) → e.given ≡ given.Database x → x ≡ self)
  joined-back self = at r taken refused
    where
      at : (r : Answer) → IfOk r (λ db. db.any ≡ next) → IfErr r (λ e. (e.given ≡ given.Store next.log.store) × (e.error ≡ errors.Memory)) → IfErr r (λ e. (x : Database C D) → e.given ≡ given.Database x → x ≡ self)
      at (Ok db) is gone = tt
      at (Err e) is gone = λ x back. let store_is = gone.0 in absurd (cc (store_is, back))
