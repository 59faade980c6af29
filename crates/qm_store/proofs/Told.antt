-- What stores that have grown tell.
use Rattle.std.proofs.Common.{◌≡◌, ◌≤◌, List, [], ◌∷◌, ◌++◌, take, length, ap, sym, subst, append-nil, length-append, arith, refl, Option, Some, None}
use Rattle.std.proofs.Math.Seq.{take-length}
use Rattle.qm_model.specs.Operations.{Bytes}
use Rattle.qm_model.specs.StoreModel.{Stored, end_of, rest_of, found_by, appended, IsImage, HasAppended, Turns, Becomes, Fails, Grows, without_items, except_items}
use Rattle.qm_model.proofs.Stores.{fails-unmoved, found-image, image-grown}
use Rattle.qm_base.specs.declared.error.Error.{Error}
use Rattle.qm_store.specs.declared.Store as store
use Rattle.qm_store.specs.declared.log.LogGiven.{LogGiven}
use Rattle.qm_store.specs.declared.log.LogGiven.TheVariants as variants
use Rattle.qm_store.specs.Log.{Log, IsKept, HasGrown, HasGrownPart, IsRefused, store_given}
use Rattle.qm_store.specs.Given.{Appended, AppendedPart, IsUnchanged}

-- what appends leave as it is
beside-grown : (old new : Option Stored) (more : List Bytes) → Becomes old new (appended more) → except_items new ≡ except_items old
beside-grown None new more is = ap except_items is
beside-grown (Some s) None more is = absurd is
beside-grown (Some s) (Some t) more is = ap (λ x. Some (without_items x)) is

beside-part : (old new : Option Stored) (more : List Bytes) → Grows old new more → except_items new ≡ except_items old
beside-part None new more is = ap except_items is
beside-part (Some s) None more is = absurd is
beside-part (Some s) (Some t) more is = ap (λ x. Some (without_items x)) is.now.reads

-- all of what is due is a first part of it
part-whole : (old new : Option Stored) (more : List Bytes) → Becomes old new (appended more) → Grows old new more
part-whole None new more made = made
part-whole (Some s) None more made = absurd made
part-whole (Some s) (Some t) more made = subst (λ u. Fails (HasAppended more) (λ s. IsImage (appended more s)) s u) (sym made) (record {
  now = record {
    count = length more;
    reads = ap {B = Stored} (λ xs. record s { items = s.items ++ xs; past = found_by s }) (sym (take-length more));
    least_stable = omega arith;
    within = λ inside. omega (arith, inside, length-append s.items more);
  };
  notes = rest_of s ∷ [];
  past = refl;
  each = λ image may. image-grown more s (record image { ends = s.ends }) (found-image s image may);
})

-- as much is stable as before of what has grown, and of what is as it was
still-grown : (old new : Option Stored) (more : List Bytes) → Becomes old new (appended more) → Turns old new (λ s t. t.stable ≡ s.stable)
still-grown None new more made = made
still-grown (Some s) None more made = absurd made
still-grown (Some s) (Some t) more made = ap (λ (x : Stored). x.stable) made

still-self : (o : Option Stored) → Turns o o (λ s t. t.stable ≡ s.stable)
still-self None = refl
still-self (Some s) = refl

-- what is told has grown by none of these
part-none : (o : Option Stored) (more : List Bytes) → Grows o o more
part-none None more = refl
part-none (Some s) more = fails-unmoved (HasAppended more) (λ s. IsImage (appended more s)) s
    (record { count = 0; reads = ap {B = Stored} (λ xs. record s { items = xs }) (sym (append-nil s.items)); least_stable = omega arith; within = λ inside. inside })

module _ {C : Type 0} (members : store.Ghosts C) (old new : C) where
  pub grown-appended : (more : List Bytes) → HasGrown members old new more → Appended members old new more
  grown-appended more is = record { start = is.start; told = is.told; called = is.called }

  pub grown-appended-part : (more : List Bytes) → HasGrownPart members old new more → AppendedPart members old new more
  grown-appended-part more is = record { start = is.start; told = is.told; still = is.still }

  -- what has grown has grown by a first part
  pub appended-part : (more : List Bytes) → Appended members old new more → AppendedPart members old new more
  appended-part more is = record { start = is.start; told = part-whole (members.told old) (members.told new) more is.told; still = λ none. still-grown (members.told old) (members.told new) more is.told }

  -- a store that is kept is unchanged
  pub kept-unchanged : IsKept members old new → IsUnchanged members old new
  kept-unchanged is = record { start = is.start; told = is.told }

  -- and one that is unchanged has grown by a first part of any items: none of them
  pub unchanged-appended-part : (more : List Bytes) → IsUnchanged members old new → AppendedPart members old new more
  unchanged-appended-part more is = record { start = is.start; told = subst (λ o. Grows (members.told old) o more) (sym is.told) (part-none (members.told old) more); still = λ none. subst (λ o. Turns (members.told old) o (λ s t. t.stable ≡ s.stable)) (sym is.told) (still-self (members.told old)) }

  -- what a store tells beside its items stays if these grow
  pub appended-beside : (more : List Bytes) → Appended members old new more → except_items (members.told new) ≡ except_items (members.told old)
  appended-beside more is = beside-grown (members.told old) (members.told new) more is.told

  pub part-beside : (more : List Bytes) → AppendedPart members old new more → except_items (members.told new) ≡ except_items (members.told old)
  part-beside more is = beside-part (members.told old) (members.told new) more is.told

-- a log that refused these gives back a store with a first part of them
pub refused-appended-part : {C D : Type 0} (members : store.Ghosts C) (old : Log C D) (more : List Bytes) (given : LogGiven (Log C D) C) (error : Error) →
    IsRefused members (λ a b. HasGrownPart members a b more) old given error → AppendedPart members old.store (store_given given) more
refused-appended-part members old more (variants.Log log) error is =
    let same : log.store ≡ old.store = ap (λ l. l.store) (is.back log refl).0 in
    unchanged-appended-part members old.store log.store more (record { start = ap members.start same; told = ap members.told same })
refused-appended-part members old more (variants.Store s) error is = grown-appended-part members old.store s more (is.left s refl)
