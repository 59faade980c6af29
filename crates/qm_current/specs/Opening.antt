-- What comes of opening the list that a store keeps as a current database.
use Rattle.std.specs.Prelude.{◌≡◌, ◌≢◌, ◌⊎◌, ◌*◌, ◌/◌, ◌^◌, ◌≤◌, ◌==◌, ℕ, nat_lt, Bool, true, false, List, map, Option, None, Some, IfSome, IsSome, option_map, Result, IfOk, IfErr, OnOk}
use Rattle.std.specs.Option.{option_map_or, option_or}
use Rattle.qm_model.specs.Causes.{Rose}
use Rattle.qm_model.specs.Forms.{Form}
use Rattle.qm_model.specs.Grafted.{pair_absorption_threshold}
use Rattle.qm_model.specs.Opening as model
use Rattle.qm_model.specs.Opening.{count_in, found, metadata_refusal, opening_refusal, pins_found, when}
use Rattle.qm_model.specs.Operations.{Bytes, Operation}
use Rattle.qm_model.specs.Refused as refusals
use Rattle.qm_model.specs.Refused.{Refused, InvalidInitializationBound}
use Rattle.qm_model.specs.Schemes.{layout_of}
use Rattle.qm_model.specs.StoreModel.{Entry, Stored, Turns, metadata_in}
use Rattle.qm_model.specs.Taken.{IsTaken, selected_size, taken, LeavesOpening}
use Rattle.qm_model.specs.Trees.{Shape}
use Rattle.qm_base.specs.declared.error.Corrupt.TheVariants.{PrunedPastBits}
use Rattle.qm_base.specs.declared.error.Error.{Error}
use Rattle.qm_base.specs.declared.error.Error.TheVariants.{DataCorrupted, HistoricalFloorPruned, Journal}
use Rattle.qm_base.specs.declared.error.JournalError.TheVariants as journal
use Rattle.qm_graft.specs.Grafting.{grafting}
use Rattle.qm_store.specs.declared.Store as store
use Rattle.qm_store.specs.declared.refusal.Given.TheVariants as given
use Rattle.qm_store.specs.declared.refusal.Refusal.{Refusal}
use Rattle.qm_store.specs.Given.{store_given, store_after, IsUnchanged}
use Rattle.qm_store.specs.Refusals.{IsDue}
use Rattle.qm_offer.specs.Crashing.{FailsOpening}
use Rattle.qm_open.specs.Unopened as any
use Rattle.qm_open.specs.Unopened.{IsFailure}
use Rattle.qm_any.specs.Layouts.{Layout}
use Rattle.qm_any.specs.Opening.{pruned_view}
use Rattle.qm_current.specs.Applying.{store_in}
use Rattle.qm_current.specs.Databases.{Database, IsCounted, IsDatabase}
use Rattle.qm_current.specs.Offered.{scheme_of}

-- how a database lies in a store that counts chunks of so many bytes in metadata of this name
abbrev pub lies : Form → Shape → ℕ → ℕ → Bytes → model.Layout
lies form shape digest_size chunk name = record { form = form; shape = shape; digest_size = digest_size; chunks = Some (record { height = grafting chunk; name = name }) }

-- why a store is not opened up to a bound, if it is not
abbrev pub refusal_up_to : model.Layout → Option ℕ → Stored → Option Refused
refusal_up_to layout bound s = opening_refusal layout (found layout s) bound

-- metadata of this name can be read, and counts so many pruned chunks of a list, with these pins
pub record Counts (layout : model.Layout) (name : Bytes) (s : Stored) (count : ℕ) (pins : List Bytes) : Type 0 where
  pub readable : metadata_refusal layout (metadata_in s.metadata name) ≡ None
  pub count_is : count ≡ count_in (metadata_in s.metadata name)
  pub pins_are : pins_found layout.shape (metadata_in s.metadata name) count ≡ map (λ pin. Some pin) pins

-- a store starts past the chunk of this number of bytes after the pruned ones
abbrev pub is_past : ℕ → ℕ → ℕ → Bool
is_past chunk start pruned = nat_lt pruned (start / 2 ^ grafting chunk)

-- a list of this size is not what the pruned chunks wait for, if they wait
abbrev pub is_early : Option ℕ → ℕ → Bool
is_early threshold size = option_map_or (λ least. nat_lt size least) threshold false

-- no grafted tree is made over a list that starts and ends there, of which so many chunks are pruned
abbrev pub IsUnfit : Error → ℕ → Option ℕ → ℕ → ℕ → ℕ → Type 0
IsUnfit e chunk threshold start size pruned = ((e ≡ DataCorrupted PrunedPastBits) × (is_past chunk start pruned ≡ true)) ⊎ ((e ≡ HistoricalFloorPruned size) × (is_early threshold size ≡ true))

-- why metadata is not read, whatever the store tells: the bound is 0, or of some entries that it may have
abbrev pub IsUncounted : model.Layout → Option ℕ → Error → Type 0
IsUncounted layout bound e =
    (entries : List Entry) × IsFailure e (option_or (when (option_map_or (λ n. n == 0) bound false) InvalidInitializationBound) (option_map refusals.DataCorrupted (metadata_refusal layout entries)))

-- Why a store of this start and end is not opened up to a bound, whatever it tells: its metadata is not read; or, for some count of pruned
-- chunks, it is not opened as an any database's, or no grafted tree is made over the list.
abbrev pub IsUnopened : model.Layout → ℕ → Option ℕ → ℕ → ℕ → Error → Type 0
IsUnopened layout chunk bound start end e =
    IsUncounted layout bound e
    ⊎ ((count : ℕ) × (count * 2 ^ grafting chunk ≤ 2 ^ 62)
    × (any.IsUnopened layout.form (Some (pruned_view chunk (count, pair_absorption_threshold layout.shape (grafting chunk) count))) bound start end e
    ⊎ ((size : ℕ) × IsUnfit e chunk (pair_absorption_threshold layout.shape (grafting chunk) count) start size count)))

module _ {C D : Type 0} (members : store.Ghosts C) (layout : Layout D) (digest_size : ℕ) (name : Bytes) where
  -- What comes of opening a store up to a bound, as a database of this instance number, whose chunks metadata of this name counts: it stands
  -- for the list that is taken up, with as many chunks of it pruned as that tells, and what the store has after that list is gone; or it is
  -- refused as the definition says, with the store as it was; or memory or the store failed. Of a store that tells no items its start and
  -- its faults are told.
  pub record Opens (bound : Option ℕ) (number : ℕ) (old : C) (result : Result (Database C D) (Refusal (Database C D) C)) : Type 0 where
    pub opened : IfSome (members.told old) (λ s. (list : List Operation) → IsTaken (scheme_of digest_size layout name) s (selected_size (scheme_of digest_size layout name) bound s) list → IfOk result (λ x. IsDatabase members layout x list))
    pub counted : IfOk result (IsCounted members)
    pub named : IfOk result (λ x. x.name ≡ name)
    pub numbered : IfOk result (λ x. x.instance ≡ number)
    pub offered : IfSome (members.told old) (λ s. OnOk result (refusal_up_to (layout_of (scheme_of digest_size layout name)) bound s ≡ None))
    pub became : IfOk result (λ x. Turns (members.told old) (members.told (store_in x)) (λ s new. new ≡ taken (scheme_of digest_size layout name) (selected_size (scheme_of digest_size layout name) bound s) s))
    pub refused : IfSome (members.told old) (λ s. IfErr result (λ r. IsDue r.error (refusal_up_to (layout_of (scheme_of digest_size layout name)) bound s)))
    pub unopened : IfErr result (λ r. IfSome (members.told old) (λ s. IsSome (refusal_up_to (layout_of (scheme_of digest_size layout name)) bound s) → IsUnchanged members old (store_given store_in r.given)))
    pub left : IfErr result (λ r. Turns (members.told old) (members.told (store_given store_in r.given)) (λ s new. LeavesOpening (scheme_of digest_size layout name) (selected_size (scheme_of digest_size layout name) bound s) s new))
    pub failed : IfErr result (λ r. Turns (members.told old) (members.told (store_given store_in r.given)) (λ s. FailsOpening (scheme_of digest_size layout name) (selected_size (scheme_of digest_size layout name) bound s) s))
    pub start : members.start (store_after store_in result) ≡ members.start old
    pub cause : IfErr result (λ r. r.error ≡ Journal journal.Store → Rose (members.faults old) (members.faults (store_given store_in r.given)))
    pub later : members.faults old ≤ members.faults (store_after store_in result)
    pub back : IfErr result (λ r. (x : Database C D) → r.given ≢ given.Database x)
