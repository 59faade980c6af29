-- The metadata of pruned chunks, by the number of pins.
use Rattle.std.specs.Prelude.{◌≡◌, ◌⊎◌, ◌==◌, ℕ, zero, suc, ◌*◌, ◌^◌, nat_lt, not, List, [], ◌∷◌, ◌++◌, length, Option, Some, None, is_none, option_map, if◌then◌else◌}
use Rattle.std.specs.List.{list_any}
use Rattle.std.specs.Option.{option_and_then}
use Rattle.qm_model.specs.Operations.{Bytes, eight_bytes}
use Rattle.qm_model.specs.Trees.{Shape}
use Rattle.qm_model.specs.Grafted.{pins_from}
use Rattle.qm_model.specs.StoreModel.{Entry}
use Rattle.qm_model.specs.Refused as refusals
use Rattle.qm_model.specs.Refused.{CountNotValid, CountTooLarge, MissingPin, InvalidPin}
use Rattle.qm_model.specs.Opening.{Layout, Chunks, entry_of, metadata_key, count_bytes, count_in, is_wrong_size, when, first_refusal}
use Rattle.qm_base.specs.declared.error.Corrupt.{Corrupt}
use Rattle.qm_base.specs.declared.error.Error.{Error}
use Rattle.qm_base.specs.declared.error.Error.TheVariants.{Memory, DataCorrupted}
use Rattle.qm_base.specs.Views.{corrupt_view}

-- the count of pruned chunks, and each pin under its number
abbrev pub counting : ℕ → List Bytes → List (Bytes × Bytes)
counting count pins = (metadata_key 1 0, eight_bytes count) ∷ pins_from 0 pins

-- a layout has trees of this shape, digests of this size, and chunks of 2 ^ height locations
pub record IsLaidOut (shape : Shape) (size height : ℕ) (layout : Layout) : Type 0 where
  pub trees : layout.shape ≡ shape
  pub digests : layout.digest_size ≡ size
  pub chunks : option_map (λ (c : Chunks). c.height) layout.chunks ≡ Some height

-- the first pins, each if it is there
abbrev pub numbered : List Entry → ℕ → List (Option Bytes)
numbered entries zero = []
numbered entries (suc n) = numbered entries n ++ entry_of entries (metadata_key 0 n) ∷ []

-- the bytes of a digest of this size
abbrev pub digest_in : ℕ → Option Bytes → Option Bytes
digest_in size bytes = option_and_then (λ bs. if length bs == size then Some bs else None) bytes

-- why the count of chunks of 2 ^ height locations can't be read
abbrev pub count_refusal : ℕ → List Entry → Option refusals.Corrupt
count_refusal height entries =
    first_refusal (when (not (length (count_bytes entries) == 8)) CountNotValid ∷ when (nat_lt (2 ^ 62) (count_in entries * 2 ^ height)) CountTooLarge ∷ [])

-- why pins of digests of this size can't be read
abbrev pub pins_refusal : ℕ → List (Option Bytes) → Option refusals.Corrupt
pins_refusal size found = first_refusal (when (list_any is_none found) MissingPin ∷ when (list_any (is_wrong_size size) found) InvalidPin ∷ [])

-- an error is want of memory, or tells what is wrong
abbrev pub TellsWhy : Error → Option refusals.Corrupt → Type 0
TellsWhy error why = (error ≡ Memory) ⊎ ((c : Corrupt) × (error ≡ DataCorrupted c) × (why ≡ Some (corrupt_view c)))
