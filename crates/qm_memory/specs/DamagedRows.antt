-- Openings of stores that are given what something else left, computed.
use Rattle.std.specs.Prelude.{◌≡◌, ℕ, zero, suc, ◌-◌, ◌*◌, ◌%◌, List, [], ◌∷◌, replicate, Some, None, refl, codes}
use Rattle.qm_model.specs.Operations.{Bytes, update, commit, four_bytes, eight_bytes}
use Rattle.qm_model.specs.Forms.{variable, spelling, number_of_four, number_of_eight}
use Rattle.qm_model.specs.Mmr.{mmr, digits_below}
use Rattle.qm_model.specs.StoreModel.{Named, Stored}
use Rattle.qm_model.specs.Refused.{DataCorrupted, PrunedPastBits, CountNotValid}
use Rattle.qm_model.specs.Opening.{Layout, Opening, refuses, opens, opening, found, metadata_key}
use Rattle.qm_memory.specs.Mem.{filled}
use lib.Count.{ones, ones_in}

-- Unordered databases with digests of 32 bytes, and with chunks of 32 bytes if they are current.

abbrev any : Layout
any = record { form = variable; shape = mmr; digest_size = 32; chunks = None }

abbrev current : Layout
current = record any { chunks = Some (record { height = 8; name = codes "grafted" }) }

abbrev opened : Layout → Stored → Opening
opened layout s = opening layout (found layout s) None

-- One key that was written in 266 batches, pruned to location 768: what each batch from the 257th on appended, and before it the
-- commit of the 256th.

abbrev put : ℕ → Bytes
put batch = spelling variable (update (107 ∷ []) (batch % 256 ∷ []) None)

abbrev ends : ℕ → Bytes
ends batch = spelling variable (commit None (batch * 3 - 1))

abbrev batches : ℕ → ℕ → List Bytes
batches from zero = []
batches from (suc count) = put from ∷ put from ∷ ends from ∷ batches (suc from) count

abbrev pruned_to_768 : List Named → Stored
pruned_to_768 metadata = filled 768 (replicate 64 0) (ends 256 ∷ batches 257 10) metadata

abbrev grafted : Bytes → Named
grafted count = record { name = codes "grafted"; entries = record { key = metadata_key 1 0; value = count } ∷ record { key = metadata_key 0 0; value = replicate 32 0 } ∷ record { key = metadata_key 0 1; value = replicate 32 0 } ∷ [] }

-- an any database is opened without metadata
any_without_metadata : opened any (pruned_to_768 []) ≡ opens 799
unfolding digits_below four_bytes eight_bytes number_of_four number_of_eight ones ones_in
any_without_metadata = refl

-- a current one has lost what it knew of three chunks
current_without_metadata : opened current (pruned_to_768 []) ≡ refuses (DataCorrupted PrunedPastBits)
unfolding digits_below four_bytes eight_bytes number_of_four number_of_eight ones ones_in
current_without_metadata = refl

-- with their count and their pins it is opened
current_with_metadata : opened current (pruned_to_768 (grafted (eight_bytes 3) ∷ [])) ≡ opens 799
unfolding digits_below four_bytes eight_bytes number_of_four number_of_eight ones ones_in
current_with_metadata = refl

-- of metadata that are given twice the last are read
last_count : opened current (pruned_to_768 (grafted [] ∷ grafted (eight_bytes 3) ∷ [])) ≡ opens 799
unfolding digits_below four_bytes eight_bytes number_of_four number_of_eight ones ones_in
last_count = refl

first_count : opened current (pruned_to_768 (grafted (eight_bytes 3) ∷ grafted [] ∷ [])) ≡ refuses (DataCorrupted CountNotValid)
unfolding digits_below four_bytes eight_bytes number_of_four number_of_eight ones ones_in
first_count = refl
