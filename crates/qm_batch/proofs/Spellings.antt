-- The keys of the operations that are updates.
use Rattle.std.proofs.Common.{◌≡◌, refl, ap, Option, Some, None}
use Rattle.std.proofs.lemmas.Option.{same_Some}
use Rattle.qm_model.specs.Operations.{Bytes, Operation, update, delete, commit}
use Rattle.qm_operations.specs.Parts.{update_key}
use Rattle.qm_step.specs.Changes.{said_by}

-- an update with a key
pub keyed-update : (op : Operation) (k : Bytes) → update_key op ≡ Some k → (v : Bytes) × (n : Option Bytes) × (op ≡ update k v n)
keyed-update (update key value next) k is = (value, next, ap (λ a. update a value next) (same_Some key k is))
keyed-update (delete key) k is = cc
keyed-update (commit m f) k is = cc

-- an operation without one says nothing
pub keyless-said : (op : Operation) → update_key op ≡ None → said_by op ≡ None
keyless-said (update key value next) is = cc
keyless-said (delete key) is = refl
keyless-said (commit m f) is = refl
