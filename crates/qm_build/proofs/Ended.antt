-- What a list's last commit tells.
use Rattle.std.proofs.Common.{◌≡◌, ℕ, zero, suc, ◌≢◌, true, List, [], ◌∷◌, length, ap, sym, arith, Option, Some}
use Rattle.std.specs.Prelude.{slice_get, is_some}
use Rattle.qm_operations.specs.Parts.{floor_of, is_update}
use Rattle.qm_model.specs.Operations.{Bytes, Operation, update, delete, commit, IsCommitEnded}
use Rattle.qm_model.specs.Live.{metadata_after}

-- the metadata of a list that ends with a commit
pub metadata-last : (before : Option Bytes) (ops : List Operation) (i : ℕ) (meta : Option Bytes) (f : ℕ) → suc i ≡ length ops → slice_get ops i ≡ Some (commit meta f) → metadata_after before ops ≡ meta
metadata-last before [] i meta f long is = absurd (omega (arith, long))
metadata-last before (op ∷ []) zero meta f long is = let same : op ≡ commit meta f = cc in ap (λ o. metadata_after before (o ∷ [])) same
metadata-last before (op ∷ []) (suc i) meta f long is = absurd (omega (arith, long))
metadata-last before (op ∷ next ∷ rest) zero meta f long is = absurd (omega (arith, long))
metadata-last before (update k v n ∷ next ∷ rest) (suc i) meta f long is = metadata-last before (next ∷ rest) i meta f (omega (arith, long)) is
metadata-last before (delete k ∷ next ∷ rest) (suc i) meta f long is = metadata-last before (next ∷ rest) i meta f (omega (arith, long)) is
metadata-last before (commit m g ∷ next ∷ rest) (suc i) meta f long is = metadata-last m (next ∷ rest) i meta f (omega (arith, long)) is

-- its last operation is one
pub ends-so : (ops : List Operation) (i : ℕ) (op : Operation) → IsCommitEnded ops → suc i ≡ length ops → slice_get ops i ≡ Some op → is_some (floor_of op) ≡ true
ends-so [] i op ended long is = absurd (omega (arith, long))
ends-so (update k v n ∷ []) i op ended long is = absurd ended
ends-so (delete k ∷ []) i op ended long is = absurd ended
ends-so (commit m f ∷ []) zero op ended long is = let same : commit m f ≡ op = cc in ap (λ o. is_some (floor_of o)) (sym same)
ends-so (commit m f ∷ []) (suc i) op ended long is = absurd (omega (arith, long))
ends-so (first ∷ next ∷ rest) zero op ended long is = absurd (omega (arith, long))
ends-so (update k v n ∷ next ∷ rest) (suc i) op ended long is = ends-so (next ∷ rest) i op ended (omega (arith, long)) is
ends-so (delete k ∷ next ∷ rest) (suc i) op ended long is = ends-so (next ∷ rest) i op ended (omega (arith, long)) is
ends-so (commit m f ∷ next ∷ rest) (suc i) op ended long is = ends-so (next ∷ rest) i op ended (omega (arith, long)) is

-- which is no update
pub no-update : (op : Operation) → is_update op ≡ true → is_some (floor_of op) ≢ true
no-update (update k v n) is = λ some. cc
no-update (delete k) is = λ some. cc
no-update (commit m f) is = λ some. cc
