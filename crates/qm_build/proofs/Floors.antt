-- The floor of a commit, and what bytes that spell one tell of it.
use Rattle.std.proofs.Common.{◌≡◌, refl, ◌∙◌, ℕ, ap, sym, Option}
use Rattle.std.specs.Prelude.{option_and_then}
use Rattle.qm_model.specs.Operations.{Bytes, Operation, update, delete, commit}
use Rattle.qm_operations.specs.Parts.{floor_of}
use Rattle.qm_model.specs.Forms.{Form, IsSpelling, decoded}
use Rattle.qm_model.specs.Refusals.{commit_floor}
use Rattle.qm_model.proofs.Forms.{decoded-spelling}

-- the floor of a commit, in the words of refusals
pub floor-same : (op : Operation) → floor_of op ≡ commit_floor op
floor-same (update k v n) = refl
floor-same (delete k) = refl
floor-same (commit m f) = refl

-- what bytes that spell an operation tell of a floor
pub floor-of : (form : Form) (bs : Bytes) (f : Option ℕ) → f ≡ option_and_then commit_floor (decoded form bs) → (op : Operation) → IsSpelling form bs op → f ≡ commit_floor op
floor-of form bs f is op spells = is ∙ ap (option_and_then commit_floor) (ap (decoded form) (sym spells.spelled) ∙ decoded-spelling form op spells.of)
