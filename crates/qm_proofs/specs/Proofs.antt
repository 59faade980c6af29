-- Proofs of the program, and the nodes that they are made from.
use Rattle.std.specs.Prelude.{◌≡◌, ◌⊎◌, ◌≤◌, ℕ, List, length, map, find, Option, Some, IfSome, is_none}
use Rattle.std.specs.Option.{option_or}
use Rattle.qm_base.specs.declared.error.MerkleError.{MerkleError}
use Rattle.qm_base.specs.declared.error.MerkleError.TheVariants.{Memory, ElementPruned}
use Rattle.qm_model.specs.Operations.{Bytes}
use Rattle.qm_model.specs.Trees.{Shape, Node, digest_of}
use Rattle.qm_model.specs.Proofs as model
use Rattle.qm_model.specs.Proofs.{needed_of}
use Rattle.qm_merkle.specs.Mems.{Kept, node_at}
use Rattle.qm_merkle.specs.Batches.{Batch, all_layers, layers_at}
use Rattle.qm_proofs.specs.declared.Proof.{Proof}

-- the program's proof over byte strings
abbrev pub proof_view : {D : Type 0} → (D → Bytes) → Proof D → model.Proof
proof_view bytes proof = record { leaves = proof.leaves; inactive = proof.inactive_peaks; digests = map bytes proof.digests.items }

-- where the nodes stand that a proof of leaves a up to b lists of a tree of n leaves
abbrev pub needed_positions : Shape → ℕ → ℕ → ℕ → List ℕ
needed_positions shape n a b = map shape.position (needed_of shape n a b)

-- the first position with no digest
abbrev pub first_lacked : {D : Type 0} → (ℕ → Option D) → List ℕ → Option ℕ
first_lacked at positions = find (λ p. is_none (at p)) positions

-- the error names the first position with no digest, if it is not want of memory
abbrev pub Lacks : {D : Type 0} → (ℕ → Option D) → List ℕ → MerkleError → Type 0
Lacks at positions error = (error ≡ Memory) ⊎ ((p : ℕ) × (first_lacked at positions ≡ Some p) × (error ≡ ElementPruned p))

-- the digests at positions are those of the nodes over the list
abbrev pub Tells : {D : Type 0} → Shape → (D → Bytes) → (Bytes → Bytes) → (ℕ → Option D) → List Bytes → Type 0
Tells shape bytes hash at list = (x : Node) → shape.birth x ≤ length list → IfSome (at (shape.position x)) (λ d. bytes d ≡ digest_of hash shape list x)

-- what a batch's layers have at a position, else the tree
abbrev pub over_at : {D : Type 0} → Shape → Batch D → Kept D → ℕ → Option D
over_at shape batch mem p = option_or (layers_at shape (all_layers batch) p) (node_at shape mem p)
