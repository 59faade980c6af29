-- What is claimed of a list, and what its check rebuilds.
use Rattle.std.specs.Prelude.{ℕ, ◌-◌, ◌/◌, ◌^◌, ◌==◌, if◌then◌else◌, List, [], ◌++◌, Option, slice_index_or, Bool}
use Rattle.qm_model.specs.Operations.{Bytes}
use Rattle.qm_model.specs.Trees.{Node, Shape}
use Rattle.qm_model.specs.Proofs.{Taken}
use Rattle.qm_model.specs.RangeProofs.{RangeProof, rebuilt_value, rebuilt_values, agrees, range_verdict}

-- items that are claimed to stand from a location on, the chunks of their locations, and the height of the nodes over chunks
pub record Claim : Type 0 where
  pub items : List Bytes
  pub start : ℕ
  pub chunks : List Bytes
  pub height : ℕ

-- the claimed chunk c, or nothing
abbrev pub chunk_of : Claim → ℕ → Bytes
chunk_of claim c = slice_index_or claim.chunks (c - claim.start / 2 ^ claim.height) []

-- what stands for a node that has claimed leaves, from its digest: over a chunk the two are hashed together
abbrev pub own_value : (Bytes → Bytes) → Claim → Node → Bytes → Bytes
own_value hash claim node digest = if node.height == claim.height then hash (chunk_of claim node.index ++ digest) else digest

module _ (hash : Bytes → Bytes) (shape : Shape) (claim : Claim) where
  -- the value of a node, from the first digests of a proof and the claim, and the digests after those
  abbrev pub value_of : Node → List Bytes → Taken
  value_of node ds = rebuilt_value hash shape claim.height claim.items claim.start claim.chunks node ds

  -- the values of peaks, if all digests are used and none is missing
  abbrev pub values_of : List Node → List Bytes → Option (List Bytes)
  values_of row ds = rebuilt_values hash shape claim.height claim.items claim.start claim.chunks row ds

  -- a digest is there exactly if there is such a chunk, and is the claimed chunk's if that is claimed
  abbrev pub agrees_with : Option ℕ → Option Bytes → Bool
  agrees_with chunk digest = agrees hash shape claim.height claim.items claim.start claim.chunks chunk digest

  -- the verdict on a range proof of the claim
  abbrev pub verdict_on : RangeProof → Bytes → Bool
  verdict_on range root = range_verdict hash shape claim.height claim.items claim.start claim.chunks range root
