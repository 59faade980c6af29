-- What the statuses of a check say of what was written.
use Rattle.std.specs.Prelude.{◌≡◌, ◌≤◌, ◌<◌, ◌⊎◌, ◌++◌, ℕ, Bool, true, List, [], length, take, Option, Some, IfSome}
use Rattle.std.specs.Io.KnownBytes.{IsAtEnd}
use Rattle.qm_model.specs.Causes.{Rose}
use Rattle.qm_model.specs.Operations.{Bytes, Operation}
use Rattle.qm_model.specs.Forms.{variable}
use Rattle.qm_model.specs.Proofs.{Collides}
use Rattle.qm_model.specs.Grafted.{canonical}
use Rattle.qm_model.specs.RangeProofs.{canonical_inputs}
use Rattle.qm_lines.specs.declared.whole.TheConstants.{LIMIT}
use Rattle.qm_client.specs.ProofForms.{KeyProof, IsProofSpelling}
use Rattle.qm_client.specs.Claims.{ClaimSays, claim_inputs}
use Rattle.qm_client.specs.Provable.{IsProvable, kind_form}
use Rattle.qm_checking.specs.Checking.{Asked, spelled_in, check_of, check_text, check_status}

-- the part is a first part of the whole
abbrev pub IsPartOf : Bytes → Bytes → Type 0
IsPartOf part whole = (n : ℕ) × (part ≡ take n whole)

-- over nodes of height g over chunks of this length, and digests of this size
module _ (hash : Bytes → Bytes) (g chunk size : ℕ) (asked : Asked) where
  -- What a yes to an input says: if the root is that of a list that a database makes, ordered or not, the claim is true of its map,
  -- or an input of the check and another one of the root have equal hashes.
  abbrev pub YesSays : Bytes → Type 0
  YesSays input =
      (ordered : Bool) (ops : List Operation) (proof : KeyProof) (bytes : Bytes) → IsProvable (kind_form ordered) ops → asked.root ≡ canonical hash asked.shape g (kind_form ordered) ops
      → spelled_in input ≡ Some bytes → IsProofSpelling variable chunk size bytes proof
      → ClaimSays ops asked.claim ⊎ Collides hash (claim_inputs hash asked.shape g variable proof asked.claim) (canonical_inputs hash asked.shape g (kind_form ordered) ops)

  module _ (input : Bytes) where
    abbrev pub answer : Option Bool
    answer = check_of hash g variable size asked input

    -- what a status says of the bytes written
    pub record SaysChecked (status : ℕ) (written : Bytes) : Type 0 where
      -- the answer
      pub all : (status ≡ 0) ⊎ (status ≡ 2) → (status ≡ check_status answer) × (written ≡ check_text answer)
      pub yes : status ≡ 0 → answer ≡ Some true → YesSays input
      -- the sink failed, or memory did
      pub part : (status ≡ 4) ⊎ (status ≡ 5) → IsPartOf written (check_text answer)
      -- nothing was done
      pub nothing : (status ≡ 3) ⊎ (status ≡ 7) → written ≡ []

  -- What a check came to that ended with this status: what its source had left and has, and its counts of faults; what its sink told and
  -- tells, and that one's.
  pub record IsChecked (status : ℕ) (left rest : Option Bytes) (faults later : ℕ) (text written : Option Bytes) (sunk after : ℕ) : Type 0 where
    pub headline : IfSome left (λ input. IfSome text (λ before. (more : Bytes) × (written ≡ Some (before ++ more)) × SaysChecked input status more))
    pub statuses : (status ≡ 0) ⊎ ((status ≡ 2) ⊎ ((status ≡ 3) ⊎ ((status ≡ 4) ⊎ ((status ≡ 5) ⊎ (status ≡ 7)))))
    pub read : status ≡ 3 → Rose faults later
    pub write : status ≡ 4 → Rose sunk after
    pub long : status ≡ 7 → IfSome left (λ input. LIMIT < length input)
    pub ended : (status ≡ 0) ⊎ ((status ≡ 2) ⊎ (status ≡ 4)) → IsAtEnd rest
    -- if nothing failed, it answers, unless memory ran out
    pub complete : IfSome left (λ input. length input ≤ LIMIT → ¬ Rose faults later → ¬ Rose sunk after → (status ≡ check_status (answer input)) ⊎ (status ≡ 5))
