-- Claims about a key, and what a check of a spelled proof answers to one.
use Rattle.std.specs.Prelude.{◌≡◌, ℕ, Bool, false, List, [], Option, Some, None, option_map, ⊤}
use Rattle.qm_model.specs.Operations.{Bytes, Operation}
use Rattle.qm_model.specs.Forms.{Form, IsKey, IsValue}
use Rattle.qm_model.specs.Live.{value_of}
use Rattle.qm_model.specs.Trees.{Shape}
use Rattle.qm_model.specs.Grafted.{chunk_size}
use Rattle.qm_model.specs.RangeProofs.{key_verdict, key_inputs, exclusion_verdict, exclusion_inputs}
use Rattle.qm_client.specs.ProofForms.{KeyProof, held, linked, absent, with_lengths, read_proof}

-- that a key has this value, or that it has none
pub data Claim : Type 0 where
  has : Bytes → Bytes → Claim
  lacks : Bytes → Claim

-- of a key and a value that can be spelled
abbrev pub IsClaim : Form → Claim → Type 0
IsClaim form (has key value) = IsKey (with_lengths form) key × IsValue (with_lengths form) value
IsClaim form (lacks key) = ⊤

-- the map of a list says so
abbrev pub ClaimSays : List Operation → Claim → Type 0
ClaimSays ops (has key value) = value_of ops key ≡ Some value
ClaimSays ops (lacks key) = value_of ops key ≡ None

module _ (hash : Bytes → Bytes) (shape : Shape) (g : ℕ) (form : Form) where
  -- the verdict on a proof for a claim; a proof of the other kind says nothing
  abbrev pub claim_verdict : KeyProof → Claim → Bytes → Bool
  claim_verdict (held proof) (has key value) root = key_verdict hash shape g (with_lengths form) proof key value None root
  claim_verdict (linked proof next) (has key value) root = key_verdict hash shape g (with_lengths form) proof key value (Some next) root
  claim_verdict (absent proof) (lacks key) root = exclusion_verdict hash shape g (with_lengths form) proof key root
  claim_verdict (held proof) (lacks key) root = false
  claim_verdict (linked proof next) (lacks key) root = false
  claim_verdict (absent proof) (has key value) root = false

  -- what its check hashes
  abbrev pub claim_inputs : KeyProof → Claim → List Bytes
  claim_inputs (held proof) (has key value) = key_inputs hash shape g (with_lengths form) proof key value None
  claim_inputs (linked proof next) (has key value) = key_inputs hash shape g (with_lengths form) proof key value (Some next)
  claim_inputs (absent proof) (lacks key) = exclusion_inputs hash shape g (with_lengths form) proof
  claim_inputs (held proof) (lacks key) = []
  claim_inputs (linked proof next) (lacks key) = []
  claim_inputs (absent proof) (has key value) = []

  -- of bytes: none where they spell no proof, or else the verdict
  abbrev pub checked : ℕ → Bytes → Claim → Bytes → Option Bool
  checked size bytes claim root = option_map (λ proof. claim_verdict proof claim root) (read_proof form (chunk_size g) size bytes)
