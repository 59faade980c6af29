-- Lists that databases make, and what a check of spelled proofs sees of claims.
use Rattle.std.specs.Prelude.{◌≡◌, ◌≤◌, ◌^◌, Bool, true, List, length, All}
use Rattle.qm_model.specs.Operations.{Operation}
use Rattle.qm_model.specs.Forms.{Form, IsOf, variable}
use Rattle.qm_model.specs.Ordered.{IsRing}
use Rattle.qm_model.specs.Step.{IsGood}
use Rattle.qm_client.specs.ProofForms.{with_lengths}
use Rattle.qm_client.specs.Claims.{Claim, has, lacks}
use Rattle.qm_client.specs.declared.claim.Claim.{Claim as ProgramClaim}
use Rattle.qm_client.specs.declared.claim.Claim.TheVariants.{Has, Lacks}

-- a list that a database makes, of operations that can be spelled with lengths
pub record IsProvable (form : Form) (ops : List Operation) : Type 0 where
  pub short : length ops ≤ 2 ^ 62
  pub fit : All (IsOf (with_lengths form)) ops
  pub good : IsGood ops
  pub ring : form.ordered ≡ true → IsRing ops

-- the spelling of the program's operations, in databases of either kind
abbrev pub kind_form : Bool → Form
kind_form ordered = record variable { ordered = ordered }

abbrev pub claim_view : ProgramClaim → Claim
claim_view (Has key value) = has key value
claim_view (Lacks key) = lacks key
