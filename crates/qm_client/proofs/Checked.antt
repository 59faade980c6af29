-- What a check of bytes answers, and what its yes says.
use Rattle.std.proofs.Common.{◌≡◌, ◌⊎◌, ℕ, suc, ◌*◌, ◌^◌, ◌≤◌, Bool, true, List, length, ap, sym, ◌∙◌, subst, Option, Some, None, option_map, Result, Ok, Err}
use Rattle.std.specs.Prelude.{IfOk}
use Rattle.std.proofs.lemmas.Option.{same_Some}
use Rattle.qm_model.specs.Operations.{Bytes, Operation}
use Rattle.qm_model.specs.Forms.{variable}
use Rattle.qm_model.specs.Trees.{Shape, leaf}
use Rattle.qm_model.specs.Families.{Births, IsFamily, HasPeaks}
use Rattle.qm_model.specs.Proofs.{Collides}
use Rattle.qm_model.specs.Grafted.{chunk_size, canonical}
use Rattle.qm_model.specs.RangeProofs.{spanned, emptied, canonical_inputs}
use Rattle.qm_client.specs.ProofForms.{KeyProof, held, linked, absent, IsProofOf, IsProofSpelling, read_proof}
use Rattle.qm_client.specs.Claims.{Claim, has, lacks, IsClaim, ClaimSays, claim_verdict, claim_inputs, checked}
use Rattle.qm_client.specs.Provable.{IsProvable, kind_form}
use Rattle.qm_client.proofs.ProofForms.{read-proof_spelling}
use Rattle.qm_client.proofs.Claims.{claim_speaks}

-- The kind of a database changes nothing of a proof, of a claim or of a verdict.

of_kind : (chunk size : ℕ) (ordered : Bool) (proof : KeyProof) → IsProofOf variable chunk size proof → IsProofOf (kind_form ordered) chunk size proof
of_kind chunk size ordered (held p) is = is
of_kind chunk size ordered (linked p next) is = (is.0, record { known = (is.1).known; sized = (is.1).sized })
of_kind chunk size ordered (absent (spanned p k v n)) is = (is.0, record { known = (is.1).known; sized = (is.1).sized }, record { known = (is.2).known; sized = (is.2).sized }, record { known = (is.3).known; sized = (is.3).sized })
of_kind chunk size ordered (absent (emptied p None)) is = (is.0, tt)
of_kind chunk size ordered (absent (emptied p (Some v))) is = (is.0, record { known = (is.1).known; sized = (is.1).sized })

claim_kind : (ordered : Bool) (claim : Claim) → IsClaim variable claim → IsClaim (kind_form ordered) claim
claim_kind ordered (has key value) is = (record { known = (is.0).known; sized = (is.0).sized }, record { known = (is.1).known; sized = (is.1).sized })
claim_kind ordered (lacks key) is = is

verdict_kind : (hash : Bytes → Bytes) (shape : Shape) (g : ℕ) (ordered : Bool) (proof : KeyProof) (claim : Claim) (root : Bytes) → claim_verdict hash shape g variable proof claim root ≡ true → claim_verdict hash shape g (kind_form ordered) proof claim root ≡ true
verdict_kind hash shape g ordered (held p) (has key value) root is = is
verdict_kind hash shape g ordered (linked p next) (has key value) root is = is
verdict_kind hash shape g ordered (absent (spanned p k v n)) (lacks key) root is = is
verdict_kind hash shape g ordered (absent (emptied p meta)) (lacks key) root is = is
verdict_kind hash shape g ordered (held p) (lacks key) root is = is
verdict_kind hash shape g ordered (linked p next) (lacks key) root is = is
verdict_kind hash shape g ordered (absent p) (has key value) root is = is

module _ (hash : Bytes → Bytes) (shape : Shape) (g chunk size : ℕ) (whole : chunk_size g ≡ chunk) (bs : Bytes) (claim : Claim) (root : Bytes) where
  -- the verdict on what was found
  pub checked-found : (found : Option KeyProof) → found ≡ read_proof variable chunk size bs
      → option_map (λ proof. claim_verdict hash shape g variable proof claim root) found ≡ checked hash shape g variable size bs claim root
  checked-found found is = ap (option_map (λ proof. claim_verdict hash shape g variable proof claim root)) (is ∙ ap (λ n. read_proof variable n size bs) (sym whole))

  -- the verdict on what is spelled
  spelled-verdict : (proof : KeyProof) → IsProofSpelling variable chunk size bs proof → Some true ≡ checked hash shape g variable size bs claim root → claim_verdict hash shape g variable proof claim root ≡ true
  spelled-verdict proof is said =
      let found : Some proof ≡ read_proof variable chunk size bs = sym (ap (read_proof variable chunk size) (sym is.spelled) ∙ read-proof_spelling variable chunk size proof is.of) in
      sym (same_Some true (claim_verdict hash shape g variable proof claim root) (said ∙ sym (checked-found (Some proof) found)))

  module _ (sized : (m : Bytes) → length (hash m) ≡ size) (births : Births) (family : IsFamily shape births) (peaked : HasPeaks shape) (leaf_born : (k : ℕ) → shape.birth (leaf k) ≡ suc k)
      (prompt : (h i : ℕ) → shape.birth (record { height = h; index = i }) ≤ suc (suc i) * 2 ^ h) (enough : 3 ≤ g) where
    -- a yes says the claim of a list that a database makes
    pub yes_says : (ordered : Bool) (ops : List Operation) (proof : KeyProof) → IsProvable (kind_form ordered) ops → root ≡ canonical hash shape g (kind_form ordered) ops
        → IsProofSpelling variable chunk size bs proof → IsClaim variable claim → Some true ≡ checked hash shape g variable size bs claim root
        → ClaimSays ops claim ⊎ Collides hash (claim_inputs hash shape g variable proof claim) (canonical_inputs hash shape g (kind_form ordered) ops)
    yes_says ordered ops proof made rooted is claimed said =
        claim_speaks hash size sized shape births family peaked leaf_born prompt g enough (kind_form ordered) ops made.short made.fit made.good made.ring proof claim
        (subst (λ n. IsProofOf (kind_form ordered) n size proof) (sym whole) (of_kind chunk size ordered proof is.of))
        (claim_kind ordered claim claimed)
        (verdict_kind hash shape g ordered proof claim (canonical hash shape g (kind_form ordered) ops) (subst (λ r. claim_verdict hash shape g variable proof claim r ≡ true) rooted (spelled-verdict proof is said)))

-- what follows from a yes follows where the result is one
pub if_yes : {E : Type 0} {P : Type 0} (r : Result (Option Bool) E) (answer : Option Bool) → IfOk r (λ verdict. verdict ≡ answer) → (Some true ≡ answer → P) → IfOk r (λ verdict. verdict ≡ Some true → P)
if_yes (Err e) answer is next = tt
if_yes (Ok verdict) answer is next = λ said. next (sym said ∙ is)
