-- What a yes on an absence says, from what the check of its update or of its commit says.
use Rattle.std.proofs.Common.{◌≡◌, ◌⊎◌, ◌∙◌, ℕ, Bool, true, false, List, Some, Option, refl, sym, subst, inl, inr}
use Rattle.std.specs.Prelude.{◌&&◌, not, bytes_eq}
use Rattle.std.proofs.lemmas.Bool.{false≢true}
use Rattle.qm_model.specs.Operations.{Bytes, Operation, commit}
use Rattle.qm_model.specs.Forms.{Form, spelling}
use Rattle.qm_model.specs.Ordered.{IsRing}
use Rattle.qm_model.specs.Trees.{Shape}
use Rattle.qm_model.specs.Proofs.{Collides}
use Rattle.qm_model.specs.RangeProofs.{OperationProof, Exclusion, spanned, emptied, in_span, key_verdict, operation_verdict, exclusion_verdict, key_inputs, operation_inputs, exclusion_inputs, canonical_inputs, KeySays, AbsenceSays}
use Rattle.qm_model.proofs.Speaking.{both_true}
use Rattle.qm_model.proofs.KeySpeaking.{spanned_absent}

module _ (hash : Bytes → Bytes) (shape : Shape) (height : ℕ) (form : Form) (ops : List Operation) (x : Bytes) where
  -- the key has no value, or two inputs collide
  abbrev pub Told : Exclusion → Type 0
  Told proof = AbsenceSays ops x ⊎ Collides hash (exclusion_inputs hash shape height form proof) (canonical_inputs hash shape height form ops)

  pub told_by_span : (exclusion : Exclusion) (proof : OperationProof) (key value next : Bytes) (other : Bool) → exclusion ≡ spanned proof key value next → IsRing ops → (other && in_span key next x) ≡ true →
      KeySays ops proof.location key value (Some next) ⊎ Collides hash (key_inputs hash shape height form proof key value (Some next)) (canonical_inputs hash shape height form ops) → Told exclusion
  told_by_span exclusion proof key value next other is ring within said = subst Told (sym is) (at said)
    where
      at : KeySays ops proof.location key value (Some next) ⊎ Collides hash (key_inputs hash shape height form proof key value (Some next)) (canonical_inputs hash shape height form ops) → Told (spanned proof key value next)
      at (inl says) = inl (spanned_absent ops proof.location key value next x ring says (both_true other (in_span key next x) within).1)
      at (inr clash) = inr clash

  pub told_by_commit : (exclusion : Exclusion) (proof : OperationProof) (meta : Option Bytes) → exclusion ≡ emptied proof meta →
      AbsenceSays ops x ⊎ Collides hash (operation_inputs hash shape height proof (spelling form (commit meta proof.location))) (canonical_inputs hash shape height form ops) → Told exclusion
  told_by_commit exclusion proof meta is said = subst Told (sym is) said

  -- the verdict
  on : (s t u : Bool) → (s && t) ≡ true → u ≡ (s && (t && u))
  on false t u e = absurd (false≢true e)
  on true false u e = absurd (false≢true e)
  on true true u e = refl

  off : (s t u : Bool) → (s && t) ≡ false → false ≡ (s && (t && u))
  off false t u e = refl
  off true false u e = refl
  off true true u e = absurd (false≢true (sym e))

  pub answered_by_span : (root : Bytes) (exclusion : Exclusion) (proof : OperationProof) (key value next : Bytes) (r : Bool) → exclusion ≡ spanned proof key value next → (not (bytes_eq key x) && in_span key next x) ≡ true →
      r ≡ key_verdict hash shape height form proof key value (Some next) root → r ≡ exclusion_verdict hash shape height form exclusion x root
  answered_by_span root exclusion proof key value next r is within said =
      subst (λ e. r ≡ exclusion_verdict hash shape height form e x root) (sym is)
      (said ∙ on (not (bytes_eq key x)) (in_span key next x) (key_verdict hash shape height form proof key value (Some next) root) within)

  pub refused_by_span : (root : Bytes) (exclusion : Exclusion) (proof : OperationProof) (key value next : Bytes) → exclusion ≡ spanned proof key value next → (not (bytes_eq key x) && in_span key next x) ≡ false →
      false ≡ exclusion_verdict hash shape height form exclusion x root
  refused_by_span root exclusion proof key value next is without =
      subst (λ e. false ≡ exclusion_verdict hash shape height form e x root) (sym is)
      (off (not (bytes_eq key x)) (in_span key next x) (key_verdict hash shape height form proof key value (Some next) root) without)

  pub answered_by_commit : (root : Bytes) (exclusion : Exclusion) (proof : OperationProof) (meta : Option Bytes) (r : Bool) → exclusion ≡ emptied proof meta →
      r ≡ operation_verdict hash shape height proof (spelling form (commit meta proof.location)) root → r ≡ exclusion_verdict hash shape height form exclusion x root
  answered_by_commit root exclusion proof meta r is said = subst (λ e. r ≡ exclusion_verdict hash shape height form e x root) (sym is) said
