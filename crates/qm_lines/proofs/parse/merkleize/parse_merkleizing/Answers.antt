use Rattle.std.proofs.Common.{◌≡◌, ◌∙◌, ℕ, None, Some, ap, refl}
use Rattle.std.proofs.lemmas.Result.{err_from_is_err_and}
use Rattle.std.specs.Prelude.{Option, option_and_then, option_map}
use Rattle.qm_model.specs.Operations.{Bytes}
use Rattle.qm_model.specs.Policies.{Policy}
use Rattle.qm_machine.specs.Grammar.{metadata_of, number_of, policy_of}
use Rattle.qm_lines.specs.Parsed.{merkleizing_of}
use Rattle.qm_lines.specs.Policies.{policy_view}
use Rattle.qm_lines.proofs.Readings.{unread-of}
use Rattle.qm_lines.proofs.parse.merkleize.parse_merkleizing.Goals as goal

-- what metadata, a policy and a handle are read as
abbrev with_metadata : ℕ → Policy → Option (Option Bytes) → Option (ℕ × Policy × Option Bytes)
with_metadata h p meta = option_map (λ m. (h, p, m)) meta

abbrev with_policy : ℕ → Bytes → Option Policy → Option (ℕ × Policy × Option Bytes)
with_policy h c policy = option_and_then (λ p. with_metadata h p (metadata_of c)) policy

abbrev with_handle : Bytes → Bytes → Option ℕ → Option (ℕ × Policy × Option Bytes)
with_handle b c handle = option_and_then (λ h. with_policy h c (policy_of b)) handle

no_metadata : (h : ℕ) (policy : Option Policy) → None ≡ option_and_then (λ p. with_metadata h p None) policy
no_metadata h None = refl
no_metadata h (Some p) = refl

module _ (a b c : Bytes) (h : ℕ) (handle_is : Some h ≡ number_of a) where
  behind_handle : with_policy h c (policy_of b) ≡ merkleizing_of a b c
  behind_handle = ap (with_handle b c) handle_is

  behind_policy : (p : Policy) → Some p ≡ policy_of b → with_metadata h p (metadata_of c) ≡ merkleizing_of a b c
  behind_policy p policy_is = ap (with_policy h c) policy_is ∙ behind_handle

pub returns-in_err-handle : goal.returns-in_err-handle
returns-in_err-handle c =
    let exit = err_from_is_err_and c.from_residual.result c.from_residual.ensures.1 in
    rw (exit.1, exit.2) (unread-of (with_handle c.args.policy_word.now c.args.metadata_word.now) refl _ _ refl _ c.in_err-handle.ensures)

pub returns-in_err-policy : goal.returns-in_err-policy
returns-in_err-policy c =
    let exit = err_from_is_err_and c.from_residual-in_err-policy.result c.from_residual-in_err-policy.ensures.1 in
    rw (exit.1, exit.2) (unread-of (with_policy c.in_ok-handle.handle c.args.metadata_word.now) refl _ _
    (behind_handle c.args.handle.now c.args.policy_word.now c.args.metadata_word.now c.in_ok-handle.handle c.in_ok-handle.ensures) _ c.in_err-policy.ensures)

pub returns-in_err-metadata : goal.returns-in_err-metadata
returns-in_err-metadata c =
    let exit = err_from_is_err_and c.from_residual-in_err-metadata.result c.from_residual-in_err-metadata.ensures.1 in
    rw (exit.1, exit.2) (unread-of (λ meta. option_and_then (λ p. with_metadata c.in_ok-handle.handle p meta) (policy_of c.args.policy_word.now)) (no_metadata c.in_ok-handle.handle (policy_of c.args.policy_word.now)) _ _
    (behind_handle c.args.handle.now c.args.policy_word.now c.args.metadata_word.now c.in_ok-handle.handle c.in_ok-handle.ensures) _ c.in_err-metadata.ensures)

pub returns : goal.returns
returns c =
    ap (with_metadata c.in_ok-handle.handle (policy_view c.in_ok-policy.policy)) c.in_ok-metadata.ensures
    ∙ behind_policy c.args.handle.now c.args.policy_word.now c.args.metadata_word.now c.in_ok-handle.handle c.in_ok-handle.ensures (policy_view c.in_ok-policy.policy) c.in_ok-policy.ensures
