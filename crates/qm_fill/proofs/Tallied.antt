-- The exchanges that are left to count.
use Rattle.std.proofs.Common.{◌≡◌, List, [], ◌∷◌, map, refl, sym, ap, ap₂, ◌∙◌, ◌⊎◌, inl, inr}
use Rattle.std.specs.List.{zip}
use Rattle.qm_model.specs.Operations.{Bytes}
use Rattle.qm_model.specs.Policies.{Policy}
use Rattle.qm_machine.specs.Lines.{Answer}
use Rattle.qm_lines.specs.Parsed.{byte_line}
use Rattle.qm_lines.specs.Views.{answer_view}
use Rattle.qm_lines.specs.declared.command.Command.{Command}
use Rattle.qm_lines.specs.declared.policy.AnyPolicy.{AnyPolicy}
use Rattle.qm_lines.specs.declared.reply.Reply.{Reply}
use Rattle.qm_fill.specs.Summary.{Counts, counts_of, both}
use Rattle.qm_fill.proofs.Counting.{counts_of-append, both-assoc, both-none}

module _ {D : Type 0} (digest : D → Bytes) where
  abbrev pub byte_answer : Reply Bytes Bytes D → Answer
  byte_answer = answer_view (λ k. k) (λ v. v) digest

  -- counts of these commands and replies
  abbrev pub counts_beside : List (Command Bytes Bytes AnyPolicy) → List (Reply Bytes Bytes D) → Counts
  counts_beside commands replies = counts_of (zip (map byte_line commands) (map byte_answer replies))

  pub counted-next : (old new all : Counts) (ks ks' : List (Command Bytes Bytes AnyPolicy)) (vs vs' : List (Reply Bytes Bytes D)) (k : Command Bytes Bytes AnyPolicy) (v : Reply Bytes Bytes D) → ks ≡ k ∷ ks' → vs ≡ v ∷ vs'
      → both old (counts_beside ks vs) ≡ all → new ≡ both old (counts_of ((byte_line k, byte_answer v) ∷ [])) → both new (counts_beside ks' vs') ≡ all
  counted-next old new all ks ks' vs vs' k v first second before is =
      ap (λ c. both c (counts_beside ks' vs')) is ∙ both-assoc old (counts_of ((byte_line k, byte_answer v) ∷ [])) (counts_beside ks' vs')
      ∙ ap (both old) (sym (counts_of-append ((byte_line k, byte_answer v) ∷ []) (zip (map byte_line ks') (map byte_answer vs'))))
      ∙ ap₂ (λ xs ys. both old (counts_beside xs ys)) (sym first) (sym second) ∙ before

  none_beside : (ks : List (Command Bytes Bytes AnyPolicy)) → counts_beside ks [] ≡ counts_of {P = Policy} []
  none_beside [] = refl
  none_beside (k ∷ ks) = refl

  nothing_beside : (ks : List (Command Bytes Bytes AnyPolicy)) (vs : List (Reply Bytes Bytes D)) → (ks ≡ []) ⊎ (vs ≡ []) → counts_beside ks vs ≡ counts_of {P = Policy} []
  nothing_beside ks vs (inl e) = ap (λ xs. counts_beside xs vs) e
  nothing_beside ks vs (inr e) = ap (counts_beside ks) e ∙ none_beside ks

  pub counted-end : (old all : Counts) (ks : List (Command Bytes Bytes AnyPolicy)) (vs : List (Reply Bytes Bytes D)) → (ks ≡ []) ⊎ (vs ≡ []) → both old (counts_beside ks vs) ≡ all → old ≡ all
  counted-end old all ks vs empty is = sym (ap (both old) (nothing_beside ks vs empty) ∙ both-none Policy old) ∙ is
