-- Parts of a policy.
use Rattle.std.proofs.Common.{◌≡◌, ◌∙◌, ◌<◌, Bool, true, false, List, [], ◌∷◌, length, Option, Some, None, option_map, refl, sym, ap, arith}
use Rattle.std.specs.Prelude.{if◌then◌else◌}
use Rattle.std.specs.Borrow.{Bor}
use Rattle.qm_model.specs.Operations.{Bytes}
use Rattle.qm_machine.specs.Grammar.{begins_with, behind, optional, ruled_of}
use Rattle.qm_lines.specs.Parsed.{lent, first_named}

-- fewer than two are no rule
pub few_parts : (parts : List (Bor Bytes)) → length parts < 2 → None ≡ ruled_of (lent parts)
few_parts [] few = refl
few_parts (a ∷ []) few = refl
few_parts (a ∷ b ∷ parts) few = absurd (omega arith)

-- the first part has the name, and says something after it
pub some_said : {A : Type 0} (name : Bytes) (read : Bytes → Option A) (parts : List Bytes) (word : Bytes) (rest : List Bytes) (a : A) →
    Some (word, rest) ≡ first_named name parts → read word ≡ Some a → Some (Some a, rest) ≡ optional name read parts
some_said name read [] word rest a first says = cc
some_said {A} name read (part ∷ parts) word rest a first says = cases (begins_with name part) first
  where
    with_rest : List Bytes → A → Option A × List Bytes
    with_rest r b = (Some b, r)

    cases : (t : Bool) → ◌≡◌ {A = Option (Bytes × List Bytes)} (Some (word, rest)) (if t then Some (behind name part, parts) else None) →
        ◌≡◌ {A = Option (Option A × List Bytes)} (Some (Some a, rest)) (if t then option_map (λ b. (Some b, parts)) (read (behind name part)) else Some (None, part ∷ parts))
    cases true is =
        let both : ◌≡◌ {A = Bytes × List Bytes} (word, rest) (behind name part, parts) = cc in
        ap (option_map (with_rest rest)) (sym says) ∙ ap (λ (found : Bytes × List Bytes). option_map (with_rest found.1) (read found.0)) both
    cases false is = cc
