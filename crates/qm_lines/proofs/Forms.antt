-- The first form with a name, of a list of them.
use Rattle.std.proofs.Common.{◌≡◌, ◌∙◌, ℕ, zero, suc, true, false, List, [], ◌∷◌, Option, refl, ap, drop, subst, sym}
use Rattle.std.specs.Prelude.{⊤, None, Result, if◌then◌else◌, bytes_eq}
use Rattle.std.specs.Borrow.{Bor}
use Rattle.qm_model.specs.Operations.{Bytes}
use Rattle.qm_model.specs.Policies.{Policy}
use Rattle.qm_machine.specs.Lines.{Line}
use Rattle.qm_machine.specs.Grammar.{form_of, forms, of_words}
use Rattle.qm_lines.specs.Parsed.{Reads, byte_line, lent}
use Rattle.qm_lines.specs.declared.command.Command.{Command}
use Rattle.qm_lines.specs.declared.policy.AnyPolicy.{AnyPolicy}
use Rattle.qm_lines.specs.declared.parse.unread.Unread.{Unread}

abbrev Form : Type 0
Form = Bytes × (List Bytes → Option (Line Policy))

-- the first n have other names
abbrev Others : Bytes → ℕ → List Form → Type 0
Others name zero all = ⊤
Others name (suc n) [] = ⊥
Others name (suc n) (f ∷ more) = (false ≡ bytes_eq name f.0) × Others name n more

-- the one after n others has the name
abbrev Named : Bytes → ℕ → List Form → Type 0
Named name n [] = ⊥
Named name zero (f ∷ more) = true ≡ bytes_eq name f.0
Named name (suc n) (f ∷ more) = Named name n more

-- what it says
abbrev said : ℕ → List Form → List Bytes → Option (Line Policy)
said n [] words = None
said zero (f ∷ more) words = f.1 words
said (suc n) (f ∷ more) words = said n more words

module _ (name : Bytes) (words : List Bytes) where
  behind_is : (n : ℕ) (all : List Form) → Others name n all → form_of name words (drop n all) ≡ form_of name words all
  behind_is zero all others = refl
  behind_is (suc n) [] others = absurd others
  behind_is (suc n) (f ∷ all) others =
      behind_is n all others.1 ∙ ap (λ t. if t then f.1 words else form_of name words all) others.0

  pub said_is : (n : ℕ) (all : List Form) → Others name n all → Named name n all → said n all words ≡ form_of name words all
  said_is n [] others named = absurd named
  said_is zero (f ∷ all) others named = ap (λ t. if t then f.1 words else form_of name words all) named
  said_is (suc n) (f ∷ all) others named =
      said_is n all others.1 named ∙ ap (λ t. if t then f.1 words else form_of name words all) others.0

  module _ (all : List Form) (n : ℕ) (others : Others name n all) (result : Result (Command Bytes Bytes AnyPolicy) Unread) where
    pub by_later : Reads byte_line result (form_of name words (drop n all)) → Reads byte_line result (form_of name words all)
    by_later = subst (Reads byte_line result) (behind_is n all others)

    pub by_form : Named name n all → Reads byte_line result (said n all words) → Reads byte_line result (form_of name words all)
    by_form named = subst (Reads byte_line result) (said_is n all others named)

-- of words, the first of which is the name
pub by_first : (result : Result (Command Bytes Bytes AnyPolicy) Unread) (all : List (Bor Bytes)) (name : Bor Bytes) (words : List (Bor Bytes)) → all ≡ name ∷ words → Reads byte_line result (form_of name.now (lent words) forms) → Reads byte_line result (of_words (lent all))
by_first result all name words is = subst (λ ws. Reads byte_line result (of_words (lent ws))) (sym is)
