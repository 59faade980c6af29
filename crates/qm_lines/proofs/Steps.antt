-- Words that are read one after the other.
use Rattle.std.proofs.Common.{◌≡◌, ◌∙◌, ◌<◌, ◌≤◌, ◌==◌, false, List, [], ◌∷◌, length, get_or, Option, None, Some, option_map, refl, sym, ap, arith, Err}
use Rattle.std.specs.Prelude.{Result, ok_or, option_and_then}
use Rattle.std.specs.Borrow.{Bor}
use Rattle.qm_model.specs.Operations.{Bytes}
use Rattle.qm_lines.specs.declared.parse.unread.Unread.{Unread}
use Rattle.qm_lines.specs.declared.parse.unread.Unread.TheVariants.{Malformed, Memory}
use Rattle.qm_lines.specs.Parsed.{Unreads, lent}
use Rattle.qm_lines.proofs.Readings.{unread-of}

-- some words are read as by this
pub not_empty : {D : Type 0} (some of : List Bytes → Option D) → ((a : Bytes) (words : List Bytes) → some (a ∷ words) ≡ of (a ∷ words)) → (words : List (Bor Bytes)) → false ≡ (length words == 0) → some (lent words) ≡ of (lent words)
not_empty some of is [] h = cc
not_empty some of is (a ∷ words) h = is a.now (lent words)

-- no word, fewer than two, and more than one or two, if they are read as none
module _ {D : Type 0} (of : List Bytes → Option D) where
  pub no_word : None ≡ of [] → (words : List (Bor Bytes)) → length words < 1 → None ≡ of (lent words)
  no_word none [] few = none
  no_word none (a ∷ words) few = absurd (omega arith)

  pub few_words : None ≡ of [] → ((a : Bytes) → None ≡ of (a ∷ [])) → (words : List (Bor Bytes)) → length words < 2 → None ≡ of (lent words)
  few_words none one [] few = none
  few_words none one (a ∷ []) few = one a.now
  few_words none one (a ∷ b ∷ words) few = absurd (omega arith)

  pub over_one : ((a b : Bytes) (words : List Bytes) → None ≡ of (a ∷ b ∷ words)) → (words : List (Bor Bytes)) → 2 ≤ length words → None ≡ of (lent words)
  over_one none [] many = absurd (omega arith)
  over_one none (a ∷ []) many = absurd (omega arith)
  over_one none (a ∷ b ∷ words) many = none a.now b.now (lent words)

  pub over_two : ((a b c : Bytes) (words : List Bytes) → None ≡ of (a ∷ b ∷ c ∷ words)) → (words : List (Bor Bytes)) → 3 ≤ length words → None ≡ of (lent words)
  over_two none [] many = absurd (omega arith)
  over_two none (a ∷ []) many = absurd (omega arith)
  over_two none (a ∷ b ∷ []) many = absurd (omega arith)
  over_two none (a ∷ b ∷ c ∷ words) many = none a.now b.now c.now (lent words)

  pub under_three : None ≡ of [] → ((a : Bytes) → None ≡ of (a ∷ [])) → ((a b : Bytes) → None ≡ of (a ∷ b ∷ [])) → (words : List (Bor Bytes)) → length words < 3 → None ≡ of (lent words)
  under_three none one two [] few = none
  under_three none one two (a ∷ []) few = one a.now
  under_three none one two (a ∷ b ∷ []) few = two a.now b.now
  under_three none one two (a ∷ b ∷ c ∷ words) few = absurd (omega arith)

  pub over_three : ((a b c d : Bytes) (words : List Bytes) → None ≡ of (a ∷ b ∷ c ∷ d ∷ words)) → (words : List (Bor Bytes)) → 4 ≤ length words → None ≡ of (lent words)
  over_three none [] many = absurd (omega arith)
  over_three none (a ∷ []) many = absurd (omega arith)
  over_three none (a ∷ b ∷ []) many = absurd (omega arith)
  over_three none (a ∷ b ∷ c ∷ []) many = absurd (omega arith)
  over_three none (a ∷ b ∷ c ∷ d ∷ words) many = none a.now b.now c.now d.now (lent words)

-- what is not there is malformed
pub missing : {A : Type 0} (o : Option A) (e : Unread) → ◌≡◌ {A = Result A Unread} (Err e) (ok_or o Malformed) → (p : Option A) → o ≡ p → Unreads e p
missing None Malformed err p is = is
missing None Memory err p is = tt
missing (Some a) e err p is = cc

one_word : (words : List (Bor Bytes)) (d : Bor Bytes) → 1 ≤ length words → length words < 2 → (get_or words 0 d).now ∷ [] ≡ lent words
one_word [] d enough few = absurd (omega arith)
one_word (a ∷ []) d enough few = refl
one_word (a ∷ b ∷ words) d enough few = absurd (omega arith)

module _ {A D : Type 0} (first : Bytes → Option A) (made : A → D) (of : List Bytes → Option D) (is : (a : Bytes) → option_map made (first a) ≡ of (a ∷ []))
    (words : List (Bor Bytes)) (d : Bor Bytes) (enough : 1 ≤ length words) (few : length words < 2) where
  of_one : option_map made (first (get_or words 0 d).now) ≡ of (lent words)
  of_one = is _ ∙ ap of (one_word words d enough few)

  pub one-err : (e : Unread) → Unreads e (first (get_or words 0 d).now) → Unreads e (of (lent words))
  one-err = unread-of (option_map made) refl _ _ of_one

  pub one-read : (x : A) → Some x ≡ first (get_or words 0 d).now → Some (made x) ≡ of (lent words)
  one-read x read = ap (option_map made) read ∙ of_one

two_words : (words : List (Bor Bytes)) (d : Bor Bytes) → 2 ≤ length words → length words < 3 → (get_or words 0 d).now ∷ (get_or words 1 d).now ∷ [] ≡ lent words
two_words [] d enough few = absurd (omega arith)
two_words (a ∷ []) d enough few = absurd (omega arith)
two_words (a ∷ b ∷ []) d enough few = refl
two_words (a ∷ b ∷ c ∷ words) d enough few = absurd (omega arith)

three_words : (words : List (Bor Bytes)) (d : Bor Bytes) → 3 ≤ length words → length words < 4 → (get_or words 0 d).now ∷ (get_or words 1 d).now ∷ (get_or words 2 d).now ∷ [] ≡ lent words
three_words [] d enough few = absurd (omega arith)
three_words (a ∷ []) d enough few = absurd (omega arith)
three_words (a ∷ b ∷ []) d enough few = absurd (omega arith)
three_words (a ∷ b ∷ c ∷ []) d enough few = refl
three_words (a ∷ b ∷ c ∷ e ∷ words) d enough few = absurd (omega arith)

-- what is made of two
abbrev both : {A B D : Type 0} → (A → B → D) → Option B → Option A → Option D
both made y x = option_and_then (λ a. option_map (made a) y) x

both-none : {A B D : Type 0} (made : A → B → D) (x : Option A) → None ≡ both made None x
both-none made None = refl
both-none made (Some x) = refl

-- a word, and what is read of those after it
module _ {A B D : Type 0} (first : Bytes → Option A) (rest : List Bytes → Option B) (made : A → B → D) (of : List Bytes → Option D)
    (is : (a : Bytes) (ws : List Bytes) → both made (rest ws) (first a) ≡ of (a ∷ ws))
    (all : List (Bor Bytes)) (a : Bor Bytes) (words : List (Bor Bytes)) (split : all ≡ a ∷ words) where
  of_headed : both made (rest (lent words)) (first a.now) ≡ of (lent all)
  of_headed = is _ _ ∙ sym (ap (λ ws. of (lent ws)) split)

  pub headed-first_err : (e : Unread) → Unreads e (first a.now) → Unreads e (of (lent all))
  headed-first_err = unread-of (both made (rest (lent words))) refl _ _ of_headed

  module _ (x : A) (at_first : Some x ≡ first a.now) where
    after_head : option_map (made x) (rest (lent words)) ≡ of (lent all)
    after_head = ap (both made (rest (lent words))) at_first ∙ of_headed

    pub headed-rest_err : (e : Unread) → Unreads e (rest (lent words)) → Unreads e (of (lent all))
    headed-rest_err = unread-of (option_map (made x)) refl _ _ after_head

    pub headed-read : (y : B) → Some y ≡ rest (lent words) → Some (made x y) ≡ of (lent all)
    headed-read y at_rest = ap (option_map (made x)) at_rest ∙ after_head

module _ {A B D : Type 0} (first : Bytes → Option A) (second : Bytes → Option B) (made : A → B → D) (of : List Bytes → Option D)
    (is : (a b : Bytes) → both made (second b) (first a) ≡ of (a ∷ b ∷ []))
    (words : List (Bor Bytes)) (d : Bor Bytes) (enough : 2 ≤ length words) (few : length words < 3) where
  of_two : both made (second (get_or words 1 d).now) (first (get_or words 0 d).now) ≡ of (lent words)
  of_two = is _ _ ∙ ap of (two_words words d enough few)

  pub two-first_err : (e : Unread) → Unreads e (first (get_or words 0 d).now) → Unreads e (of (lent words))
  two-first_err = unread-of (both made (second (get_or words 1 d).now)) refl _ _ of_two

  -- the second is read before the first
  pub two-last_err : (e : Unread) → Unreads e (second (get_or words 1 d).now) → Unreads e (of (lent words))
  two-last_err = unread-of (λ y. both made y (first (get_or words 0 d).now)) (both-none made (first (get_or words 0 d).now)) _ _ of_two

  module _ (x : A) (at_first : Some x ≡ first (get_or words 0 d).now) where
    after_first : option_map (made x) (second (get_or words 1 d).now) ≡ of (lent words)
    after_first = ap (both made (second (get_or words 1 d).now)) at_first ∙ of_two

    pub two-second_err : (e : Unread) → Unreads e (second (get_or words 1 d).now) → Unreads e (of (lent words))
    two-second_err = unread-of (option_map (made x)) refl _ _ after_first

    pub two-read : (y : B) → Some y ≡ second (get_or words 1 d).now → Some (made x y) ≡ of (lent words)
    two-read y at_second = ap (option_map (made x)) at_second ∙ after_first

-- what is made of three
abbrev all : {A B C D : Type 0} → (A → B → C → D) → Option C → Option B → Option A → Option D
all made z y x = option_and_then (λ a. both (made a) z y) x

module _ {A B C D : Type 0} (first : Bytes → Option A) (second : Bytes → Option B) (third : Bytes → Option C) (made : A → B → C → D) (of : List Bytes → Option D)
    (is : (a b c : Bytes) → all made (third c) (second b) (first a) ≡ of (a ∷ b ∷ c ∷ []))
    (words : List (Bor Bytes)) (d : Bor Bytes) (enough : 3 ≤ length words) (few : length words < 4) where
  of_three : all made (third (get_or words 2 d).now) (second (get_or words 1 d).now) (first (get_or words 0 d).now) ≡ of (lent words)
  of_three = is _ _ _ ∙ ap of (three_words words d enough few)

  pub three-first_err : (e : Unread) → Unreads e (first (get_or words 0 d).now) → Unreads e (of (lent words))
  three-first_err = unread-of (all made (third (get_or words 2 d).now) (second (get_or words 1 d).now)) refl _ _ of_three

  module _ (x : A) (at_first : Some x ≡ first (get_or words 0 d).now) where
    rest : both (made x) (third (get_or words 2 d).now) (second (get_or words 1 d).now) ≡ of (lent words)
    rest = ap (all made (third (get_or words 2 d).now) (second (get_or words 1 d).now)) at_first ∙ of_three

    pub three-second_err : (e : Unread) → Unreads e (second (get_or words 1 d).now) → Unreads e (of (lent words))
    three-second_err = unread-of (both (made x) (third (get_or words 2 d).now)) refl _ _ rest

    module _ (y : B) (at_second : Some y ≡ second (get_or words 1 d).now) where
      last : option_map (made x y) (third (get_or words 2 d).now) ≡ of (lent words)
      last = ap (both (made x) (third (get_or words 2 d).now)) at_second ∙ rest

      pub three-third_err : (e : Unread) → Unreads e (third (get_or words 2 d).now) → Unreads e (of (lent words))
      three-third_err = unread-of (option_map (made x y)) refl _ _ last

      pub three-read : (z : C) → Some z ≡ third (get_or words 2 d).now → Some (made x y z) ≡ of (lent words)
      three-read z at_third = ap (option_map (made x y)) at_third ∙ last
