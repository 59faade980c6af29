-- The lines of an input, one after the other, and the commands that they are.
use Rattle.std.proofs.Common.{◌≡◌, ◌≢◌, ◌+◌, ◌-◌, ◌<◌, ◌≤◌, ℕ, Bool, true, false, cond, ◌==◌, [], ◌∷◌, ◌++◌, take, drop, length, length-append, length-take, length-drop, get_or, Some, None, refl, sym, ◌∙◌, ap, subst, arith}
use Rattle.std.specs.List.{All, slice_split}
use Rattle.std.proofs.lemmas.List.{get_or-append-add, get_or-take, take-append-drop, drop_more}
use Rattle.std.proofs.lemmas.Bool.Decides.{nat_tests}
use Rattle.std.proofs.lemmas.List.Elements.{All-from_get_or}
use Rattle.std.proofs.lemmas.List.Splits.{slice_split_none, slice_split_at}
use Rattle.std.proofs.Math.Seq.{get_or-append_seam, take-append-add, take-append_seam}
use Rattle.qm_model.specs.Operations.{Bytes}
use Rattle.qm_model.specs.Policies.{Policy}
use Rattle.qm_machine.specs.Lines.{Line}
use Rattle.qm_machine.specs.Grammar.{lines_of, without_feed, line_of, commands_of, bad_from, onto, bad_here}

some_lines : (input : Bytes) → 0 < length input → lines_of input ≡ slice_split (λ b. b == 10) (without_feed input)
some_lines [] h = absurd (omega arith)
some_lines (c ∷ cs) h = refl

-- no feed in it
abbrev pub IsWhole : Bytes → Type 0
IsWhole xs = (k : ℕ) → k < length xs → get_or xs k 0 ≢ 10

no_feed : (b : ℕ) → b ≢ 10 → (b == 10) ≡ false
no_feed b h = grind (arith, nat_tests)

no_feeds : (xs : Bytes) → IsWhole xs → All (λ b. (b == 10) ≡ false) xs
no_feeds xs h = All-from_get_or (λ b. (b == 10) ≡ false) xs 0 (λ k within. no_feed (get_or xs k 0) (h k within))

-- an input without a feed is one line
pub one_line : (xs : Bytes) → 0 < length xs → IsWhole xs → lines_of xs ≡ xs ∷ lines_of []
one_line xs more h =
    some_lines xs more
    ∙ ap (slice_split (λ b. b == 10)) (ap (λ t. cond t (take (length xs - 1) xs) xs) (no_feed (get_or xs (length xs - 1) 0) (h (length xs - 1) (omega arith))))
    ∙ slice_split_none (λ b. b == 10) xs (no_feeds xs h)

either : (t : Bool) (a b xs : Bytes) → cond t (xs ++ a) (xs ++ b) ≡ xs ++ cond t a b
either true a b xs = refl
either false a b xs = refl

-- a feed at the end goes, and one before it stays
without_last : (xs : Bytes) → without_feed (xs ++ 10 ∷ []) ≡ xs
without_last xs =
    let n : length (xs ++ 10 ∷ []) - 1 ≡ length xs = omega (arith, length-append xs (10 ∷ [])) in
    let last : get_or (xs ++ 10 ∷ []) (length (xs ++ 10 ∷ []) - 1) 0 ≡ 10 = ap (λ (i : ℕ). get_or (xs ++ 10 ∷ []) i 0) n ∙ get_or-append_seam xs 10 [] 0 in
    ap (λ (b : ℕ). cond (b == 10) (take (length (xs ++ 10 ∷ []) - 1) (xs ++ 10 ∷ [])) (xs ++ 10 ∷ [])) last
    ∙ ap (λ (i : ℕ). take i (xs ++ 10 ∷ [])) n ∙ take-append_seam xs (10 ∷ [])

without_behind : (xs ys : Bytes) → 0 < length ys → without_feed (xs ++ ys) ≡ xs ++ without_feed ys
without_behind xs ys more =
    let n : length (xs ++ ys) - 1 ≡ length xs + (length ys - 1) = omega (arith, length-append xs ys) in
    let last : get_or (xs ++ ys) (length (xs ++ ys) - 1) 0 ≡ get_or ys (length ys - 1) 0 = ap (λ (i : ℕ). get_or (xs ++ ys) i 0) n ∙ get_or-append-add xs ys (length ys - 1) 0 in
    let shorter : take (length (xs ++ ys) - 1) (xs ++ ys) ≡ xs ++ take (length ys - 1) ys = ap (λ (i : ℕ). take i (xs ++ ys)) n ∙ take-append-add xs ys (length ys - 1) in
    ap (λ (b : ℕ). cond (b == 10) (take (length (xs ++ ys) - 1) (xs ++ ys)) (xs ++ ys)) last
    ∙ ap (λ (t : Bytes). cond (get_or ys (length ys - 1) 0 == 10) t (xs ++ ys)) shorter
    ∙ either (get_or ys (length ys - 1) 0 == 10) (take (length ys - 1) ys) ys xs

-- a line, its feed, and what follows
line_and_more : (xs ys : Bytes) → IsWhole xs → lines_of (xs ++ 10 ∷ ys) ≡ xs ∷ lines_of ys
line_and_more xs [] h =
    some_lines (xs ++ 10 ∷ []) (omega (arith, length-append xs (10 ∷ [])))
    ∙ ap (slice_split (λ b. b == 10)) (without_last xs) ∙ slice_split_none (λ b. b == 10) xs (no_feeds xs h)
line_and_more xs (y ∷ ys) h =
    some_lines (xs ++ 10 ∷ y ∷ ys) (omega (arith, length-append xs (10 ∷ y ∷ ys)))
    ∙ ap (slice_split (λ b. b == 10)) (without_behind xs (10 ∷ y ∷ ys) (omega arith) ∙ ap (λ r. xs ++ r) (without_behind (10 ∷ []) (y ∷ ys) (omega arith)))
    ∙ slice_split_at (λ b. b == 10) xs 10 (without_feed (y ∷ ys)) (no_feeds xs h) refl

-- the first feed ends the first line
pub first_line : (xs : Bytes) (i : ℕ) → i < length xs → get_or xs i 0 ≡ 10 → ((k : ℕ) → k < i → get_or xs k 0 ≢ 10) → lines_of xs ≡ take i xs ∷ lines_of (drop (i + 1) xs)
first_line xs i h feed before =
    let cut : xs ≡ take i xs ++ 10 ∷ drop (i + 1) xs =
    sym (take-append-drop i xs) ∙ ap (λ (r : Bytes). take i xs ++ r) (drop_more xs i 0 h ∙ ap (λ (b : ℕ). b ∷ drop (i + 1) xs) feed) in
    let whole : IsWhole (take i xs) = λ k within. let below : k < i = omega (arith, length-take i xs) in subst (λ (b : ℕ). b ≢ 10) (sym (get_or-take i xs k 0 below)) (before k below) in
    ap lines_of cut ∙ line_and_more (take i xs) (drop (i + 1) xs) whole

-- The commands so far are the first k, and the lines after them are those of the rest.
pub record IsAt (input rest : Bytes) (k : ℕ) : Type 0 where
  pub few : k ≤ length (commands_of (lines_of input))
  pub commands : drop k (commands_of (lines_of input)) ≡ commands_of (lines_of rest)
  pub bad : bad_from 1 (lines_of input) ≡ bad_from (k + 1) (lines_of rest)

pub at_start : (input : Bytes) → IsAt input input 0
at_start input = record { few = omega arith; commands = refl; bad = refl }

-- no lines are left
pub at_end : (input rest : Bytes) (k : ℕ) → IsAt input rest k → lines_of rest ≡ [] → (k ≡ length (commands_of (lines_of input))) × (bad_from 1 (lines_of input) ≡ None)
at_end input rest k at none =
    let here : drop k (commands_of (lines_of input)) ≡ [] = at.commands ∙ ap commands_of none in
    (omega (arith, at.few, length-drop k (commands_of (lines_of input)), ap length here), at.bad ∙ ap (bad_from (k + 1)) none)

module _ (input rest line behind : Bytes) (k : ℕ) (at : IsAt input rest k) (lines : lines_of rest ≡ line ∷ lines_of behind) where
  here : drop k (commands_of (lines_of input)) ≡ onto (line_of line) (commands_of (lines_of behind))
  here = at.commands ∙ ap commands_of lines

  bad_here_is : bad_from 1 (lines_of input) ≡ bad_here (k + 1) (line_of line) (bad_from (k + 1 + 1) (lines_of behind))
  bad_here_is = at.bad ∙ ap (bad_from (k + 1)) lines

  -- the next line is no command
  pub at_bad : line_of line ≡ None → (k ≡ length (commands_of (lines_of input))) × (bad_from 1 (lines_of input) ≡ Some (k + 1))
  at_bad none =
      let last : drop k (commands_of (lines_of input)) ≡ [] = here ∙ ap (λ o. onto o (commands_of (lines_of behind))) none in
      (omega (arith, at.few, length-drop k (commands_of (lines_of input)), ap length last), bad_here_is ∙ ap (λ o. bad_here (k + 1) o (bad_from (k + 1 + 1) (lines_of behind))) none)

  module _ (c : Line Policy) (some : line_of line ≡ Some c) where
    next : drop k (commands_of (lines_of input)) ≡ c ∷ commands_of (lines_of behind)
    next = here ∙ ap (λ o. onto o (commands_of (lines_of behind))) some

    pub at_within : k < length (commands_of (lines_of input))
    at_within = omega (arith, length-drop k (commands_of (lines_of input)), ap length next)

    both : get_or (commands_of (lines_of input)) k c ∷ drop (k + 1) (commands_of (lines_of input)) ≡ c ∷ commands_of (lines_of behind)
    both = sym (drop_more (commands_of (lines_of input)) k c at_within) ∙ next

    -- it is the next command
    pub at_command : c ≡ get_or (commands_of (lines_of input)) k c
    at_command = cc both

    pub at_more : IsAt input behind (k + 1)
    at_more = record {
      few = omega (arith, at_within);
      commands = cc both;
      bad = bad_here_is ∙ ap (λ o. bad_here (k + 1) o (bad_from (k + 1 + 1) (lines_of behind))) some;
    }
