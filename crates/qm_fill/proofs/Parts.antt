-- Runs and rounds in parts.
use Rattle.std.proofs.Common.{◌≡◌, ℕ, ◌+◌, zero, suc, List, [], ◌∷◌, ◌++◌, length, refl, sym, ap, ◌∙◌, append_assoc, append-nil, arith}
use Rattle.std.specs.List.{flat_map, range_with_len}
use Rattle.qm_model.specs.Walk.{Rules}
use Rattle.qm_model.specs.Schemes.{Scheme}
use Rattle.qm_machine.specs.Lines.{Line}
use Rattle.qm_machine.specs.Machine.{State, turn, answers, state_after}
use Rattle.qm_fill.specs.Commands.{round, rounds}
use Rattle.qm_fill.specs.Summary.{exchanges}

module _ (m : Scheme) {P : Type 0} (rules : Rules P) where
  pub state_after-append : (s : State) (a b : List (Line P)) → state_after m rules s (a ++ b) ≡ state_after m rules (state_after m rules s a) b
  state_after-append s [] b = refl
  state_after-append s (line ∷ a) b = state_after-append (turn m rules s line).1 a b

  pub answers-append : (s : State) (a b : List (Line P)) → answers m rules s (a ++ b) ≡ answers m rules s a ++ answers m rules (state_after m rules s a) b
  answers-append s [] b = refl
  answers-append s (line ∷ a) b = ap (λ r. (turn m rules s line).0 ∷ r) (answers-append (turn m rules s line).1 a b)

  pub length-answers : (s : State) (a : List (Line P)) → length (answers m rules s a) ≡ length a
  length-answers s [] = refl
  length-answers s (line ∷ a) = ap suc (length-answers (turn m rules s line).1 a)

  pub exchanges-append : (s : State) (a b : List (Line P)) → exchanges m rules s (a ++ b) ≡ exchanges m rules s a ++ exchanges m rules (state_after m rules s a) b
  exchanges-append s [] b = refl
  exchanges-append s (line ∷ a) b = ap (λ r. (line, (turn m rules s line).0) ∷ r) (exchanges-append (turn m rules s line).1 a b)

flat_map_more : {A : Type 0} (f : ℕ → List A) (a n : ℕ) → flat_map f (range_with_len a (suc n)) ≡ flat_map f (range_with_len a n) ++ f (a + n)
flat_map_more f a zero = let e : a ≡ a + 0 = omega arith in append-nil (f a) ∙ ap f e
flat_map_more f a (suc n) =
    let e : a + 1 + n ≡ a + suc n = omega arith in
    ap (λ l. f a ++ l) (flat_map_more f (a + 1) n ∙ ap (λ k. flat_map f (range_with_len (a + 1) n) ++ f k) e) ∙ sym (append_assoc (f a) (flat_map f (range_with_len (a + 1) n)) (f (a + suc n)))

pub rounds-more : (seed n : ℕ) → rounds seed (n + 1) ≡ rounds seed n ++ round seed (n + 1)
rounds-more seed n =
    let e : n + 1 ≡ suc n = omega arith in
    let k : 1 + n ≡ n + 1 = omega arith in
    ap (rounds seed) e ∙ flat_map_more (round seed) 1 n ∙ ap (λ r. rounds seed n ++ round seed r) k
