-- How many commands a fill has.
use Rattle.std.proofs.Common.{◌≡◌, ℕ, ◌+◌, ◌*◌, ◌/◌, ◌%◌, zero, suc, Bool, true, false, cond, eqb, List, [], ◌∷◌, length, refl, sym, ap, ◌∙◌, length-append, arith}
use Rattle.std.proofs.lemmas.Bool.Decides.{nat_tests}
use Rattle.qm_model.specs.Policies.{Policy}
use Rattle.qm_machine.specs.Lines.{Line, Commit}
use Rattle.qm_fill.specs.Draws.{draws}
use Rattle.qm_fill.specs.Commands.{round, round_with, rounds, settling, ending, commands}
use Rattle.qm_fill.proofs.Parts.{rounds-more}

length-settling : (r : ℕ) → length (settling r) ≡ cond (eqb (r % 16) 0) 1 0
unfolding settling
length-settling r = by (eqb (r % 16) 0)
  where
    by : (t : Bool) → length (cond {A = List (Line Policy)} t (Commit ∷ []) []) ≡ cond t 1 0
    by true = refl
    by false = refl

sixteenths : (n : ℕ) → (n + 1) / 16 ≡ n / 16 + cond (eqb ((n + 1) % 16) 0) 1 0
sixteenths n = grind (arith, nat_tests)

length-round : (x r : ℕ) → length (round_with (draws x 8) r) ≡ 11 + length (settling r)
unfolding round_with
length-round x r = omega arith

length-rounds : (seed n : ℕ) → length (rounds seed n) ≡ 11 * n + n / 16
length-rounds seed zero = refl
length-rounds seed (suc n) =
    let e : suc n ≡ n + 1 = omega arith in
    let more : length (rounds seed (n + 1)) ≡ length (rounds seed n) + length (round seed (n + 1)) = ap length (rounds-more seed n) ∙ length-append (rounds seed n) (round seed (n + 1)) in
    let one : length (round seed (n + 1)) ≡ 11 + cond (eqb ((n + 1) % 16) 0) 1 0 = length-round _ (n + 1) ∙ ap (λ k. 11 + k) (length-settling (n + 1)) in
    let so_far : length (rounds seed n) ≡ 11 * n + n / 16 = length-rounds seed n in
    let by : (n + 1) / 16 ≡ n / 16 + cond (eqb ((n + 1) % 16) 0) 1 0 = sixteenths n in
    let all : length (rounds seed (n + 1)) ≡ 11 * (n + 1) + (n + 1) / 16 = omega arith in
    ap (λ k. length (rounds seed k)) e ∙ all ∙ ap (λ k. 11 * k + k / 16) (sym e)

pub length-commands : (seed n : ℕ) → length (commands seed n) ≡ 11 * n + n / 16 + 7
length-commands seed n =
    let parts : length (commands seed n) ≡ 1 + (length (rounds seed n) + 6) = ap suc (length-append (rounds seed n) ending) ∙ omega arith in
    omega (arith, length-rounds seed n)
