-- The first candidate of a row of locations, and a row without one.
use Rattle.std.proofs.Common.{◌≡◌, ℕ, zero, suc, ◌+◌, ◌-◌, ◌<◌, ◌≤◌, Bool, true, false, List, [], ◌∷◌, arith, ap, sym, ◌∙◌, refl, cond, ⊎_elim}
use Rattle.std.proofs.lemmas.Bool.{cases_lt}
use Rattle.std.specs.List.{filter, range_with_len}
use Rattle.qm_bits.specs.Candidates.{is_candidate, candidates}

-- the candidates of a row
abbrev row : List Bool → ℕ → ℕ → List ℕ
row bits a n = filter (is_candidate bits) (range_with_len a n)

abbrev Clear : List Bool → ℕ → ℕ → Type 0
Clear bits from to = (i : ℕ) → from ≤ i → i < to → is_candidate bits i ≡ false

clear_more : (bits : List Bool) (a to : ℕ) → is_candidate bits a ≡ false → Clear bits (a + 1) to → Clear bits a to
clear_more bits a to here later i from before = ⊎_elim
    (λ (past : a < i). later i (omega arith) before)
    (λ (first : i ≤ a). let same : i ≡ a = omega arith in ap (is_candidate bits) same ∙ here)
    (cases_lt a i)

row_first : (bits : List Bool) (a n c : ℕ) (rest : List ℕ) → row bits a n ≡ c ∷ rest → (a ≤ c) × (c < a + n) × Clear bits a c × (rest ≡ row bits (c + 1) (a + n - (c + 1)))
row_first bits a zero c rest is = cc
row_first bits a (suc n) c rest is = by (is_candidate bits a) refl is (row_first bits (a + 1) n c rest)
  where
    by : (t : Bool) → is_candidate bits a ≡ t → cond t (a ∷ row bits (a + 1) n) (row bits (a + 1) n) ≡ c ∷ rest → (row bits (a + 1) n ≡ c ∷ rest → (a + 1 ≤ c) × (c < a + 1 + n) × Clear bits (a + 1) c × (rest ≡ row bits (c + 1) (a + 1 + n - (c + 1))))
        → (a ≤ c) × (c < a + suc n) × Clear bits a c × (rest ≡ row bits (c + 1) (a + suc n - (c + 1)))
    by true here found next =
        let place : a ≡ c = cc in
        let behind : row bits (a + 1) n ≡ rest = cc in
        let left : n ≡ a + suc n - (c + 1) = omega arith in
        (omega arith, omega arith, λ i from before. absurd (omega arith), sym behind ∙ ap (λ k. row bits (k + 1) n) place ∙ ap (row bits (c + 1)) left)
    by false here found next =
        let later = next found in
        let from = later.0 in
        let to = later.1 in
        let left : a + 1 + n - (c + 1) ≡ a + suc n - (c + 1) = omega arith in
        (omega arith, omega arith, clear_more bits a c here later.2, later.3 ∙ ap (row bits (c + 1)) left)

row_none : (bits : List Bool) (a n : ℕ) → row bits a n ≡ [] → Clear bits a (a + n)
row_none bits a zero is = λ i from before. absurd (omega arith)
row_none bits a (suc n) is = by (is_candidate bits a) refl is (row_none bits (a + 1) n)
  where
    by : (t : Bool) → is_candidate bits a ≡ t → cond t (a ∷ row bits (a + 1) n) (row bits (a + 1) n) ≡ [] → (row bits (a + 1) n ≡ [] → Clear bits (a + 1) (a + 1 + n)) → Clear bits a (a + suc n)
    by true here found next = cc
    by false here found next = clear_more bits a (a + suc n) here (λ i from before. next found i from (omega arith))

pub candidates_first : (bits : List Bool) (from to c : ℕ) (rest : List ℕ) → candidates bits from to ≡ c ∷ rest → (from ≤ c) × (c < to) × ((i : ℕ) → from ≤ i → i < c → is_candidate bits i ≡ false) × (rest ≡ candidates bits (c + 1) to)
unfolding candidates
candidates_first bits from to c rest is =
    let first = row_first bits from (to - from) c rest is in
    let low = first.0 in
    let high = first.1 in
    let left : from + (to - from) - (c + 1) ≡ to - (c + 1) = omega arith in
    (first.0, omega arith, first.2, first.3 ∙ ap (row bits (c + 1)) left)

pub candidates_none : (bits : List Bool) (from to : ℕ) → candidates bits from to ≡ [] → (i : ℕ) → from ≤ i → i < to → is_candidate bits i ≡ false
unfolding candidates
candidates_none bits from to is i low high = row_none bits from (to - from) is i low (omega arith)
