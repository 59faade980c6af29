-- What the calls of the mountain ranges' family compute.
use Rattle.std.proofs.Common.{◌≡◌, ℕ, suc, ◌+◌, ◌-◌, ◌*◌, ◌/◌, ◌%◌, ◌^◌, ◌<◌, ◌≤◌, List, [], ◌∷◌, ◌++◌, Bool, true, false, arith, ap, sym, ◌∙◌, ⊎_elim, append_assoc, zero-add, cond}
use Rattle.std.specs.Prelude.{◌↔◌, IsTrue, count_by, nat_le}
use Rattle.std.proofs.lemmas.Bool.{cases_lt, false≢true}
use Rattle.std.proofs.lemmas.List.Sums.{sum_by-append}
use Rattle.std.proofs.lemmas.Nat.{pow_below, shl-shr}
use Rattle.qm_model.specs.Trees.{end_of}
use Rattle.qm_model.specs.Mmr.{size, v2}
use Rattle.qm_model.proofs.MmrFamily.{size_below, multiple}
use Rattle.qm_model.proofs.MmrPeaks.{peaks_below, peak_at, peaks-one, peaks-none, peak_at-end, test_true, test_false}

-- a power that is at most 2 ^ 62
pub within_place : (h : ℕ) → 2 ^ h ≤ 2 ^ 62 → h ≤ 62
within_place h le = ⊎_elim (λ (above : 62 < h). absurd (omega (arith, pow_below 62 h above))) (λ (within : h ≤ 62). within) (cases_lt 62 h)

pub size_within : (m n : ℕ) → size m ≤ size n → m ≤ n
size_within m n le = ⊎_elim (λ (above : n < m). absurd (omega (arith, size_below n m above))) (λ (within : m ≤ n). within) (cases_lt n m)

-- the items so far, of a row of which one more is taken
pub taken : {X : Type 0} (found : List X) (x : X) (rest later all : List X) → rest ≡ x ∷ later → found ++ rest ≡ all → (found ++ x ∷ []) ++ later ≡ all
taken found x rest later all e h = append_assoc found (x ∷ []) later ∙ ap (λ r. found ++ r) (sym e) ∙ h

-- no digit 1
pub no_digit : (t : Bool) (m : ℕ) → IsTrue t ↔ (m % 2 ≡ 1) → t ≡ false → m % 2 ≡ 0
no_digit t m decides is = ⊎_elim (λ (low : m % 2 < 1). omega arith)
    (λ (one : 1 ≤ m % 2). let is_one : m % 2 ≡ 1 = omega arith in absurd (false≢true (sym is ∙ decides.1 is_one))) (cases_lt (m % 2) 1)

-- a node that is born with leaf n is below 2 ^ 63 leaves wide
pub born_within : (n k : ℕ) → n < 2 ^ 62 → k < suc (v2 (suc n)) → (k < 64) × (1 ≤ suc n / 2 ^ k)
born_within n k lt low =
    let r = multiple (suc n) k (omega arith) (omega arith) in
    let some : suc n / 2 ^ k ≡ suc r.0 = ap (λ z. z / 2 ^ k) r.1 ∙ shl-shr (suc r.0) k in
    let wide : 2 ^ k ≤ 2 ^ 62 = omega (arith, r.1) in
    (omega (arith, within_place k wide), omega arith)

-- how many of the peaks over n leaves, of heights below h, end at or below f
abbrev pub counted : ℕ → ℕ → ℕ → ℕ
counted f h n = count_by (λ p. nat_le (end_of p) f) (peaks_below h n)

counted-taken : (f h n : ℕ) (t : Bool) → 0 < h → n / 2 ^ (h - 1) % 2 ≡ 1 → nat_le (n / 2 ^ (h - 1) * 2 ^ (h - 1)) f ≡ t → counted f h n ≡ cond t 1 0 + counted f (h - 1) n
counted-taken f h n t pos is test =
    ap (count_by (λ p. nat_le (end_of p) f)) (peaks-one h n pos is)
    ∙ sum_by-append (λ p. cond (nat_le (end_of p) f) 1 0) (peak_at (h - 1) n ∷ []) (peaks_below (h - 1) n)
    ∙ ap (λ k. k + counted f (h - 1) n) (zero-add _ ∙ ap (λ b. cond b 1 0) (ap (λ e. nat_le e f) (peak_at-end (h - 1) n is) ∙ test))

pub counted-one : (f h n : ℕ) → 0 < h → (n / 2 ^ (h - 1) % 2 ≡ 1) × (n / 2 ^ (h - 1) * 2 ^ (h - 1) ≤ f) → counted f h n ≡ 1 + counted f (h - 1) n
counted-one f h n pos both = counted-taken f h n true pos both.0 (test_true (n / 2 ^ (h - 1) * 2 ^ (h - 1)) f both.1)

pub counted-none : (t : Bool) (f h n : ℕ) → 0 < h → IsTrue t ↔ ((n / 2 ^ (h - 1) % 2 ≡ 1) × (n / 2 ^ (h - 1) * 2 ^ (h - 1) ≤ f)) → t ≡ false → counted f h n ≡ counted f (h - 1) n
counted-none t f h n pos decides is = ⊎_elim
    (λ (low : n / 2 ^ (h - 1) % 2 < 1). ap (count_by (λ p. nat_le (end_of p) f)) (peaks-none h n pos (omega arith)))
    (λ (one : 1 ≤ n / 2 ^ (h - 1) % 2).
    let digit : n / 2 ^ (h - 1) % 2 ≡ 1 = omega arith in
    ⊎_elim (λ (above : f < n / 2 ^ (h - 1) * 2 ^ (h - 1)). counted-taken f h n false pos digit (test_false (n / 2 ^ (h - 1) * 2 ^ (h - 1)) f above) ∙ zero-add (counted f (h - 1) n))
    (λ (within : n / 2 ^ (h - 1) * 2 ^ (h - 1) ≤ f). absurd (false≢true (sym is ∙ decides.1 (digit, within))))
    (cases_lt f (n / 2 ^ (h - 1) * 2 ^ (h - 1))))
    (cases_lt (n / 2 ^ (h - 1) % 2) 1)
