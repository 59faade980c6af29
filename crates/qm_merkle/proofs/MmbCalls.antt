-- What the calls of the delayed family compute.
use Rattle.std.proofs.Common.{◌≡◌, ℕ, suc, ◌+◌, ◌-◌, ◌*◌, ◌/◌, ◌^◌, ◌<◌, ◌≤◌, Bool, true, false, arith, ap, ◌∙◌, ⊎_elim, zero-add, cond, pow_mono, [], ◌∷◌}
use Rattle.std.specs.Prelude.{count_by, nat_le}
use Rattle.std.proofs.lemmas.Nat.{pow_pos, shr_split}
use Rattle.std.proofs.lemmas.Bool.{cases_lt}
use Rattle.std.proofs.lemmas.List.Sums.{sum_by-append}
use Rattle.qm_model.specs.Trees.{end_of}
use Rattle.qm_model.specs.Mmb.{size, log}
use Rattle.qm_model.proofs.MmbFamily.{size_below, log_below, log_bounds}
use Rattle.qm_model.proofs.MmbPeaks.{peaks_below, peak_at, peaks-step, peak_at-end, some_above, digit}
use Rattle.qm_model.proofs.MmrPeaks.{test_true, test_false}

pub size_within : (m n : ℕ) → size m ≤ size n → m ≤ n
size_within m n le = ⊎_elim (λ (above : n < m). absurd (omega (arith, size_below n m above))) (λ (within : m ≤ n). within) (cases_lt n m)

-- no tree has fewer nodes than leaves
pub size_most : (n : ℕ) → n ≤ size n
size_most n = omega (arith, log_below (n + 1) (omega arith))

-- how many of the peaks of the places below b end at or below f
abbrev pub counted : ℕ → ℕ → ℕ → ℕ
counted f b m = count_by (λ p. nat_le (end_of p) f) (peaks_below b m)

counted-taken : (f b m : ℕ) (t : Bool) → 0 < m → 0 < b → b ≤ log m → nat_le ((m / 2 ^ (b - 1) - 1) * 2 ^ (b - 1)) f ≡ t → counted f b m ≡ cond t 1 0 + counted f (b - 1) m
counted-taken f b m t some pos le test =
    let up : suc (b - 1) ≡ b = omega arith in
    let above : 0 < m / 2 ^ suc (b - 1) = some_above m (suc (b - 1)) some (omega arith) in
    ap (count_by (λ p. nat_le (end_of p) f)) (peaks-step b m pos (some_above m b some le))
    ∙ sum_by-append (λ p. cond (nat_le (end_of p) f) 1 0) (peak_at (b - 1) m ∷ []) (peaks_below (b - 1) m)
    ∙ ap (λ k. k + counted f (b - 1) m) (zero-add _ ∙ ap (λ b. cond b 1 0) (ap (λ e. nat_le e f) (peak_at-end (b - 1) m above) ∙ test))

pub counted-one : (f b m : ℕ) → 0 < m → 0 < b → b ≤ log m → (m / 2 ^ (b - 1) - 1) * 2 ^ (b - 1) ≤ f → counted f b m ≡ 1 + counted f (b - 1) m
counted-one f b m some pos le ends = counted-taken f b m true some pos le (test_true ((m / 2 ^ (b - 1) - 1) * 2 ^ (b - 1)) f ends)

pub counted-none : (f b m : ℕ) → 0 < m → 0 < b → b ≤ log m → f < (m / 2 ^ (b - 1) - 1) * 2 ^ (b - 1) → counted f b m ≡ counted f (b - 1) m
counted-none f b m some pos le past = counted-taken f b m false some pos le (test_false ((m / 2 ^ (b - 1) - 1) * 2 ^ (b - 1)) f past) ∙ zero-add (counted f (b - 1) m)

-- the places of a number of 63 binary digits
pub log_within : (m : ℕ) → 0 < m → m < 2 ^ 63 → log m ≤ 62
log_within m some lt = ⊎_elim
    (λ (above : 62 < log m).
    let wide : 2 ^ 63 ≤ 2 ^ log m = pow_mono {i = 63} {j = log m} above in
    absurd (omega (arith, (log_bounds m some).0)))
    (λ (within : log m ≤ 62). within)
    (cases_lt 62 (log m))

-- the peak of the place below b ends at a number of leaves that are there
pub end_bounds : (b m : ℕ) → 0 < m → 0 < b → b ≤ log m → (0 < (m / 2 ^ (b - 1) - 1) * 2 ^ (b - 1)) × ((m / 2 ^ (b - 1) - 1) * 2 ^ (b - 1) < m)
end_bounds b m some pos le =
    let h = b - 1 in
    let above : 0 < m / 2 ^ suc h = some_above m (suc h) some (omega arith) in
    let q = m / 2 ^ h - 2 in
    let twice : m / 2 ^ h - 1 ≡ suc q = omega (arith, digit h m) in
    let whole : m / 2 ^ h ≡ suc (suc q) = omega (arith, digit h m) in
    let end : (m / 2 ^ h - 1) * 2 ^ h ≡ suc q * 2 ^ h = ap (λ z. z * 2 ^ h) twice in
    let all : m / 2 ^ h * 2 ^ h ≡ suc (suc q) * 2 ^ h = ap (λ z. z * 2 ^ h) whole in
    let positive = pow_pos h in
    (omega (arith, end), omega (arith, end, all, shr_split m h))
