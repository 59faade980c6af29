-- The peaks of a tree whose merges are delayed, by their places.
use Rattle.std.proofs.Common.{◌≡◌, ℕ, zero, suc, ◌+◌, ◌-◌, ◌*◌, ◌/◌, ◌%◌, ◌^◌, ◌<◌, ◌≤◌, List, [], ◌∷◌, arith, ap, ap₂, sym, ◌∙◌, refl, ⊎_elim, subst, pow_mono, length, Some}
use Rattle.std.specs.Prelude.{All, Contains, slice_get}
use Rattle.std.proofs.lemmas.Nat.{pow_pos, shr_split, shl-shr, mod_below, div-mul-add, shr-shr}
use Rattle.std.proofs.Math.Nat.{pow-suc}
use Rattle.std.specs.List.{sum_by}
use Rattle.std.proofs.lemmas.List.Sums.{sum_by-cons}
use Rattle.std.proofs.lemmas.Bool.{cases_lt}
use Rattle.std.proofs.lemmas.List.Elements.{All-nil, All-cons, All-same}
use Rattle.qm_model.specs.Trees.{Node, end_of, row_from, peaks}
use Rattle.qm_model.specs.Families.{HasPeaks, over}
use Rattle.qm_model.specs.Mmb.{mmb, heights_below, log, birth}
use Rattle.qm_model.proofs.MmrFamily.{node_path}
use Rattle.qm_model.proofs.MmbFamily.{log_bounds, log_least, leaf_birth, inner_birth}

-- the peaks of the places below b, where m is one more than the leaves
abbrev pub peaks_below : ℕ → ℕ → List Node
peaks_below b m = row_from ((m / 2 ^ b - 1) * 2 ^ b) (heights_below b m)

-- the peak of place b
abbrev pub peak_at : ℕ → ℕ → Node
peak_at b m = record { height = b + m / 2 ^ b % 2; index = (m / 2 ^ suc b - 1) * (2 - m / 2 ^ b % 2) }

-- a place and the digit there
pub digit : (b m : ℕ) → m / 2 ^ b ≡ m / 2 ^ suc b * 2 + m / 2 ^ b % 2
digit b m =
    let half : m / 2 ^ suc b ≡ m / 2 ^ b / 2 = ap (λ k. m / 2 ^ k) (omega arith) ∙ sym (shr-shr m b 1) in
    omega (arith, half)

digit_more : (b d : ℕ) → d < 2 → 2 ^ (b + d) ≡ 2 ^ b + d * 2 ^ b
digit_more b d lt = ⊎_elim
    (λ (low : d < 1). let is : d ≡ 0 = omega arith in let same : b + d ≡ b = omega arith in ap (λ k. 2 ^ k) same ∙ omega arith ∙ ap (λ k. 2 ^ b + k * 2 ^ b) (sym is))
    (λ (high : 1 ≤ d). let is : d ≡ 1 = omega arith in let next : b + d ≡ suc b = omega arith in ap (λ k. 2 ^ k) next ∙ pow-suc 2 b ∙ omega arith ∙ ap (λ k. 2 ^ b + k * 2 ^ b) (sym is))
    (cases_lt d 1)

digit_wide : (b d : ℕ) → d < 2 → 2 ^ suc b ≡ (2 - d) * 2 ^ (b + d)
digit_wide b d lt = pow-suc 2 b ∙ ⊎_elim
    (λ (low : d < 1). let is : d ≡ 0 = omega arith in omega arith ∙ ap (λ k. (2 - k) * (2 ^ b + k * 2 ^ b)) (sym is))
    (λ (high : 1 ≤ d). let is : d ≡ 1 = omega arith in omega arith ∙ ap (λ k. (2 - k) * (2 ^ b + k * 2 ^ b)) (sym is))
    (cases_lt d 1)
    ∙ ap (λ z. (2 - d) * z) (sym (digit_more b d lt))

-- how wide the row up to place b is
pub next_start : (b m : ℕ) → 0 < m / 2 ^ suc b → (m / 2 ^ suc b - 1) * 2 ^ suc b + 2 ^ (b + m / 2 ^ b % 2) ≡ (m / 2 ^ b - 1) * 2 ^ b
next_start b m some =
    let d = m / 2 ^ b % 2 in
    let c = m / 2 ^ suc b - 1 in
    let lt : d < 2 = omega arith in
    let places : m / 2 ^ b - 1 ≡ c * 2 + 1 + d = omega (arith, digit b m) in
    ap (λ z. c * z + 2 ^ (b + d)) (pow-suc 2 b) ∙ ap (λ z. c * (2 ^ b * 2) + z) (digit_more b d lt) ∙ omega arith ∙ ap (λ z. z * 2 ^ b) (sym places)

pub peaks_below-zero : (m : ℕ) → peaks_below 0 m ≡ []
peaks_below-zero m = refl

-- a step down to place b
pub peaks_below-suc : (b m : ℕ) → 0 < m / 2 ^ suc b → peaks_below (suc b) m ≡ peak_at b m ∷ peaks_below b m
peaks_below-suc b m some =
    let d = m / 2 ^ b % 2 in
    let c = m / 2 ^ suc b - 1 in
    let lt : d < 2 = omega arith in
    let part : c * ((2 - d) * 2 ^ (b + d)) ≡ c * (2 - d) * 2 ^ (b + d) = omega arith in
    let index : c * 2 ^ suc b / 2 ^ (b + d) ≡ c * (2 - d) = ap (λ z. c * z / 2 ^ (b + d)) (digit_wide b d lt) ∙ ap (λ z. z / 2 ^ (b + d)) part ∙ shl-shr (c * (2 - d)) (b + d) in
    ap₂ (λ (i : ℕ) row. record { height = b + d; index = i } ∷ row) index (ap (λ s. row_from s (heights_below b m)) (next_start b m some))

-- where the peak of a place ends
pub peak_at-end : (b m : ℕ) → 0 < m / 2 ^ suc b → end_of (peak_at b m) ≡ (m / 2 ^ b - 1) * 2 ^ b
peak_at-end b m some =
    let d = m / 2 ^ b % 2 in
    let c = m / 2 ^ suc b - 1 in
    let lt : d < 2 = omega arith in
    let part : suc (c * (2 - d)) * 2 ^ (b + d) ≡ c * ((2 - d) * 2 ^ (b + d)) + 2 ^ (b + d) = omega arith in
    part ∙ ap (λ z. c * z + 2 ^ (b + d)) (sym (digit_wide b d lt)) ∙ next_start b m some

-- a peak whose digit is 1, and one whose digit is 0
peak_one : (b m : ℕ) → m / 2 ^ b % 2 ≡ 1 → peak_at b m ≡ record { height = suc b; index = m / 2 ^ suc b - 1 }
peak_one b m is = node_path (peak_at b m) (suc b) (m / 2 ^ suc b - 1) (omega arith) (ap (λ k. (m / 2 ^ suc b - 1) * (2 - k)) is ∙ omega arith)

peak_none : (b m : ℕ) → m / 2 ^ b % 2 ≡ 0 → peak_at b m ≡ record { height = b; index = (m / 2 ^ suc b - 1) * 2 }
peak_none b m is = node_path (peak_at b m) b ((m / 2 ^ suc b - 1) * 2) (omega arith) (ap (λ k. (m / 2 ^ suc b - 1) * (2 - k)) is)

place_is : (m b q r : ℕ) → m ≡ q * 2 ^ b + r → r < 2 ^ b → m / 2 ^ b ≡ q
place_is m b q r e lt = ap (λ z. z / 2 ^ b) e ∙ div-mul-add q (2 ^ b) r lt

-- the highest place
top_place : (m : ℕ) → 0 < m → m / 2 ^ log m ≡ 1
top_place m pos =
    let bounds = log_bounds m pos in
    let wide = pow-suc 2 (log m) in
    place_is m (log m) 1 (m - 2 ^ log m) (omega (arith, bounds.0)) (omega (arith, bounds.1))

pub peaks_below-all : (n : ℕ) → peaks_below (log (n + 1)) (n + 1) ≡ peaks mmb n
peaks_below-all n =
    let first : ((n + 1) / 2 ^ log (n + 1) - 1) * 2 ^ log (n + 1) ≡ 0 = ap (λ q. (q - 1) * 2 ^ log (n + 1)) (top_place (n + 1) (omega arith)) ∙ omega arith in
    ap (λ s. row_from s (heights_below (log (n + 1)) (n + 1))) first

-- up to the highest digit every place has a peak
pub some_above : (m b : ℕ) → 0 < m → b ≤ log m → 0 < m / 2 ^ b
some_above m b pos le = ⊎_elim
    (λ (some : 0 < m / 2 ^ b). some)
    (λ (none : m / 2 ^ b ≤ 0).
    let zero_is : m / 2 ^ b ≡ 0 = omega arith in
    let flat : m / 2 ^ b * 2 ^ b ≡ 0 = ap (λ q. q * 2 ^ b) zero_is ∙ omega arith in
    let rest : m % 2 ^ b < 2 ^ b = mod_below m (2 ^ b) (pow_pos b) in
    let more : 2 ^ b ≤ 2 ^ log m = pow_mono {i = b} {j = log m} le in
    absurd (omega (arith, shr_split m b, (log_bounds m pos).0)))
    (cases_lt 0 (m / 2 ^ b))

-- a step down from a place
pub peaks-step : (b m : ℕ) → 0 < b → 0 < m / 2 ^ b → peaks_below b m ≡ peak_at (b - 1) m ∷ peaks_below (b - 1) m
peaks-step b m pos some =
    let up : b ≡ suc (b - 1) = omega arith in
    ap (λ k. peaks_below k m) up ∙ peaks_below-suc (b - 1) m (subst (λ k. 0 < m / 2 ^ k) up some)

-- one peak for each place
length-row : (s b m : ℕ) → length (row_from s (heights_below b m)) ≡ b
length-row s zero m = refl
length-row s (suc b) m = let rest = length-row (s + 2 ^ (b + m / 2 ^ b % 2)) b m in omega arith

pub length-peaks : (n : ℕ) → length (peaks mmb n) ≡ log (n + 1)
length-peaks n = length-row 0 (log (n + 1)) (n + 1)

get_peak : (m b k : ℕ) → k < b → 0 < m / 2 ^ b → slice_get (peaks_below b m) k ≡ Some (peak_at (b - 1 - k) m)
get_peak m zero k lt some = absurd (omega arith)
get_peak m (suc b) zero lt some =
    let last : b ≡ suc b - 1 - 0 = omega arith in
    ap (λ xs. slice_get xs 0) (peaks_below-suc b m some) ∙ ap (λ h. Some (peak_at h m)) last
get_peak m (suc b) (suc k) lt some =
    let same : b - 1 - k ≡ suc b - 1 - suc k = omega arith in
    ap (λ xs. slice_get xs (suc k)) (peaks_below-suc b m some) ∙ get_peak m b k (omega arith) (omega (arith, digit b m)) ∙ ap (λ h. Some (peak_at h m)) same

-- the peak of a number, counted from the left
pub peak-number : (n k : ℕ) → k < length (peaks mmb n) → slice_get (peaks mmb n) k ≡ Some (peak_at (log (n + 1) - 1 - k) (n + 1))
peak-number n k lt =
    let place : k < log (n + 1) = omega (arith, length-peaks n) in
    ap (λ xs. slice_get xs k) (sym (peaks_below-all n)) ∙ get_peak (n + 1) (log (n + 1)) k place (some_above (n + 1) (log (n + 1)) (omega arith) (omega arith))

-- what holds of the peak of each place holds of all peaks
each_peak : (P : Node → Type 0) (m : ℕ) → ((h : ℕ) → 0 < m / 2 ^ suc h → P (peak_at h m)) → (b : ℕ) → 0 < m / 2 ^ b → All P (peaks_below b m)
each_peak P m each zero some = All-nil P
each_peak P m each (suc b) some =
    let lower : 0 < m / 2 ^ b = omega (arith, digit b m) in
    All-same P (peaks_below (suc b) m) (peak_at b m ∷ peaks_below b m) (peaks_below-suc b m some) (All-cons P (peak_at b m) (peaks_below b m) (each b some) (each_peak P m each b lower))

each_of : (P : Node → Type 0) (n : ℕ) → ((h : ℕ) → 0 < (n + 1) / 2 ^ suc h → P (peak_at h (n + 1))) → All P (peaks mmb n)
each_of P n each =
    let top : 0 < (n + 1) / 2 ^ log (n + 1) = omega (arith, top_place (n + 1) (omega arith)) in
    All-same P (peaks mmb n) (peaks_below (log (n + 1)) (n + 1)) (sym (peaks_below-all n)) (each_peak P (n + 1) each (log (n + 1)) top)

-- the peak of a place is born, and the node over it is not
born_one : (b c r n : ℕ) → n + 1 ≡ (suc c * 2 + 1) * 2 ^ b + r → birth (record { height = suc b; index = c }) ≤ n
born_one b c r n e = omega (arith, inner_birth b c)

born_none : (b c r n : ℕ) → n + 1 ≡ suc c * 2 * 2 ^ b + r → birth (record { height = b; index = c * 2 }) ≤ n
born_none zero c r n e = omega (arith, leaf_birth (c * 2))
born_none (suc j) c r n e =
    let whole : n + 1 ≡ suc c * 2 * (2 ^ j * 2) + r = e ∙ ap (λ z. suc c * 2 * z + r) (pow-suc 2 j) in
    let pos = pow_pos j in
    omega (arith, inner_birth j (c * 2))

bare_one : (b c r n : ℕ) → n + 1 ≡ (suc c * 2 + 1) * 2 ^ b + r → r < 2 ^ b → n < birth (over (record { height = suc b; index = c }))
bare_one b c r n e lt =
    let k = suc (c / 2) * 2 - suc c in
    let even : suc (c / 2) * 2 ≡ suc c + k = omega arith in
    let late : suc (birth (record { height = suc (suc b); index = c / 2 })) ≡ (suc c + k) * (2 ^ b * 2) + 2 ^ b * 2 =
    inner_birth (suc b) (c / 2) ∙ ap (λ z. suc (c / 2) * (z * 2) + z) (pow-suc 2 b) ∙ omega arith ∙ ap (λ z. z * (2 ^ b * 2) + 2 ^ b * 2) even in
    omega (arith, late)

bare_none : (b c r n : ℕ) → n + 1 ≡ suc c * 2 * 2 ^ b + r → r < 2 ^ b → n < birth (over (record { height = b; index = c * 2 }))
bare_none b c r n e lt =
    let half : c * 2 / 2 ≡ c = omega arith in
    omega (arith, ap (λ i. suc (birth (record { height = suc b; index = i }))) half ∙ inner_birth b c)

-- either digit of a place
by_digit : (P : Node → Type 0) (n b : ℕ) → 0 < (n + 1) / 2 ^ suc b
    → ((c r : ℕ) → n + 1 ≡ (suc c * 2 + 1) * 2 ^ b + r → r < 2 ^ b → P (record { height = suc b; index = c }))
    → ((c r : ℕ) → n + 1 ≡ suc c * 2 * 2 ^ b + r → r < 2 ^ b → P (record { height = b; index = c * 2 }))
    → P (peak_at b (n + 1))
by_digit P n b some one none =
    let m = n + 1 in
    let c = m / 2 ^ suc b - 1 in
    let r = m % 2 ^ b in
    let lt : r < 2 ^ b = mod_below m (2 ^ b) (pow_pos b) in
    ⊎_elim
    (λ (low : m / 2 ^ b % 2 < 1).
    let is : m / 2 ^ b % 2 ≡ 0 = omega arith in
    let places : m / 2 ^ b ≡ suc c * 2 = omega (arith, digit b m) in
    subst P (sym (peak_none b m is)) (none c r (sym (shr_split m b) ∙ ap (λ z. z * 2 ^ b + r) places) lt))
    (λ (high : 1 ≤ m / 2 ^ b % 2).
    let is : m / 2 ^ b % 2 ≡ 1 = omega arith in
    let places : m / 2 ^ b ≡ suc c * 2 + 1 = omega (arith, digit b m) in
    subst P (sym (peak_one b m is)) (one c r (sym (shr_split m b) ∙ ap (λ z. z * 2 ^ b + r) places) lt))
    (cases_lt (m / 2 ^ b % 2) 1)

peak_born : (n b : ℕ) → 0 < (n + 1) / 2 ^ suc b → birth (peak_at b (n + 1)) ≤ n
peak_born n b some = by_digit (λ p. birth p ≤ n) n b some (λ c r e lt. born_one b c r n e) (λ c r e lt. born_none b c r n e)

peak_bare : (n b : ℕ) → 0 < (n + 1) / 2 ^ suc b → n < birth (over (peak_at b (n + 1)))
peak_bare n b some = by_digit (λ p. n < birth (over p)) n b some (λ c r e lt. bare_one b c r n e lt) (λ c r e lt. bare_none b c r n e lt)

-- the peak of a place is among those of the places below a greater one
has_peak : (m h : ℕ) (b : ℕ) → h < b → 0 < m / 2 ^ b → Contains (peaks_below b m) (peak_at h m)
has_peak m h zero lt some = absurd (omega arith)
has_peak m h (suc b) lt some = ⊎_elim
    (λ (below : h < b).
    let rest = has_peak m h b below (omega (arith, digit b m)) in
    subst (λ xs. Contains xs (peak_at h m)) (sym (peaks_below-suc b m some)) (suc rest.0, omega (arith, rest.1), rest.2))
    (λ (top : b ≤ h).
    let same : h ≡ b = omega arith in
    subst (λ k. Contains (peaks_below (suc b) m) (peak_at k m)) (sym same)
    (subst (λ xs. Contains xs (peak_at b m)) (sym (peaks_below-suc b m some)) (0, omega arith, refl)))
    (cases_lt h b)

-- a node that is there when the node over it is not is the peak of a place
is_peak : (n h i : ℕ) → birth (record { height = h; index = i }) ≤ n → n < birth (record { height = suc h; index = i / 2 })
    → (b : ℕ) × (0 < (n + 1) / 2 ^ suc b) × (peak_at b (n + 1) ≡ record { height = h; index = i })
is_peak n zero i born bare =
    let before : suc i ≤ n = omega (arith, leaf_birth i) in
    let after : n < suc (i / 2) * 2 = omega (arith, inner_birth 0 (i / 2)) in
    let even : n + 1 ≡ suc (i / 2) * 2 = omega arith in
    let none : (n + 1) / 2 ^ 0 % 2 ≡ 0 = omega arith in
    let place : (n + 1) / 2 ^ 1 ≡ suc (i / 2) = omega arith in
    (0, omega arith, peak_none 0 (n + 1) none ∙ ap (λ (k : ℕ). record { height = 0; index = k }) (omega arith))
is_peak n (suc g) i born bare =
    let m = n + 1 in
    let pos = pow_pos g in
    let wide = pow-suc 2 g in
    let before : suc i * (2 ^ g * 2) + 2 ^ g ≤ m = omega (arith, inner_birth g i) in
    let after : m < suc (i / 2) * (2 ^ g * 2 * 2) + 2 ^ g * 2 = omega (arith, inner_birth (suc g) (i / 2) ∙ ap (λ z. suc (i / 2) * (z * 2) + z) wide) in
    ⊎_elim
    (λ (first : m < suc (suc i) * (2 ^ g * 2)).
    let r = m - (suc i * 2 + 1) * 2 ^ g in
    let whole : m ≡ (suc i * 2 + 1) * 2 ^ g + r = omega arith in
    let place : m / 2 ^ g ≡ suc i * 2 + 1 = place_is m g (suc i * 2 + 1) r whole (omega arith) in
    let one : m / 2 ^ g % 2 ≡ 1 = omega arith in
    let above : m / 2 ^ suc g ≡ suc i = omega (arith, digit g m) in
    (g, omega arith, peak_one g m one ∙ ap (λ (k : ℕ). record { height = suc g; index = k }) (omega arith)))
    (λ (second : suc (suc i) * (2 ^ g * 2) ≤ m). ⊎_elim
    (λ (even : i % 2 < 1).
    let c = i / 2 in
    let twice : i ≡ c * 2 = omega arith in
    let next : suc (suc i) ≡ suc c * 2 = omega arith in
    let low : suc c * 2 * (2 ^ g * 2) ≤ m = subst (λ k. k * (2 ^ g * 2) ≤ m) next second in
    let r = m - suc c * 2 * 2 ^ suc g in
    let whole : m ≡ suc c * 2 * 2 ^ suc g + r = omega (arith, ap (λ z. suc c * 2 * z) wide) in
    let place : m / 2 ^ suc g ≡ suc c * 2 = place_is m (suc g) (suc c * 2) r whole (omega (arith, ap (λ z. suc c * 2 * z) wide)) in
    let none : m / 2 ^ suc g % 2 ≡ 0 = omega arith in
    let above : m / 2 ^ suc (suc g) ≡ suc c = omega (arith, digit (suc g) m) in
    (suc g, omega arith, peak_none (suc g) m none ∙ ap (λ (k : ℕ). record { height = suc g; index = k }) (omega arith)))
    (λ (odd : 1 ≤ i % 2).
    let twice : i ≡ i / 2 * 2 + 1 = omega arith in
    let high : suc (suc (i / 2 * 2 + 1)) * (2 ^ g * 2) ≤ m = subst (λ k. suc (suc k) * (2 ^ g * 2) ≤ m) twice second in
    absurd (omega arith))
    (cases_lt (i % 2) 1))
    (cases_lt m (suc (suc i) * (2 ^ g * 2)))

-- a place with something above it is below the highest digit
low_place : (m b : ℕ) → 0 < m → 0 < m / 2 ^ suc b → b < log m
low_place m b pos some =
    let split = shr_split m (suc b) in
    let q = m / 2 ^ suc b - 1 in
    let more : m / 2 ^ suc b * 2 ^ suc b ≡ suc q * 2 ^ suc b = ap (λ z. z * 2 ^ suc b) (omega arith) in
    let within : 2 ^ suc b ≤ m = omega arith in
    omega (arith, log_least m (suc b) pos within)

pub mmb_has_peaks : HasPeaks mmb
mmb_has_peaks = record {
  born = λ n le. each_of (λ p. birth p ≤ n) n (peak_born n);
  bare = λ n le. each_of (λ p. n < birth (over p)) n (peak_bare n);
  all = λ n x le born bare.
      let found = is_peak n x.height x.index born bare in
      let low = low_place (n + 1) found.0 (omega arith) found.1 in
      let top : 0 < (n + 1) / 2 ^ log (n + 1) = omega (arith, top_place (n + 1) (omega arith)) in
      subst (λ xs. Contains xs x) (peaks_below-all n) (subst (Contains (peaks_below (log (n + 1)) (n + 1))) found.2 (has_peak (n + 1) found.0 (log (n + 1)) low top));
}

-- The peaks stand side by side from leaf 0 to the last one.

-- the peak of a place begins where the one before it ends
pub peak_at-start : (b m : ℕ) → (peak_at b m).index * 2 ^ (peak_at b m).height ≡ (m / 2 ^ suc b - 1) * 2 ^ suc b
peak_at-start b m =
    let d = m / 2 ^ b % 2 in
    let c = m / 2 ^ suc b - 1 in
    let lt : d < 2 = omega arith in
    let part : c * (2 - d) * 2 ^ (b + d) ≡ c * ((2 - d) * 2 ^ (b + d)) = omega arith in
    part ∙ ap (λ z. c * z) (sym (digit_wide b d lt))

row_covers : (b m : ℕ) → 0 < m / 2 ^ b → (m / 2 ^ b - 1) * 2 ^ b + sum_by (λ h. 2 ^ h) (heights_below b m) + 1 ≡ m
row_covers zero m some = omega arith
row_covers (suc b) m some =
    let rest = row_covers b m (omega (arith, digit b m)) in
    let more = sum_by-cons (λ h. 2 ^ h) (b + m / 2 ^ b % 2) (heights_below b m) in
    omega (arith, next_start b m some, rest, more)

-- they are as wide as there are leaves
pub peaks_cover : (n : ℕ) → sum_by (λ h. 2 ^ h) (mmb.heights n) ≡ n
peaks_cover n =
    let top = top_place (n + 1) (omega arith) in
    let first : ((n + 1) / 2 ^ log (n + 1) - 1) * 2 ^ log (n + 1) ≡ 0 = ap (λ q. (q - 1) * 2 ^ log (n + 1)) top ∙ omega arith in
    omega (arith, first, row_covers (log (n + 1)) (n + 1) (omega arith))
