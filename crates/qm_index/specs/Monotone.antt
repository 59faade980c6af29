-- First bytes keep the order of keys.
use Rattle.std.proofs.Common.{◌≡◌, ◌≤◌, ◌<◌, ◌+◌, ◌*◌, ◌^◌, refl, sym, ap, arith, ℕ, zero, suc, List, [], ◌∷◌, length, true, true≢false, Ordering, Less, Equal, Greater}
use Rattle.std.specs.Ordering.{is_lt, ordering_then, nat_cmp}
use Rattle.std.specs.Cmp.{ranked}
use Rattle.std.specs.Cmp.Lexicographic.{slice_cmp}
use Rattle.std.proofs.lemmas.List.Elements.{All-head, All-tail}
use Rattle.std.proofs.Math.Nat.{pow-suc, pow-le-pow_right, mul-le-mul_right}
use Rattle.qm_model.specs.Keys.{key_lt}
use Rattle.qm_index.specs.Translated.{first_bytes, capped, IsMonotone}
use Rattle.qm_model.specs.Operations.{AreBytes}

-- there are as many as were asked for
pub length-first_bytes : (n : ℕ) (key : List ℕ) → length (first_bytes n key) ≡ n
length-first_bytes zero key = refl
length-first_bytes (suc n) [] = ap suc (length-first_bytes n [])
length-first_bytes (suc n) (x ∷ xs) = ap suc (length-first_bytes n xs)

-- the first byte is the highest
pub capped-cons : (x : ℕ) (xs : List ℕ) (n : ℕ) → capped (suc n) (x ∷ xs) ≡ x * 256 ^ n + capped n xs
capped-cons x xs n = ap (λ m. x * 256 ^ m + capped n xs) (length-first_bytes n xs)

-- if there is none it is zero
pub capped-nil : (n : ℕ) → capped (suc n) [] ≡ 0 * 256 ^ n + capped n []
capped-nil n = ap (λ m. 0 * 256 ^ m + capped n []) (length-first_bytes n [])

-- no byte at all is the least
pub capped-none : (width : ℕ) → capped width [] ≡ 0
capped-none zero = refl
capped-none (suc n) = let first = capped-nil n in let later : capped n [] ≡ 0 = capped-none n in omega (arith, first, later)

-- so many bytes are below this power
pub capped-below : (width : ℕ) (key : List ℕ) → AreBytes key → capped width key < 256 ^ width
capped-below zero key bytes = omega arith
capped-below (suc n) [] bytes = let none = capped-none (suc n) in let later : capped n [] < 256 ^ n = capped-below n [] bytes in let p : 256 ^ suc n ≡ 256 ^ n * 256 = pow-suc 256 n in omega (arith, none, later, p)
capped-below (suc n) (x ∷ xs) bytes =
    let later : capped n xs < 256 ^ n = capped-below n xs (All-tail (λ b. b < 256) x xs bytes) in
    let first : x < 256 = All-head (λ b. b < 256) x xs bytes in
    let rows : suc x * 256 ^ n ≤ 256 * 256 ^ n = mul-le-mul_right (256 ^ n) first in
    let p : 256 ^ suc n ≡ 256 ^ n * 256 = pow-suc 256 n in
    grind (arith, capped-cons x xs n, later, rows, p)

-- the first bytes that differ decide
pub capped-monotone : (width : ℕ) → IsMonotone (capped width)
capped-monotone zero a b are were before = omega arith
capped-monotone (suc n) [] b are were before = let none = capped-none (suc n) in omega (arith, none)
capped-monotone (suc n) (x ∷ xs) [] are were before = absurd (true≢false (sym before))
capped-monotone (suc n) (x ∷ xs) (y ∷ ys) are were before =
    by_first (nat_cmp x y) refl before (λ later. capped-monotone n xs ys (All-tail (λ b. b < 256) x xs are) (All-tail (λ b. b < 256) y ys were) later)
  where
    by_first : (first : Ordering) → first ≡ nat_cmp x y → is_lt (ordering_then first (slice_cmp nat_cmp xs ys)) ≡ true → (key_lt xs ys ≡ true → capped n xs ≤ capped n ys) → capped (suc n) (x ∷ xs) ≤ capped (suc n) (y ∷ ys)
    by_first Less e later next =
        let below : x < y = ranked x y Less e in
        let rows : suc x * 256 ^ n ≤ y * 256 ^ n = mul-le-mul_right (256 ^ n) below in
        let rest : capped n xs < 256 ^ n = capped-below n xs (All-tail (λ b. b < 256) x xs are) in
        grind (arith, capped-cons x xs n, capped-cons y ys n, rows, rest)
    by_first Equal e later next =
        let same : x ≡ y = ranked x y Equal e in
        let rows : x * 256 ^ n ≡ y * 256 ^ n = ap (λ z. z * 256 ^ n) same in
        let rest : capped n xs ≤ capped n ys = next later in
        omega (arith, capped-cons x xs n, capped-cons y ys n, rows, rest)
    by_first Greater e later next = absurd (true≢false (sym later))

-- so few bytes are below 2^64
pub capped-small : (width : ℕ) → width ≤ 8 → (key : List ℕ) → AreBytes key → capped width key < 2 ^ 64
capped-small width few key bytes = let below = capped-below width key bytes in let most : 256 ^ width ≤ 256 ^ 8 = pow-le-pow_right (omega arith) few in omega (arith, below, most)
