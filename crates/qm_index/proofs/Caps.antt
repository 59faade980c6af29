-- Numbers of first bytes, byte by byte.
use Rattle.std.proofs.Common.{◌≡◌, ◌≤◌, ◌<◌, ◌+◌, ◌-◌, ◌*◌, ◌^◌, ap, arith, ℕ, suc}
use Rattle.std.proofs.Math.Nat.{pow-suc, pow-le-pow_right}
use Rattle.std.proofs.lemmas.Nat.{pow-add}

-- a byte more at the end of a number moves it up by one place
pub moved_up : (number byte n : ℕ) (rest : ℕ) → (number * 256 + byte) * 256 ^ n + rest ≡ number * 256 ^ suc n + (byte * 256 ^ n + rest)
moved_up number byte n rest = let p : number * 256 ^ suc n ≡ number * (256 ^ n * 256) = ap (λ z. number * z) (pow-suc 256 n) in grind (arith, p)

-- a number of at most seven bytes has room for one more
pub fits_after : (i number byte : ℕ) → i < 8 → number < 256 ^ i → byte < 256 → number * 256 + byte < 2 ^ 64
fits_after i number byte place small one = let top : 256 ^ i ≤ 256 ^ 7 = pow-le-pow_right (omega arith) {i = i} {j = 7} (omega (arith, place)) in omega (arith, top, small, one)

-- a byte more lengthens the number by one place
pub longer : (i number byte : ℕ) → number < 256 ^ i → byte < 256 → number * 256 + byte < 256 ^ (i + 1)
longer i number byte small one = let p : 256 ^ (i + 1) ≡ 256 ^ i * 256 = pow-add 256 i 1 in omega (arith, p, small, one)

-- the places left before and after one is filled
pub gap : (width i : ℕ) → i < width → suc (width - (i + 1)) ≡ width - i
gap width i place = omega (arith, place)
