-- Numbers as bytes, the highest first, and back.
use Rattle.std.proofs.Common.{◌≡◌, ℕ, ◌<◌, ◌^◌, length, get_or, refl, arith}
use Rattle.std.proofs.lemmas.Nat.{be_bytes_4, be_bytes_8, from_be_bytes-to_be_bytes_4, from_be_bytes-to_be_bytes_8}
use Rattle.qm_model.specs.Operations.{Bytes, four_bytes, eight_bytes}
use Rattle.qm_model.specs.Forms.{number_of_four, number_of_eight}

-- each is below 256
abbrev pub AreBytes : Bytes → Type 0
AreBytes bs = (i : ℕ) → get_or bs i 0 < 256

pub length-four_bytes : (n : ℕ) → length (four_bytes n) ≡ 4
unfolding four_bytes
length-four_bytes n = refl

pub length-eight_bytes : (n : ℕ) → length (eight_bytes n) ≡ 8
unfolding eight_bytes
length-eight_bytes n = refl

pub number_of_four-four_bytes : (n : ℕ) → n < 2 ^ 32 → number_of_four (four_bytes n) ≡ n
unfolding number_of_four four_bytes
number_of_four-four_bytes n h = from_be_bytes-to_be_bytes_4 n h

pub number_of_eight-eight_bytes : (n : ℕ) → n < 2 ^ 64 → number_of_eight (eight_bytes n) ≡ n
unfolding number_of_eight eight_bytes
number_of_eight-eight_bytes n h = from_be_bytes-to_be_bytes_8 n h

pub four_bytes-number_of_four : (bs : Bytes) → length bs ≡ 4 → AreBytes bs → four_bytes (number_of_four bs) ≡ bs
unfolding number_of_four four_bytes
four_bytes-number_of_four bs len below = be_bytes_4 bs _ len below refl

pub eight_bytes-number_of_eight : (bs : Bytes) → length bs ≡ 8 → AreBytes bs → eight_bytes (number_of_eight bs) ≡ bs
unfolding number_of_eight eight_bytes
eight_bytes-number_of_eight bs len below = be_bytes_8 bs _ len below refl

pub number_of_four_below : (bs : Bytes) → AreBytes bs → number_of_four bs < 2 ^ 32
unfolding number_of_four
number_of_four_below bs below = omega (arith, below 0, below 1, below 2, below 3)
