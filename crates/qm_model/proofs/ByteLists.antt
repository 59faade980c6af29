-- Lists of bytes.
use Rattle.std.proofs.Common.{◌≡◌, ℕ, ◌<◌, true, nat_lt, [], ◌∷◌, arith}
use Rattle.std.proofs.lemmas.Bool.Decides.{nat_tests}
use Rattle.std.proofs.lemmas.List.Elements.{All-nil, All-cons}
use Rattle.qm_model.specs.Operations.{Bytes, AreBytes, are_bytes}
use Rattle.qm_model.proofs.KeyOrder.{and-true}

byte-below : (b : ℕ) → nat_lt b 256 ≡ true → b < 256
byte-below b h = grind (arith, nat_tests, h)

pub bytes-all : (bs : Bytes) → are_bytes bs ≡ true → AreBytes bs
bytes-all [] h = All-nil (λ b. b < 256)
bytes-all (b ∷ bs) h = let both = and-true (nat_lt b 256) (are_bytes bs) h in All-cons (λ b. b < 256) b bs (byte-below b both.0) (bytes-all bs both.1)
