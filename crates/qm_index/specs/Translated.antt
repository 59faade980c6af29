-- What keys are translated to.
use Rattle.std.specs.Prelude.{◌≡◌, ℕ, zero, suc, ◌+◌, ◌*◌, ◌^◌, ◌≤◌, [], ◌∷◌, length, true}
use Rattle.qm_model.specs.Operations.{Bytes, AreBytes}
use Rattle.qm_model.specs.Keys.{key_lt}

-- the number of these bytes, the highest first
abbrev pub number_of : Bytes → ℕ
number_of [] = 0
number_of (x ∷ xs) = x * 256 ^ length xs + number_of xs

-- the first bytes of a key, so many, with zeros after a shorter one
abbrev pub first_bytes : ℕ → Bytes → Bytes
first_bytes zero key = []
first_bytes (suc n) [] = 0 ∷ first_bytes n []
first_bytes (suc n) (x ∷ xs) = x ∷ first_bytes n xs

-- the index key of a translator of this width
abbrev pub capped : ℕ → Bytes → ℕ
capped width key = number_of (first_bytes width key)

-- a key that is before another has no greater index key
abbrev pub IsMonotone : (Bytes → ℕ) → Type 0
IsMonotone index_key = (a b : Bytes) → AreBytes a → AreBytes b → key_lt a b ≡ true → index_key a ≤ index_key b
