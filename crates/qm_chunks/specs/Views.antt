-- What definitions see of the program's values.
use Rattle.std.specs.Prelude.{ℕ, Option, option_map}
use Rattle.qm_model.specs.Operations.{Bytes}

-- how many bits a partial chunk has, with the bytes of its digest
abbrev pub partial_view : {D : Type 0} → (D → Bytes) → Option (ℕ × D) → Option (ℕ × Bytes)
partial_view bytes partial = option_map (λ p. (p.0, bytes p.1)) partial
