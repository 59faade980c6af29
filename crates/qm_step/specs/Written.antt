-- Where the last write of each key stands among writes in order.
use Rattle.std.specs.Prelude.{◌≡◌, ℕ, List, map, slice_get, Option, Some}
use Rattle.qm_model.specs.Operations.{Bytes}
use Rattle.qm_model.specs.Writes.{Write, last_writes}

-- the places, by key, are those of the last writes
abbrev pub ArePlaces : {K : Type 0} → (K → Bytes) → List (K × ℕ) → List Write → Type 0
ArePlaces bytes places ws = map {B = Bytes × Option Write} (λ e. (bytes e.0, slice_get ws e.1)) places ≡ map (λ w. (w.key, Some w)) (last_writes ws)
