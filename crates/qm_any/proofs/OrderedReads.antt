-- How a database is laid out, and what a live update says of its key.
use Rattle.std.proofs.Common.{◌≡◌, refl, ℕ, List, Option, None, Some}
use Rattle.std.specs.Prelude.{option_map, option_and_then}
use Rattle.qm_model.specs.Operations.{Bytes, Operation}
use Rattle.qm_model.specs.Live.{Live, live, live_of}
use Rattle.qm_model.specs.Trees.{Shape}
use Rattle.qm_operations.specs.Parts.{value_of}
use Rattle.qm_step.specs.Changes.{located, next_in, update_of}
use Rattle.qm_model.specs.Forms.{Form}
use Rattle.qm_any.specs.Layouts.{Layout, hashing_with}

abbrev pub laid_out : {D : Type 0} → ℕ → (D → Bytes) → (Bytes → Bytes) → Shape → Form → (Bytes → ℕ) → Layout D
laid_out chunk bytes hash shape form index_key = record { hashing = hashing_with bytes hash shape form; chunk = chunk; index_key = index_key }

-- value and next key of an update
abbrev pub said : ℕ × Operation → Option (Bytes × Option Bytes)
said p = option_map (λ value. (value, next_in p.1)) (value_of p.1)

-- the update that is found of a key says what its live update has
pub said-found : (list : List Operation) (key : Bytes) → option_and_then said (update_of list key) ≡ option_map (λ (e : Live). (e.value, e.next)) (live_of (live list) key)
said-found list key = by (live_of (live list) key)
  where
    by : (o : Option Live) → option_and_then said (option_map located o) ≡ option_map (λ (e : Live). (e.value, e.next)) o
    by None = refl
    by (Some e) = refl
