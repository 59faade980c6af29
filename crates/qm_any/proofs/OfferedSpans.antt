-- Live updates and what they say.
use Rattle.std.proofs.Common.{◌≡◌, ◌∙◌, ℕ, ap, sym, refl, Option, Some, None}
use Rattle.std.specs.Prelude.{option_map, option_and_then}
use Rattle.qm_model.specs.Operations.{Operation, update, delete, commit}
use Rattle.qm_model.specs.Live.{Live}
use Rattle.qm_step.specs.Changes.{located}

-- the live update that a location and an operation say
abbrev live_from : ℕ × Operation → Option Live
live_from (at, update key value next) = Some (record { location = at; key = key; value = value; next = next })
live_from (at, delete key) = None
live_from (at, commit meta floor) = None

live-back : (o : Option Live) → option_and_then live_from (option_map located o) ≡ o
live-back None = refl
live-back (Some e) = refl

-- they say which it is
pub same-located : (a b : Option Live) → option_map located a ≡ option_map located b → a ≡ b
same-located a b same = sym (live-back a) ∙ ap (option_and_then live_from) same ∙ live-back b
