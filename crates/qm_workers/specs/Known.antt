-- What is known of locations: the key of the update there, or that no update stands there.
use Rattle.std.specs.Prelude.{◌≡◌, ◌⊎◌, ℕ, Bool, false, List, Option, Some, None, option_map, bytes_eq}
use Rattle.std.specs.Option.{option_or}
use Rattle.std.specs.BTreeMap.{get}
use Rattle.std.specs.Ordering.{nat_cmp}
use Rattle.qm_model.specs.Operations.{Bytes, Operation}
use Rattle.qm_build.specs.Building.{key_at}
use Rattle.qm_build.specs.Cached.{Cached, given}
use Rattle.qm_workers.specs.declared.keys.Keys.{Keys}

-- what a cache gives, if there is one
abbrev pub given_by : {K : Type 0} → Option (Cached K) → ℕ → Option K
given_by None at = None
given_by (Some cache) at = given cache at

-- the keys of locations, by hints and by a cache
pub record Knowledge : Type 0 where
  pub hinted : ℕ → Option (Option Bytes)
  pub cached : ℕ → Option Bytes

-- what keys are known to whoever has these
abbrev pub knowledge : {K : Type 0} → (K → Bytes) → Keys K → Knowledge
knowledge bytes keys = record { hinted = λ at. option_map (option_map bytes) (get nat_cmp keys.hints at); cached = λ at. option_map bytes (given_by keys.cache at) }

-- what is told of a location: the key of the update there, none if there is no update; or nothing
abbrev pub told : Knowledge → ℕ → Option (Option Bytes)
told k at = option_or (k.hinted at) (option_map Some (k.cached at))

-- an update of that key stands there
abbrev pub is_key : Bytes → Option Bytes → Bool
is_key key None = false
is_key key (Some own) = bytes_eq own key

-- all that is known is true of a list
pub record IsTrueOf (ops : List Operation) (k : Knowledge) : Type 0 where
  pub hints : (at : ℕ) (key : Option Bytes) → k.hinted at ≡ Some key → key_at ops at ≡ key
  pub cache : (at : ℕ) (key : Bytes) → k.cached at ≡ Some key → key_at ops at ≡ Some key

-- no more is known than before
pub record KnowsNoMore (old new : Knowledge) : Type 0 where
  pub hints : (at : ℕ) (key : Option Bytes) → new.hinted at ≡ Some key → old.hinted at ≡ Some key
  pub cache : (at : ℕ) (key : Bytes) → new.cached at ≡ Some key → (old.cached at ≡ Some key) ⊎ (old.hinted at ≡ Some (Some key))

-- the key of one location more is known
pub record Learns (at : ℕ) (key : Option Bytes) (old new : Knowledge) : Type 0 where
  pub here : new.hinted at ≡ Some key
  pub others : (n : ℕ) → (n ≡ at → ⊥) → new.hinted n ≡ old.hinted n
  pub cache : (n : ℕ) → new.cached n ≡ old.cached n
