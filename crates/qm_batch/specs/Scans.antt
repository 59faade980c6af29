-- Scans of ranges: where one stands, and what it has left.
use Rattle.std.specs.Prelude.{◌≡◌, ◌⊎◌, ℕ, Bool, false, nat_lt, ◌&&◌, List, [], ◌∷◌, ◌++◌, filter, filter_map, if◌then◌else◌, Option, Some, None, option_map, Result, Ok, Err}
use Rattle.qm_model.specs.Operations.{Bytes, Operation}
use Rattle.qm_model.specs.Live.{live_keys, value_of}
use Rattle.qm_model.specs.Keys.{by_key}
use Rattle.qm_model.specs.Ranges.{Limit, included, excluded, is_after, is_before}
use Rattle.qm_batch.specs.Gathered.{Pair}
use Rattle.qm_batch.specs.declared.scan.Place.{Place as Held}
use Rattle.qm_batch.specs.declared.scan.Place.TheVariants as held

-- where a scan reads next: where its range begins, after the bucket of a key, or nowhere
pub data Place : Type 0 where
  beginning : Place
  behind : Bytes → Place
  nowhere : Place

abbrev pub place_view : {K : Type 0} → (K → Bytes) → Held K → Place
place_view key (held.Beginning) = beginning
place_view key (held.Behind k) = behind (key k)
place_view key (held.Nowhere) = nowhere

-- after the bucket of the first of the pairs, or nowhere
abbrev pub behind_first : List Pair → Place
behind_first [] = nowhere
behind_first (p ∷ ps) = behind p.0

-- a scan: where its range begins and ends, where it reads next, and the pairs that it has read and not given yet
pub record Scanning : Type 0 where
  pub low : Limit
  pub high : Limit
  pub place : Place
  pub ready : List Pair

-- a range begins at this key, with it or after it
abbrev pub BeginsAt : Bytes → Limit → Type 0
BeginsAt key low = (low ≡ included key) ⊎ (low ≡ excluded key)

-- a key with its value in a list
abbrev pub valued : List Operation → Bytes → Option Pair
valued list k = option_map (λ v. (k, v)) (value_of list k)

module _ (index_key : Bytes → ℕ) where
  -- the key is one that is read from this place on, in a range that begins here
  abbrev pub is_ahead : Limit → Place → Bytes → Bool
  is_ahead low beginning key = is_after low key
  is_ahead low (behind k) key = nat_lt (index_key k) (index_key key)
  is_ahead low nowhere key = false

  -- the pairs of the range from this place on, by key
  abbrev pub ahead_of : Limit → Limit → Place → List Operation → List Pair
  ahead_of low high place list = filter_map (valued list) (filter (λ k. is_ahead low place k && is_before high k) (by_key (live_keys list)))

  -- these are the first pairs of the range from a place on, and the others are those from another place on
  abbrev pub AreNext : Limit → Limit → List Operation → Place → List Pair → Place → Type 0
  AreNext low high list before pairs after = ahead_of low high before list ≡ pairs ++ ahead_of low high after list

  -- what a scan of a list has left
  abbrev pub left_of : Scanning → List Operation → List Pair
  left_of scan list = scan.ready ++ ahead_of scan.low scan.high scan.place list

-- what a scan gives, of what it had left and what it has left then: the first, nothing if nothing was left, or an error,
-- which leaves it all
abbrev pub IsStep : {T X E : Type 0} → (T → X) → List X → List X → Option (Result T E) → Type 0
IsStep view before after None = (before ≡ []) × (after ≡ [])
IsStep view before after (Some (Ok t)) = before ≡ view t ∷ after
IsStep view before after (Some (Err e)) = after ≡ before

-- the first of the pairs that a scan has ready, which it then has no longer, or nothing if it has none
abbrev pub IsTaken : {T : Type 0} → (T → Pair) → Scanning → Scanning → Option T → Type 0
IsTaken view before after None = (before.ready ≡ []) × (after ≡ before)
IsTaken view before after (Some t) = before ≡ record after { ready = view t ∷ after.ready }

-- what stands with a flag, if that is not set
abbrev pub unwrapped : {T : Type 0} → Option (T × Bool) → Option T
unwrapped None = None
unwrapped (Some p) = if p.1 then None else Some p.0
