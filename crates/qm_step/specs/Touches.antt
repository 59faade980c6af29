-- The own operations of a step, and the live updates that it goes by.
use Rattle.std.specs.Prelude.{◌≡◌, ℕ, ◌+◌, ◌==◌, Bool, true, false, IfSome, ⊤, List, [], ◌∷◌, ◌++◌, map, filter_map, drop, slice_get, Option, Some, None, option_map, option_and_then, is_some}
use Rattle.std.specs.BTreeSet.{BTreeSet, contains}
use Rattle.std.specs.List.{list_any}
use Rattle.std.specs.Ordering.{nat_cmp}
use Rattle.qm_operations.specs.Parts.{key_of}
use Rattle.qm_model.specs.Operations.{Bytes, Operation}
use Rattle.qm_model.specs.Live.{Live, live, live_at, touches, touched}
use Rattle.qm_model.specs.Writes.{Write, rewrite_of, create_of}
use Rattle.qm_step.specs.Changes.{place_in, update_from}

-- the live update at a location
abbrev pub live_update_at : List Operation → ℕ → Option Operation
live_update_at list at = option_and_then (λ op. option_map update_from (live_at at op (drop (at + 1) list))) (slice_get list at)

-- whether a key stands at this location
abbrev pub is_there : Option (ℕ × Bytes) → ℕ → Bool
is_there None at = false
is_there (Some p) at = p.0 == at

-- an operation of a step, and where its key's live update stood before
pub record Touch : Type 0 where
  pub operation : Operation
  pub before : Option ℕ

abbrev pub operations_of : List Touch → List Operation
operations_of touches = map (λ t. t.operation) touches

-- the operation is of a step from this list: its key stood there
abbrev pub IsFrom : List Operation → Touch → Type 0
IsFrom base t = (key : Bytes) → touches key t.operation ≡ true → t.before ≡ place_in base key

-- the operation is of a key
abbrev pub IsKeyed : Touch → Type 0
IsKeyed t = is_some (key_of t.operation) ≡ true

-- each key is updated or deleted by one operation at most
abbrev pub Once : List Operation → Type 0
Once [] = ⊤
Once (op ∷ rest) = ((key : Bytes) → touches key op ≡ true → touched key rest ≡ false) × Once rest

-- whether this is the location
abbrev pub is_at : ℕ → Option ℕ → Bool
is_at at None = false
is_at at (Some n) = n == at

-- whether one of the operations replaces the live update at a location
abbrev pub is_replaced : List Touch → ℕ → Bool
is_replaced touches at = list_any (λ t. is_at at t.before) touches

-- these are the locations whose live updates the operations replace
abbrev pub AreReplaced : BTreeSet ℕ → List Touch → Type 0
AreReplaced replaced touches = (at : ℕ) → contains nat_cmp replaced at ≡ is_replaced touches at

-- this moves the live update at a location of a list, if one is there
pub record IsMoveAt (moved : Option Touch) (base list : List Operation) (at : ℕ) : Type 0 where
  pub operation : option_map (λ t. t.operation) moved ≡ live_update_at list at
  pub from : IfSome moved (IsFrom base)

-- what writes do to a live update, with its location
abbrev pub rewrite_here : List Write → Live → Option (ℕ × Operation)
rewrite_here ws e = option_map (λ op. (e.location, op)) (rewrite_of ws e)

-- an operation of a key that stood there, and one of a key that stood nowhere
abbrev pub moved_touch : ℕ × Operation → Touch
moved_touch p = record { operation = p.1; before = Some p.0 }

abbrev pub new_touch : Operation → Touch
new_touch op = record { operation = op; before = None }

-- the operations of writes: those to live keys by location, then the creates
abbrev pub written_touches : List Operation → List Write → List Touch
written_touches base ws = map moved_touch (filter_map (rewrite_here ws) (live base)) ++ map new_touch (filter_map (create_of (live base)) ws)
