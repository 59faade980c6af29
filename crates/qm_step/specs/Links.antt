-- The own operations of ordered writes, by what is known of their keys.
use Rattle.std.specs.Prelude.{◌≡◌, ℕ, Bool, true, ◌&&◌, if◌then◌else◌, List, ◌++◌, map, filter, filter_map, Option, Some, None, option_map, option_and_then, unwrap_or, is_some, is_none, All, IfSome}
use denote.Ref.{Bor}
use Rattle.qm_model.specs.Operations.{Bytes, Operation, update, delete, commit}
use Rattle.qm_model.specs.Live.{live}
use Rattle.qm_model.specs.Keys.{successor, contains_key, without, once}
use Rattle.qm_model.specs.Writes.{Write, operation_of}
use Rattle.qm_model.specs.Ordered.{rewritten}
use Rattle.qm_operations.specs.Parts.{key_of}
use Rattle.qm_operations.specs.Views.{operation_view}
use Rattle.qm_operations.specs.declared.operation.Operation as operation
use Rattle.qm_operations.specs.declared.update.Ordered.{Ordered}
use Rattle.qm_step.specs.Changes.{next_in, update_of}
use Rattle.qm_step.specs.OrderedViews.{ordered_update, neighbour_view}
use Rattle.qm_step.specs.Rings.{touch_in}
use Rattle.qm_step.specs.Touches.{Touch}
use Rattle.qm_step.specs.Views.{read_view}
use Rattle.qm_step.specs.declared.neighbour.Neighbour as neighbour
use Rattle.qm_step.specs.declared.links.Kind.{Kind}
use Rattle.qm_step.specs.declared.links.Kind.TheVariants.{Delete, Update, Create}

-- a write, and where its key stands with the key that this names
abbrev pub Linked : Type 0
Linked = Write × Option (ℕ × Option Bytes)

-- what the write does to its key
abbrev pub is_kind : Kind → Linked → Bool
is_kind Delete l = is_none l.0.value && is_some l.1
is_kind Update l = is_some l.0.value && is_some l.1
is_kind Create l = is_some l.0.value && is_none l.1

abbrev pub of_kind : Kind → List Linked → List Linked
of_kind kind ls = filter (is_kind kind) ls

abbrev pub keys_of_kind : Kind → List Linked → List Bytes
keys_of_kind kind ls = map (λ l. l.0.key) (of_kind kind ls)

-- the key after this one, or itself if there is none
abbrev pub key_after : List Bytes → Bytes → Bytes
key_after keys key = unwrap_or (successor keys key) key

-- an update names the key after its own
abbrev pub named : List Bytes → Operation → Operation
named keys (update k v n) = update k v (Some (key_after keys k))
named keys (delete k) = delete k
named keys (commit m f) = commit m f

module _ {K E V : Type 0} (key : K → Bytes) (value : V → Bytes) where
  -- an operation of an ordered database
  abbrev pub ordered_operation : {F : Type 0} → operation.Operation F (Ordered K E V) K V → Operation
  ordered_operation op = operation_view (ordered_update key value) key value op

  -- a key, and the live update before it
  abbrev pub ordered_neighbour : {F : Type 0} → neighbour.Neighbour F (Ordered K E V) K V → Bytes × Option (ℕ × Operation)
  ordered_neighbour n = neighbour_view (ordered_update key value) key n

-- the operation of a write, with where its key stood
abbrev pub touch_of : List Bytes → Linked → Touch
touch_of keys l = record { operation = named keys (operation_of l.0); before = option_map (λ p. p.0) l.1 }

-- the key that a written key's live update names, or the key itself if it is created
abbrev pub after_of : Linked → Option Bytes
after_of l = elim l.1 [ Some p ↦ p.1 | None ↦ if is_some l.0.value then Some l.0.key else None ]

-- the key of the live update before a key, and the key that it names
abbrev pub before_of : Bytes × Option (ℕ × Operation) → Option Bytes
before_of n = option_and_then (λ p. key_of p.1) n.1

abbrev pub next_of : Bytes × Option (ℕ × Operation) → Option Bytes
next_of n = option_and_then (λ p. next_in p.1) n.1

-- it stands in the base list
abbrev pub Stands : List Operation → ℕ × Operation → Type 0
Stands base p = option_and_then (update_of base) (key_of p.1) ≡ Some p

abbrev pub IsStanding : List Operation → Bytes × Option (ℕ × Operation) → Type 0
IsStanding base n = IfSome n.1 (Stands base)

-- each of these is the base list's live update of its key
abbrev pub AreLive : {U : Type 0} → (U → Operation) → List Operation → List (Bor Bytes × Bor (ℕ × U)) → Type 0
AreLive update_view base entries = All (λ e. update_of base e.0.now ≡ Some (read_view update_view e.1.now)) entries

-- the bytes of each are those of a key
abbrev pub AreKeys : {X : Type 0} → (Bytes → Bool) → List (Bor Bytes × X) → Type 0
AreKeys is_key entries = All (λ e. is_key e.0.now ≡ true) entries

-- the keys of a map by key
abbrev pub keys_in : {X : Type 0} → List (Bor Bytes × X) → List Bytes
keys_in entries = map (λ e. e.0.now) entries

abbrev pub SameKeys : List Bytes → List Bytes → Type 0
SameKeys xs ys = (x : Bytes) → contains_key xs x ≡ contains_key ys x

-- the live updates of these keys but those that are written, each once, as they are written again
abbrev pub relinked_touches : List Operation → List Bytes → List Bytes → List Bytes → List Touch
relinked_touches base afters written keys = map (touch_in base) (map (named afters) (filter_map (rewritten (live base)) (without written (once keys))))

-- after the touches in front they are written again, and those keys are written then
pub record AreRelinked (base : List Operation) (afters : List Bytes) (front : List Touch) (before keys : List Bytes) (made : List Touch) (done : List Bytes) : Type 0 where
  pub touches : made ≡ front ++ relinked_touches base afters before keys
  pub written : SameKeys done (before ++ keys)
