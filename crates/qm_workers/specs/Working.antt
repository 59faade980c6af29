-- What a worker is, how far it is with its operations, and what becomes of it in a turn.
use Rattle.std.specs.Prelude.{◌≡◌, ◌≢◌, ◌⊎◌, ◌↔◌, ℕ, suc, ◌+◌, ◌*◌, ◌^◌, ◌<◌, ◌≤◌, Bool, true, false, if◌then◌else◌, List, [], ◌∷◌, ◌++◌, length, map, count_by, Contains, Option, None, Some, is_none}
use Rattle.std.specs.Bool.{then_some}
use Rattle.qm_model.specs.Operations.{Bytes, Operation}
use Rattle.qm_index.specs.Buckets.{bucket_at}
use Rattle.qm_index.specs.Places.{Places, AreApart, HasPlaces, moved}
use Rattle.qm_build.specs.declared.read.Found.{Found}
use Rattle.qm_build.specs.Building.{key_at, AreWithin}
use Rattle.qm_workers.specs.declared.look.Sought.{Sought}
use Rattle.qm_workers.specs.declared.look.Sought.TheVariants.{Here, Nowhere, Unknown}
use Rattle.qm_workers.specs.declared.worker.Task.{Task}
use Rattle.qm_workers.specs.declared.worker.Worker.{Worker}
use Rattle.qm_workers.specs.Known.{Knowledge, knowledge, told, is_key, IsTrueOf, Learns}

-- an operation of a key: where it stands, its key, and whether it is an update
pub record Move : Type 0 where
  pub at : ℕ
  pub key : Bytes
  pub is_update : Bool

-- a worker: its index, the locations that stand in it, what keys it knows, the operations that it has to do, how many keys are live in its index, and whether it lacked memory
pub record Work : Type 0 where
  pub entries : List (ℕ × List ℕ)
  pub located : List ℕ
  pub known : Knowledge
  pub coming : List Move
  pub live : ℕ
  pub failed : Bool

abbrev pub move_of : {K : Type 0} → (K → Bytes) → Task K → Move
move_of bytes t = record { at = t.at; key = bytes t.key; is_update = t.is_update }

abbrev pub work_of : {I K : Type 0} → (I → List (ℕ × List ℕ)) → (K → Bytes) → Worker I K → Work
work_of entries bytes w = record { entries = entries w.index; located = w.located.keys; known = knowledge bytes w.keys; coming = map (move_of bytes) w.coming.items; live = w.live; failed = w.failed }

-- where keys stand after these operations
abbrev pub after : Places → List Move → Places
after ps [] = ps
after ps (m ∷ ms) = after (moved ps m.key (then_some m.is_update m.at)) ms

-- what comes of looking for a key at one location, by what is told of it
abbrev pub sought_at : Option (Option Bytes) → Bytes → (here unknown later : Sought) → Sought
sought_at None key here unknown later = unknown
sought_at (Some own) key here unknown later = if is_key key own then here else later

-- what comes of looking for a key at locations, the first of which is at this place
abbrev pub sought : Knowledge → Bytes → ℕ → List ℕ → Sought
sought k key place [] = Nowhere
sought k key place (at ∷ rest) = sought_at (told k at) key (Here (record { place = place; location = at })) (Unknown at) (sought k key (suc place) rest)

-- the location whose key has to be known first, if there is one
abbrev pub asked_for : Sought → Option ℕ
asked_for (Here found) = None
asked_for Nowhere = None
asked_for (Unknown at) = Some at

-- a worker with one operation more, before the others
abbrev pub with_front : Move → Work → Work
with_front m w = record w { coming = m ∷ w.coming }

-- and after them
abbrev pub with_last : Move → Work → Work
with_last m w = record w { coming = w.coming ++ m ∷ [] }

-- a worker that has done nothing, has nothing to do and knows no keys
pub record IsNew (w : Work) : Type 0 where
  pub entries : w.entries ≡ []
  pub located : w.located ≡ []
  pub coming : w.coming ≡ []
  pub live : w.live ≡ 0
  pub failed : w.failed ≡ false
  pub known : (at : ℕ) → told w.known at ≡ None

-- it was told what key stands at a location
pub record IsTold (at : ℕ) (key : Option Bytes) (old new : Work) : Type 0 where
  pub same : new ≡ record old { known = new.known }
  pub learns : Learns at key old.known new.known

-- all its locations, and those of its operations, are within these bounds
pub record IsWithin (from to : ℕ) (w : Work) : Type 0 where
  pub standing : AreWithin from to w.entries
  pub located : (at : ℕ) → Contains w.located at → (from ≤ at) × (at < to)
  pub coming : (m : Move) → Contains w.coming m → (from ≤ m.at) × (m.at < to)

-- which locations stand once an update stands at this one, if it is one, in the place of that which was found
pub record IsReplaced (found now : Option ℕ) (old new : List ℕ) : Type 0 where
  pub there : (at : ℕ) → now ≡ Some at → Contains new at
  pub kept : (at : ℕ) → Contains old at → found ≢ Some at → Contains new at
  pub from : (at : ℕ) → Contains new at → (now ≡ Some at) ⊎ (Contains old at × (found ≢ Some at))

-- how many of these locations have a key that is not known
abbrev pub unknown : Knowledge → List ℕ → ℕ
unknown k bucket = count_by (λ at. is_none (told k at)) bucket

-- this was found by looking
abbrev pub IsFront : Sought → Option Found → Type 0
IsFront s None = s ≡ Nowhere
IsFront s (Some found) = s ≡ Here found

module _ (index_key : Bytes → ℕ) where
  -- what comes of looking for the key of the first of these operations
  abbrev pub front_sought : List (ℕ × List ℕ) → Knowledge → List Move → Sought
  front_sought entries k [] = Nowhere
  front_sought entries k (m ∷ ms) = sought k m.key 0 (bucket_at entries (index_key m.key))

  -- the location that a worker asks about
  abbrev pub asked : Work → Option ℕ
  asked w = asked_for (front_sought w.entries w.known w.coming)

  abbrev pub left_by : List (ℕ × List ℕ) → Knowledge → List Move → ℕ
  left_by entries k [] = 0
  left_by entries k (m ∷ ms) = suc (length ms) * 2 ^ 64 + unknown k (bucket_at entries (index_key m.key))

  -- how much a worker has left to do: its operations, and what it may have to ask for the first of them
  abbrev pub left_of : Work → ℕ
  left_of w = left_by w.entries w.known w.coming

  -- The worker has done the first of its operations of a list, at most so many, after which keys stand so, and has the others to do.
  pub record HasDone (ops : List Operation) (final : Places) (most : ℕ) (w : Work) : Type 0 where
    pub places : Places
    pub indexed : HasPlaces index_key w.entries places
    pub located : (at : ℕ) → Contains w.located at ↔ Contains (map (λ p. p.1) places) at
    pub apart : AreApart places
    pub stand : (p : Bytes × ℕ) → Contains places p → key_at ops p.1 ≡ Some p.0
    pub counted : w.live ≡ length places
    pub few : length places + length w.coming ≤ most
    pub rest : after places w.coming ≡ final
    pub coming : (m : Move) → Contains w.coming m → m.is_update ≡ true → key_at ops m.at ≡ Some m.key
    pub known : IsTrueOf ops w.known

  -- what it has done of a list stays done
  abbrev pub DoneStays : List Operation → Work → Work → Type 0
  DoneStays ops old new = (final : Places) (most : ℕ) → HasDone ops final most old → HasDone ops final most new

  -- what is so before is so after, unless memory was wanted
  pub record Goes (old new : Work) : Type 0 where
    pub failed : new.failed ≡ false → old.failed ≡ false
    pub within : new.failed ≡ false → (from to : ℕ) → IsWithin from to old → IsWithin from to new
    pub done : new.failed ≡ false → (ops : List Operation) (final : Places) (most : ℕ) → most < 2 ^ 64 → HasDone ops final most old → HasDone ops final most new

  -- it has done an operation that was before its others
  pub record Does (m : Move) (old new : Work) : Type 0 where
    pub coming : new.coming ≡ old.coming
    pub failed : new.failed ≡ old.failed
    pub within : (from to : ℕ) → IsWithin from to (with_front m old) → IsWithin from to new
    pub done : (ops : List Operation) (final : Places) (most : ℕ) → most < 2 ^ 64 → HasDone ops final most (with_front m old) → HasDone ops final most new

  -- it does nothing since it has to ask, having looked at a bucket
  pub record Stays (old new : Work) : Type 0 where
    pub same : new ≡ old
    pub asks : asked new ≢ None
    pub few : left_of new < suc (length new.coming) * 2 ^ 64

  -- what a turn may make of a worker
  pub record MayTurn (old new : Work) : Type 0 where
    pub goes : Goes old new
    pub quiet : asked new ≡ None → new.coming ≡ []
