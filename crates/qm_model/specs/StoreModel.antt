-- Stores: what one holds, what each of its calls makes of that, and what a crash or a failed call leaves.
use Rattle.std.specs.Prelude.{◌≡◌, ◌⊎◌, ◌≤◌, ℕ, ◌+◌, ◌-◌, min, if◌then◌else◌, List, [], ◌∷◌, ◌++◌, length, take, drop, filter, Contains, Option, None, Some, option_map, bytes_eq, not}
use Rattle.qm_model.specs.Operations.{Bytes}

-- an entry of metadata
pub record Entry : Type 0 where
  pub key : Bytes
  pub value : Bytes

-- metadata under a name
pub record Named : Type 0 where
  pub name : Bytes
  pub entries : List Entry

-- what a store may have been when a crash came: where its items start, the items, its head, its metadata with the newest first,
-- and the stable length, the location up to which its items outlive the crash
pub record Rest : Type 0 where
  pub start : ℕ
  pub items : List Bytes
  pub head : Bytes
  pub metadata : List Named
  pub stable : ℕ

-- what a store holds: that, the ends that its restarts chose, in their order, and its past: what a crash before now may have
-- found, the newest first
pub record Stored : Type 0 where
  pub start : ℕ
  pub items : List Bytes
  pub head : Bytes
  pub metadata : List Named
  pub stable : ℕ
  pub ends : List ℕ
  pub past : List Rest

-- the empty store
abbrev pub empty : Stored
empty = record { start = 0; items = []; head = []; metadata = []; stable = 0; ends = []; past = [] }

-- where its items end
abbrev pub end_of : Stored → ℕ
end_of s = s.start + length s.items

-- what a crash finds of it
abbrev pub rest_of : Stored → Rest
rest_of s = record { start = s.start; items = s.items; head = s.head; metadata = s.metadata; stable = s.stable }

-- a store that is found so, without a past
abbrev pub at_rest : Rest → Stored
at_rest r = record { start = r.start; items = r.items; head = r.head; metadata = r.metadata; stable = r.stable; ends = []; past = [] }

-- its past, if a call finds it so
abbrev pub found_by : Stored → List Rest
found_by s = rest_of s ∷ s.past

-- the metadata of a name, none if none was put
abbrev pub metadata_in : List Named → Bytes → List Entry
metadata_in [] name = []
metadata_in (m ∷ ms) name = if bytes_eq name m.name then m.entries else metadata_in ms name

-- What a call makes of a store.

abbrev pub appended : List Bytes → Stored → Stored
appended more s = record s { items = s.items ++ more; past = found_by s }

-- after a commit or a sync
abbrev pub settled : Stored → Stored
settled s = record s { stable = end_of s; past = found_by s }

-- its items up to this end
abbrev pub cut : ℕ → Stored → List Bytes
cut to s = take (to - s.start) s.items

-- a store of which a rewind takes items away: as much of it is stable as stays
abbrev pub lowered : ℕ → Stored → Stored
lowered to s = record s { stable = min s.stable to }

-- its past, if a rewind to a location takes these items away; one that takes none away takes no time
abbrev pub cut_by : ℕ → Stored → List Bytes → List Rest
cut_by to s [] = s.past
cut_by to s (item ∷ items) = found_by (lowered to s)

-- after a rewind
abbrev pub rewound : ℕ → Stored → Stored
rewound to s = record s { items = cut to s; stable = min s.stable to; past = cut_by to s (drop (to - s.start) s.items) }

-- after a prune
abbrev pub pruned : ℕ → Bytes → Stored → Stored
pruned to head s = record s { start = to; items = drop (to - s.start) s.items; head = head; past = found_by s }

-- with the metadata of one name replaced
abbrev pub with_metadata : Bytes → List Entry → Stored → Stored
with_metadata name entries s = record s { metadata = record { name = name; entries = entries } ∷ filter (λ m. not (bytes_eq name m.name)) s.metadata; past = found_by s }

-- after a crash that left the items up to this end
abbrev pub left_at : ℕ → Stored → Stored
left_at to s = record s { items = cut to s; stable = to }

-- after a restart that chose this end
abbrev pub restarted : ℕ → Stored → Stored
restarted to s = record (left_at to s) { ends = s.ends ++ to ∷ []; past = found_by s }

abbrev pub destroyed : Stored → Stored
destroyed s = record empty { ends = s.ends; past = found_by s }

-- What a crash leaves.

-- a crash of a store at rest may leave its items up to this end: one from the stable length on
pub record MayEnd (to : ℕ) (s : Stored) : Type 0 where
  pub stable : s.stable ≤ to
  pub within : to ≤ end_of s

-- of a store at rest, whatever its past is
pub record IsImage (s image : Stored) : Type 0 where
  pub to : ℕ
  pub may : MayEnd to s
  pub same : image ≡ record (left_at to s) { past = image.past }

-- of a store inside a call that makes another of it in one step: what the old one or the new one may leave
abbrev pub IsOldOrNew : (Stored → Stored) → Stored → Stored → Type 0
IsOldOrNew f s image = IsImage s image ⊎ IsImage (f s) image

-- inside a rewind
abbrev pub RewindLeaves : ℕ → Stored → Stored → Type 0
RewindLeaves to s image = IsImage (lowered to s) image

-- a restart chose an end
pub record HasRestarted (s new : Stored) : Type 0 where
  pub to : ℕ
  pub may : MayEnd to s
  pub same : new ≡ restarted to s

-- What a call leaves that failed.

-- the store reads as one of these images, and at least so much of it is stable
pub record ReadsAs (least : ℕ) (Leaves : Stored → Type 0) (new : Stored) : Type 0 where
  pub image : Stored
  pub left : Leaves image
  pub reads : new ≡ record image { stable = new.stable; past = new.past }
  pub least_stable : least ≤ new.stable
  pub within : new.stable ≤ end_of new

-- a first part of these was appended
pub record HasAppended (more : List Bytes) (s new : Stored) : Type 0 where
  pub count : ℕ
  pub reads : new ≡ record (appended (take count more) s) { stable = new.stable; past = new.past }
  pub least_stable : s.stable ≤ new.stable
  pub within : s.stable ≤ end_of s → new.stable ≤ end_of new

-- a destroy failed: it took no effect, or it did
abbrev pub DestroyLeaves : Stored → Stored → Type 0
DestroyLeaves s new = ReadsAs s.stable (IsImage s) new ⊎ ReadsAs 0 (IsImage (destroyed s)) new

-- Of a store that may not tell what it holds.

-- what is told after a call, if it was told before
abbrev pub Turns : Option Stored → Option Stored → (Stored → Stored → Type 0) → Type 0
Turns None new R = new ≡ None
Turns (Some s) None R = ⊥
Turns (Some s) (Some t) R = R s t

-- the call makes this of it
abbrev pub Becomes : Option Stored → Option Stored → (Stored → Stored) → Type 0
Becomes old new f = Turns old new (λ s t. t ≡ f s)

-- Crashes at any moment.

-- what crashes since an older store may have found, beside what is there now
abbrev pub since : Stored → Stored → List Rest
since old new = take (length new.past - length old.past) new.past

-- a crash that found one of these may have left this
pub record MayBeLeft (rests : List Rest) (image : Stored) : Type 0 where
  pub found : Rest
  pub among : Contains rests found
  pub left : IsImage (at_rest found) image

-- a crash since a store was the older one, or now, may leave this
abbrev pub IsCrash : Stored → Stored → Stored → Type 0
IsCrash old new image = MayBeLeft (rest_of new ∷ since old new) image

-- A call failed, and left one of the former; and a crash inside it would have left one of the latter.
pub record Fails (R Q : Stored → Stored → Type 0) (s new : Stored) : Type 0 where
  pub now : R s new
  pub notes : List Rest
  pub past : new.past ≡ notes ++ s.past
  pub each : (image : Stored) → MayBeLeft notes image → Q s (record image { ends = s.ends })

-- if it is told, and both leave the same
abbrev pub Leaves : Option Stored → Option Stored → (Stored → Stored → Type 0) → Type 0
Leaves old new R = Turns old new (Fails R R)

-- of an append of these
abbrev pub Grows : Option Stored → Option Stored → List Bytes → Type 0
Grows old new more = Turns old new (Fails (HasAppended more) (λ s. IsImage (appended more s)))

-- a store but for its items, how far they are stable, and its past
abbrev pub without_items : Stored → Stored
without_items s = record s { items = []; stable = 0; past = [] }

-- what is told beside these: appends leave it as it is
abbrev pub except_items : Option Stored → Option Stored
except_items told = option_map without_items told
