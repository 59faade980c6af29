-- What a store in memory notes of its calls, so that each earlier state can be told.
use Rattle.std.specs.Prelude.{◌≡◌, ℕ, ◌-◌, false, List, [], ◌∷◌, ◌++◌, length, take, drop, All, Option, None, Some, filter, slice_get, bytes_eq, not, ⊤}
use Rattle.std.specs.List.{insert, position_or_len}
use Rattle.qm_model.specs.Operations.{Bytes}
use Rattle.qm_model.specs.StoreModel.{Named, Rest, Stored, rest_of}

-- What a call changed: so many items were appended; all became stable, which was so up to here; these items were cut off, and
-- this was the stable length; the start, the head, and the items that were taken away at the beginning; metadata were put under a
-- new name, or in place of these, which stood at this place; a restart cut these items off, and this was the stable length; all
-- that the store held was dropped, but for the ends that its restarts chose.
pub data Change : Type 0 where
  grew : ℕ → Change
  settled_from : ℕ → Change
  rewound_from : List Bytes → ℕ → Change
  pruned_from : ℕ → Bytes → List Bytes → Change
  put_new : Change
  put_over : ℕ → Named → Change
  restarted_from : List Bytes → ℕ → Change
  emptied : Stored → Change

-- What each call notes of a store.

abbrev pub appending : List Bytes → Stored → Change
appending more s = grew (length more)

abbrev pub settling : Stored → Change
settling s = settled_from s.stable

abbrev pub rewinding : ℕ → Stored → Change
rewinding to s = rewound_from (drop (to - s.start) s.items) s.stable

abbrev pub pruning : ℕ → Stored → Change
pruning to s = pruned_from s.start s.head (take (to - s.start) s.items)

abbrev pub restarting : ℕ → Stored → Change
restarting to s = restarted_from (drop (to - s.start) s.items) s.stable

abbrev pub emptying : Stored → Change
emptying s = emptied (record s { ends = []; past = [] })

-- the place of the metadata of a name, or how many metadata there are
abbrev pub place_of : Bytes → List Named → ℕ
place_of name ms = position_or_len (λ m. bytes_eq name m.name) ms

abbrev pub replaced : ℕ → Option Named → Change
replaced place None = put_new
replaced place (Some named) = put_over place named

abbrev pub putting : Bytes → List Named → Change
putting name ms = replaced (place_of name ms) (slice_get ms (place_of name ms))

-- Metadata that a store is given.

-- put over those of its name
abbrev pub put_over_older : Named → List Named → List Named
put_over_older m older = m ∷ filter (λ o. not (bytes_eq m.name o.name)) older

-- put over older ones, one after another
abbrev pub put_in_turn : List Named → List Named → List Named
put_in_turn [] older = older
put_in_turn (m ∷ ms) older = put_in_turn ms (put_over_older m older)

-- The states before.

-- the store before this change
abbrev pub undone : Change → Stored → Stored
undone (grew count) s = record s { items = take (length s.items - count) s.items }
undone (settled_from stable) s = record s { stable = stable }
undone (rewound_from gone stable) s = record s { items = s.items ++ gone; stable = stable }
undone (pruned_from start head gone) s = record s { start = start; head = head; items = gone ++ s.items }
undone put_new s = record s { metadata = drop 1 s.metadata }
undone (put_over place named) s = record s { metadata = insert (drop 1 s.metadata) place named }
undone (restarted_from gone stable) s = record s { items = s.items ++ gone; stable = stable; ends = take (length s.ends - 1) s.ends }
undone (emptied held) s = record held { ends = s.ends }

-- the states before each of these changes, of which the newest stands first
abbrev pub before : List Change → Stored → List Stored
before [] s = []
before (change ∷ changes) s = undone change s ∷ before changes (undone change s)

-- What a crash may have found.

-- what a call noted that found a store so, with this past, and of which so much was stable after it; a rewind that took nothing away
-- took no time
abbrev pub found_at : Change → Stored → ℕ → List Rest → List Rest
found_at (rewound_from [] stable) s after past = past
found_at (rewound_from (gone ∷ more) stable) s after past = rest_of (record s { stable = after }) ∷ past
found_at change s after past = rest_of s ∷ past

-- the past of a store that these changes made, the newest first
abbrev pub past_of : List Change → Stored → List Rest
past_of [] s = []
past_of (change ∷ changes) s = found_at change (undone change s) s.stable (past_of changes (undone change s))

-- the store with it
abbrev pub with_past : List Change → Stored → Stored
with_past changes s = record s { past = past_of changes s }

-- no two have the same name
abbrev pub AreNamedOnce : List Named → Type 0
AreNamedOnce [] = ⊤
AreNamedOnce (m ∷ ms) = All (λ other. bytes_eq m.name other.name ≡ false) ms × AreNamedOnce ms
