-- What a store in memory tells of itself.
use Rattle.std.specs.Prelude.{◌≡◌, ◌≤◌, ℕ, ◌+◌, ◌-◌, ◌^◌, min, max, List, [], ◌∷◌, length, slice_range}
use Rattle.qm_model.specs.Operations.{Bytes}
use Rattle.qm_model.specs.StoreModel.{Named, Stored, empty, end_of}
use Rattle.qm_memory.specs.Changes.{Change, AreNamedOnce, put_in_turn}

-- what it holds, what its calls changed with the newest first, the numbers of the calls that fail, and how many calls and faults there
-- were
pub record Mem : Type 0 where
  pub held : Stored
  pub changes : List Change
  pub fail : List ℕ
  pub calls : ℕ
  pub faults : ℕ

-- a store at rest with no items, from this start on, with this head
abbrev pub at_start : ℕ → List ℕ → Stored
at_start start head = record empty { start = start; head = head; stable = start }

-- one with these items and these metadata, all of it stable
abbrev pub holding : ℕ → List ℕ → List Bytes → List Named → Stored
holding start head items metadata = record { start = start; items = items; head = head; metadata = metadata; stable = start + length items; ends = []; past = [] }

-- the same, with these metadata put one after another
abbrev pub filled : ℕ → List ℕ → List Bytes → List Named → Stored
filled start head items named = holding start head items (put_in_turn named [])

-- a store in memory of which no call was made yet, and which fails at the calls of these numbers
abbrev pub at_rest : Stored → List ℕ → Mem
at_rest held fail = record { held = held; changes = []; fail = fail; calls = 0; faults = 0 }

-- one more, up to the greatest number of 64 bits
abbrev pub one_more : ℕ → ℕ
one_more n = min (n + 1) (2 ^ 64 - 1)

-- the store after a call
abbrev pub called : Mem → Mem
called s = record s { calls = one_more s.calls }

-- the store after a call that failed
abbrev pub failed : Mem → Mem
failed s = record s { calls = one_more s.calls; faults = one_more s.faults }

-- the store after a call that notes this of what it holds, and makes this of it
abbrev pub made : (Stored → Change) → (Stored → Stored) → Mem → Mem
made change f s = record s { held = f s.held; changes = change s.held ∷ s.changes; calls = one_more s.calls }

-- the end that a restart chooses which is asked to keep the items up to a location
abbrev pub chosen : ℕ → Stored → ℕ
chosen keep s = max s.stable (min (end_of s) keep)

-- the stable length is a location of its items, or their end, all ends at or below 2^62, and no two metadata have the same name
pub record IsInside (m : Mem) : Type 0 where
  pub start : m.held.start ≤ m.held.stable
  pub stable : m.held.stable ≤ end_of m.held
  pub limit : end_of m.held ≤ 2 ^ 62
  pub once : AreNamedOnce m.held.metadata

-- the items in a buffer from a place on, each up to its end
abbrev pub cut : ℕ → List ℕ → List ℕ → List (List ℕ)
cut from [] bytes = []
cut from (to ∷ ends) bytes = slice_range bytes from to ∷ cut to ends bytes

-- the ends rise from a place on, up to the last place
abbrev pub AreEnds : ℕ → List ℕ → ℕ → Type 0
AreEnds from [] last = from ≡ last
AreEnds from (to ∷ ends) last = (from ≤ to) × AreEnds to ends last
