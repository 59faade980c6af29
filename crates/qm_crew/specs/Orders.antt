-- Workers that mark the places of their lists, in any order among them.
use Rattle.std.specs.Prelude.{◌≡◌, ◌↔◌, ℕ, zero, suc, List, [], ◌∷◌, ◌++◌, All, Any, Contains}

-- what is marked, and what each worker has left to mark
pub record Course : Type 0 where
  pub marked : List ℕ
  pub left : List (List ℕ)

-- the place that this worker marks next, if it has one left
abbrev pub next_of : ℕ → List (List ℕ) → List ℕ
next_of w [] = []
next_of zero ([] ∷ ls) = []
next_of zero ((x ∷ xs) ∷ ls) = x ∷ []
next_of (suc w) (l ∷ ls) = next_of w ls

-- what all have left after that
abbrev pub behind : ℕ → List (List ℕ) → List (List ℕ)
behind w [] = []
behind zero ([] ∷ ls) = [] ∷ ls
behind zero ((x ∷ xs) ∷ ls) = xs ∷ ls
behind (suc w) (l ∷ ls) = l ∷ behind w ls

-- this worker marks its next place; if it has none left nothing happens
abbrev pub marks : ℕ → Course → Course
marks w c = record { marked = c.marked ++ next_of w c.left; left = behind w c.left }

-- after so many marks, each by the worker of this number
abbrev pub after : List ℕ → Course → Course
after [] c = c
after (w ∷ ws) c = after ws (marks w c)

-- nobody has anything left to mark
abbrev pub IsOver : Course → Type 0
IsOver c = All (λ l. l ≡ []) c.left

-- nothing is marked yet
abbrev pub begun : List (List ℕ) → Course
begun lists = record { marked = []; left = lists }

-- in whatever order the workers come to the end of their lists, what is marked is the union of these
abbrev pub MarksTheUnion : Type 0
MarksTheUnion = (lists : List (List ℕ)) (events : List ℕ) → IsOver (after events (begun lists))
    → (p : ℕ) → Contains (after events (begun lists)).marked p ↔ Any (λ own. Contains own p) lists
