-- Words of marks, what the seats at them know, and the rule over both.
use Rattle.std.specs.Prelude.{◌≡◌, ◌≢◌, ◌↔◌, ℕ, ◌+◌, ◌-◌, ◌*◌, ◌^◌, ◌<◌, Bool, true, false, List, [], ◌∷◌, ◌++◌, length, slice_index, Contains}
use Rattle.std.specs.Int.{bit_at}
use mathlib.Core.Option.{some}
use lib.ListN.{get_elem?}
use Rattle.atomic_table.specs.Table.{State, Me, Step}
use Rattle.qm_crew.specs.declared.board.View.{View}

-- the view of the seat that leads
abbrev pub leader : List ℕ → ℕ → View
leader marks out = record { lead = true; spent = false; marks = marks; out = out }

-- a worker's view
abbrev pub worker : List ℕ → View
worker marks = record { lead = false; spent = false; marks = marks; out = 0 }

-- the view of a seat that was joined
abbrev pub nobody : View
nobody = record { lead = false; spent = true; marks = []; out = 0 }

-- the view with one more mark
abbrev pub marking : View → ℕ → View
marking v place = record v { marks = v.marks ++ place ∷ [] }

-- the leading view once a seat is split off
abbrev pub with_one_out : View → View
with_one_out v = record v { out = v.out + 1 }

-- the leading view once a seat is joined
abbrev pub taken_in : View → View → View
taken_in v w = record v { marks = v.marks ++ w.marks; out = v.out - 1 }

-- 0 for a spent view, else 1
abbrev pub one_unspent : Bool → ℕ
one_unspent true = 0
one_unspent false = 1

-- what f gives of each view, added up
abbrev pub total : (View → ℕ) → List View → ℕ
total f [] = 0
total f (v ∷ vs) = f v + total f vs

-- how many views are not spent
abbrev pub unspent : List View → ℕ
unspent views = total (λ v. one_unspent v.spent) views

-- some view has marked the place
abbrev pub IsMarked : List View → ℕ → Type 0
IsMarked views place = (seat : ℕ) × (v : View) × (get_elem? views seat ≡ some v) × Contains v.marks place

-- this bit of this word is set
abbrev pub IsSet : List ℕ → ℕ → ℕ → Type 0
IsSet words word bit = bit_at (slice_index words word) bit ≡ 1

-- what holds of the view of one seat, if the seat `lead` leads and so many seats are out
pub record Fits (lead out seat : ℕ) (v : View) : Type 0 where
  pub leads : seat ≡ lead → (v.lead ≡ true) × (v.spent ≡ false) × (v.out ≡ out)
  pub follows : seat ≢ lead → (v.lead ≡ false) × (v.out ≡ 0)
  pub empty : v.spent ≡ true → v.marks ≡ []

-- exactly one view leads, which is not spent; every other has no seat out; a spent one has no marks; and those that are not
-- spent are one more than the leading view has seats out
pub record IsLed (views : List View) : Type 0 where
  pub lead : ℕ
  pub out : ℕ
  pub there : lead < length views
  pub fits : (seat : ℕ) (v : View) → get_elem? views seat ≡ some v → Fits lead out seat v
  pub count : unspent views ≡ out + 1

-- a bit is set exactly if some view has marked its place
abbrev pub AreMarks : List ℕ → List View → Type 0
AreMarks words views = (word bit : ℕ) → word < length words → bit < 64
    → IsSet words word bit ↔ IsMarked views (64 * word + bit)

-- the rule
pub record IsMarking (s : State (Unit {0}) View) : Type 0 where
  pub bits : AreMarks s.words s.views
  pub led : IsLed s.views

-- what a step tells: the place of its word and bit is marked
abbrev pub Marked : Step (Unit {0}) → Me (Unit {0}) View → ℕ → Me (Unit {0}) View → Type 0
Marked st me found after = (bit : ℕ) → bit < 64 → st.first ≡ 2 ^ bit
    → after ≡ (marking me.0 (64 * st.word + bit), me.1)
