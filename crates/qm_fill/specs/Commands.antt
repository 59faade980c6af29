-- The commands of a fill, as the machine's.
use Rattle.std.specs.Prelude.{ℕ, ◌-◌, ◌*◌, ◌/◌, ◌%◌, ◌^◌, ◌==◌, if◌then◌else◌, List, [], ◌∷◌, ◌++◌, map, None}
use Rattle.std.specs.List.{flat_map, range_with_len}
use Rattle.std.specs.Int.{w16, to_be_bytes}
use Rattle.qm_model.specs.Operations.{Bytes, four_bytes}
use Rattle.qm_model.specs.Policies.{Policy, proportional}
use Rattle.qm_machine.specs.Lines.{Line, Open, Batch, Put, Del, Merkleize, Apply, Info, Root, Commit, Sync, Destroy, Crash}
use Rattle.qm_fill.specs.Draws.{draw, draws}

-- one of 1,024 keys of two bytes, the higher first
unfoldable pub key_of : ℕ → Bytes
key_of d = to_be_bytes w16 (d / 2 ^ 16 % 1024)

-- what a draw writes, in the batch of this number: its key goes, or has the draw for its value
unfoldable pub write_of : ℕ → ℕ → Line Policy
write_of r d = if d / 2 ^ 12 % 4 == 0 then Del r (key_of d) else Put r (key_of d) (four_bytes d)

-- a commit after each sixteenth round
unfoldable pub settling : ℕ → List (Line Policy)
settling r = if r % 16 == 0 then Commit ∷ [] else []

-- the round of this number, which is its batch's too, with these draws
unfoldable pub round_with : List ℕ → ℕ → List (Line Policy)
round_with drawn r = Batch ∷ (map (write_of r) drawn ++ (Merkleize r proportional None ∷ Apply r ∷ settling r))

-- that of a fill with this seed, with the next eight draws; the first has the number 1
abbrev pub round : ℕ → ℕ → List (Line Policy)
round seed r = round_with (draws (draw seed (8 * (r - 1))) 8) r

-- the first rounds, so many
abbrev pub rounds : ℕ → ℕ → List (Line Policy)
rounds seed n = flat_map (round seed) (range_with_len 1 n)

-- what comes before the rounds, and after them
abbrev pub opening : List (Line Policy)
opening = Open None ∷ []

abbrev pub ending : List (Line Policy)
ending = Sync ∷ Crash 0 ∷ Open None ∷ Info ∷ Root ∷ Destroy ∷ []

-- the commands of a fill of so many rounds
abbrev pub commands : ℕ → ℕ → List (Line Policy)
commands seed n = opening ++ (rounds seed n ++ ending)

-- a fill's seed, and how many of its rounds were given
pub record Progress : Type 0 where
  pub seed : ℕ
  pub given : ℕ
