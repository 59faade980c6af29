-- The words of a fill.
use Rattle.std.specs.Prelude.{ℕ, ◌&&◌, nat_le, if◌then◌else◌, List, [], ◌∷◌, codes, bytes_eq, Option, None, Some, option_map, option_and_then}
use Rattle.qm_model.specs.Operations.{Bytes}
use Rattle.qm_machine.specs.Grammar.{number_of}
use Rattle.qm_fill.specs.declared.words.Fill.{Fill}

-- a decimal number without leading zeros, within these bounds
abbrev pub bounded : ℕ → ℕ → ℕ → Option ℕ
bounded low high n = if nat_le low n && nat_le n high then Some n else None

abbrev pub number_within : ℕ → ℕ → Bytes → Option ℕ
number_within low high word = option_and_then (bounded low high) (number_of word)

-- a seed and a count of rounds
abbrev pub fill_of : Bytes → Bytes → Option Fill
fill_of a b = option_and_then (λ seed. option_map (λ rounds. record { seed = seed; rounds = rounds }) (number_within 1 10000 b)) (number_within 0 4294967295 a)

-- the same after the name
abbrev pub fill_named : Bytes → Bytes → Bytes → Option Fill
fill_named name a b = if bytes_eq name (codes "fill") then fill_of a b else None

-- the first three words, and then those that name databases
abbrev pub fill_of_words : List Bytes → Option (Fill × List Bytes)
fill_of_words [] = None
fill_of_words (name ∷ []) = None
fill_of_words (name ∷ a ∷ []) = None
fill_of_words (name ∷ a ∷ b ∷ databases) = option_map (λ fill. (fill, databases)) (fill_named name a b)
