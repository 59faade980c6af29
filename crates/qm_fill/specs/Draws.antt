-- The numbers that a fill draws.
use Rattle.std.specs.Prelude.{ℕ, ◌+◌, ◌*◌, ◌%◌, ◌^◌, zero, suc, List, map}
use Rattle.std.specs.List.{range_with_len}

-- the draw after a number, which is the draw before it or the seed
abbrev pub next_draw : ℕ → ℕ
next_draw x = (x * 1664525 + 1013904223) % 2 ^ 32

-- the draw of this number after x, counted from 1
unfoldable pub draw : ℕ → ℕ → ℕ
draw x zero = x
draw x (suc n) = next_draw (draw x n)

-- the first draws after x, so many
abbrev pub draws : ℕ → ℕ → List ℕ
draws x n = map (draw x) (range_with_len 1 n)
