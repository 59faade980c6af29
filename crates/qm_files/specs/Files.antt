-- What a store over files tells of itself.
use Rattle.std.specs.Prelude.{ℕ, ◌+◌}

-- where its items start, and how many there are
pub record Extent : Type 0 where
  pub start : ℕ
  pub count : ℕ

-- with how often it has failed, and how often it was called
pub record Counted : Type 0 where
  pub items : Extent
  pub faults : ℕ
  pub calls : ℕ

-- where its items end
abbrev pub end_of : Extent → ℕ
end_of e = e.start + e.count
