-- Crews of which each member took its turn, and rounds of such turns.
use Rattle.std.specs.Prelude.{◌≡◌, ℕ, zero, suc, ◌<◌, ◌≤◌, Bool, false, List, length, slice_index_or, All}

-- a turn leaves no more to do, and does what it may
pub record Turns {W : Type 0} (left : W → ℕ) (may_turn : W → W → Type 0) (old new : W) : Type 0 where
  pub no_more : left new ≤ left old
  pub may : may_turn old new

-- each member did this, and the crew is as long as before
pub record AreTurned {W : Type 0} (turns : W → W → Type 0) (old new : List W) : Type 0 where
  pub long : length new ≡ length old
  pub each : (i : ℕ) (d : W) → i < length old
      → turns (slice_index_or old i d) (slice_index_or new i d)

-- no member asks
abbrev pub NobodyAsks : {W : Type 0} → (W → Bool) → List W → Type 0
NobodyAsks asks ws = All (λ w. asks w ≡ false) ws

-- so many turns, each with the answer after it, lead from one state of a member to another
abbrev pub Leads : {W : Type 0} → (turns tells : W → W → Type 0) → ℕ → W → W → Type 0
Leads turns tells zero old new = new ≡ old
Leads {W = W} turns tells (suc n) old new =
    (turned : W) × (told : W) × turns old turned × tells turned told × Leads turns tells n told new

-- a round: each member took a turn, and then as many more as any other, each with the answer after it
pub record IsRound {W : Type 0} (turns tells : W → W → Type 0) (old new : List W) : Type 0 where
  pub more : ℕ
  pub led : AreTurned (Leads turns tells (suc more)) old new
