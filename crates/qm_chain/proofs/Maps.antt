-- Steps under rules that write each value as it is, or decide nothing.
use Rattle.std.proofs.Common.{ℕ, refl}
use Rattle.qm_model.specs.Operations.{Bytes}
use Rattle.qm_model.specs.Walk.{Action, Limits, Rules, write}
use Rattle.qm_model.specs.Step.{unordered, ordered}
use Rattle.qm_model.proofs.Keeping.{step-keeps, step-holds}
use Rattle.qm_model.proofs.OrderedSteps.{ordered-keeps, ordered-holds}
use Rattle.qm_chain.specs.Maps.{KeepsTheMap}

abbrev BothKeep : {P : Type 0} → Rules P → Type 0
BothKeep rules = KeepsTheMap unordered rules × KeepsTheMap ordered rules

pub keeping-keeps : {P : Type 0} (limits : P → ℕ → Limits) → BothKeep (record { limits = limits; decide = λ p location remaining key value. (write value, p) })
keeping-keeps {P} limits = (
  λ ops ws policy meta key. step-keeps keeping ops ws policy meta key (λ p location remaining key value. refl),
  λ ops ws policy meta key. ordered-keeps keeping ops ws policy meta key (λ p location remaining key value. refl),
)
  where
    keeping : Rules P
    keeping = record { limits = limits; decide = λ p location remaining key value. (write value, p) }

pub holding-keeps : {P : Type 0} (decide : P → ℕ → ℕ → Bytes → Bytes → Action × P) → BothKeep (record { limits = λ p n. record { entries = 0; skips = 0 }; decide = decide })
holding-keeps {P} decide = (
  λ ops ws policy meta key. step-holds holding ops ws policy meta key (λ p inactive. refl),
  λ ops ws policy meta key. ordered-holds holding ops ws policy meta key (λ p inactive. refl),
)
  where
    holding : Rules P
    holding = record { limits = λ p n. record { entries = 0; skips = 0 }; decide = decide }
