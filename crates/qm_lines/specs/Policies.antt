-- The program's policies, as ones of the definitions.
use Rattle.std.specs.Prelude.{◌≡◌, ℕ, Bool, false, refl}
use Rattle.qm_model.specs.Operations.{Bytes}
use Rattle.qm_model.specs.Walk.{Rules, write, stop, evict}
use Rattle.qm_model.specs.Policies.{Policy, proportional, hold, bounded, limits_of, action_of}
use Rattle.qm_chain.specs.Policies.{Keeps}
use Rattle.qm_chain.specs.Ruled as ruled
use Rattle.qm_lines.specs.declared.policy.AnyPolicy.{AnyPolicy}
use Rattle.qm_lines.specs.declared.policy.AnyPolicy.TheVariants.{Proportional, Hold, Bounded, Rule}

abbrev pub policy_view : AnyPolicy → Policy
policy_view (Proportional p) = proportional
policy_view (Hold p) = hold
policy_view (Bounded p) = bounded p.entries p.skips
policy_view (Rule r) = ruled.rule_view (λ v. v) r

-- its limits and decisions are those of the policy that it is, and it stays the same
abbrev pub rules_of : Rules AnyPolicy
rules_of = record { limits = λ p n. limits_of (policy_view p) n; decide = λ p location remaining key value. (action_of (policy_view p) remaining value, p) }

abbrev pub may_drop : AnyPolicy → Bool
may_drop (Proportional p) = false
may_drop (Hold p) = false
may_drop (Bounded p) = false
may_drop (Rule r) = ruled.may_drop r

write-evict : (value : Bytes) → write value ≡ evict → ⊥
write-evict value h = cc

stop-evict : stop ≡ evict → ⊥
stop-evict h = cc

pub stays : (p : AnyPolicy) (location remaining : ℕ) (key value : Bytes) → may_drop p ≡ false → Keeps rules_of may_drop p location remaining key value
stays (Proportional p) location remaining key value calm = record { not_evicted = write-evict value; kept = refl }
stays (Hold p) location remaining key value calm = record { not_evicted = stop-evict; kept = refl }
stays (Bounded p) location remaining key value calm = record { not_evicted = write-evict value; kept = refl }
stays (Rule r) location remaining key value calm = record { not_evicted = (ruled.rule_keeps (λ v. v) r location remaining key value calm).not_evicted; kept = calm }
