-- The rules of the policy that goes by values.
use Rattle.std.specs.Prelude.{◌≡◌, ℕ, Bool, true, false, Option, Some, None, option_map, is_some, if◌then◌else◌, ◌&&◌}
use Rattle.qm_model.specs.Operations.{Bytes}
use Rattle.qm_model.specs.Walk.{Action, Rules, write, stop, evict}
use Rattle.qm_model.specs.Policies as policies
use Rattle.qm_chain.specs.declared.rule.Rule.{Rule}
use Rattle.qm_chain.specs.Policies.{Keeps}

module _ {V : Type 0} (bytes : V → Bytes) where
  -- as a policy of the definitions
  abbrev pub rule_view : Rule V → policies.Policy
  rule_view r = policies.rule r.entries r.skips (option_map bytes r.drop) (option_map bytes r.stop) (option_map (λ p. (bytes p.0, bytes p.1)) r.swap) r.spare

  abbrev pub rule_action : Rule V → ℕ → Bytes → Action
  rule_action r remaining value = policies.action_of (rule_view r) remaining value

  abbrev pub rule_rules : Rules (Rule V)
  rule_rules = record { limits = λ r n. policies.limits_of (rule_view r) n; decide = λ r location remaining key value. (rule_action r remaining value, r) }

abbrev pub may_drop : {V : Type 0} → Rule V → Bool
may_drop r = is_some r.drop

stays : (stops : Bool) (value swapped : Bytes) → (if stops then stop else write swapped) ≡ evict → ⊥
stays true value swapped h = cc
stays false value swapped h = cc

pub rule_keeps : {V : Type 0} (bytes : V → Bytes) (r : Rule V) (location remaining : ℕ) (key value : Bytes) → may_drop r ≡ false → Keeps (rule_rules bytes) may_drop r location remaining key value
rule_keeps {V} bytes r location remaining key value calm = record { not_evicted = by r.drop calm; kept = calm }
  where
    by : (d : Option V) → is_some d ≡ false → (if policies.is_it (option_map bytes d) value && policies.is_unspared r.spare remaining then evict else (if policies.is_it (option_map bytes r.stop) value then stop else write (policies.swapped (option_map (λ p. (bytes p.0, bytes p.1)) r.swap) value))) ≡ evict → ⊥
    by None none h = stays (policies.is_it (option_map bytes r.stop) value) value _ h
    by (Some d) none h = cc
