-- A step under one of the program's policies is the step under the policy that it is, and evicts the same.
use Rattle.std.proofs.Common.{◌≡◌, ◌++◌, ℕ, zero, suc, List, [], ◌∷◌, drop, refl, ap, ap₂, Option, Some, None}
use Rattle.qm_model.specs.Operations.{Bytes, Operation}
use Rattle.qm_model.specs.Live.{Live, live_at, floor}
use Rattle.qm_model.specs.Writes.{Write, made_inactive}
use Rattle.qm_model.specs.Walk.{Action, Walked, write, stop, evict, visited, decided, walk_from}
use Rattle.qm_model.specs.Policies.{Policy, policies, limits_of, action_of}
use Rattle.qm_model.specs.Step.{Kind, step, committed, evicted_by, evicted_of, walk_after}
use Rattle.qm_lines.specs.declared.policy.AnyPolicy.{AnyPolicy}
use Rattle.qm_lines.specs.Policies.{policy_view, rules_of}

-- two walks that decide the same and end at the same floor
record SameWalk {P Q : Type 0} (a : Walked P) (b : Walked Q) : Type 0 where
  pub floor : a.floor ≡ b.floor
  pub decisions : a.decisions ≡ b.decisions

Onward : (ℕ → ℕ → ℕ → AnyPolicy → Walked AnyPolicy) → (ℕ → ℕ → ℕ → Policy → Walked Policy) → Type 0
Onward a b = (f e s : ℕ) (p : AnyPolicy) → SameWalk (a f e s p) (b f e s (policy_view p))

same_decided : (a : ℕ → ℕ → ℕ → AnyPolicy → Walked AnyPolicy) (b : ℕ → ℕ → ℕ → Policy → Walked Policy) (f e s : ℕ) (key : Bytes) (p : AnyPolicy) (action : Action) → Onward a b →
    SameWalk (decided a f e s key (action, p)) (decided b f e s key (action, policy_view p))
unfolding Onward
same_decided a b f e s key p (write value) h = let w = h (suc f) e s p in record { floor = w.floor; decisions = ap (λ ds. record { key = key; value = Some value } ∷ ds) w.decisions }
same_decided a b f e s key p stop h = record { floor = refl; decisions = refl }
same_decided a b f e s key p evict h = let w = h (suc f) e s p in record { floor = w.floor; decisions = ap (λ ds. record { key = key; value = None } ∷ ds) w.decisions }

same_visited : (a : ℕ → ℕ → ℕ → AnyPolicy → Walked AnyPolicy) (b : ℕ → ℕ → ℕ → Policy → Walked Policy) (f e s : ℕ) (p : AnyPolicy) (at : Option Live) → Onward a b →
    SameWalk (visited rules_of a f e s p at) (visited policies b f e s (policy_view p) at)
unfolding Onward
same_visited a b f zero s p at h = record { floor = refl; decisions = refl }
same_visited a b f (suc e) zero p None h = record { floor = refl; decisions = refl }
same_visited a b f (suc e) (suc s) p None h = h (suc f) (suc e) s p
same_visited a b f (suc e) zero p (Some u) h = same_decided a b f e zero u.key p (action_of (policy_view p) (suc e) u.value) h
same_visited a b f (suc e) (suc s) p (Some u) h = same_decided a b f e (suc s) u.key p (action_of (policy_view p) (suc e) u.value) h

same_walk : (ops : List Operation) (f e s : ℕ) (p : AnyPolicy) → SameWalk (walk_from rules_of ops f e s p) (walk_from policies ops f e s (policy_view p))
unfolding Onward
same_walk [] f e s p = record { floor = refl; decisions = refl }
same_walk (op ∷ rest) f e s p = same_visited (walk_from rules_of rest) (walk_from policies rest) f e s p (live_at f op rest) (same_walk rest)

abbrev same_after : (kind : Kind) (ops : List Operation) (ws : List Write) (p : AnyPolicy) → SameWalk (walk_after kind rules_of ops ws p) (walk_after kind policies ops ws (policy_view p))
same_after kind ops ws p =
    let made = kind.writes ops ws in
    let limits = limits_of (policy_view p) (made_inactive ops made) in
    same_walk (drop (floor ops) (ops ++ made)) (floor ops) limits.entries limits.skips p

pub same_step : (kind : Kind) (ops : List Operation) (ws : List Write) (p : AnyPolicy) (meta : Option Bytes) → step kind rules_of ops ws p meta ≡ step kind policies ops ws (policy_view p) meta
same_step kind ops ws p meta =
    let made = kind.writes ops ws in
    let w = same_after kind ops ws p in
    ap₂ (λ ds f. committed ((ops ++ made) ++ kind.moves (ops ++ made) ds) f meta) w.decisions w.floor

pub same_evicted : (kind : Kind) (ops : List Operation) (ws : List Write) (p : AnyPolicy) → evicted_by kind rules_of ops ws p ≡ evicted_by kind policies ops ws (policy_view p)
same_evicted kind ops ws p = ap (evicted_of (ops ++ kind.writes ops ws)) (same_after kind ops ws p).decisions
