-- Walks over locations at which nothing is live, and at a live update.
use Rattle.std.proofs.Common.{◌≡◌, ℕ, zero, suc, ◌+◌, ◌-◌, ◌≤◌, ◌<◌, List, [], ◌∷◌, length, drop, refl, ap, ap₂, ◌∙◌, Option, Some, None, arith, add-one}
use Rattle.std.specs.Prelude.{slice_get, option_map, option_and_then}
use Rattle.std.proofs.lemmas.List.{drop_all}
use Rattle.std.proofs.lemmas.Option.{same_Some}
use Rattle.qm_model.specs.Operations.{Bytes, Operation, update}
use Rattle.qm_model.specs.Live.{Live, live_at}
use Rattle.qm_model.specs.Walk.{Action, write, stop, evict, Rules, Walked, ended, noted, decided, visited, walk_from}
use Rattle.qm_step.specs.Changes.{update_from}
use Rattle.qm_step.specs.Touches.{live_update_at}
use Rattle.qm_step.proofs.PlanWalks.{none-past, drop-here}

module _ {P : Type 0} (rules : Rules P) (list : List Operation) where
  -- no live update stands at this location
  abbrev pub IsDead : ℕ → Type 0
  IsDead at = live_update_at list at ≡ None

  abbrev pub AreDead : ℕ → ℕ → Type 0
  AreDead from to = (i : ℕ) → from ≤ i → i < to → IsDead i

  -- the walk from a location on
  abbrev onward : ℕ → ℕ → ℕ → P → Walked P
  onward f e s p = walk_from rules (drop f list) f e s p

  -- the same, with the location written as a successor
  next_is : (f e s : ℕ) (p : P) → walk_from rules (drop (f + 1) list) (suc f) e s p ≡ onward (suc f) e s p
  next_is f e s p = ap (λ n. walk_from rules (drop n list) (suc f) e s p) (add-one f)

  dead_visit : (f e s : ℕ) (p : P) → f < length list → IsDead f → onward f (suc e) s p ≡ visited rules (walk_from rules (drop (f + 1) list)) f (suc e) s p None
  dead_visit f e s p within dead = by (slice_get list f) refl dead
    where
      here : (op : Operation) (u : Option Live) → live_at f op (drop (f + 1) list) ≡ u → option_map update_from u ≡ None →
          visited rules (walk_from rules (drop (f + 1) list)) f (suc e) s p (live_at f op (drop (f + 1) list)) ≡ visited rules (walk_from rules (drop (f + 1) list)) f (suc e) s p None
      here op None is none = ap (visited rules (walk_from rules (drop (f + 1) list)) f (suc e) s p) is
      here op (Some u) is none = cc

      by : (o : Option Operation) → slice_get list f ≡ o → option_and_then (λ op. option_map update_from (live_at f op (drop (f + 1) list))) o ≡ None →
          onward f (suc e) s p ≡ visited rules (walk_from rules (drop (f + 1) list)) f (suc e) s p None
      by None place none = absurd (omega (arith, none-past list f place))
      by (Some op) place none = ap (λ ops. walk_from rules ops f (suc e) s p) (drop-here list f op place) ∙ here op (live_at f op (drop (f + 1) list)) refl none

  pass : (n f e s : ℕ) (p : P) → f + n ≤ length list → AreDead f (f + n) → n ≤ s → onward f (suc e) s p ≡ onward (f + n) (suc e) (s - n) p
  pass zero f e s p within dead enough =
      let place : f ≡ f + 0 = omega arith in
      let left : s ≡ s - 0 = omega arith in
      ap₂ (λ g r. onward g (suc e) r p) place left
  pass (suc n) f e zero p within dead enough = absurd (omega arith)
  pass (suc n) f e (suc s) p within dead enough =
      let place : suc f + n ≡ f + suc n = omega arith in
      let left : s - n ≡ suc s - suc n = omega arith in
      dead_visit f e (suc s) p (omega arith) (dead f (omega arith) (omega arith))
      ∙ next_is f (suc e) s p
      ∙ pass n (suc f) e s p (omega arith) (λ i from to. dead i (omega arith) (omega arith)) (omega arith)
      ∙ ap₂ (λ g r. onward g (suc e) r p) place left

  fall : (s f e : ℕ) (p : P) → f + suc s ≤ length list → AreDead f (f + suc s) → onward f (suc e) s p ≡ ended (f + s) p
  fall zero f e p within dead = let place : f ≡ f + 0 = omega arith in dead_visit f e 0 p (omega arith) (dead f (omega arith) (omega arith)) ∙ ap (λ g. ended g p) place
  fall (suc s) f e p within dead =
      let place : suc f + s ≡ f + suc s = omega arith in
      dead_visit f e (suc s) p (omega arith) (dead f (omega arith) (omega arith))
      ∙ next_is f (suc e) s p
      ∙ fall s (suc f) e p (omega arith) (λ i from to. dead i (omega arith) (omega arith))
      ∙ ap (λ g. ended g p) place

  -- what is not live is passed, by a skip for each location
  pub passes : (f at e s : ℕ) (p : P) → f ≤ at → at ≤ length list → AreDead f at → at - f ≤ s → walk_from rules (drop f list) f (suc e) s p ≡ walk_from rules (drop at list) at (suc e) (s - (at - f)) p
  passes f at e s p order within dead enough =
      let place : f + (at - f) ≡ at = omega arith in
      pass (at - f) f e s p (omega arith) (λ i from to. dead i from (omega arith)) enough ∙ ap (λ g. onward g (suc e) (s - (at - f)) p) place

  -- if the skips do not reach, the walk ends
  pub falls_short : (f at e s : ℕ) (p : P) → f ≤ at → at ≤ length list → AreDead f at → s < at - f → walk_from rules (drop f list) f (suc e) s p ≡ ended (f + s) p
  falls_short f at e s p order within dead short = fall s f e p (omega arith) (λ i from to. dead i from (omega arith))

  -- no more live updates may be decided
  pub spent : (f s : ℕ) (p : P) → walk_from rules (drop f list) f 0 s p ≡ ended f p
  spent f s p = by (drop f list)
    where
      by : (rest : List Operation) → walk_from rules rest f 0 s p ≡ ended f p
      by [] = refl
      by (op ∷ rest) = refl

  pub at_end : (f e s : ℕ) (p : P) → length list ≤ f → walk_from rules (drop f list) f e s p ≡ ended f p
  at_end f e s p past = ap (λ ops. walk_from rules ops f e s p) (drop_all f list past)

  -- a live update is decided as the policy says
  pub decides : (at e s : ℕ) (p : P) (key value : Bytes) (next : Option Bytes) → live_update_at list at ≡ Some (update key value next) →
      walk_from rules (drop at list) at (suc e) s p ≡ decided (λ f e s p. walk_from rules (drop f list) f e s p) at e s key (rules.decide p at (suc e) key value)
  decides at e s p key value next one = by (slice_get list at) refl one
    where
      answered : (answer : Action × P) → decided (walk_from rules (drop (at + 1) list)) at e s key answer ≡ decided (λ f e s p. walk_from rules (drop f list) f e s p) at e s key answer
      answered (write v, q) = ap (noted key (Some v)) (next_is at e s q)
      answered (stop, q) = refl
      answered (evict, q) = ap (noted key None) (next_is at e s q)

      visit : (s : ℕ) (u : Live) → visited rules (walk_from rules (drop (at + 1) list)) at (suc e) s p (Some u) ≡ decided (walk_from rules (drop (at + 1) list)) at e s u.key (rules.decide p at (suc e) u.key u.value)
      visit zero u = refl
      visit (suc s) u = refl

      here : (op : Operation) (u : Option Live) → live_at at op (drop (at + 1) list) ≡ u → option_map update_from u ≡ Some (update key value next) →
          visited rules (walk_from rules (drop (at + 1) list)) at (suc e) s p (live_at at op (drop (at + 1) list)) ≡ decided (λ f e s p. walk_from rules (drop f list) f e s p) at e s key (rules.decide p at (suc e) key value)
      here op None is some = cc
      here op (Some u) is some =
          let same : update_from u ≡ update key value next = same_Some (update_from u) (update key value next) some in
          let key_is : u.key ≡ key = cc in
          let value_is : u.value ≡ value = cc in
          ap (visited rules (walk_from rules (drop (at + 1) list)) at (suc e) s p) is
          ∙ visit s u
          ∙ ap₂ (λ k v. decided (walk_from rules (drop (at + 1) list)) at e s k (rules.decide p at (suc e) k v)) key_is value_is
          ∙ answered (rules.decide p at (suc e) key value)

      by : (o : Option Operation) → slice_get list at ≡ o → option_and_then (λ op. option_map update_from (live_at at op (drop (at + 1) list))) o ≡ Some (update key value next) →
          walk_from rules (drop at list) at (suc e) s p ≡ decided (λ f e s p. walk_from rules (drop f list) f e s p) at e s key (rules.decide p at (suc e) key value)
      by None place some = cc
      by (Some op) place some = ap (λ ops. walk_from rules ops at (suc e) s p) (drop-here list at op place) ∙ here op (live_at at op (drop (at + 1) list)) refl some
