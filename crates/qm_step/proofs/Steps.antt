-- Where a key stands in a list to which layers lead.
use Rattle.std.proofs.Common.{◌≡◌, ℕ, zero, suc, Bool, true, false, List, [], ◌∷◌, ◌++◌, length, take, drop, refl, ap, sym, ◌∙◌, Option, Some, None, map, arith, ◌⊎◌, inl, inr}
use Rattle.std.specs.Prelude.{Contains, slice_get, option_map, if◌then◌else◌}
use Rattle.std.specs.Option.{option_or}
use Rattle.std.proofs.lemmas.List.{take-append-drop}
use Rattle.std.proofs.lemmas.Option.{same_Some}
use Rattle.qm_model.specs.Operations.{Bytes, Operation}
use Rattle.qm_model.specs.Live.{live, live_of, touched}
use Rattle.qm_step.specs.Changes.{Change, Changes, change_in, stands_at, AreChanges, LeadTo}
use Rattle.qm_step.specs.Layers.{Layer, LeadThrough, LeadOver, IsStep, nearest_layer}
use Rattle.qm_step.proofs.Appends.{live_of-append}
use Rattle.qm_index.proofs.Members.{Contains-first, first_or_later}

-- what a step does to a key, if its own operations touch it, and if they don't
module _ (changes : Changes) (base tip : List Operation) (is : AreChanges changes base tip) (key : Bytes) where
  abbrev done : Change
  done = record { now = stands_at tip key; before = option_map (λ p. p.0) (stands_at base key) }

  -- a key with a change
  pub changed : (c : Change) → change_in changes key ≡ Some c → (stands_at tip key ≡ c.now) × (option_map (λ (p : ℕ × Bytes). p.0) (stands_at base key) ≡ c.before)
  changed c h = by (touched key (drop (length base) tip)) (sym (is.each key) ∙ h)
    where
      by : (t : Bool) → (if t then Some done else None) ≡ Some c →
          (stands_at tip key ≡ c.now) × (option_map (λ (p : ℕ × Bytes). p.0) (stands_at base key) ≡ c.before)
      by true found =
          let same : done ≡ c = cc in
          (ap (λ (x : Change). x.now) same, ap (λ (x : Change). x.before) same)
      by false found = cc

  -- a key without one stands where it stood
  pub unchanged : change_in changes key ≡ None → live_of (live tip) key ≡ live_of (live base) key
  unchanged h = by (touched key (drop (length base) tip)) refl (sym (is.each key) ∙ h)
    where
      whole : base ++ drop (length base) tip ≡ tip
      whole = ap (λ front. front ++ drop (length base) tip) (sym is.begins) ∙ take-append-drop (length base) tip

      by : (t : Bool) → touched key (drop (length base) tip) ≡ t → (if t then Some done else None) ≡ None →
          live_of (live tip) key ≡ live_of (live base) key
      by true is_touched found = cc
      by false is_touched found = ap (λ ops. live_of (live ops) key) (sym whole) ∙ live_of-append base (drop (length base) tip) key is_touched

-- what is known of a list, by the first of the layers that do anything to a key, or else by the lent list
module _ {X : Type 0} (key : Bytes) (known : List Operation → X) (by_layer : Layer → Change → X)
    (moves : (layer : Layer) (base tip : List Operation) (change : Change) → IsStep layer base tip → change_in layer.changes key ≡ Some change → known tip ≡ by_layer layer change)
    (stays : (layer : Layer) (base tip : List Operation) → IsStep layer base tip → change_in layer.changes key ≡ None → known tip ≡ known base) where
  abbrev resolved : Option (Layer × Change) → X → X
  resolved None lent = lent
  resolved (Some p) lent = by_layer p.0 p.1

  by_nearest : (layers : List Layer) (base : List Operation) (older : List (List Operation)) (lent : List Operation) → LeadThrough layers base older → Contains (base ∷ older) lent →
      known base ≡ resolved (nearest_layer layers key) (known lent)
  by_nearest [] base [] lent leads among = by (first_or_later base [] lent among)
    where
      by : (base ≡ lent) ⊎ Contains [] lent → known base ≡ known lent
      by (inl same) = ap known same
      by (inr within) = let none = within.1 in absurd (omega (arith, none))
  by_nearest [] base (b ∷ older) lent leads among = absurd leads
  by_nearest (layer ∷ layers) base [] lent leads among = absurd leads
  by_nearest (layer ∷ layers) tip (base ∷ older) lent leads among =
      by (change_in layer.changes key) refl (first_or_later tip (base ∷ older) lent among)
      (by_nearest layers base older base leads.1 (Contains-first base older)) (by_nearest layers base older lent leads.1)
    where
      rest : Option (Layer × Change)
      rest = nearest_layer layers key

      -- the lent list is the tip
      at_tip : (o : Option (Layer × Change)) → tip ≡ lent → known tip ≡ resolved o (known base) → known tip ≡ resolved o (known lent)
      at_tip (Some p) same found = found
      at_tip None same found = ap known same

      by : (o : Option Change) → change_in layer.changes key ≡ o → (tip ≡ lent) ⊎ Contains (base ∷ older) lent → known base ≡ resolved rest (known base) →
          (Contains (base ∷ older) lent → known base ≡ resolved rest (known lent)) → known tip ≡ resolved (option_or (option_map (λ change. (layer, change)) o) rest) (known lent)
      by (Some c) is at from_base from_lent = moves layer base tip c leads.0 is
      by None is (inr within) from_base from_lent = stays layer base tip leads.0 is ∙ from_lent within
      by None is (inl same) from_base from_lent = at_tip rest same (stays layer base tip leads.0 is ∙ from_base)

  module _ (layers : List Layer) (lent base : List Operation) (is : LeadOver layers lent base) where
    pub layer-decides : (layer : Layer) (change : Change) → Some (layer, change) ≡ nearest_layer layers key → known base ≡ by_layer layer change
    layer-decides layer change h = by_nearest layers base is.older lent is.steps is.among ∙ ap (λ o. resolved o (known lent)) (sym h)

    pub lent-decides : None ≡ nearest_layer layers key → known base ≡ known lent
    lent-decides h = by_nearest layers base is.older lent is.steps is.among ∙ ap (λ o. resolved o (known lent)) (sym h)

-- where a key stands
module _ (layers : List Layer) (lent base : List Operation) (is : LeadOver layers lent base) (key : Bytes) where
  abbrev stands : List Operation → Option (ℕ × Bytes)
  stands list = stands_at list key

  abbrev left : Layer → Change → Option (ℕ × Bytes)
  left layer change = change.now

  stands-moves : (layer : Layer) (base tip : List Operation) (change : Change) → IsStep layer base tip → change_in layer.changes key ≡ Some change → stands tip ≡ left layer change
  stands-moves layer base tip change step found = (changed layer.changes base tip step.changes key change found).0

  stands-stays : (layer : Layer) (base tip : List Operation) → IsStep layer base tip → change_in layer.changes key ≡ None → stands tip ≡ stands base
  stands-stays layer base tip step none = ap (option_map (λ e. (e.location, e.value))) (unchanged layer.changes base tip step.changes key none)

  pub layer-stands : (layer : Layer) (change : Change) → Some (layer, change) ≡ nearest_layer layers key → stands_at base key ≡ change.now
  layer-stands layer change h = layer-decides key stands left stands-moves stands-stays layers lent base is layer change h

  pub lent-stands : None ≡ nearest_layer layers key → stands_at base key ≡ stands_at lent key
  lent-stands h = lent-decides key stands left stands-moves stands-stays layers lent base is h

pub map-twice : {X Y Z : Type 0} (f : Y → Z) (g : X → Y) (xs : List X) → map f (map g xs) ≡ map (λ x. f (g x)) xs
map-twice f g [] = refl
map-twice f g (x ∷ xs) = ap (λ ys. f (g x) ∷ ys) (map-twice f g xs)

-- the first layers lead from the list that they start from
pub first-lead : (layers : List Layer) (base : List Operation) (older : List (List Operation)) (n : ℕ) (from : List Operation) → LeadThrough layers base older → slice_get (base ∷ older) n ≡ Some from →
    LeadTo (map (λ l. l.changes) (take n layers)) from base
first-lead layers base older zero from steps at = sym (same_Some base from at)
first-lead [] base [] (suc n) from steps at = cc
first-lead [] base (b ∷ older) (suc n) from steps at = absurd steps
first-lead (layer ∷ layers) base [] (suc n) from steps at = absurd steps
first-lead (layer ∷ layers) tip (base ∷ older) (suc n) from steps at = (base, (steps.0).changes, first-lead layers base older n from steps.1 at)
