-- The live update before a key in the base list, by the lent list and the layers that lead on from there.
use Rattle.std.proofs.Common.{◌≡◌, ◌∙◌, refl, sym, ap, subst, ℕ, Bool, true, false, List, [], ◌∷◌, ◌++◌, map, Option, Some, None, ◌&&◌, ◌||◌}
use Rattle.std.specs.Prelude.{find, option_map, option_and_then, if◌then◌else◌, bytes_eq, All, is_none}
use Rattle.std.specs.Map.{keys_of}
use Rattle.std.specs.Option.{option_or, is_some}
use Rattle.std.proofs.lemmas.List.Elements.{All-contains}
use Rattle.std.proofs.lemmas.Option.{same_Some}
use Rattle.qm_model.specs.Operations.{Bytes, AreBytes, Operation, update}
use Rattle.qm_model.specs.Live.{Live, live, live_of, live_keys}
use Rattle.qm_model.specs.Keys.{greatest, successor, predecessor, contains_key, between}
use Rattle.qm_model.specs.Ordered.{IsRing}
use Rattle.qm_model.specs.Ranges.{excluded, unlimited}
use Rattle.qm_model.proofs.KeyOrder.{Has, Has-later, SameKeys, contains-append, contains-filter, and-true, and-both, or-left, or-right, apart, predecessor-is, is-predecessor, predecessor-none, predecessor-only, predecessor-append, predecessor-same, successor-is, successor-some, successor-only, successor-append, before-fewer}
use Rattle.qm_model.proofs.Maps.{same_key}
use Rattle.qm_model.proofs.OrderedLists.{live-contains, some-map}
use Rattle.qm_index.specs.Buckets.{IsIndex}
use Rattle.qm_index.specs.Indexed.{IsIndexed}
use Rattle.qm_index.specs.Neighbours.{keys_at, prev_key}
use Rattle.qm_index.specs.Translated.{IsMonotone}
use Rattle.qm_index.proofs.Neighbours.{stood-same, nearest-prev}
use Rattle.qm_step.specs.Changes.{Change, Changes, change_in, located, update_of}
use Rattle.qm_step.specs.Layers.{Layer, LeadOver, nearest_layer, update_by}
use Rattle.qm_step.specs.Nearest.{changed_keys, is_left, is_nearest, last_key, left_by, left_keys, lent_before, nearer_of, said_key}
use Rattle.qm_step.specs.Rings.{previous_of}
use Rattle.qm_step.proofs.LastKeys.{last-unlimited}
use Rattle.qm_batch.proofs.Layered.{layer-update, lent-update}
use Rattle.qm_step.proofs.LentKeys.{live-some}
use Rattle.qm_step.proofs.Standing.{of_key-within}
use Rattle.qm_step.proofs.Steps.{layer-stands}

none-some : {X : Type 0} {x : X} → None ≡ Some x → ⊥
none-some h = cc

-- a key that has a change is one of the changed keys
changed-has : (cs : Changes) (key : Bytes) (c : Change) → change_in cs key ≡ Some c → Has (map (λ c. c.0) cs) key
changed-has [] key c h = absurd (none-some h)
changed-has (u ∷ cs) key c h = by (bytes_eq u.0 key) refl h (changed-has cs key c)
  where
    by : (t : Bool) → bytes_eq u.0 key ≡ t → option_map (λ (c : Bytes × Change). c.1) (if t then Some u else find (λ c. bytes_eq c.0 key) cs) ≡ Some c → (change_in cs key ≡ Some c → Has (map (λ c. c.0) cs) key) → Has (u.0 ∷ map (λ c. c.0) cs) key
    by true is found later = or-left (bytes_eq u.0 key) (contains_key (map (λ c. c.0) cs) key) is
    by false is found later = or-right (bytes_eq u.0 key) (contains_key (map (λ c. c.0) cs) key) (later found)

nearest-has : (layers : List Layer) (key : Bytes) (p : Layer × Change) → nearest_layer layers key ≡ Some p → Has (changed_keys layers) key
nearest-has [] key p h = absurd (none-some h)
nearest-has (layer ∷ layers) key p h =
    contains-append (map (λ c. c.0) layer.changes) (changed_keys layers) key ∙ by (change_in layer.changes key) refl h (nearest-has layers key p)
  where
    by : (o : Option Change) → change_in layer.changes key ≡ o → option_or (option_map (λ change. (layer, change)) o) (nearest_layer layers key) ≡ Some p → (nearest_layer layers key ≡ Some p → Has (changed_keys layers) key) →
        contains_key (map (λ c. c.0) layer.changes) key || contains_key (changed_keys layers) key ≡ true
    by None is found later = or-right (contains_key (map (λ c. c.0) layer.changes) key) (contains_key (changed_keys layers) key) (later found)
    by (Some c) is found later = or-left (contains_key (map (λ c. c.0) layer.changes) key) (contains_key (changed_keys layers) key) (changed-has layer.changes key c is)

-- a live update of a key is one of the key, and of a ring it names the next one
pub update-parts : (list : List Operation) (key : Bytes) → IsRing list → Has (live_keys list) key → (e : Live) × (live_of (live list) key ≡ Some e) × (e.key ≡ key) × (e.next ≡ successor (live_keys list) key)
update-parts list key ring at = by (live_of (live list) key) refl (sym (live-contains (live list) key) ∙ at)
  where
    by : (o : Option Live) → live_of (live list) key ≡ o → is_some o ≡ true → (e : Live) × (o ≡ Some e) × (e.key ≡ key) × (e.next ≡ successor (live_keys list) key)
    by None is some = cc
    by (Some e) is some =
        let within = of_key-within (live list) key e is in
        (e, refl, within.1, All-contains (λ e. e.next ≡ successor (live_keys list) e.key) (live list) e ring within.0 ∙ ap (successor (live_keys list)) within.1)

module _ (layers : List Layer) (lent base : List Operation) (is : LeadOver layers lent base) where
  abbrev now : Option (Layer × Change) → Option (ℕ × Bytes)
  now near = option_and_then (λ (p : Layer × Change). p.1.now) near

  -- whether a key is live, by the nearest layer that does anything to it, or else by the lent list
  layer-has : (key : Bytes) (layer : Layer) (change : Change) → nearest_layer layers key ≡ Some (layer, change) → contains_key (live_keys base) key ≡ is_left layers key
  layer-has key layer change near =
      live-contains (live base) key
      ∙ sym (some-map (λ (e : Live). (e.location, e.value)) (live_of (live base) key))
      ∙ ap (λ (o : Option (ℕ × Bytes)). is_some o) (layer-stands layers lent base is key layer change (sym near))
      ∙ sym (ap (λ o. is_some (option_and_then (λ (p : Layer × Change). (p.1).now) o)) near)

  pub lent-has : (key : Bytes) → nearest_layer layers key ≡ None → contains_key (live_keys base) key ≡ contains_key (live_keys lent) key
  lent-has key none =
      live-contains (live base) key ∙ sym (some-map located (live_of (live base) key))
      ∙ ap (λ (o : Option (ℕ × Operation)). is_some o) (lent-update layers lent base is key (sym none))
      ∙ some-map located (live_of (live lent) key) ∙ sym (live-contains (live lent) key)

  -- the keys to which layers leave a live update are those of the base list's live keys to which they do anything
  left-live : (x : Bytes) → Has (left_keys layers) x → Has (live_keys base) x × (nearest_layer layers x ≡ None → ⊥)
  left-live x h = by (nearest_layer layers x) refl
    where
      both : Has (changed_keys layers) x × (is_left layers x ≡ true)
      both = and-true (contains_key (changed_keys layers) x) (is_left layers x) (sym (contains-filter (is_left layers) (changed_keys layers) x) ∙ h)

      by : (o : Option (Layer × Change)) → nearest_layer layers x ≡ o → Has (live_keys base) x × (o ≡ None → ⊥)
      by None near = let no : false ≡ true = sym (ap (λ o. is_some (option_and_then (λ (p : Layer × Change). (p.1).now) o)) near) ∙ both.1 in cc
      by (Some p) near = (layer-has x p.0 p.1 near ∙ both.1, λ none. none-some (sym none))

  live-left : (x : Bytes) (p : Layer × Change) → Has (live_keys base) x → nearest_layer layers x ≡ Some p → Has (left_keys layers) x
  live-left x p at near =
      contains-filter (is_left layers) (changed_keys layers) x
      ∙ and-both (contains_key (changed_keys layers) x) (is_left layers x) (nearest-has layers x p near) (sym (layer-has x p.0 p.1 near) ∙ at)

  -- what they leave it is its live update
  left-update : (x : Bytes) → (nearest_layer layers x ≡ None → ⊥) → update_of base x ≡ left_by layers x
  left-update x changed = by (nearest_layer layers x) refl
    where
      by : (o : Option (Layer × Change)) → nearest_layer layers x ≡ o → update_of base x ≡ option_and_then (λ (p : Layer × Change). update_by p.0 p.1) o
      by None near = absurd (changed near)
      by (Some p) near = layer-update layers lent base is x p.0 p.1 (sym near)

  module _ (ring_lent : IsRing lent) (ring_base : IsRing base) (key : Bytes) where
    -- if layers do nothing to the key before another in the base list, it is the one before in the lent list too, since it names
    -- the same next key in both
    stays-before : (p : Bytes) → predecessor (live_keys base) key ≡ Some p → nearest_layer layers p ≡ None → predecessor (live_keys lent) key ≡ Some p
    stays-before p before none =
        let previous = predecessor-is (live_keys base) key p before in
        let in_lent : Has (live_keys lent) p = sym (lent-has p none) ∙ previous.has in
        let in_base = update-parts base p ring_base previous.has in
        let there = update-parts lent p ring_lent in_lent in
        let same : Some (located in_base.0) ≡ Some (located there.0) =
        sym (ap (option_map located) in_base.1) ∙ lent-update layers lent base is p (sym none) ∙ ap (option_map located) there.1 in
        let names : (in_base.0).next ≡ (there.0).next = same-next in_base.0 there.0 same in
        let found = successor-some (live_keys lent) p p in_lent in
        let in_both : successor (live_keys base) p ≡ Some found.0 = sym in_base.3 ∙ names ∙ there.3 ∙ found.1 in
        let past : between p key found.0 ≡ false = previous.near found.0 (successor-is (live_keys base) p found.0 in_both).has in
        let next = successor-is (key ∷ live_keys lent) p key
        (successor-append (key ∷ []) (live_keys lent) p key found.0 (successor-only key p) found.1 ∙ ap (λ t. Some (if t then found.0 else key)) past) in
        is-predecessor (live_keys lent) key p (record { has = in_lent; near = λ x at. next.near x (Has-later key (live_keys lent) x at) })
      where
        same-next : (e u : Live) → Some (located e) ≡ Some (located u) → e.next ≡ u.next
        same-next e u same = let parts : update e.key e.value e.next ≡ update u.key u.value u.next = ap (λ (p : ℕ × Operation). p.1) (same_Some (located e) (located u) same) in cc

    abbrev left : Option Bytes
    left = predecessor (left_keys layers) key

    -- if they do, it is the one before among the keys to which they leave a live update
    moved-before : (p : Bytes) (near : Layer × Change) → predecessor (live_keys base) key ≡ Some p → nearest_layer layers p ≡ Some near → left ≡ Some p
    moved-before p near before changed =
        let previous = predecessor-is (live_keys base) key p before in
        is-predecessor (left_keys layers) key p (before-fewer (live_keys base) (left_keys layers) key p (λ x at. (left-live x at).0) (live-left p near previous.has changed) previous)

    -- the keys that they leave are not between the one before and the key, but on the other side of it
    other-side : (p n : Bytes) → predecessor (live_keys base) key ≡ Some p → Has (live_keys base) n → (n ≡ p → ⊥) → between n key p ≡ true
    other-side p n before at apart_from = by (between n key p) refl
      where
        same : SameKeys ((n ∷ []) ++ live_keys base) (live_keys base)
        same x = by_first (bytes_eq n x) refl
          where
            by_first : (t : Bool) → bytes_eq n x ≡ t → t || contains_key (live_keys base) x ≡ contains_key (live_keys base) x
            by_first true e = sym (subst (λ z. contains_key (live_keys base) z ≡ true) (same_key n x e) at)
            by_first false e = refl

        by : (t : Bool) → between n key p ≡ t → t ≡ true
        by true e = refl
        by false e =
            absurd (apart_from (same_Some n p
            (sym (predecessor-append (n ∷ []) (live_keys base) key n p (predecessor-only n key) before ∙ ap (λ t. Some (if t then p else n)) e)
            ∙ predecessor-same ((n ∷ []) ++ live_keys base) (live_keys base) key same ∙ before)))

    -- the lent list's live update before the key, if there is one
    lent-own : (q : Bytes) → predecessor (live_keys lent) key ≡ Some q → (p : ℕ × Operation) × (update_of lent q ≡ Some p) × (said_key p.1 ≡ q)
    lent-own q before = live-some lent q (predecessor-is (live_keys lent) key q before).has

    abbrev Nearer : Option Bytes → Option Bytes → Option Bytes → Type 0
    Nearer in_base in_lent by_layers = option_and_then (update_of base) in_base ≡ (elim (option_and_then (update_of lent) in_lent) [
      | None ↦ option_and_then (left_by layers) by_layers
      | Some found ↦ if is_nearest layers key by_layers (said_key found.1) then Some found else option_and_then (left_by layers) by_layers
    ])

    -- what is found by layers, if the lent list's is not nearer
    by-layers : (in_base in_lent by_layers : Option Bytes) → option_and_then (update_of base) in_base ≡ option_and_then (left_by layers) by_layers → predecessor (live_keys lent) key ≡ in_lent →
        ((q : Bytes) → in_lent ≡ Some q → is_nearest layers key by_layers q ≡ false) → Nearer in_base in_lent by_layers
    by-layers in_base None by_layers found before farther = found
    by-layers in_base (Some q) by_layers found before farther =
        let own = lent-own q before in
        subst (λ o. option_and_then (update_of base) in_base ≡ (elim o [
          | None ↦ option_and_then (left_by layers) by_layers
          | Some found ↦ if is_nearest layers key by_layers (said_key found.1) then Some found else option_and_then (left_by layers) by_layers
        ])) (sym own.1)
        (found ∙ sym (ap (λ t. if t then Some own.0 else option_and_then (left_by layers) by_layers) (ap (is_nearest layers key by_layers) own.2 ∙ farther q refl)))

    by-lent : (p : Bytes) (by_layers : Option Bytes) → update_of base p ≡ update_of lent p → predecessor (live_keys lent) key ≡ Some p → is_nearest layers key by_layers p ≡ true → Nearer (Some p) (Some p) by_layers
    by-lent p by_layers same before nearer =
        let own = lent-own p before in
        subst (λ o. update_of base p ≡ (elim o [
          | None ↦ option_and_then (left_by layers) by_layers
          | Some found ↦ if is_nearest layers key by_layers (said_key found.1) then Some found else option_and_then (left_by layers) by_layers
        ])) (sym own.1)
        (same ∙ own.1 ∙ sym (ap (λ t. if t then Some own.0 else option_and_then (left_by layers) by_layers) (ap (is_nearest layers key by_layers) own.2 ∙ nearer)))

    -- a key that layers pass by is live in the base list if it is in the lent one
    abbrev IsPassed : Option Bytes → Bytes → Type 0
    IsPassed None q = ⊥
    IsPassed (Some n) q = between n key q ≡ false

    far : (by_layers : Option Bytes) (q : Bytes) → predecessor (live_keys lent) key ≡ Some q → (Has (live_keys base) q → IsPassed by_layers q) → is_nearest layers key by_layers q ≡ false
    far by_layers q before passed = by by_layers (nearest_layer layers q) refl passed
      where
        by : (n : Option Bytes) (o : Option (Layer × Change)) → nearest_layer layers q ≡ o → (Has (live_keys base) q → IsPassed n q) → is_nearest layers key n q ≡ false
        by None (Some u) near passed = ap (λ (o : Option (Layer × Change)). is_none o) near
        by (Some n) (Some u) near passed = ap (λ (o : Option (Layer × Change)). is_none o && between n key q) near
        by None None near passed = absurd (passed (lent-has q near ∙ (predecessor-is (live_keys lent) key q before).has))
        by (Some n) None near passed = ap (λ (o : Option (Layer × Change)). is_none o && between n key q) near ∙ passed (lent-has q near ∙ (predecessor-is (live_keys lent) key q before).has)

    -- the live update before a key is the nearer of the lent list's and the one that layers leave
    pub previous-nearer : previous_of base key ≡ nearer_of layers key (previous_of lent key)
    previous-nearer = by (predecessor (live_keys base) key) refl
      where
        none-left : predecessor (live_keys base) key ≡ None → (o : Option Bytes) → left ≡ o → o ≡ None
        none-left none None h = refl
        none-left none (Some n) h = absurd (apart (contains_key (live_keys base) n) (left-live n (predecessor-is (left_keys layers) key n h).has).0 (predecessor-none (live_keys base) key none n))

        nearer-left : (p : Bytes) → predecessor (live_keys base) key ≡ Some p → nearest_layer layers p ≡ None → (o : Option Bytes) → left ≡ o → is_nearest layers key o p ≡ true
        nearer-left p before near None h = ap (λ (o : Option (Layer × Change)). is_none o) near
        nearer-left p before near (Some n) h =
            let found = left-live n (predecessor-is (left_keys layers) key n h).has in
            ap (λ (o : Option (Layer × Change)). is_none o && between n key p) near ∙ other-side p n before found.0 (λ same. found.1 (ap (nearest_layer layers) same ∙ near))

        changed : (p : Bytes) (o : Option (Layer × Change)) → nearest_layer layers p ≡ o → predecessor (live_keys base) key ≡ Some p → Nearer (Some p) (predecessor (live_keys lent) key) left
        changed p None near before =
            subst (λ o. Nearer (Some p) o left) (sym (stays-before p before near))
            (by-lent p left (lent-update layers lent base is p (sym near)) (stays-before p before near) (nearer-left p before near left refl))
        changed p (Some u) near before =
            let previous = predecessor-is (live_keys base) key p before in
            subst (λ o. Nearer (Some p) (predecessor (live_keys lent) key) o) (sym (moved-before p u before near))
            (by-layers (Some p) (predecessor (live_keys lent) key) (Some p) (left-update p (λ none. none-some (sym none ∙ near))) refl
            (λ q found. far (Some p) q found (λ at. previous.near q at)))

        by : (o : Option Bytes) → predecessor (live_keys base) key ≡ o → Nearer o (predecessor (live_keys lent) key) left
        by None none =
            subst (λ o. Nearer None (predecessor (live_keys lent) key) o) (sym (none-left none left refl))
            (by-layers None (predecessor (live_keys lent) key) None refl refl (λ q found. far None q found (λ at. apart (contains_key (live_keys base) q) at (predecessor-none (live_keys base) key none q))))
        by (Some p) before = changed p (nearest_layer layers p) refl before

-- the lent list's live update before a key, by buckets
module _ (index_key : Bytes → ℕ) (entries : List (ℕ × List ℕ)) (list : List Operation) (indexed : IsIndexed index_key entries list) (index : IsIndex entries) (monotone : IsMonotone index_key)
    (key : Bytes) (bytes : All AreBytes (key ∷ live_keys list)) where
  last-fronts : (o : Option (ℕ × Bool)) → option_and_then (λ n. last_key unlimited (keys_at index_key (live_keys list) n.0)) o ≡ option_and_then (λ n. greatest (keys_at index_key (live_keys list) n.0)) o
  last-fronts None = refl
  last-fronts (Some n) = last-unlimited (keys_at index_key (live_keys list) n.0)

  pub previous-lent : lent_before index_key entries list key (excluded key) ≡ previous_of list key
  previous-lent =
      ap (option_and_then (update_of list))
      (ap (option_or (last_key (excluded key) (keys_at index_key (live_keys list) (index_key key)))) (last-fronts (prev_key (keys_of entries) (index_key key)))
      ∙ sym (nearest-prev index_key (live_keys list) (keys_of entries) (stood-same index_key (λ (e : Live). e.key) (λ e. e.location) entries (live list) index indexed) monotone key bytes))
