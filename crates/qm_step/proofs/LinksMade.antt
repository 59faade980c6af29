-- The operations of ordered writes, from what is known of the keys that are written.
use Rattle.std.proofs.Common.{◌≡◌, ℕ, Bool, true, false, cond, List, [], ◌∷◌, map, ap, ap₂, sym, ◌∙◌, refl, subst, Option, Some, None, ◌&&◌, ◌⊎◌, inl, inr}
use Rattle.std.specs.Prelude.{filter, filter_map, option_map, option_and_then, is_some, is_none, bytes_eq, All, IfSome, if◌then◌else◌}
use Rattle.std.specs.List.{cons_option, AllByRecursion as Each}
use Rattle.std.proofs.lemmas.List.Elements.{filter_agree, All-from_recursion, All-contains}
use Rattle.qm_model.specs.Operations.{Bytes, Operation, update, delete}
use Rattle.qm_model.specs.Live.{Live, live, live_of, live_keys}
use Rattle.qm_model.specs.Keys.{successor, predecessor}
use Rattle.qm_model.specs.Writes.{Write, write_of, operation_of}
use Rattle.qm_model.specs.Ordered.{IsRing, linked, put_of, deleted_keys, updated_keys, created_keys}
use Rattle.qm_model.proofs.LastWrites.{bytes_same}
use Rattle.qm_model.proofs.KeyOrder.{Has, Has-first, Has-later, Has-either, successor-is, predecessor-is}
use Rattle.qm_model.proofs.OrderedLists.{Each-both, live-contains, some-map, Single}
use Rattle.qm_index.proofs.Basics.{bytes-turned}
use Rattle.qm_operations.specs.Parts.{key_of}
use Rattle.qm_step.specs.Changes.{located, next_in, update_of}
use Rattle.qm_step.specs.Rings.{previous_of, touch_in, linked_in, is_changed, neighbour_in}
use Rattle.qm_step.specs.Links.{is_kind, of_kind, keys_of_kind, key_after, named, touch_of, after_of, before_of, next_of, Stands, IsStanding}
use Rattle.qm_step.specs.declared.links.Kind.{Kind}
use Rattle.qm_step.specs.declared.links.Kind.TheVariants.{Delete, Update, Create}
use Rattle.qm_step.proofs.Standing.{live-of_key, of_key-within}
use Rattle.qm_step.proofs.Steps.{map-twice}

-- lists that are made of others

pub filter_map-twice : {X Y Z : Type 0} (f : Y → Option Z) (g : X → Option Y) (xs : List X) → filter_map f (filter_map g xs) ≡ filter_map (λ x. option_and_then f (g x)) xs
filter_map-twice f g [] = refl
filter_map-twice {X} {Y} {Z} f g (x ∷ xs) = by (g x) (filter_map-twice f g xs)
  where
    by : (o : Option Y) → filter_map f (filter_map g xs) ≡ filter_map (λ x. option_and_then f (g x)) xs → filter_map f (cons_option o (filter_map g xs)) ≡ cons_option (option_and_then f o) (filter_map (λ x. option_and_then f (g x)) xs)
    by None later = later
    by (Some y) later = ap (cons_option (f y)) later

pub filter_map-map : {X Y Z : Type 0} (f : Y → Option Z) (g : X → Y) (xs : List X) → filter_map f (map g xs) ≡ filter_map (λ x. f (g x)) xs
filter_map-map f g [] = refl
filter_map-map f g (x ∷ xs) = ap (cons_option (f (g x))) (filter_map-map f g xs)

filter-map : {X Y : Type 0} (p : Y → Bool) (g : X → Y) (xs : List X) → filter p (map g xs) ≡ map g (filter (λ x. p (g x)) xs)
filter-map p g [] = refl
filter-map p g (x ∷ xs) = by (p (g x)) (filter-map p g xs)
  where
    by : (t : Bool) → filter p (map g xs) ≡ map g (filter (λ x. p (g x)) xs) → cond t (g x ∷ filter p (map g xs)) (filter p (map g xs)) ≡ map g (cond t (x ∷ filter (λ x. p (g x)) xs) (filter (λ x. p (g x)) xs))
    by true later = ap (λ ys. g x ∷ ys) later
    by false later = later

map-same : {X Y : Type 0} (f g : X → Y) → ((x : X) → f x ≡ g x) → (xs : List X) → map f xs ≡ map g xs
map-same f g same [] = refl
map-same f g same (x ∷ xs) = ap₂ (λ y ys. y ∷ ys) (same x) (map-same f g same xs)

pub filter_map-same : {Y : Type 0} (f g : Bytes → Option Y) (xs : List Bytes) → ((x : Bytes) → Has xs x → f x ≡ g x) → filter_map f xs ≡ filter_map g xs
filter_map-same f g [] same = refl
filter_map-same f g (x ∷ xs) same = ap₂ cons_option (same x (Has-first x xs)) (filter_map-same f g xs (λ y at. same y (Has-later x xs y at)))

-- keys that are made of the elements of a list

Has-cons : (o : Option Bytes) (ks : List Bytes) (s : Bytes) → Has ks s → Has (cons_option o ks) s
Has-cons None ks s h = h
Has-cons (Some k) ks s h = Has-later k ks s h

pub Has-made : {X : Type 0} (key : X → Bytes) (test : X → Bool) (f : X → Option Bytes) (xs : List X) (t s : Bytes) → Has (map key (filter test xs)) t → ((x : X) → test x ≡ true → key x ≡ t → f x ≡ Some s) → Has (filter_map f xs) s
Has-made key test f [] t s h make = absurd (cc)
Has-made key test f (x ∷ xs) t s h make = by (test x) refl h (λ at. Has-made key test f xs t s at make)
  where
    by : (b : Bool) → test x ≡ b → Has (map key (cond b (x ∷ filter test xs) (filter test xs))) t → (Has (map key (filter test xs)) t → Has (filter_map f xs) s) → Has (cons_option (f x) (filter_map f xs)) s
    by false is h next = Has-cons (f x) (filter_map f xs) s (next h)
    by true is h next = elim (Has-either (key x) (map key (filter test xs)) t h) [
      | inl same ↦ subst (λ o. Has (cons_option o (filter_map f xs)) s) (sym (make x is same)) (Has-first s (filter_map f xs))
      | inr at ↦ Has-cons (f x) (filter_map f xs) s (next at)
    ]

pub Has-from : {X : Type 0} (f : X → Option Bytes) (P : Bytes → Type 0) → ((x : X) (s : Bytes) → f x ≡ Some s → P s) → (xs : List X) (s : Bytes) → Has (filter_map f xs) s → P s
Has-from f P made [] s h = absurd (cc)
Has-from f P made (x ∷ xs) s h = by (f x) refl h (Has-from f P made xs s)
  where
    by : (o : Option Bytes) → f x ≡ o → Has (cons_option o (filter_map f xs)) s → (Has (filter_map f xs) s → P s) → P s
    by None is h next = next h
    by (Some k) is h next = elim (Has-either k (filter_map f xs) s h) [ inl same ↦ subst P same (made x k is) | inr at ↦ next at ]

pub Has-also : {X : Type 0} (f g : X → Option Bytes) (xs : List X) (k s : Bytes) → ((x : X) → f x ≡ Some k → g x ≡ Some s) → Has (filter_map f xs) k → Has (filter_map g xs) s
Has-also f g [] k s also h = absurd (cc)
Has-also f g (x ∷ xs) k s also h = by (f x) refl h (Has-also f g xs k s also)
  where
    by : (o : Option Bytes) → f x ≡ o → Has (cons_option o (filter_map f xs)) k → (Has (filter_map f xs) k → Has (filter_map g xs) s) → Has (cons_option (g x) (filter_map g xs)) s
    by None is h next = Has-cons (g x) (filter_map g xs) s (next h)
    by (Some y) is h next = elim (Has-either y (filter_map f xs) k h) [
      | inl same ↦ subst (λ o. Has (cons_option o (filter_map g xs)) s) (sym (also x (is ∙ ap (λ z. Some z) same))) (Has-first s (filter_map g xs))
      | inr at ↦ Has-cons (g x) (filter_map g xs) s (next at)
    ]

-- live updates, and those before keys

module _ (base : List Operation) where
  live-there : (key : Bytes) → Has (live_keys base) key → (e : Live) × (live_of (live base) key ≡ Some e)
  live-there key h = by (live_of (live base) key) refl (sym (live-contains (live base) key) ∙ h)
    where
      by : (o : Option Live) → live_of (live base) key ≡ o → is_some o ≡ true → (e : Live) × (live_of (live base) key ≡ Some e)
      by None is h = absurd (cc)
      by (Some e) is h = (e, is)

  names : IsRing base → (key : Bytes) (e : Live) → live_of (live base) key ≡ Some e → e.next ≡ successor (live_keys base) key
  names ring key e is =
      let within = of_key-within (live base) key e is in
      All-contains (λ e. e.next ≡ successor (live_keys base) e.key) (live base) e ring within.0 ∙ ap (successor (live_keys base)) within.1

  previous-key : (key : Bytes) → option_and_then (λ p. key_of p.1) (previous_of base key) ≡ predecessor (live_keys base) key
  previous-key key = by (predecessor (live_keys base) key) refl
    where
      by : (o : Option Bytes) → predecessor (live_keys base) key ≡ o → option_and_then (λ (p : ℕ × Operation). key_of p.1) (option_and_then (update_of base) o) ≡ o
      by None is = refl
      by (Some p) is =
          let at = predecessor-is (live_keys base) key p is in
          let there = live-there p at.has in
          ap (λ o. option_and_then (λ (q : ℕ × Operation). key_of q.1) (option_map located o)) there.1 ∙ ap (λ k. Some k) (of_key-within (live base) p there.0 there.1).1

  previous-next : IsRing base → (key : Bytes) → option_and_then (λ p. next_in p.1) (previous_of base key) ≡ option_and_then (successor (live_keys base)) (predecessor (live_keys base) key)
  previous-next ring key = by (predecessor (live_keys base) key) refl
    where
      by : (o : Option Bytes) → predecessor (live_keys base) key ≡ o → option_and_then (λ (p : ℕ × Operation). next_in p.1) (option_and_then (update_of base) o) ≡ option_and_then (successor (live_keys base)) o
      by None is = refl
      by (Some p) is =
          let at = predecessor-is (live_keys base) key p is in
          let there = live-there p at.has in
          ap (λ o. option_and_then (λ (q : ℕ × Operation). next_in q.1) (option_map located o)) there.1 ∙ names ring p there.0 there.1

  previous-stands : (key : Bytes) → IfSome (previous_of base key) (Stands base)
  previous-stands key = by (predecessor (live_keys base) key)
    where
      at_live : (o : Option Live) (p : Bytes) → live_of (live base) p ≡ o → IfSome (option_map located o) (Stands base)
      at_live None p is = tt
      at_live (Some e) p is = ap (option_map located) (live-of_key base e (of_key-within (live base) p e is).0)

      by : (o : Option Bytes) → IfSome (option_and_then (update_of base) o) (Stands base)
      by None = tt
      by (Some p) = at_live (live_of (live base) p) p refl

  pub neighbours-stand : (us : List Write) → All (IsStanding base) (filter_map (neighbour_in base) us)
  neighbours-stand us = All-from_recursion (IsStanding base) (filter_map (neighbour_in base) us) (each us)
    where
      each : (xs : List Write) → Each (IsStanding base) (filter_map (neighbour_in base) xs)
      each [] = tt
      each (w ∷ xs) = by (is_changed (live base) w) (each xs)
        where
          by : (t : Bool) → Each (IsStanding base) (filter_map (neighbour_in base) xs) → Each (IsStanding base) (cons_option (if t then Some (w.key, previous_of base w.key) else None) (filter_map (neighbour_in base) xs))
          by true later = (previous-stands w.key, later)
          by false later = later

  pub before-changed : (w : Write) → is_changed (live base) w ≡ true → option_and_then before_of (neighbour_in base w) ≡ predecessor (live_keys base) w.key
  before-changed w is = ap (λ t. option_and_then before_of (if t then Some (w.key, previous_of base w.key) else None)) is ∙ previous-key w.key

  -- the key before a key that changes, if a neighbour has it
  pub before-is : (w : Write) (q : Bytes) → option_and_then before_of (neighbour_in base w) ≡ Some q → (predecessor (live_keys base) w.key ≡ Some q) × (is_changed (live base) w ≡ true)
  before-is w q h = by (is_changed (live base) w) refl h
    where
      by : (t : Bool) → is_changed (live base) w ≡ t → option_and_then before_of (if t then Some (w.key, previous_of base w.key) else None) ≡ Some q → (predecessor (live_keys base) w.key ≡ Some q) × (is_changed (live base) w ≡ true)
      by true is h = (sym (previous-key w.key) ∙ h, is)
      by false is h = absurd (cc)

  pub next-changed : IsRing base → (w : Write) (p : Bytes) → is_changed (live base) w ≡ true → predecessor (live_keys base) w.key ≡ Some p → option_and_then next_of (neighbour_in base w) ≡ successor (live_keys base) p
  next-changed ring w p is before =
      ap (λ t. option_and_then next_of (if t then Some (w.key, previous_of base w.key) else None)) is ∙ previous-next ring w.key ∙ ap (option_and_then (successor (live_keys base))) before

  pub next-is : IsRing base → (w : Write) (s : Bytes) → option_and_then next_of (neighbour_in base w) ≡ Some s → Has (live_keys base) s
  next-is ring w s h = by (is_changed (live base) w) h
    where
      at : (o : Option Bytes) → option_and_then (successor (live_keys base)) o ≡ Some s → Has (live_keys base) s
      at None h = absurd (cc)
      at (Some p) h = let is = successor-is (live_keys base) p s h in is.has

      by : (t : Bool) → option_and_then next_of (if t then Some (w.key, previous_of base w.key) else None) ≡ Some s → Has (live_keys base) s
      by true h = at (predecessor (live_keys base) w.key) (sym (previous-next ring w.key) ∙ h)
      by false h = absurd (cc)

  -- the keys that written keys name

  pub after-live : IsRing base → (w : Write) → is_some (live_of (live base) w.key) ≡ true → after_of (linked_in base w) ≡ successor (live_keys base) w.key
  after-live ring w h = by (live_of (live base) w.key) refl h
    where
      by : (o : Option Live) → live_of (live base) w.key ≡ o → is_some o ≡ true → after_of (linked_in base w) ≡ successor (live_keys base) w.key
      by None is h = absurd (cc)
      by (Some e) is h = ap (λ o. after_of (w, option_map (λ (e : Live). (e.location, e.next)) o)) is ∙ names ring w.key e is

  pub after-created : (w : Write) → (is_some w.value && is_none (live_of (live base) w.key)) ≡ true → after_of (linked_in base w) ≡ Some w.key
  after-created w h = by (live_of (live base) w.key) w.value h
    where
      by : (o : Option Live) (v : Option Bytes) → (is_some v && is_none o) ≡ true → after_of (record { key = w.key; value = v }, option_map (λ (e : Live). (e.location, e.next)) o) ≡ Some w.key
      by None None h = absurd (cc)
      by None (Some x) h = refl
      by (Some e) None h = absurd (cc)
      by (Some e) (Some x) h = absurd (cc)

  pub after-either : IsRing base → (us : List Write) (s : Bytes) → Has (filter_map (λ w. after_of (linked_in base w)) us) s → Has (live_keys base) s ⊎ Has (created_keys (live base) us) s
  after-either ring [] s h = absurd (cc)
  after-either ring (w ∷ us) s h = by (live_of (live base) w.key) w.value refl h (after-either ring us s)
    where
      rest : List Bytes
      rest = filter_map (λ w. after_of (linked_in base w)) us

      new : List Write
      new = filter (λ (u : Write). is_some u.value && is_none (live_of (live base) u.key)) us

      name : (n : Option Bytes) → n ≡ successor (live_keys base) w.key → Has (cons_option n (filter_map (λ w. after_of (linked_in base w)) us)) s →
          (Has (filter_map (λ w. after_of (linked_in base w)) us) s → Has (live_keys base) s ⊎ Has (created_keys (live base) us) s) → Has (live_keys base) s ⊎ Has (created_keys (live base) us) s
      name None is h next = next h
      name (Some k) is h next = elim (Has-either k (filter_map (λ w. after_of (linked_in base w)) us) s h) [
        | inl same ↦ inl (let found = successor-is (live_keys base) w.key k (sym is) in subst (Has (live_keys base)) same found.has)
        | inr at ↦ next at
      ]

      more : Has (live_keys base) s ⊎ Has (created_keys (live base) us) s → Has (live_keys base) s ⊎ Has (w.key ∷ created_keys (live base) us) s
      more (inl at) = inl at
      more (inr at) = inr (Has-later w.key (created_keys (live base) us) s at)

      by : (o : Option Live) (v : Option Bytes) → live_of (live base) w.key ≡ o →
          Has (cons_option (after_of (record { key = w.key; value = v }, option_map (λ (e : Live). (e.location, e.next)) o)) (filter_map (λ w. after_of (linked_in base w)) us)) s →
          (Has (filter_map (λ w. after_of (linked_in base w)) us) s → Has (live_keys base) s ⊎ Has (created_keys (live base) us) s) →
          Has (live_keys base) s ⊎ Has (map (λ (u : Write). u.key) (cond (is_some v && is_none o) (w ∷ filter (λ (u : Write). is_some u.value && is_none (live_of (live base) u.key)) us) (filter (λ (u : Write). is_some u.value && is_none (live_of (live base) u.key)) us))) s
      by None None is h next = next h
      by None (Some x) is h next = elim (Has-either w.key (filter_map (λ w. after_of (linked_in base w)) us) s h) [
        | inl same ↦ inr (subst (Has (w.key ∷ created_keys (live base) us)) same (Has-first w.key (created_keys (live base) us)))
        | inr at ↦ more (next at)
      ]
      by (Some e) None is h next = name e.next (names ring w.key e is) h next
      by (Some e) (Some x) is h next = name e.next (names ring w.key e is) h next

  -- which writes are of a kind

  kind-filter : (kind : Kind) (test : Write → Bool) → ((w : Write) → is_kind kind (linked_in base w) ≡ test w) → (us : List Write) → of_kind kind (map (linked_in base) us) ≡ map (linked_in base) (filter test us)
  kind-filter kind test same us = filter-map (is_kind kind) (linked_in base) us ∙ ap (map (linked_in base)) (filter_agree (λ w. is_kind kind (linked_in base w)) test same us)

  kind-keys : (kind : Kind) (test : Write → Bool) → ((w : Write) → is_kind kind (linked_in base w) ≡ test w) → (us : List Write) → keys_of_kind kind (map (linked_in base) us) ≡ map (λ w. w.key) (filter test us)
  kind-keys kind test same us = ap (map (λ (l : Write × Option (ℕ × Option Bytes)). l.0.key)) (kind-filter kind test same us) ∙ map-twice (λ (l : Write × Option (ℕ × Option Bytes)). l.0.key) (linked_in base) (filter test us)

  pub is_gone : (w : Write) → is_kind Delete (linked_in base w) ≡ (is_none w.value && is_some (live_of (live base) w.key))
  is_gone w = ap (λ t. is_none w.value && t) (some-map (λ (e : Live). (e.location, e.next)) (live_of (live base) w.key))

  pub is_put : (w : Write) → is_kind Update (linked_in base w) ≡ (is_some w.value && is_some (live_of (live base) w.key))
  is_put w = ap (λ t. is_some w.value && t) (some-map (λ (e : Live). (e.location, e.next)) (live_of (live base) w.key))

  pub is_new : (w : Write) → is_kind Create (linked_in base w) ≡ (is_some w.value && is_none (live_of (live base) w.key))
  is_new w = ap (λ t. is_some w.value && t) (by (live_of (live base) w.key))
    where
      by : (o : Option Live) → is_none {T = ℕ × Option Bytes} (option_map (λ (e : Live). (e.location, e.next)) o) ≡ is_none o
      by None = refl
      by (Some e) = refl

  pub gone-keys : (us : List Write) → keys_of_kind Delete (map (linked_in base) us) ≡ deleted_keys (live base) us
  gone-keys us = kind-keys Delete (λ w. is_none w.value && is_some (live_of (live base) w.key)) is_gone us

  pub put-keys : (us : List Write) → keys_of_kind Update (map (linked_in base) us) ≡ updated_keys (live base) us
  put-keys us = kind-keys Update (λ w. is_some w.value && is_some (live_of (live base) w.key)) is_put us

  pub new-keys : (us : List Write) → keys_of_kind Create (map (linked_in base) us) ≡ created_keys (live base) us
  new-keys us = kind-keys Create (λ w. is_some w.value && is_none (live_of (live base) w.key)) is_new us

  -- the operations of these writes

  touch-in : (afters : List Bytes) (w : Write) → touch_of afters (linked_in base w) ≡ touch_in base (named afters (operation_of w))
  touch-in afters w = by w.value
    where
      place : (o : Option Live) → option_map (λ (p : ℕ × Option Bytes). p.0) (option_map (λ (e : Live). (e.location, e.next)) o) ≡ option_map (λ (p : ℕ × Bytes). p.0) (option_map (λ (e : Live). (e.location, e.value)) o)
      place None = refl
      place (Some e) = refl

      by : (v : Option Bytes) → touch_of afters (record { key = w.key; value = v }, option_map (λ (e : Live). (e.location, e.next)) (live_of (live base) w.key)) ≡ touch_in base (named afters (operation_of (record { key = w.key; value = v })))
      by None = ap (λ o. record { operation = delete w.key; before = o }) (place (live_of (live base) w.key))
      by (Some x) = ap (λ o. record { operation = update w.key x (Some (key_after afters w.key)); before = o }) (place (live_of (live base) w.key))

  pub kind-touches : (afters : List Bytes) (kind : Kind) (test : Write → Bool) → ((w : Write) → is_kind kind (linked_in base w) ≡ test w) → (us : List Write) →
      map (touch_of afters) (of_kind kind (map (linked_in base) us)) ≡ map (touch_in base) (map (named afters) (map operation_of (filter test us)))
  kind-touches afters kind test same us =
      ap (map (touch_of afters)) (kind-filter kind test same us)
      ∙ map-twice (touch_of afters) (linked_in base) (filter test us)
      ∙ map-same (λ w. touch_of afters (linked_in base w)) (λ w. touch_in base (named afters (operation_of w))) (touch-in afters) (filter test us)
      ∙ sym (map-twice (λ op. touch_in base (named afters op)) operation_of (filter test us))
      ∙ sym (map-twice (touch_in base) (named afters) (map operation_of (filter test us)))

pub deletes-made : (test : Write → Bool) → ((w : Write) → test w ≡ true → is_none w.value ≡ true) → (us : List Write) → map operation_of (filter test us) ≡ map delete (map (λ w. w.key) (filter test us))
deletes-made test none [] = refl
deletes-made test none (w ∷ us) = by (test w) refl (deletes-made test none us)
  where
    one : (v : Option Bytes) → is_none v ≡ true → operation_of (record { key = w.key; value = v }) ≡ delete w.key
    one None h = refl
    one (Some x) h = absurd (cc)

    by : (t : Bool) → test w ≡ t → map operation_of (filter test us) ≡ map delete (map (λ (u : Write). u.key) (filter test us)) →
        map operation_of (cond t (w ∷ filter test us) (filter test us)) ≡ map delete (map (λ (u : Write). u.key) (cond t (w ∷ filter test us) (filter test us)))
    by true is later = ap₂ (λ op ops. op ∷ ops) (one w.value (none w is)) later
    by false is later = later

pub puts-made : (all : List Write) (test : Write → Bool) → ((w : Write) → test w ≡ true → is_some w.value ≡ true) → (us : List Write) → Each (λ w. write_of all w.key ≡ Some w) us →
    map operation_of (filter test us) ≡ filter_map (put_of all) (map (λ w. w.key) (filter test us))
puts-made all test some [] own = refl
puts-made all test some (w ∷ us) own = by (test w) refl (puts-made all test some us own.1)
  where
    put : (v : Option Bytes) → is_some v ≡ true → option_map (λ value. update w.key value None) v ≡ Some (operation_of (record { key = w.key; value = v }))
    put None h = absurd (cc)
    put (Some x) h = refl

    by : (t : Bool) → test w ≡ t → map operation_of (filter test us) ≡ filter_map (put_of all) (map (λ (u : Write). u.key) (filter test us)) →
        map operation_of (cond t (w ∷ filter test us) (filter test us)) ≡ filter_map (put_of all) (map (λ (u : Write). u.key) (cond t (w ∷ filter test us) (filter test us)))
    by true is later =
        let one : put_of all w.key ≡ Some (operation_of w) = ap (λ o. option_map (λ value. update w.key value None) (option_and_then (λ (u : Write). u.value) o)) own.0 ∙ put w.value (some w is) in
        ap (λ ops. operation_of w ∷ ops) later ∙ ap (λ o. cons_option o (filter_map (put_of all) (map (λ (u : Write). u.key) (filter test us)))) (sym one)
    by false is later = later

-- each of single writes is that of its key
pub own-writes : (us : List Write) → Single us → Each (λ w. write_of us w.key ≡ Some w) us
own-writes [] single = tt
own-writes (u ∷ us) single = (
  ap (λ t. cond t (Some u) (write_of us u.key)) (bytes_same u.key),
  Each-both (λ w. bytes_eq w.key u.key ≡ false) (λ w. write_of us w.key ≡ Some w) (λ w. write_of (u ∷ us) w.key ≡ Some w)
      (λ w other is. ap (λ t. cond t (Some u) (write_of us w.key)) (bytes-turned u.key w.key ∙ other) ∙ is) us single.0 (own-writes us single.1),
)

-- updates of keys after which the same key comes
pub named-linked : {X : Type 0} (get : X → Bytes) (find : Bytes → Option X) (afters many keys : List Bytes) → ((k : Bytes) → Has keys k → Some (key_after afters k) ≡ successor many k) →
    map (named afters) (filter_map (λ k. option_map (λ x. update k (get x) None) (find k)) keys) ≡ map (linked many) (filter_map (λ k. option_map (λ x. update k (get x) None) (find k)) keys)
named-linked get find afters many [] same = refl
named-linked {X} get find afters many (k ∷ ks) same = by (find k) (named-linked get find afters many ks (λ x at. same x (Has-later k ks x at)))
  where
    make : Bytes → Option Operation
    make = λ k. option_map (λ x. update k (get x) None) (find k)

    by : (o : Option X) → map (named afters) (filter_map (λ k. option_map (λ x. update k (get x) None) (find k)) ks) ≡ map (linked many) (filter_map (λ k. option_map (λ x. update k (get x) None) (find k)) ks) →
        map (named afters) (cons_option (option_map (λ x. update k (get x) None) o) (filter_map (λ k. option_map (λ x. update k (get x) None) (find k)) ks)) ≡ map (linked many) (cons_option (option_map (λ x. update k (get x) None) o) (filter_map (λ k. option_map (λ x. update k (get x) None) (find k)) ks))
    by None later = later
    by (Some x) later = ap₂ (λ n ops. update k (get x) n ∷ ops) (same k (Has-first k ks)) later

pub named-deletes : (afters many keys : List Bytes) → map (named afters) (map delete keys) ≡ map (linked many) (map delete keys)
named-deletes afters many [] = refl
named-deletes afters many (k ∷ ks) = ap (λ ops. delete k ∷ ops) (named-deletes afters many ks)
