-- The live update whose span holds a key, and the keys above and below it.
use Rattle.std.proofs.Common.{◌≡◌, ◌∙◌, refl, sym, ap, ap₂, subst, ℕ, Bool, true, false, List, ◌∷◌, Option, Some, None, ◌&&◌, ◌||◌}
use Rattle.std.specs.Prelude.{filter, option_map, option_and_then, if◌then◌else◌, bytes_eq, All, not, ◌==◌}
use Rattle.std.specs.Map.{keys_of}
use Rattle.std.specs.Option.{option_or, is_some}
use Rattle.std.proofs.lemmas.Bool.{eq-eqb}
use Rattle.std.proofs.lemmas.List.Elements.{All-cons}
use Rattle.qm_model.specs.Forms.{Form, IsOf}
use Rattle.qm_model.specs.Operations.{Bytes, AreBytes, Operation}
use Rattle.qm_model.specs.Live.{Live, live, live_of, live_keys}
use Rattle.qm_model.specs.Keys.{key_lt, least, greatest, successor, predecessor, contains_key, between}
use Rattle.qm_model.specs.Ordered.{IsRing}
use Rattle.qm_model.specs.Ranges.{included, excluded, unlimited, is_before, key_above, key_below}
use Rattle.qm_model.proofs.KeyOrder.{Has, Has-first, Has-later, rises, contains-filter, front-none, and-true, and-both, and-right, or-none, false-not, not-true, not-false, apart, lt-back, lt-irrefl, lt-total, least-front, least-is, greatest-is, is-greatest, predecessor-is, predecessor-new, predecessor-none, predecessor-successor, successor-is, successor-skips}
use Rattle.qm_model.proofs.LastWrites.{bytes_same}
use Rattle.qm_model.proofs.Maps.{same_key}
use Rattle.qm_model.proofs.OrderedLists.{live-contains}
use Rattle.qm_index.specs.Buckets.{IsIndex}
use Rattle.qm_index.specs.Indexed.{IsIndexed}
use Rattle.qm_index.specs.Neighbours.{keys_at, prev_key}
use Rattle.qm_index.specs.Translated.{IsMonotone}
use Rattle.qm_step.specs.Changes.{located, next_in, update_of}
use Rattle.qm_step.specs.Layers.{Layer, LeadOver, nearest_layer}
use Rattle.qm_step.specs.Nearest.{kept, last_key, lent_before, nearer_of, own_or_nearer, said_key}
use Rattle.qm_step.specs.Rings.{holder_of, previous_of}
use Rattle.qm_step.proofs.LastKeys.{filter-same, greatest-same, last-is, last-none}
use Rattle.qm_batch.proofs.Layered.{lent-update}
use Rattle.qm_step.proofs.LentKeys.{live-bytes, live-some}
use Rattle.qm_batch.proofs.PreviousOf.{update-parts, previous-lent, previous-nearer}

none-some : {X : Type 0} {x : X} → None ≡ Some x → ⊥
none-some h = cc

-- the key's own live update, or else the one before it
pub holder-own : (list : List Operation) (key : Bytes) → holder_of list key ≡ option_or (update_of list key) (previous_of list key)
holder-own list key = by (live_of (live list) key) (predecessor (live_keys list) key)
  where
    by : (o : Option Live) (p : Option Bytes) → option_map located (option_or o (option_and_then (live_of (live list)) p)) ≡ option_or (option_map located o) (option_and_then (update_of list) p)
    by (Some e) p = refl
    by None None = refl
    by None (Some p) = refl

-- a key that is not live has no live update
pub dead-update : (list : List Operation) (key : Bytes) → contains_key (live_keys list) key ≡ false → update_of list key ≡ None
dead-update list key gone = by (live_of (live list) key) (sym (live-contains (live list) key) ∙ gone)
  where
    by : (o : Option Live) → is_some o ≡ false → option_map located o ≡ None
    by None h = refl
    by (Some e) h = cc

-- the live update of the nearest key up to a key, by buckets, is the key's own, or else the one before it
module _ (index_key : Bytes → ℕ) (entries : List (ℕ × List ℕ)) (list : List Operation) (key : Bytes) where
  abbrev own : List Bytes
  own = keys_at index_key (live_keys list) (index_key key)

  abbrev behind : Option Bytes
  behind = option_and_then (λ n. last_key unlimited (keys_at index_key (live_keys list) n.0)) (prev_key (keys_of entries) (index_key key))

  at_key : Has (live_keys list) key → last_key (included key) own ≡ Some key
  at_key at = is-greatest (filter (is_before (included key)) own) key (record {
    has = contains-filter (is_before (included key)) own key ∙ and-both (contains_key own key) (is_before (included key) key)
        (contains-filter (λ k. index_key k == index_key key) (live_keys list) key ∙ and-both (contains_key (live_keys list) key) (index_key key == index_key key) at (eq-eqb (index_key key) (index_key key) refl))
        (not-true (key_lt key key) (lt-irrefl key));
    low = λ x h. not-false (key_lt key x) (and-true (contains_key own x) (is_before (included key) x) (sym (contains-filter (is_before (included key)) own x) ∙ h)).1;
  })

  below_key : contains_key (live_keys list) key ≡ false → last_key (included key) own ≡ last_key (excluded key) own
  below_key gone = greatest-same (filter (is_before (included key)) own) (filter (is_before (excluded key)) own) (filter-same (is_before (included key)) (is_before (excluded key)) own own (λ x. cases x (contains_key own x) refl))
    where
      sides : (x : Bytes) → (x ≡ key → ⊥) → (a b : Bool) → key_lt key x ≡ a → key_lt x key ≡ b → not a ≡ b
      sides x other true true p q = absurd (apart (key_lt x key) q (lt-back rises key x p))
      sides x other true false p q = refl
      sides x other false true p q = refl
      sides x other false false p q = absurd (other (lt-total x key q p))

      cases : (x : Bytes) (t : Bool) → contains_key own x ≡ t → t && not (key_lt key x) ≡ t && key_lt x key
      cases x false e = refl
      cases x true e =
          let both = and-true (contains_key (live_keys list) x) (index_key x == index_key key) (sym (contains-filter (λ k. index_key k == index_key key) (live_keys list) x) ∙ e) in
          sides x (λ same. apart (contains_key (live_keys list) key) (ap (contains_key (live_keys list)) (sym same) ∙ both.0) gone) (key_lt key x) (key_lt x key) refl refl

  pub lent-upto : lent_before index_key entries list key (included key) ≡ option_or (update_of list key) (lent_before index_key entries list key (excluded key))
  lent-upto = by (contains_key (live_keys list) key) refl
    where
      by : (t : Bool) → contains_key (live_keys list) key ≡ t → option_and_then (update_of list) (option_or (last_key (included key) own) behind) ≡ option_or (update_of list key) (option_and_then (update_of list) (option_or (last_key (excluded key) own) behind))
      by true at =
          let found = live-some list key at in
          ap (λ o. option_and_then (update_of list) (option_or o behind)) (at_key at) ∙ found.1
          ∙ sym (ap (λ o. option_or o (option_and_then (update_of list) (option_or (last_key (excluded key) own) behind))) found.1)
      by false gone =
          ap (λ o. option_and_then (update_of list) (option_or o behind)) (below_key gone)
          ∙ sym (ap (λ o. option_or o (option_and_then (update_of list) (option_or (last_key (excluded key) own) behind))) (dead-update list key gone))

-- if layers do nothing to a key, its holder is that of the lent list, or else the nearer one before it
module _ (layers : List Layer) (lent base : List Operation) (is : LeadOver layers lent base) (ring_lent : IsRing lent) (ring_base : IsRing base) (key : Bytes) (none : nearest_layer layers key ≡ None) where
  pub holder-nearer : own_or_nearer layers key (option_or (update_of lent key) (previous_of lent key)) ≡ option_or (update_of base key) (previous_of base key)
  holder-nearer = by (contains_key (live_keys lent) key) refl ∙ ap (λ o. option_or o (previous_of base key)) (sym (lent-update layers lent base is key (sym none)))
    where
      other : contains_key (live_keys lent) key ≡ false → (q : Bytes) → Has (live_keys lent) q → bytes_eq q key ≡ false
      other gone q at = false-not (bytes_eq q key) (λ same. apart (contains_key (live_keys lent) key) (subst (λ z. contains_key (live_keys lent) z ≡ true) (same_key q key same) at) gone)

      passed : contains_key (live_keys lent) key ≡ false → (o : Option Bytes) → predecessor (live_keys lent) key ≡ o → own_or_nearer layers key (option_and_then (update_of lent) o) ≡ nearer_of layers key (option_and_then (update_of lent) o)
      passed gone None h = refl
      passed gone (Some q) h =
          let at = (predecessor-is (live_keys lent) key q h).has in
          let own = live-some lent q at in
          subst (λ o. own_or_nearer layers key o ≡ nearer_of layers key o) (sym own.1)
          (ap (λ t. if t then Some own.0 else nearer_of layers key (Some own.0)) (ap (λ k. bytes_eq k key) own.2 ∙ other gone q at))

      by : (t : Bool) → contains_key (live_keys lent) key ≡ t → own_or_nearer layers key (option_or (update_of lent key) (previous_of lent key)) ≡ option_or (update_of lent key) (previous_of base key)
      by true at =
          let own = live-some lent key at in
          subst (λ o. own_or_nearer layers key (option_or o (previous_of lent key)) ≡ option_or o (previous_of base key)) (sym own.1)
          (ap (λ t. if t then Some own.0 else nearer_of layers key (Some own.0)) (ap (λ k. bytes_eq k key) own.2 ∙ bytes_same key))
      by false gone =
          subst (λ o. own_or_nearer layers key (option_or o (previous_of lent key)) ≡ option_or o (previous_of base key)) (sym (dead-update lent key gone))
          (passed gone (predecessor (live_keys lent) key) refl ∙ sym (previous-nearer layers lent base is ring_lent ring_base key))

-- the key after a key around the ring, if it is above it, and the one before, if it is below
abbrev above : List Bytes → Bytes → List Bytes
above keys key = filter (λ k. key_lt key k) keys

pub above-successor : (keys : List Bytes) (key : Bytes) → kept (λ k. key_lt key k) (successor keys key) ≡ key_above keys key
above-successor keys key = by (key_above keys key) refl (least keys) refl
  where
    by : (a : Option Bytes) → least (above keys key) ≡ a → (l : Option Bytes) → least keys ≡ l → kept (λ k. key_lt key k) (option_or a l) ≡ a
    by (Some m) h l g = ap (λ t. if t then Some m else None) (and-true (contains_key keys m) (key_lt key m) (sym (contains-filter (λ k. key_lt key k) keys m) ∙ (least-is (above keys key) m h).has)).1
    by None h None g = refl
    by None h (Some m) g = ap (λ t. if t then Some m else None) (false-not (key_lt key m) (λ up.
        apart (contains_key (above keys key) m) (contains-filter (λ k. key_lt key k) keys m ∙ and-both (contains_key keys m) (key_lt key m) (least-is keys m g).has up)
        (front-none rises (above keys key) (sym (least-front (above keys key)) ∙ h) m)))

pub below-predecessor : (keys : List Bytes) (key : Bytes) → kept (λ k. key_lt k key) (predecessor keys key) ≡ key_below keys key
below-predecessor keys key = by (key_below keys key) refl (greatest keys) refl
  where
    by : (b : Option Bytes) → last_key (excluded key) keys ≡ b → (g : Option Bytes) → greatest keys ≡ g → kept (λ k. key_lt k key) (option_or b g) ≡ b
    by (Some m) h g e = ap (λ t. if t then Some m else None) (last-is (excluded key) keys m h).1
    by None h None e = refl
    by None h (Some m) e = ap (λ t. if t then Some m else None) (false-not (key_lt m key) (λ down. last-none (excluded key) keys h m (greatest-is keys m e).has down))

-- the key that the holder names is the next one
pub holder-next : (list : List Operation) (key : Bytes) → IsRing list → option_and_then (λ (p : ℕ × Operation). next_in p.1) (holder_of list key) ≡ successor (live_keys list) key
holder-next list key ring = ap (option_and_then (λ (p : ℕ × Operation). next_in p.1)) (holder-own list key) ∙ by (contains_key (live_keys list) key) refl
  where
    named : (k : Bytes) → Has (live_keys list) k → option_and_then (λ (p : ℕ × Operation). next_in p.1) (update_of list k) ≡ successor (live_keys list) k
    named k at = let parts = update-parts list k ring at in ap (λ o. option_and_then (λ (p : ℕ × Operation). next_in p.1) (option_map located o)) parts.1 ∙ parts.3

    own : Has (live_keys list) key → (o : Option (ℕ × Operation)) → update_of list key ≡ o → option_and_then (λ (p : ℕ × Operation). next_in p.1) (option_or o (previous_of list key)) ≡ successor (live_keys list) key
    own at None none = absurd (none-some (sym none ∙ (live-some list key at).1))
    own at (Some p) found = ap (option_and_then (λ (p : ℕ × Operation). next_in p.1)) (sym found) ∙ named key at

    ends : (p : Bytes) → between p key key ≡ false
    ends p = cases (key_lt p key) refl
      where
        cases : (t : Bool) → key_lt p key ≡ t → (if t then key_lt p key && key_lt key key else key_lt p key || key_lt key key) ≡ false
        cases true e = and-right (key_lt p key) (key_lt key key) (lt-irrefl key)
        cases false e = or-none (key_lt p key) (key_lt key key) e (lt-irrefl key)

    before : contains_key (live_keys list) key ≡ false → (o : Option Bytes) → predecessor (live_keys list) key ≡ o → option_and_then (λ (p : ℕ × Operation). next_in p.1) (option_and_then (update_of list) o) ≡ successor (live_keys list) key
    before gone None h = none (successor (live_keys list) key) refl
      where
        none : (o : Option Bytes) → successor (live_keys list) key ≡ o → None ≡ o
        none None e = refl
        none (Some s) e = absurd (apart (contains_key (live_keys list) s) (successor-is (live_keys list) key s e).has (predecessor-none (live_keys list) key h s))
    before gone (Some p) h =
        let keys = live_keys list in
        let at = (predecessor-is keys key p h).has in
        let again : predecessor (key ∷ keys) key ≡ Some p = predecessor-new keys key p key h ∙ ap (λ t. Some (if t then key else p)) (ends p) in
        named p at ∙ successor-skips (key ∷ keys) keys p key (λ x in_keys. Has-later key keys x in_keys) (predecessor-successor (key ∷ keys) key p (Has-first key keys) again) gone

    by : (t : Bool) → contains_key (live_keys list) key ≡ t → option_and_then (λ (p : ℕ × Operation). next_in p.1) (option_or (update_of list key) (previous_of list key)) ≡ successor (live_keys list) key
    by true at = own at (update_of list key) refl
    by false gone = ap (λ o. option_and_then (λ (p : ℕ × Operation). next_in p.1) (option_or o (previous_of list key))) (dead-update list key gone) ∙ before gone (predecessor (live_keys list) key) refl

-- and the one before is that of the key before
pub previous-key : (list : List Operation) (key : Bytes) → option_map (λ (p : ℕ × Operation). said_key p.1) (previous_of list key) ≡ predecessor (live_keys list) key
previous-key list key = by (predecessor (live_keys list) key) refl
  where
    by : (o : Option Bytes) → predecessor (live_keys list) key ≡ o → option_map (λ (p : ℕ × Operation). said_key p.1) (option_and_then (update_of list) o) ≡ o
    by None h = refl
    by (Some p) h = let own = live-some list p (predecessor-is (live_keys list) key p h).has in ap (option_map (λ (p : ℕ × Operation). said_key p.1)) own.1 ∙ ap (λ k. Some k) own.2

-- what is made of the lent list's live update before a key, or up to it
module _ (form : Form) (bytes : (bs : Bytes) → form.is_key bs ≡ true → AreBytes bs) (index_key : Bytes → ℕ) (monotone : IsMonotone index_key) (entries : List (ℕ × List ℕ)) (index : IsIndex entries)
    (layers : List Layer) (lent base : List Operation) (indexed : IsIndexed index_key entries lent) (of : All (IsOf form) lent) (from : LeadOver layers lent base) (ring_lent : IsRing lent) (ring_base : IsRing base)
    (key : Bytes) (key_bytes : AreBytes key) where
  before : lent_before index_key entries lent key (excluded key) ≡ previous_of lent key
  before = previous-lent index_key entries lent indexed index monotone key (All-cons AreBytes key (live_keys lent) key_bytes (live-bytes form lent bytes of))

  pub previous-read : (a b c : Bytes) (o : Option (ℕ × Operation)) → a ≡ key → b ≡ key → c ≡ key → o ≡ lent_before index_key entries lent a (excluded b) → nearer_of layers c o ≡ previous_of base key
  previous-read a b c o first second third found =
      ap (λ k. nearer_of layers k o) third
      ∙ ap (nearer_of layers key) (found ∙ ap₂ (λ x y. lent_before index_key entries lent x (excluded y)) first second ∙ before)
      ∙ sym (previous-nearer layers lent base from ring_lent ring_base key)

  pub holder-read : (a b c : Bytes) (o : Option (ℕ × Operation)) → a ≡ key → b ≡ key → c ≡ key → nearest_layer layers key ≡ None → o ≡ lent_before index_key entries lent a (included b) → own_or_nearer layers c o ≡ holder_of base key
  holder-read a b c o first second third none found =
      ap (λ k. own_or_nearer layers k o) third
      ∙ ap (own_or_nearer layers key)
      (found ∙ ap₂ (λ x y. lent_before index_key entries lent x (included y)) first second ∙ lent-upto index_key entries lent key ∙ ap (option_or (update_of lent key)) before)
      ∙ holder-nearer layers lent base from ring_lent ring_base key none ∙ sym (holder-own base key)

-- the key's own live update is the holder, and if there is none, it is the one before
pub holder-some : {T : Type 0} (view : T → ℕ × Operation) (list : List Operation) (key : Bytes) (o : Option T) (x : T) (found : Option (ℕ × Operation)) → update_of list key ≡ found → option_map view o ≡ found → o ≡ Some x → Some (view x) ≡ holder_of list key
holder-some view list key o x found own is some =
    sym (holder-own list key ∙ ap (λ u. option_or u (previous_of list key)) (own ∙ sym is ∙ ap (option_map view) some))

pub holder-none : {T : Type 0} (view : T → ℕ × Operation) (list : List Operation) (key : Bytes) (o : Option T) (found : Option (ℕ × Operation)) → update_of list key ≡ found → option_map view o ≡ found → o ≡ None → previous_of list key ≡ holder_of list key
holder-none view list key o found own is none =
    sym (holder-own list key ∙ ap (λ u. option_or u (previous_of list key)) (own ∙ sym is ∙ ap (option_map view) none))

-- the key above another, from its holder, and the one below, from the one before
pub above-read : (list : List Operation) (key k : Bytes) (o : Option (ℕ × Operation)) → IsRing list → k ≡ key → o ≡ holder_of list key → kept (λ x. key_lt k x) (option_and_then (λ (p : ℕ × Operation). next_in p.1) o) ≡ key_above (live_keys list) key
above-read list key k o ring same found =
    ap₂ (λ x u. kept (λ y. key_lt x y) (option_and_then (λ (p : ℕ × Operation). next_in p.1) u)) same found
    ∙ ap (kept (λ y. key_lt key y)) (holder-next list key ring) ∙ above-successor (live_keys list) key

pub below-read : (list : List Operation) (key k : Bytes) (o : Option (ℕ × Operation)) → k ≡ key → o ≡ previous_of list key → kept (λ x. key_lt x k) (option_map (λ (p : ℕ × Operation). said_key p.1) o) ≡ key_below (live_keys list) key
below-read list key k o same found =
    ap₂ (λ x u. kept (λ y. key_lt y x) (option_map (λ (p : ℕ × Operation). said_key p.1) u)) same found
    ∙ ap (kept (λ y. key_lt y key)) (previous-key list key) ∙ below-predecessor (live_keys list) key
