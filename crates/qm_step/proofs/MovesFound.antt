-- The live updates before evicted keys: they stand in the list, and which keys they have.
use Rattle.std.proofs.Common.{◌≡◌, ℕ, Bool, true, false, cond, List, [], ◌∷◌, map, refl, ap, sym, ◌∙◌, Option, Some, None, ◌&&◌, inl, inr}
use Rattle.std.specs.Prelude.{not, filter, filter_map, option_map, option_and_then, is_none, is_some, IfSome, if◌then◌else◌}
use Rattle.std.specs.List.{cons_option, AllByRecursion as Each}
use Rattle.qm_operations.specs.Parts.{key_of}
use Rattle.qm_model.specs.Operations.{Bytes, Operation}
use Rattle.qm_model.specs.Live.{Live, live, live_of, live_keys}
use Rattle.qm_model.specs.Keys.{successor, predecessor, contains_key, without, by_key}
use Rattle.qm_model.specs.Writes.{Write}
use Rattle.qm_model.specs.Ordered.{is_broken, broken_keys}
use Rattle.qm_model.proofs.KeyOrder.{Has, Has-first, Has-later, Has-either, apart, not-false, not-true, and-true, and-both, or-false, or-none, contains-filter, contains-without, successor-predecessor, predecessor-is, predecessor-successor}
use Rattle.qm_model.proofs.OrderedLists.{live-contains, Has-found}
use Rattle.qm_model.proofs.OrderedMoves.{contains-by_key}
use Rattle.qm_step.specs.Changes.{update_of, located}
use Rattle.qm_step.specs.Going.{Decided, write_for}
use Rattle.qm_step.specs.Moves.{before_evicted}
use Rattle.qm_step.specs.Rings.{previous_of}
use Rattle.qm_step.proofs.MovesNames.{passing, decided-either}
use Rattle.qm_step.proofs.Standing.{of_key-within, live-of_key}

module _ (mid : List Operation) where
  -- a live update with its location is that of its key
  abbrev pub Stands : ℕ × Operation → Type 0
  Stands y = option_and_then (update_of mid) (key_of y.1) ≡ Some y

  previous-stands : (key : Bytes) → IfSome (previous_of mid key) Stands
  previous-stands key = by (predecessor (live_keys mid) key)
    where
      one : (p : Bytes) (o : Option Live) → live_of (live mid) p ≡ o → IfSome (option_map located o) Stands
      one p None is = tt
      one p (Some e) is = ap (option_map located) (live-of_key mid e (of_key-within (live mid) p e is).0)

      by : (o : Option Bytes) → IfSome (option_and_then (update_of mid) o) Stands
      by None = tt
      by (Some p) = one p (live_of (live mid) p) refl

  pub all-stand : (ds : List Decided) → Each Stands (filter_map (before_evicted mid) ds)
  all-stand [] = tt
  all-stand (d ∷ ds) = by (is_none d.value) (all-stand ds)
    where
      add : (o : Option (ℕ × Operation)) → IfSome o Stands → Each Stands (filter_map (before_evicted mid) ds) → Each Stands (cons_option o (filter_map (before_evicted mid) ds))
      add None here later = later
      add (Some y) here later = (here, later)

      by : (t : Bool) → Each Stands (filter_map (before_evicted mid) ds) → Each Stands (cons_option (if t then previous_of mid d.key else None) (filter_map (before_evicted mid) ds))
      by true later = add (previous_of mid d.key) (previous-stands d.key) later
      by false later = later

  -- the key before another is that of the live update there
  previous-key : (key : Bytes) → option_and_then (λ (y : ℕ × Operation). key_of y.1) (previous_of mid key) ≡ predecessor (live_keys mid) key
  previous-key key = by (predecessor (live_keys mid) key) refl
    where
      one : (p : Bytes) (o : Option Live) → live_of (live mid) p ≡ o → Has (live_keys mid) p → option_and_then (λ (y : ℕ × Operation). key_of y.1) (option_map located o) ≡ Some p
      one p None is at = absurd (apart (contains_key (live_keys mid) p) at (live-contains (live mid) p ∙ ap is_some is))
      one p (Some e) is at = ap (λ k. Some k) (of_key-within (live mid) p e is).1

      by : (o : Option Bytes) → predecessor (live_keys mid) key ≡ o → option_and_then (λ (y : ℕ × Operation). key_of y.1) (option_and_then (update_of mid) o) ≡ o
      by None is = refl
      by (Some p) is = one p (live_of (live mid) p) refl (predecessor-is (live_keys mid) key p is).has

  pub found-keys : (ds : List Decided) → filter_map (λ (y : ℕ × Operation). key_of y.1) (filter_map (before_evicted mid) ds) ≡ filter_map (predecessor (live_keys mid)) (passing is_none ds)
  found-keys [] = refl
  found-keys (d ∷ ds) = by (is_none d.value) (found-keys ds)
    where
      rest : List (ℕ × Operation)
      rest = filter_map (before_evicted mid) ds

      push : (o : Option (ℕ × Operation)) → filter_map (λ (y : ℕ × Operation). key_of y.1) (cons_option o rest) ≡ cons_option (option_and_then (λ (y : ℕ × Operation). key_of y.1) o) (filter_map (λ (y : ℕ × Operation). key_of y.1) rest)
      push None = refl
      push (Some y) = refl

      by : (t : Bool) → filter_map (λ (y : ℕ × Operation). key_of y.1) rest ≡ filter_map (predecessor (live_keys mid)) (passing is_none ds) →
          filter_map (λ (y : ℕ × Operation). key_of y.1) (cons_option (if t then previous_of mid d.key else None) rest)
          ≡ filter_map (predecessor (live_keys mid)) (map (λ (w : Write). w.key) (cond t (write_for d ∷ filter (λ w. is_none w.value) (map write_for ds)) (filter (λ w. is_none w.value) (map write_for ds))))
      by true later =
          push (previous_of mid d.key) ∙ ap (λ o. cons_option o (filter_map (λ (y : ℕ × Operation). key_of y.1) rest)) (previous-key d.key)
          ∙ ap (cons_option (predecessor (live_keys mid) d.key)) later
      by false later = later

  -- before none, if none goes
  pub none-before : (ds : List Decided) → passing is_none ds ≡ [] → filter_map (before_evicted mid) ds ≡ []
  none-before [] none = refl
  none-before (d ∷ ds) none = by (is_none d.value) none (none-before ds)
    where
      by : (t : Bool) → map (λ (w : Write). w.key) (cond t (write_for d ∷ filter (λ w. is_none w.value) (map write_for ds)) (filter (λ w. is_none w.value) (map write_for ds))) ≡ [] →
          (passing is_none ds ≡ [] → filter_map (before_evicted mid) ds ≡ []) → cons_option (if t then previous_of mid d.key else None) (filter_map (before_evicted mid) ds) ≡ []
      by true none later = absurd (cc)
      by false none later = later none

-- if a test holds of the same as another
alike : (a b : Bool) → (a ≡ true → b ≡ true) → (b ≡ true → a ≡ true) → a ≡ b
alike true b p q = sym (p refl)
alike false true p q = q refl
alike false false p q = refl

image : (f : Bytes → Option Bytes) (xs : List Bytes) (y : Bytes) → Has (filter_map f xs) y → (x : Bytes) × Has xs x × (f x ≡ Some y)
image f [] y h = cc
image f (x ∷ xs) y h = by (f x) refl h (image f xs y)
  where
    longer : (z : Bytes) × Has xs z × (f z ≡ Some y) → (z : Bytes) × Has (x ∷ xs) z × (f z ≡ Some y)
    longer (z, at, is) = (z, Has-later x xs z at, is)

    by : (o : Option Bytes) → f x ≡ o → Has (cons_option o (filter_map f xs)) y → (Has (filter_map f xs) y → (z : Bytes) × Has xs z × (f z ≡ Some y)) → (z : Bytes) × Has (x ∷ xs) z × (f z ≡ Some y)
    by None is h later = longer (later h)
    by (Some k) is h later = elim (Has-either k (filter_map f xs) y h) [ inl at ↦ (x, Has-first x xs, is ∙ ap (λ k. Some k) at) | inr at ↦ longer (later at) ]

-- the keys before evicted keys, without those that were decided, are the broken ones
module _ (before : List Bytes) (ds : List Decided) (here : (x : Bytes) → Has (passing is_none ds) x → Has before x) where
  abbrev evicted : List Bytes
  evicted = passing is_none ds

  abbrev moved : List Bytes
  moved = passing is_some ds

  abbrev whole : Bytes → Bool
  whole x = contains_key (filter_map (predecessor before) evicted) x && not (contains_key (map (λ d. d.key) ds) x)

  in_broken : (x : Bytes) → contains_key (broken_keys before (map write_for ds)) x
      ≡ (((contains_key before x && not (contains_key evicted x)) && not (contains_key moved x)) && is_broken before evicted x)
  in_broken x =
      contains-filter (is_broken before evicted) (without moved (without evicted (by_key before))) x
      ∙ ap (λ t. t && is_broken before evicted x)
      (contains-without moved (without evicted (by_key before)) x
      ∙ ap (λ t. t && not (contains_key moved x)) (contains-without evicted (by_key before) x ∙ ap (λ t. t && not (contains_key evicted x)) (contains-by_key before x)))

  pub broken-parts : (x : Bytes) → Has (broken_keys before (map write_for ds)) x → Has before x × (contains_key evicted x ≡ false) × (contains_key moved x ≡ false) × (is_broken before evicted x ≡ true)
  broken-parts x h =
      let one = and-true ((contains_key before x && not (contains_key evicted x)) && not (contains_key moved x)) (is_broken before evicted x) (sym (in_broken x) ∙ h) in
      let two = and-true (contains_key before x && not (contains_key evicted x)) (not (contains_key moved x)) one.0 in
      let three = and-true (contains_key before x) (not (contains_key evicted x)) two.0 in
      (three.0, not-false (contains_key evicted x) three.1, not-false (contains_key moved x) two.1, one.1)

  into : (x : Bytes) → whole x ≡ true → Has (broken_keys before (map write_for ds)) x
  into x h =
      let both = and-true (contains_key (filter_map (predecessor before) evicted) x) (not (contains_key (map (λ d. d.key) ds) x)) h in
      let found = image (predecessor before) evicted x both.0 in
      let e_in = here found.0 found.1 in
      let none = or-false (contains_key evicted x) (contains_key moved x) (sym (decided-either ds x) ∙ not-false (contains_key (map (λ d. d.key) ds) x) both.1) in
      let next : successor before x ≡ Some found.0 = predecessor-successor before found.0 x e_in found.2 in
      let breaks : is_broken before evicted x ≡ true = ap (λ (o : Option Bytes). elim o [ None ↦ false | Some n ↦ contains_key evicted n ]) next ∙ found.1 in
      in_broken x
      ∙ and-both ((contains_key before x && not (contains_key evicted x)) && not (contains_key moved x)) (is_broken before evicted x)
      (and-both (contains_key before x && not (contains_key evicted x)) (not (contains_key moved x))
      (and-both (contains_key before x) (not (contains_key evicted x)) (predecessor-is before found.0 x found.2).has (not-true (contains_key evicted x) none.0)) (not-true (contains_key moved x) none.1)) breaks

  from : (x : Bytes) → Has (broken_keys before (map write_for ds)) x → whole x ≡ true
  from x h =
      let parts = broken-parts x h in
      and-both (contains_key (filter_map (predecessor before) evicted) x) (not (contains_key (map (λ d. d.key) ds) x)) (by (successor before x) refl parts.3)
      (not-true (contains_key (map (λ d. d.key) ds) x) (decided-either ds x ∙ or-none (contains_key evicted x) (contains_key moved x) parts.1 parts.2))
    where
      by : (o : Option Bytes) → successor before x ≡ o → elim o [ None ↦ false | Some n ↦ contains_key evicted n ] ≡ true → Has (filter_map (predecessor before) evicted) x
      by None is breaks = cc
      by (Some e) is breaks = Has-found (predecessor before) evicted e x breaks (successor-predecessor before x e (broken-parts x h).0 is)

  pub broken-is : (x : Bytes) → (contains_key (filter_map (predecessor before) evicted) x && not (contains_key (map (λ d. d.key) ds) x)) ≡ contains_key (broken_keys before (map write_for ds)) x
  broken-is x = alike (whole x) (contains_key (broken_keys before (map write_for ds)) x) (into x) (from x)
