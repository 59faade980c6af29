-- The keys that decisions name, and the operations of decisions by these.
use Rattle.std.proofs.Common.{◌≡◌, ℕ, Bool, true, false, cond, List, [], ◌∷◌, map, refl, ap, ap₂, sym, ◌∙◌, subst, Option, Some, None, ◌||◌, ◌&&◌, ◌⊎◌, inl, inr, arith}
use Rattle.std.specs.Prelude.{Contains, not, filter, filter_map, option_map, is_some, is_none, bytes_eq}
use Rattle.std.specs.List.{cons_option, AllByRecursion as Each, IsDistinct}
use Rattle.std.proofs.lemmas.Cmp.{nat_list_eq_equiv}
use Rattle.std.proofs.lemmas.List.Elements.{All-contains, All-from_recursion}
use Rattle.std.proofs.lemmas.Option.{same_Some}
use Rattle.qm_model.specs.Operations.{Bytes, Operation, update, delete}
use Rattle.qm_model.specs.Live.{Live, live, live_of, live_keys}
use Rattle.qm_model.specs.Keys.{successor, contains_key, without, IsNext, IsPrevious}
use Rattle.qm_model.specs.Writes.{Write, operation_of}
use Rattle.qm_model.specs.Ordered.{IsRing, linked, evicted_keys, is_broken}
use Rattle.qm_model.proofs.KeyOrder.{Has, Has-first, Has-later, Has-either, apart, false-not, not-true, not-false, or-none, and-true, and-both, contains-without, successor-is, is-successor, successor-some, predecessor-is, predecessor-some, is-predecessor, predecessor-successor, after-fewer, after-before, before-fewer}
use Rattle.qm_model.proofs.OrderedLists.{live-contains}
use Rattle.qm_index.proofs.Members.{Contains-first, Contains-later, first_or_later}
use Rattle.qm_step.specs.Changes.{place_in}
use Rattle.qm_step.specs.Going.{Decided, IsDecided, write_for}
use Rattle.qm_step.specs.Moves.{update_naming, touch_naming}
use Rattle.qm_step.specs.Rings.{touch_in}
use Rattle.qm_step.proofs.Standing.{of_key-within}

-- what decisions name, and the keys of those that pass

abbrev pub nexts : List Decided → List Bytes
nexts ds = filter_map (λ d. d.next) ds

abbrev pub passing : (Option Bytes → Bool) → List Decided → List Bytes
passing p ds = map (λ w. w.key) (filter (λ w. p w.value) (map write_for ds))

pub passing-from : (p : Option Bytes → Bool) (ds : List Decided) (x : Bytes) → Has (passing p ds) x → (d : Decided) × Contains ds d × (p d.value ≡ true) × (d.key ≡ x)
passing-from p [] x h = cc
passing-from p (d ∷ ds) x h = by (p d.value) refl h (passing-from p ds x)
  where
    longer : (u : Decided) × Contains ds u × (p u.value ≡ true) × (u.key ≡ x) → (u : Decided) × Contains (d ∷ ds) u × (p u.value ≡ true) × (u.key ≡ x)
    longer (u, within, is, key) = (u, Contains-later d ds u within, is, key)

    by : (t : Bool) → p d.value ≡ t → Has (map (λ (w : Write). w.key) (cond t (write_for d ∷ filter (λ w. p w.value) (map write_for ds)) (filter (λ w. p w.value) (map write_for ds)))) x →
        (Has (passing p ds) x → (u : Decided) × Contains ds u × (p u.value ≡ true) × (u.key ≡ x)) → (u : Decided) × Contains (d ∷ ds) u × (p u.value ≡ true) × (u.key ≡ x)
    by true is h later = elim (Has-either d.key (passing p ds) x h) [ inl at ↦ (d, Contains-first d ds, is, at) | inr at ↦ longer (later at) ]
    by false is h later = longer (later h)

pub passing-has : (p : Option Bytes → Bool) (ds : List Decided) (d : Decided) → Contains ds d → p d.value ≡ true → Has (passing p ds) d.key
passing-has p [] d (i, within, is) h = absurd (omega (arith, within))
passing-has p (u ∷ ds) d within h = by (p u.value) refl (first_or_later u ds d within) (λ at. passing-has p ds d at h)
  where
    by : (t : Bool) → p u.value ≡ t → (u ≡ d) ⊎ Contains ds d → (Contains ds d → Has (passing p ds) d.key) →
        Has (map (λ (w : Write). w.key) (cond t (write_for u ∷ filter (λ w. p w.value) (map write_for ds)) (filter (λ w. p w.value) (map write_for ds)))) d.key
    by true is (inl at) later = subst (λ (e : Decided). Has (u.key ∷ passing p ds) e.key) at (Has-first u.key (passing p ds))
    by true is (inr at) later = Has-later u.key (passing p ds) d.key (later at)
    by false is (inl at) later = absurd (apart (p d.value) h (ap (λ (e : Decided). p e.value) (sym at) ∙ is))
    by false is (inr at) later = later at

pub nexts-from : (ds : List Decided) (x : Bytes) → Has (nexts ds) x → (d : Decided) × Contains ds d × (d.next ≡ Some x)
nexts-from [] x h = cc
nexts-from (d ∷ ds) x h = by d.next refl h (nexts-from ds x)
  where
    longer : (u : Decided) × Contains ds u × (u.next ≡ Some x) → (u : Decided) × Contains (d ∷ ds) u × (u.next ≡ Some x)
    longer (u, within, is) = (u, Contains-later d ds u within, is)

    by : (o : Option Bytes) → d.next ≡ o → Has (cons_option o (nexts ds)) x → (Has (nexts ds) x → (u : Decided) × Contains ds u × (u.next ≡ Some x)) → (u : Decided) × Contains (d ∷ ds) u × (u.next ≡ Some x)
    by None is h later = longer (later h)
    by (Some n) is h later = elim (Has-either n (nexts ds) x h) [ inl at ↦ (d, Contains-first d ds, is ∙ ap (λ k. Some k) at) | inr at ↦ longer (later at) ]

pub nexts-has : (ds : List Decided) (d : Decided) (x : Bytes) → Contains ds d → d.next ≡ Some x → Has (nexts ds) x
nexts-has [] d x (i, within, is) h = absurd (omega (arith, within))
nexts-has (u ∷ ds) d x within h = by (first_or_later u ds d within) (λ at. nexts-has ds d x at h)
  where
    later_one : (o : Option Bytes) → Has (nexts ds) x → Has (cons_option o (nexts ds)) x
    later_one None has = has
    later_one (Some k) has = Has-later k (nexts ds) x has

    by : (u ≡ d) ⊎ Contains ds d → (Contains ds d → Has (nexts ds) x) → Has (cons_option u.next (nexts ds)) x
    by (inl at) later = subst (λ o. Has (cons_option o (nexts ds)) x) (sym (ap (λ (e : Decided). e.next) at ∙ h)) (Has-first x (nexts ds))
    by (inr at) later = later_one u.next (later at)

-- a key that is decided is evicted or moved
pub decided-either : (ds : List Decided) (x : Bytes) → contains_key (map (λ d. d.key) ds) x ≡ (contains_key (passing is_none ds) x || contains_key (passing is_some ds) x)
decided-either [] x = refl
decided-either (d ∷ ds) x = by d.value (decided-either ds x)
  where
    swapped : (a b c : Bool) → (a || (b || c)) ≡ (b || (a || c))
    swapped true true c = refl
    swapped true false c = refl
    swapped false true c = refl
    swapped false false c = refl

    joined : (a b c : Bool) → (a || (b || c)) ≡ ((a || b) || c)
    joined true b c = refl
    joined false b c = refl

    by : (v : Option Bytes) → contains_key (map (λ d. d.key) ds) x ≡ (contains_key (passing is_none ds) x || contains_key (passing is_some ds) x) →
        (bytes_eq d.key x || contains_key (map (λ d. d.key) ds) x)
        ≡ (contains_key (map (λ (w : Write). w.key) (cond (is_none v) (write_for d ∷ filter (λ w. is_none w.value) (map write_for ds)) (filter (λ w. is_none w.value) (map write_for ds)))) x
        || contains_key (map (λ (w : Write). w.key) (cond (is_some v) (write_for d ∷ filter (λ w. is_some w.value) (map write_for ds)) (filter (λ w. is_some w.value) (map write_for ds)))) x)
    by None later = ap (λ t. bytes_eq d.key x || t) later ∙ joined (bytes_eq d.key x) (contains_key (passing is_none ds) x) (contains_key (passing is_some ds) x)
    by (Some v) later = ap (λ t. bytes_eq d.key x || t) later ∙ swapped (bytes_eq d.key x) (contains_key (passing is_none ds) x) (contains_key (passing is_some ds) x)

-- of keys that differ one that is moved is not evicted

differs : (k : Bytes) (ks : List Bytes) → Each (λ y. bytes_eq k y ≡ false) ks → contains_key ks k ≡ false
differs k [] h = refl
differs k (y ∷ ks) h = or-none (bytes_eq y k) (contains_key ks k) (nat_list_eq_equiv.symm y k ∙ h.0) (differs k ks h.1)

among : (p : Option Bytes → Bool) (ds : List Decided) (x : Bytes) → contains_key (map (λ w. w.key) (map write_for ds)) x ≡ false → contains_key (passing p ds) x ≡ false
among p ds x none = false-not (contains_key (passing p ds) x) (λ h.
    let found = passing-from p ds x h in
    apart (contains_key (map (λ w. w.key) (map write_for ds)) x) (all ds found.0 found.1 found.3) none)
  where
    all : (ds : List Decided) (d : Decided) → Contains ds d → d.key ≡ x → Has (map (λ w. w.key) (map write_for ds)) x
    all [] d (i, within, is) at = absurd (omega (arith, within))
    all (u ∷ ds) d within at = elim (first_or_later u ds d within) [
      | inl same ↦ subst (λ k. Has (k ∷ map (λ w. w.key) (map write_for ds)) x) (sym (ap (λ (e : Decided). e.key) same ∙ at)) (Has-first x (map (λ w. w.key) (map write_for ds)))
      | inr later ↦ Has-later u.key (map (λ w. w.key) (map write_for ds)) x (all ds d later at)
    ]

Stays : List Bytes → Decided → Type 0
Stays evicted d = is_some d.value ≡ true → contains_key evicted d.key ≡ false

moved-stay : (ds : List Decided) → IsDistinct bytes_eq (map (λ w. w.key) (map write_for ds)) → Each (Stays (passing is_none ds)) ds
unfolding IsDistinct Stays
moved-stay [] h = tt
moved-stay (d ∷ ds) h = (λ some. by d.value refl some, each ds d.value refl h.0 (moved-stay ds h.1))
  where
    own : contains_key (passing is_none ds) d.key ≡ false
    own = among is_none ds d.key (differs d.key (map (λ w. w.key) (map write_for ds)) h.0)

    by : (v : Option Bytes) → d.value ≡ v → is_some d.value ≡ true → contains_key (passing is_none (d ∷ ds)) d.key ≡ false
    by None is some = cc
    by (Some v) is some = ap (λ t. contains_key (map (λ (w : Write). w.key) (cond (is_none t) (write_for d ∷ filter (λ w. is_none w.value) (map write_for ds)) (filter (λ w. is_none w.value) (map write_for ds)))) d.key) is ∙ own

    one : (v : Option Bytes) → d.value ≡ v → (x : Bytes) → bytes_eq d.key x ≡ false → contains_key (passing is_none ds) x ≡ false → contains_key (passing is_none (d ∷ ds)) x ≡ false
    one None is x other none =
        ap (λ t. contains_key (map (λ (w : Write). w.key) (cond (is_none t) (write_for d ∷ filter (λ w. is_none w.value) (map write_for ds)) (filter (λ w. is_none w.value) (map write_for ds)))) x) is ∙ or-none (bytes_eq d.key x) (contains_key (passing is_none ds) x) other none
    one (Some v) is x other none =
        ap (λ t. contains_key (map (λ (w : Write). w.key) (cond (is_none t) (write_for d ∷ filter (λ w. is_none w.value) (map write_for ds)) (filter (λ w. is_none w.value) (map write_for ds)))) x) is ∙ none

    each : (us : List Decided) (v : Option Bytes) → d.value ≡ v → Each (λ y. bytes_eq d.key y ≡ false) (map (λ w. w.key) (map write_for us)) → Each (λ u. is_some u.value ≡ true → contains_key (passing is_none ds) u.key ≡ false) us →
        Each (λ u. is_some u.value ≡ true → contains_key (passing is_none (d ∷ ds)) u.key ≡ false) us
    each [] v is p q = tt
    each (u ∷ us) v is p q = (λ some. one v is u.key p.0 (q.0 some), each us v is p.1 q.1)

pub moved-not-evicted : (ds : List Decided) (d : Decided) → IsDistinct bytes_eq (map (λ w. w.key) (map write_for ds)) → Contains ds d → is_some d.value ≡ true → contains_key (evicted_keys (map write_for ds)) d.key ≡ false
unfolding Stays
moved-not-evicted ds d distinct within some = All-contains (Stays (passing is_none ds)) ds d (All-from_recursion (Stays (passing is_none ds)) ds (moved-stay ds distinct)) within some

-- if decisions name the successors of their keys, the keys that they name without those that are evicted have the same
-- successors of moved and of broken keys as the remaining keys
module _ (before : List Bytes) (ds : List Decided) (names : List Bytes) (here : Each (λ d. Has before d.key × (d.next ≡ successor before d.key)) ds)
    (are : (x : Bytes) → contains_key names x ≡ (contains_key (nexts ds) x && not (contains_key (evicted_keys (map write_for ds)) x))) where
  abbrev evicted : List Bytes
  evicted = evicted_keys (map write_for ds)

  abbrev remaining : List Bytes
  remaining = without evicted before

  pub here-of : (d : Decided) → Contains ds d → Has before d.key × (d.next ≡ successor before d.key)
  here-of d within = All-contains (λ d. Has before d.key × (d.next ≡ successor before d.key)) ds d (All-from_recursion (λ d. Has before d.key × (d.next ≡ successor before d.key)) ds here) within

  in_remaining : (x : Bytes) → Has remaining x → Has before x × (contains_key evicted x ≡ false)
  in_remaining x h = let both = and-true (contains_key before x) (not (contains_key evicted x)) (sym (contains-without evicted before x) ∙ h) in (both.0, not-false (contains_key evicted x) both.1)

  pub has_remaining : (x : Bytes) → Has before x → contains_key evicted x ≡ false → Has remaining x
  has_remaining x at stays = contains-without evicted before x ∙ and-both (contains_key before x) (not (contains_key evicted x)) at (not-true (contains_key evicted x) stays)

  in_names : (x : Bytes) → Has names x → Has remaining x
  in_names x h =
      let both = and-true (contains_key (nexts ds) x) (not (contains_key evicted x)) (sym (are x) ∙ h) in
      let found = nexts-from ds x both.0 in
      has_remaining x (successor-is before (found.0).key x (sym (here-of found.0 found.1).1 ∙ found.2)).has (not-false (contains_key evicted x) both.1)

  has_names : (d : Decided) (x : Bytes) → Contains ds d → successor before d.key ≡ Some x → Has remaining x → Has names x
  has_names d x within next stays =
      are x ∙ and-both (contains_key (nexts ds) x) (not (contains_key evicted x)) (nexts-has ds d x within ((here-of d within).1 ∙ next)) (not-true (contains_key evicted x) (in_remaining x stays).1)

  -- moved, or broken
  abbrev pub IsRelinked : Bytes → Type 0
  IsRelinked k = ((d : Decided) × Contains ds d × (d.key ≡ k)) ⊎ (is_broken before evicted k ≡ true)

  pub relinked-next : (k : Bytes) → Has remaining k → IsRelinked k → (s : Bytes) × (successor remaining k ≡ Some s) × (successor names k ≡ Some s)
  relinked-next k stays why =
      let found = successor-some remaining k k stays in
      let s = found.0 in
      let next = successor-is remaining k s found.1 in
      let s_in = in_remaining s next.has in
      let prior = predecessor-some before s s s_in.0 in
      let t = prior.0 in
      let t_next : successor before t ≡ Some s = predecessor-successor before s t s_in.0 prior.1 in
      let t_is = predecessor-is before s t prior.1 in
      (s, found.1, is-successor names k s (after-fewer remaining names k s in_names (named s t next t_is t_next (contains_key evicted t) refl why) next))
    where
      named : (s t : Bytes) → IsNext (without (evicted_keys (map write_for ds)) before) k s → IsPrevious before s t → successor before t ≡ Some s → (gone : Bool) → contains_key (evicted_keys (map write_for ds)) t ≡ gone → IsRelinked k → Has names s
      named s t next t_is t_next true gone why =
          let one = passing-from is_none ds t gone in
          has_names one.0 s one.1 (ap (successor before) one.3 ∙ t_next) next.has
      named s t next t_is t_next false gone why =
          let t_stays = has_remaining t t_is.has gone in
          let first = is-predecessor remaining s t (before-fewer before remaining s t (λ x h. (in_remaining x h).0) t_stays t_is) in
          let second = is-predecessor remaining s k (after-before remaining remaining k s (λ x h. h) stays next) in
          let same : t ≡ k = same_Some t k (sym first ∙ second) in
          let k_next : successor before k ≡ Some s = ap (successor before) (sym same) ∙ t_next in
          elim why [
            | inl moved ↦ has_names moved.0 s moved.1 (ap (successor before) moved.2 ∙ k_next) next.has
            | inr broken ↦
                let gone : contains_key evicted s ≡ true = subst (λ o. elim o [ None ↦ false | Some n ↦ contains_key evicted n ] ≡ true) k_next broken in
                absurd (apart (contains_key evicted s) gone (in_remaining s next.has).1)
          ]

-- what is known of decided keys
pub decided-here : (list mid : List Operation) (ds : List Decided) → IsRing mid → Each (IsDecided list mid) ds → Each (λ d. Has (live_keys mid) d.key × (d.next ≡ successor (live_keys mid) d.key)) ds
decided-here list mid [] ring h = tt
decided-here list mid (d ∷ ds) ring h = (by (live_of (live mid) d.key) refl (h.0).live, decided-here list mid ds ring h.1)
  where
    by : (o : Option Live) → live_of (live mid) d.key ≡ o → option_map (λ (e : Live). e.next) o ≡ Some d.next → Has (live_keys mid) d.key × (d.next ≡ successor (live_keys mid) d.key)
    by None is next = cc
    by (Some e) is next =
        let within = of_key-within (live mid) d.key e is in (
          live-contains (live mid) d.key ∙ ap is_some is,
          sym (same_Some e.next d.next next) ∙ All-contains (λ (e : Live). e.next ≡ successor (live_keys mid) e.key) (live mid) e ring within.0 ∙ ap (successor (live_keys mid)) within.1,
        )

-- the operation of a decision that names the successor of its key
pub naming-is : (list : List Operation) (keys : List Bytes) (next : Option Bytes) (key : Bytes) (value : Option Bytes) (before : Option ℕ) → before ≡ place_in list key →
    ((v : Bytes) → value ≡ Some v → (s : Bytes) × (successor keys key ≡ Some s) × (next ≡ Some s)) →
    touch_naming next (record { key = key; value = value; next = None; before = before }) ≡ touch_in list (linked keys (operation_of (record { key = key; value = value })))
naming-is list keys next key None before at links = ap (λ b. record { operation = delete key; before = b }) at
naming-is list keys next key (Some v) before at links =
    let link = links v refl in
    ap (λ (o : Option Bytes). record { operation = elim (update_naming o key (Some v)) [ Some op ↦ op | None ↦ delete key ]; before = before }) link.2
    ∙ ap₂ (λ (o : Option Bytes) (b : Option ℕ). record { operation = update key v o; before = b }) (sym link.1) at
