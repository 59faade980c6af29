-- Live updates that are written again, one after another.
use Rattle.std.proofs.Common.{◌≡◌, ℕ, ◌+◌, ◌<◌, Bool, true, false, cond, List, [], ◌∷◌, ◌++◌, length, take, get_or, map, ap, ap₂, sym, ◌∙◌, refl, Option, Some, None, ◌||◌, inl, inr, append_assoc, append-nil}
use Rattle.std.specs.Prelude.{not, filter, filter_map, option_map, bytes_eq, if◌then◌else◌}
use Rattle.std.specs.List.{cons_option}
use Rattle.std.proofs.lemmas.List.{map-append}
use Rattle.std.proofs.lemmas.List.Elements.{filter-append, filter_map-append}
use Rattle.std.proofs.lemmas.List.Sums.{fold_push}
use Rattle.std.proofs.lemmas.Option.{same_Some}
use Rattle.qm_model.specs.Operations.{Bytes, Operation, update}
use Rattle.qm_model.specs.Live.{Live, live, live_of}
use Rattle.qm_model.specs.Keys.{contains_key, without, once}
use Rattle.qm_model.specs.Writes.{operation_of}
use Rattle.qm_model.specs.Ordered.{rewritten}
use Rattle.qm_model.proofs.Maps.{same_key}
use Rattle.qm_model.proofs.KeyOrder.{or-false, or-either, contains-append}
use Rattle.qm_model.proofs.OrderedLists.{contains-once}
use Rattle.qm_operations.specs.Parts.{key_of, value_of}
use Rattle.qm_step.specs.Changes.{located, place_in, update_of}
use Rattle.qm_step.specs.Rings.{touch_in}
use Rattle.qm_step.specs.Touches.{Touch}
use Rattle.qm_step.specs.Links.{Linked, named, touch_of, AreRelinked, SameKeys, relinked_touches}
use Rattle.qm_step.proofs.Standing.{of_key-within}
use Rattle.qm_step.proofs.LinksSets.{picked-one, picked-none}

-- one key more, once

once-push : (keys : List Bytes) (p : Bytes) → once (keys ++ p ∷ []) ≡ (if contains_key keys p then once keys else once keys ++ p ∷ [])
once-push keys p =
    fold_push (λ (seen : List Bytes) k. if contains_key seen k then seen else seen ++ k ∷ []) [] keys p ∙ ap (λ t. if t then once keys else once keys ++ p ∷ []) (contains-once keys p)

without-push : (gone keys : List Bytes) (p : Bytes) → without gone (keys ++ p ∷ []) ≡ without gone keys ++ (if contains_key gone p then [] else p ∷ [])
without-push gone keys p = filter-append (λ k. not (contains_key gone k)) keys (p ∷ []) ∙ ap (λ t. without gone keys ++ t) (by (contains_key gone p))
  where
    by : (t : Bool) → cond (not t) (p ∷ []) [] ≡ (if t then [] else p ∷ [])
    by true = refl
    by false = refl

new-once : (before keys : List Bytes) (p : Bytes) → contains_key (before ++ keys) p ≡ false → without before (once (keys ++ p ∷ [])) ≡ without before (once keys) ++ p ∷ []
new-once before keys p none =
    let both = or-false (contains_key before p) (contains_key keys p) (sym (contains-append before keys p) ∙ none) in
    ap (without before) (once-push keys p ∙ ap (λ t. if t then once keys else once keys ++ p ∷ []) both.1)
    ∙ without-push before (once keys) p ∙ ap (λ t. without before (once keys) ++ (if t then [] else p ∷ [])) both.0

old-once : (before keys : List Bytes) (p : Bytes) → contains_key (before ++ keys) p ≡ true → without before (once (keys ++ p ∷ [])) ≡ without before (once keys)
old-once before keys p is = elim (or-either (contains_key before p) (contains_key keys p) (sym (contains-append before keys p) ∙ is)) [
  | inl first ↦ ap (without before) (once-push keys p) ∙ by first (contains_key keys p)
  | inr later ↦ ap (without before) (once-push keys p ∙ ap (λ t. if t then once keys else once keys ++ p ∷ []) later)
]
  where
    by : contains_key before p ≡ true → (t : Bool) → without before (if t then once keys else once keys ++ p ∷ []) ≡ without before (once keys)
    by first true = refl
    by first false = without-push before (once keys) p ∙ ap (λ t. without before (once keys) ++ (if t then [] else p ∷ [])) first ∙ append-nil (without before (once keys))

-- what a key's live update says
live-says : (base : List Operation) (p k v : Bytes) (n : Option Bytes) (loc : ℕ) → update_of base p ≡ Some (loc, update k v n) →
    (k ≡ p) × (rewritten (live base) p ≡ Some (update p v None)) × (place_in base p ≡ Some loc)
live-says base p k v n loc h = by (live_of (live base) p) refl h
  where
    by : (o : Option Live) → live_of (live base) p ≡ o → option_map located o ≡ Some (loc, update k v n) → (k ≡ p) × (rewritten (live base) p ≡ Some (update p v None)) × (place_in base p ≡ Some loc)
    by None is h = absurd (cc)
    by (Some e) is h =
        let same : located e ≡ (loc, update k v n) = same_Some (located e) (loc, update k v n) h in
        let key : e.key ≡ k = same_Some e.key k (ap (λ (q : ℕ × Operation). key_of q.1) same) in
        let value : e.value ≡ v = same_Some e.value v (ap (λ (q : ℕ × Operation). value_of q.1) same) in (
          sym key ∙ (of_key-within (live base) p e is).1,
          ap (option_map (λ (u : Live). update p u.value None)) is ∙ ap (λ x. Some (update p x None)) value,
          ap (λ o. option_map (λ (q : ℕ × Bytes). q.0) (option_map (λ (u : Live). (u.location, u.value)) o)) is ∙ ap (λ (q : ℕ × Operation). Some q.0) same,
        )

module _ (base : List Operation) (afters : List Bytes) (front : List Touch) (before keys : List Bytes) (made : List Touch) (done : List Bytes) (so_far : AreRelinked base afters front before keys made done) where
  -- a key that was not written is written again
  pub relinked-next : (more : List Touch) (now_done : List Bytes) (p k v : Bytes) (n : Option Bytes) (loc : ℕ) (t : Touch) → contains_key done p ≡ false → update_of base p ≡ Some (loc, update k v n) →
      t.operation ≡ named afters (update k v None) → t.before ≡ Some loc → more ≡ made ++ t ∷ [] → SameKeys now_done (done ++ p ∷ []) → AreRelinked base afters front before (keys ++ p ∷ []) more now_done
  relinked-next more now_done p k v n loc t none stands operation place push same = record {
    touches =
        let says = live-says base p k v n loc stands in
        let touch : t ≡ touch_in base (named afters (update p v None)) =
        ap₂ (λ op at. let r : Touch = record { operation = op; before = at } in r) (operation ∙ ap (λ x. named afters (update x v None)) says.0) (place ∙ sym says.2) in
        let links = λ (ks : List Bytes). map (touch_in base) (map (named afters) (filter_map (rewritten (live base)) ks)) in
        let more_links : relinked_touches base afters before (keys ++ p ∷ []) ≡ relinked_touches base afters before keys ++ t ∷ [] =
        ap links (new-once before keys p (sym (so_far.written p) ∙ none))
        ∙ ap (λ ops. map (touch_in base) (map (named afters) ops)) (filter_map-append (rewritten (live base)) (without before (once keys)) (p ∷ []))
        ∙ ap (map (touch_in base)) (map-append (named afters) (filter_map (rewritten (live base)) (without before (once keys))) (filter_map (rewritten (live base)) (p ∷ [])))
        ∙ map-append (touch_in base) (map (named afters) (filter_map (rewritten (live base)) (without before (once keys)))) (map (named afters) (filter_map (rewritten (live base)) (p ∷ [])))
        ∙ ap (λ o. relinked_touches base afters before keys ++ map (touch_in base) (map (named afters) (cons_option o []))) says.1
        ∙ ap (λ x. relinked_touches base afters before keys ++ x ∷ []) (sym touch) in
        push ∙ ap (λ ts. ts ++ t ∷ []) so_far.touches ∙ append_assoc front (relinked_touches base afters before keys) (t ∷ []) ∙ ap (λ ts. front ++ ts) (sym more_links);
    written = λ x.
        same x ∙ contains-append done (p ∷ []) x ∙ ap (λ b. b || contains_key (p ∷ []) x) (so_far.written x) ∙ sym (contains-append (before ++ keys) (p ∷ []) x)
        ∙ ap (λ ks. contains_key ks x) (append_assoc before keys (p ∷ []));
  }

  -- one that was written is not
  pub relinked-stays : (p : Bytes) → contains_key done p ≡ true → AreRelinked base afters front before (keys ++ p ∷ []) made done
  relinked-stays p is = record {
    touches = so_far.touches ∙ ap (λ ks. front ++ map (touch_in base) (map (named afters) (filter_map (rewritten (live base)) ks))) (sym (old-once before keys p (sym (so_far.written p) ∙ is)));
    written = λ x.
        so_far.written x ∙ by x (bytes_eq p x) refl ∙ sym (contains-append (before ++ keys) (p ∷ []) x) ∙ ap (λ ks. contains_key ks x) (append_assoc before keys (p ∷ []));
  }
    where
      still : (a : Bool) → a ≡ (a || false)
      still true = refl
      still false = refl

      by : (x : Bytes) (t : Bool) → bytes_eq p x ≡ t → contains_key (before ++ keys) x ≡ (contains_key (before ++ keys) x || (bytes_eq p x || false))
      by x true same =
          let all : contains_key (before ++ keys) x ≡ true = ap (contains_key (before ++ keys)) (sym (same_key p x same)) ∙ sym (so_far.written p) ∙ is in
          all ∙ ap (λ b. b || (bytes_eq p x || false)) (sym all)
      by x false same = still (contains_key (before ++ keys) x) ∙ ap (λ b. contains_key (before ++ keys) x || (b || false)) (sym same)

-- equal parts
pub relinked-as : (base : List Operation) (afters : List Bytes) (front : List Touch) (before keys other : List Bytes) (made made' : List Touch) (done done' : List Bytes) → keys ≡ other → made' ≡ made → done' ≡ done →
    AreRelinked base afters front before keys made done → AreRelinked base afters front before other made' done'
relinked-as base afters front before keys other made made' done done' same made_same done_same so_far = record {
  touches = made_same ∙ so_far.touches ∙ ap (λ ks. front ++ relinked_touches base afters before ks) same;
  written = λ x. ap (λ ks. contains_key ks x) done_same ∙ so_far.written x ∙ ap (λ ks. contains_key (before ++ ks) x) same;
}

-- one written key more

module _ {A : Type 0} (view : A → Linked) (afters : List Bytes) (test : Linked → Bool) (xs : List A) (i : ℕ) (d : A) (within : i < length xs) (here : d ≡ get_or xs i d) (front old more : List Touch)
    (so_far : old ≡ front ++ map (touch_of afters) (filter test (map view (take i xs)))) where
  pub written-next : (t : Touch) → true ≡ test (view d) → more ≡ old ++ t ∷ [] → t.operation ≡ named afters (operation_of (view d).0) → t.before ≡ option_map (λ p. p.0) (view d).1 →
      more ≡ front ++ map (touch_of afters) (filter test (map view (take (i + 1) xs)))
  written-next t is push operation place =
      let same : t ≡ touch_of afters (view d) = ap₂ (λ op at. let r : Touch = record { operation = op; before = at } in r) operation place in
      push ∙ ap₂ (λ ts u. ts ++ u ∷ []) so_far same ∙ append_assoc front (map (touch_of afters) (filter test (map view (take i xs)))) (touch_of afters (view d) ∷ [])
      ∙ ap (λ ts. front ++ ts) (picked-one view test (touch_of afters) xs i d within here is)

  pub written-not : false ≡ test (view d) → more ≡ old → more ≡ front ++ map (touch_of afters) (filter test (map view (take (i + 1) xs)))
  written-not is same = same ∙ so_far ∙ ap (λ ts. front ++ ts) (picked-none view test (touch_of afters) xs i d within here is)

pub place-shown : {S X : Type 0} (at : S → ℕ) (next : S → X) (o : Option S) → option_map at o ≡ option_map (λ (p : ℕ × X). p.0) (option_map (λ s. (at s, next s)) o)
place-shown at next None = refl
place-shown at next (Some s) = refl

pub nearest-key : (find : Bytes → Option Bytes) (x key p : Bytes) → find x ≡ Some p → x ≡ key → Some p ≡ find key
nearest-key find x key p found same = sym found ∙ ap find same
