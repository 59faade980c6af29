-- The last of the updates of a bucket, and the live update before a key in the lent list.
use Rattle.std.proofs.Common.{zero, suc, ◌≡◌, ◌∙◌, refl, sym, ap, subst, ℕ, ◌≤◌, Bool, true, false, cond, List, [], ◌∷◌, map, Option, Some, None, ◌&&◌}
use Rattle.std.specs.Prelude.{filter, fold, unwrap_or, option_map, option_and_then, IfSome, All, Contains, ◌==◌, if◌then◌else◌, bytes_eq}
use Rattle.std.specs.List.{AllByRecursion as Each}
use Rattle.std.specs.Map.{keys_of}
use Rattle.std.specs.Option.{option_or, is_some}
use Rattle.std.proofs.lemmas.List.Elements.{All-contains, All-contains_itself, All-filter, All-head, All-map, All-tail, All-weaker, recursion_from_All}
use Rattle.std.proofs.lemmas.Option.{same_Some}
use Rattle.std.proofs.lemmas.List.Sorted.{All-permutation, IsPermutation-map, list_any-IsPermutation}
use Rattle.qm_model.specs.Forms.{Form, IsOf}
use Rattle.qm_model.specs.Operations.{AreBytes, Bytes, Operation, update, delete, commit}
use Rattle.qm_model.specs.Live.{Live, live, live_of, live_keys}
use Rattle.qm_model.specs.Keys.{key_lt, greatest, greater, contains_key}
use Rattle.qm_model.specs.Ranges.{Limit, unlimited, is_before}
use Rattle.qm_model.proofs.KeyOrder.{Has, SameKeys, and-true, contains-filter}
use Rattle.qm_model.proofs.OrderedLists.{live-contains}
use Rattle.qm_index.specs.Buckets.{bucket_at}
use Rattle.qm_index.specs.Indexed.{IsIndexed, locations_at}
use Rattle.qm_index.specs.Neighbours.{keys_at, neighbour_at, prev_key}
use Rattle.qm_step.specs.Changes.{located, said_by, update_at, update_of}
use Rattle.qm_step.specs.Lent.{NoneBelow}
use Rattle.qm_step.specs.Nearest.{last_key, later_at, lent_before, only_within, said_key}
use Rattle.qm_step.proofs.LastKeys.{last-is, last-same}
use Rattle.qm_step.proofs.Standing.{live-stands, live-of_key, of_key-within}

-- the greatest of the keys and of one more, if there is one
abbrev greatest_from : Option Bytes → List Bytes → Option Bytes
greatest_from None ks = greatest ks
greatest_from (Some a) ks = Some (fold greater a ks)

abbrev pub key_of_last : Option (ℕ × Operation) → Option Bytes
key_of_last last = option_map (λ p. said_key p.1) last

module _ (list : List Operation) where
  -- the location is that of a live update
  abbrev pub IsLiveAt : ℕ → Type 0
  IsLiveAt at = (e : Live) × Contains (live list) e × (e.location ≡ at)

  -- the key of the update there
  abbrev pub key_at : ℕ → Bytes
  key_at at = unwrap_or (option_map said_key (update_at list at)) []

  abbrev IsOwn : Option (ℕ × Operation) → Type 0
  IsOwn last = IfSome last (λ p. update_of list (said_key p.1) ≡ Some p)

  live-update : (at : ℕ) (live_here : IsLiveAt at) → update_at list at ≡ Some (update (live_here.0).key (live_here.0).value (live_here.0).next)
  live-update at (e, within, place) = ap (update_at list) (sym place) ∙ live-stands list e within

  live-own : (at : ℕ) (live_here : IsLiveAt at) → update_of list (live_here.0).key ≡ Some (at, update (live_here.0).key (live_here.0).value (live_here.0).next)
  live-own at (e, within, place) = ap (option_map located) (live-of_key list e within) ∙ ap (λ n. Some (n, update e.key e.value e.next)) place

  module _ (limit : Limit) where
    abbrev later : Option (ℕ × Operation) → ℕ → Option (ℕ × Operation)
    later = later_at limit list

    -- what an operation at a location makes of the last update
    abbrev made : ℕ → Option Operation → Option (ℕ × Operation) → Option (ℕ × Operation)
    made at o last = option_or (option_map (λ op. (at, op)) (only_within (key_of_last last) limit o)) last

    abbrev Goes : ℕ → List Bytes → Option Operation → Option (ℕ × Operation) → Type 0
    Goes at ks o last =
        IsOwn (made at o last)
        × (greatest_from (key_of_last (made at o last)) ks ≡ greatest_from (key_of_last last) (cond (is_before limit (unwrap_or (option_map said_key o) [])) (unwrap_or (option_map said_key o) [] ∷ ks) ks))

    module _ (at : ℕ) (live_here : IsLiveAt at) (ks : List Bytes) where
      abbrev chosen : Bool → Option (ℕ × Operation) → Option (ℕ × Operation)
      chosen t last = option_or (option_map (λ op. (at, op)) (if t then Some (update (live_here.0).key (live_here.0).value (live_here.0).next) else None)) last

      at_none : (t : Bool) → IsOwn (chosen t None) × (greatest_from (key_of_last (chosen t None)) ks ≡ greatest (cond t ((live_here.0).key ∷ ks) ks))
      at_none true = (live-own at live_here, refl)
      at_none false = (tt, refl)

      at_some : (p : ℕ × Operation) → update_of list (said_key p.1) ≡ Some p → (below before : Bool) → key_lt (said_key p.1) (live_here.0).key ≡ below →
          IsOwn (chosen (below && before) (Some p)) × (greatest_from (key_of_last (chosen (below && before) (Some p))) ks ≡ Some (fold greater (said_key p.1) (cond before ((live_here.0).key ∷ ks) ks)))
      at_some p is true true up = (live-own at live_here, ap (λ t. Some (fold greater (if t then (live_here.0).key else said_key p.1) ks)) (sym up))
      at_some p is true false up = (is, refl)
      at_some p is false true up = (is, ap (λ t. Some (fold greater (if t then (live_here.0).key else said_key p.1) ks)) (sym up))
      at_some p is false false up = (is, refl)

      at_last : (last : Option (ℕ × Operation)) → IsOwn last → Goes at ks (Some (update (live_here.0).key (live_here.0).value (live_here.0).next)) last
      at_last None own = at_none (is_before limit (live_here.0).key)
      at_last (Some p) own = at_some p own (key_lt (said_key p.1) (live_here.0).key) (is_before limit (live_here.0).key) refl

    -- one more location
    step : (last : Option (ℕ × Operation)) (at : ℕ) (ks : List Bytes) → IsLiveAt at → IsOwn last → Goes at ks (update_at list at) last
    step last at ks live_here own = subst (λ o. Goes at ks o last) (sym (live-update at live_here)) (at_last at live_here ks last own)

    fold-last : (locations : List ℕ) (last : Option (ℕ × Operation)) → Each IsLiveAt locations → IsOwn last →
        IsOwn (fold later last locations) × (key_of_last (fold later last locations) ≡ greatest_from (key_of_last last) (filter (is_before limit) (map key_at locations)))
    fold-last [] None all own = (tt, refl)
    fold-last [] (Some p) all own = (own, refl)
    fold-last (at ∷ locations) last all own =
        let here = step last at (filter (is_before limit) (map key_at locations)) all.0 own in
        let rest = fold-last locations (later last at) all.1 here.0 in
        (rest.0, rest.1 ∙ here.1)

    -- the last of the updates at these locations is that of the last of their keys
    pub last-said : (locations : List ℕ) → All IsLiveAt locations → fold later None locations ≡ option_and_then (update_of list) (last_key limit (map key_at locations))
    last-said locations all =
        let found = fold-last locations None (recursion_from_All IsLiveAt locations all) tt in
        own (fold later None locations) found.0 ∙ ap (option_and_then (update_of list)) found.1
      where
        own : (last : Option (ℕ × Operation)) → IsOwn last → last ≡ option_and_then (update_of list) (key_of_last last)
        own None is = refl
        own (Some p) is = sym is

  -- the live update of a live key
  pub live-some : (key : Bytes) → Has (live_keys list) key → (p : ℕ × Operation) × (update_of list key ≡ Some p) × (said_key p.1 ≡ key)
  live-some key at = by (live_of (live list) key) refl (sym (live-contains (live list) key) ∙ at)
    where
      by : (o : Option Live) → live_of (live list) key ≡ o → is_some o ≡ true → (p : ℕ × Operation) × (option_map located o ≡ Some p) × (said_key p.1 ≡ key)
      by None is some = cc
      by (Some e) is some = (located e, refl, key-of (live list) e is)
        where
          key-of : (es : List Live) (e : Live) → live_of es key ≡ Some e → e.key ≡ key
          key-of es e is = (of_key-within es key e is).1

  module _ (index_key : Bytes → ℕ) (entries : List (ℕ × List ℕ)) (indexed : IsIndexed index_key entries list) (n : ℕ) where
    abbrev of_bucket : List Live
    of_bucket = filter (λ e. index_key e.key == n) (live list)

    -- each location of a bucket is that of a live update
    pub bucket-live : All IsLiveAt (bucket_at entries n)
    bucket-live =
        All-permutation IsLiveAt (locations_at index_key list n) (bucket_at entries n) (indexed n)
        (All-map IsLiveAt (λ (e : Live). e.location) of_bucket (All-filter (λ (e : Live). index_key e.key == n) (λ e. IsLiveAt e.location) (live list)
        (All-weaker (Contains (live list)) (λ e. IsLiveAt e.location) (λ e within. (e, within, refl)) (live list) (All-contains_itself (live list)))))

    -- so none stands below the log's start if no live update does
    pub bucket-above : (start : ℕ) → NoneBelow start list → All (λ at. start ≤ at) (bucket_at entries n)
    bucket-above start none =
        All-weaker IsLiveAt (λ at. start ≤ at) (λ at h. subst (λ m. start ≤ m) h.2 (All-contains (λ (e : Live). start ≤ e.location) (live list) h.0 none h.1)) (bucket_at entries n) bucket-live

    keys-said : (es : List Live) → Each (λ e. key_at e.location ≡ e.key) es → map key_at (map (λ e. e.location) (filter (λ e. index_key e.key == n) es)) ≡ filter (λ key. index_key key == n) (map (λ e. e.key) es)
    keys-said [] all = refl
    keys-said (e ∷ es) all = by (index_key e.key == n) (keys-said es all.1)
      where
        by : (t : Bool) → map key_at (map (λ e. e.location) (filter (λ e. index_key e.key == n) es)) ≡ filter (λ key. index_key key == n) (map (λ e. e.key) es) →
            map key_at (map (λ e. e.location) (cond t (e ∷ filter (λ e. index_key e.key == n) es) (filter (λ e. index_key e.key == n) es)))
            ≡ cond t (e.key ∷ filter (λ key. index_key key == n) (map (λ e. e.key) es)) (filter (λ key. index_key key == n) (map (λ e. e.key) es))
        by true later = ap (λ ks. key_at e.location ∷ ks) later ∙ ap (λ k. k ∷ filter (λ key. index_key key == n) (map (λ e. e.key) es)) all.0
        by false later = later

    -- their keys are the live keys of this index key
    bucket-keys : SameKeys (map key_at (bucket_at entries n)) (keys_at index_key (live_keys list) n)
    bucket-keys key =
        sym (list_any-IsPermutation (λ k. bytes_eq k key) (map key_at (locations_at index_key list n)) (map key_at (bucket_at entries n)) (IsPermutation-map key_at (locations_at index_key list n) (bucket_at entries n) (indexed n)))
        ∙ ap (λ ks. contains_key ks key) (keys-said (live list) (recursion_from_All (λ (e : Live). key_at e.location ≡ e.key) (live list)
        (All-weaker (Contains (live list)) (λ (e : Live). key_at e.location ≡ e.key) (λ e within. ap (λ o. unwrap_or (option_map said_key o) []) (live-stands list e within)) (live list) (All-contains_itself (live list)))))

    -- the last of the updates of a bucket is that of the last of these keys
    pub bucket-last : (limit : Limit) → fold (later_at limit list) None (bucket_at entries n) ≡ option_and_then (update_of list) (last_key limit (keys_at index_key (live_keys list) n))
    bucket-last limit =
        last-said limit (bucket_at entries n) bucket-live ∙ ap (option_and_then (update_of list)) (last-same limit (map key_at (bucket_at entries n)) (keys_at index_key (live_keys list) n) bucket-keys)

    pub bucket-some : (limit : Limit) (p : ℕ × Operation) → Some p ≡ fold (later_at limit list) None (bucket_at entries n) → (k : Bytes) × (last_key limit (keys_at index_key (live_keys list) n) ≡ Some k) × (Some p ≡ update_of list k)
    bucket-some limit p h = by (last_key limit (keys_at index_key (live_keys list) n)) refl (h ∙ bucket-last limit)
      where
        by : (o : Option Bytes) → last_key limit (keys_at index_key (live_keys list) n) ≡ o → Some p ≡ option_and_then (update_of list) o → (k : Bytes) × (last_key limit (keys_at index_key (live_keys list) n) ≡ Some k) × (Some p ≡ update_of list k)
        by None is found = cc
        by (Some k) is found = (k, is, found)

    pub bucket-none : (limit : Limit) → None ≡ fold (later_at limit list) None (bucket_at entries n) → last_key limit (keys_at index_key (live_keys list) n) ≡ None
    bucket-none limit h = by (last_key limit (keys_at index_key (live_keys list) n)) refl (h ∙ bucket-last limit)
      where
        by : (o : Option Bytes) → last_key limit (keys_at index_key (live_keys list) n) ≡ o → None ≡ option_and_then (update_of list) o → o ≡ None
        by None is found = refl
        by (Some k) is found =
            let in_bucket = last-is limit (keys_at index_key (live_keys list) n) k is in
            let in_list = and-true (contains_key (live_keys list) k) (index_key k == n) (sym (contains-filter (λ key. index_key key == n) (live_keys list) k) ∙ in_bucket.0) in
            let own = live-some k in_list.0 in
            absurd (no (found ∙ own.1))
          where
            no : {X : Type 0} {x : X} → None ≡ Some x → ⊥
            no same = cc

  -- what is found in a key's own bucket, and if nothing is, in the bucket before it
  module _ (index_key : Bytes → ℕ) (entries : List (ℕ × List ℕ)) (indexed : IsIndexed index_key entries list) (key : Bytes) where
    abbrev prev : Option (ℕ × Bool)
    prev = prev_key (keys_of entries) (index_key key)

    abbrev behind : Option (ℕ × Bool) → Option Bytes
    behind neighbour = option_and_then (λ (n : ℕ × Bool). last_key unlimited (keys_at index_key (live_keys list) n.0)) neighbour

    pub own-found : (limit : Limit) (p : ℕ × Operation) → Some p ≡ fold (later_at limit list) None (bucket_at entries (index_key key)) → Some p ≡ lent_before index_key entries list key limit
    own-found limit p h =
        let found = bucket-some index_key entries indexed (index_key key) limit p h in
        found.2 ∙ sym (ap (λ o. option_and_then (update_of list) (option_or o (behind prev))) found.1)

    none-own : (limit : Limit) → None ≡ fold (later_at limit list) None (bucket_at entries (index_key key)) → lent_before index_key entries list key limit ≡ option_and_then (update_of list) (behind prev)
    none-own limit h = ap (λ o. option_and_then (update_of list) (option_or o (behind prev))) (bucket-none index_key entries indexed (index_key key) limit h)

    neighbour : (locations : List ℕ) (wrapped : Bool) (o : Option (ℕ × Bool)) → Some (locations, wrapped) ≡ neighbour_at entries o → (n : ℕ × Bool) × (o ≡ Some n) × (locations ≡ bucket_at entries n.0)
    neighbour locations wrapped None h = cc
    neighbour locations wrapped (Some n) h = (n, refl, ap (λ (b : List ℕ × Bool). b.0) (same_Some (locations, wrapped) (bucket_at entries n.0, n.1) h))

    pub prev-found : (limit : Limit) (locations : List ℕ) (wrapped : Bool) → None ≡ fold (later_at limit list) None (bucket_at entries (index_key key)) → Some (locations, wrapped) ≡ neighbour_at entries (prev_key (keys_of entries) (index_key key)) →
        fold (later_at unlimited list) None locations ≡ lent_before index_key entries list key limit
    prev-found limit locations wrapped none h =
        let found = neighbour locations wrapped prev h in
        ap (fold (later_at unlimited list) None) found.2 ∙ bucket-last index_key entries indexed (found.0).0 unlimited
        ∙ sym (none-own limit none ∙ ap (λ o. option_and_then (update_of list) (behind o)) found.1)

    pub prev-above : (locations : List ℕ) (wrapped : Bool) → Some (locations, wrapped) ≡ neighbour_at entries (prev_key (keys_of entries) (index_key key)) → (start : ℕ) → NoneBelow start list → All (λ at. start ≤ at) locations
    prev-above locations wrapped h start none =
        let found = neighbour locations wrapped prev h in
        subst (All (λ at. start ≤ at)) (sym found.2) (bucket-above index_key entries indexed (found.0).0 start none)

    pub prev-none : (limit : Limit) → None ≡ fold (later_at limit list) None (bucket_at entries (index_key key)) → None ≡ neighbour_at entries (prev_key (keys_of entries) (index_key key)) → None ≡ lent_before index_key entries list key limit
    prev-none limit none h = by prev h ∙ sym (none-own limit none)
      where
        by : (o : Option (ℕ × Bool)) → None ≡ neighbour_at entries o → None ≡ option_and_then (update_of list) (behind o)
        by None h = refl
        by (Some n) h = cc

none-some : {X : Type 0} {x : X} → None ≡ Some x → ⊥
none-some h = cc

-- the keys of live updates of a form are bytes
pub live-bytes : (form : Form) (list : List Operation) → ((bs : Bytes) → form.is_key bs ≡ true → AreBytes bs) → All (IsOf form) list → All AreBytes (live_keys list)
live-bytes form list bytes all =
    All-map AreBytes (λ (e : Live). e.key) (live list)
    (All-weaker (Contains (live list)) (λ (e : Live). AreBytes e.key) (λ e within. by list e.location e all (live-stands list e within)) (live list) (All-contains_itself (live list)))
  where
    said : (op : Operation) (e : Live) → IsOf form op → said_by op ≡ Some (update e.key e.value e.next) → AreBytes e.key
    said (update k v n) e of h =
        let parts : update k v n ≡ update e.key e.value e.next = same_Some (update k v n) (update e.key e.value e.next) h in
        let same : k ≡ e.key = cc in
        subst AreBytes same (bytes k (of.0).known)
    said (delete k) e of h = absurd (none-some h)
    said (commit m f) e of h = absurd (none-some h)

    by : (ops : List Operation) (at : ℕ) (e : Live) → All (IsOf form) ops → update_at ops at ≡ Some (update e.key e.value e.next) → AreBytes e.key
    by [] at e all h = absurd (none-some h)
    by (op ∷ ops) zero e all h = said op e (All-head (IsOf form) op ops all) h
    by (op ∷ ops) (suc at) e all h = by ops at e (All-tail (IsOf form) op ops all) h
