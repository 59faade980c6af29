-- Sets of keys in maps by key, and what fills them.
use Rattle.std.proofs.Common.{◌≡◌, ℕ, ◌+◌, ◌<◌, ◌≤◌, Bool, true, false, cond, List, [], ◌∷◌, ◌++◌, length, take, get_or, map, ap, sym, ◌∙◌, refl, subst, Option, Some, None, ◌||◌, Ordering, Less, Equal, Greater, Bor, append_assoc, append-nil, inl, inr}
use Rattle.std.specs.Prelude.{not, filter, filter_map, option_to_list, is_some, bytes_eq, All}
use Rattle.std.specs.List.{cons_option}
use Rattle.std.specs.BTreeMap.{insert_entry}
use Rattle.std.specs.Map.{lookup}
use Rattle.std.specs.Cmp.Lexicographic.{slice_cmp}
use Rattle.std.specs.Ordering.{nat_cmp, is_eq, match_ordering}
use Rattle.std.proofs.lemmas.List.{take_all, take_more, map-append, length-map, get_or-map}
use Rattle.std.proofs.lemmas.List.Elements.{filter-append, filter_map-append, All-nil, All-cons, All-head, All-tail, All-same, All-get_or}
use Rattle.std.proofs.lemmas.Map.Text.{is_eq-slice_cmp}
use Rattle.qm_model.specs.Operations.{Bytes}
use Rattle.qm_model.specs.Keys.{contains_key, successor, without}
use Rattle.qm_model.proofs.LastWrites.{equal_keys}
use Rattle.qm_model.proofs.KeyOrder.{Has, Has-either, contains-append, successor-is}
use Rattle.qm_index.proofs.Basics.{bytes-turned}
use Rattle.qm_step.specs.Links.{keys_in, SameKeys}

moved : (a b c : Bool) → (a || (b || c)) ≡ (b || (c || (a || false)))
moved true true c = refl
moved true false true = refl
moved true false false = refl
moved false true c = refl
moved false false true = refl
moved false false false = refl

twice : (a c : Bool) → (a || c) ≡ (a || (c || (a || false)))
twice true c = refl
twice false true = refl
twice false false = refl

abbrev by_bytes : Bor Bytes → Bor Bytes → Ordering
by_bytes a b = slice_cmp nat_cmp a.now b.now

module _ {X : Type 0} where
  -- a map has the keys that it had and the one that is put
  keys-put : (es : List (Bor Bytes × X)) (k : Bor Bytes) (v : X) → SameKeys (keys_in (insert_entry by_bytes es k v)) (keys_in es ++ k.now ∷ [])
  keys-put [] k v x = refl
  keys-put (e ∷ es) k v x = by (by_bytes k e.0) refl (keys-put es k v x)
    where
      by : (o : Ordering) → by_bytes k e.0 ≡ o → contains_key (keys_in (insert_entry by_bytes es k v)) x ≡ contains_key (keys_in es ++ k.now ∷ []) x →
          contains_key (keys_in (match_ordering o ((k, v) ∷ e ∷ es) ((e.0, v) ∷ es) (e ∷ insert_entry by_bytes es k v))) x ≡ (bytes_eq e.0.now x || contains_key (keys_in es ++ k.now ∷ []) x)
      by Less is later = moved (bytes_eq k.now x) (bytes_eq e.0.now x) (contains_key (keys_in es) x) ∙ ap (λ t. bytes_eq e.0.now x || t) (sym (contains-append (keys_in es) (k.now ∷ []) x))
      by Equal is later =
          twice (bytes_eq e.0.now x) (contains_key (keys_in es) x) ∙ ap (λ b. bytes_eq e.0.now x || (contains_key (keys_in es) x || (bytes_eq b x || false))) (sym (equal_keys k.now e.0.now is))
          ∙ ap (λ t. bytes_eq e.0.now x || t) (sym (contains-append (keys_in es) (k.now ∷ []) x))
      by Greater is later = ap (λ t. bytes_eq e.0.now x || t) later

  -- what holds of keys with values holds if one is put for which it does
  put-all : (Q : Bytes → X → Type 0) (es : List (Bor Bytes × X)) (k : Bor Bytes) (v : X) → Q k.now v → All (λ e. Q e.0.now e.1) es → All (λ e. Q e.0.now e.1) (insert_entry by_bytes es k v)
  put-all Q [] k v here all = All-cons (λ e. Q e.0.now e.1) (k, v) [] here (All-nil (λ e. Q e.0.now e.1))
  put-all Q (e ∷ es) k v here all = by (by_bytes k e.0) refl (put-all Q es k v here (All-tail P e es all))
    where
      P : Bor Bytes × X → Type 0
      P e = Q e.0.now e.1

      by : (o : Ordering) → by_bytes k e.0 ≡ o → All (λ e. Q e.0.now e.1) (insert_entry by_bytes es k v) → All (λ e. Q e.0.now e.1) (match_ordering o ((k, v) ∷ e ∷ es) ((e.0, v) ∷ es) (e ∷ insert_entry by_bytes es k v))
      by Less is later = All-cons (λ e. Q e.0.now e.1) (k, v) (e ∷ es) here all
      by Equal is later = All-cons (λ e. Q e.0.now e.1) (e.0, v) es (subst (λ b. Q b v) (equal_keys k.now e.0.now is) here) (All-tail (λ e. Q e.0.now e.1) e es all)
      by Greater is later = All-cons (λ e. Q e.0.now e.1) e (insert_entry by_bytes es k v) (All-head (λ e. Q e.0.now e.1) e es all) later

  -- a key is looked up if it is among the keys
  lookup-has : (es : List (Bor Bytes × X)) (x : Bytes) → is_some (lookup (λ k. is_eq (slice_cmp nat_cmp x k.now)) es) ≡ contains_key (keys_in es) x
  lookup-has [] x = refl
  lookup-has (e ∷ es) x =
      ap (λ t. is_some (cond t (Some e.1) (lookup (λ k. is_eq (slice_cmp nat_cmp x k.now)) es))) (is_eq-slice_cmp x e.0.now ∙ bytes-turned x e.0.now) ∙ by (bytes_eq e.0.now x) (lookup-has es x)
    where
      by : (t : Bool) → is_some (lookup (λ k. is_eq (slice_cmp nat_cmp x k.now)) es) ≡ contains_key (keys_in es) x → is_some (cond t (Some e.1) (lookup (λ k. is_eq (slice_cmp nat_cmp x k.now)) es)) ≡ (t || contains_key (keys_in es) x)
      by true later = refl
      by false later = later

  -- one key more
  pub keys-more : (es new : List (Bor Bytes × X)) (k : Bor Bytes) (v : X) (key : Bytes) → new ≡ insert_entry by_bytes es k v → k.now ≡ key → SameKeys (keys_in new) (keys_in es ++ key ∷ [])
  keys-more es new k v key put is x = ap (λ t. contains_key (keys_in t) x) put ∙ keys-put es k v x ∙ ap (λ b. contains_key (keys_in es ++ b ∷ []) x) is

  pub all-more : (Q : Bytes → X → Type 0) (es new : List (Bor Bytes × X)) (k : Bor Bytes) (v : X) → new ≡ insert_entry by_bytes es k v → Q k.now v → All (λ e. Q e.0.now e.1) es → All (λ e. Q e.0.now e.1) new
  all-more Q es new k v put here all = All-same (λ e. Q e.0.now e.1) new (insert_entry by_bytes es k v) put (put-all Q es k v here all)

  -- the same, unless the key is gone
  pub kept-more : (es new : List (Bor Bytes × X)) (gone : List Bytes) (k : Bor Bytes) (v : X) (key : Bytes) → contains_key gone key ≡ false → new ≡ insert_entry by_bytes es k v → k.now ≡ key →
      SameKeys (keys_in new) (keys_in es ++ without gone (key ∷ []))
  kept-more es new gone k v key stays put is x = keys-more es new k v key put is x ∙ ap (λ t. contains_key (keys_in es ++ cond (not t) (key ∷ []) []) x) (sym stays)

  pub gone-none : (es : List (Bor Bytes × X)) (gone : List Bytes) (key : Bytes) → contains_key gone key ≡ true → SameKeys (keys_in es) (keys_in es ++ without gone (key ∷ []))
  gone-none es gone key is x = ap (λ t. contains_key t x) (sym (append-nil (keys_in es))) ∙ ap (λ t. contains_key (keys_in es ++ cond (not t) (key ∷ []) []) x) (sym is)

-- what comes after keys that are the same
pub same-more : (old mid new front more back : List Bytes) → SameKeys old (front ++ mid) → SameKeys new (old ++ more) → mid ++ more ≡ back → SameKeys new (front ++ back)
same-more old mid new front more back so_far step is x =
    step x ∙ contains-append old more x ∙ ap (λ t. t || contains_key more x) (so_far x ∙ contains-append front mid x) ∙ regroup (contains_key front x) (contains_key mid x) (contains_key more x)
    ∙ ap (λ t. contains_key front x || t) (sym (contains-append mid more x) ∙ ap (λ t. contains_key t x) is) ∙ sym (contains-append front back x)
  where
    regroup : (a b c : Bool) → ((a || b) || c) ≡ (a || (b || c))
    regroup true b c = refl
    regroup false b c = refl

-- the next of a list
taken : {A : Type 0} (xs : List A) (i : ℕ) (d : A) → i < length xs → d ≡ get_or xs i d → take (i + 1) xs ≡ take i xs ++ d ∷ []
taken xs i d within here = take_more xs i d within ∙ ap (λ x. take i xs ++ x ∷ []) (sym here)

module _ {A B : Type 0} (view : A → B) where
  picked-more : {C : Type 0} (test : B → Bool) (f : B → C) (xs : List A) (i : ℕ) (d : A) → i < length xs → d ≡ get_or xs i d →
      map f (filter test (map view (take i xs))) ++ cond (test (view d)) (f (view d) ∷ []) [] ≡ map f (filter test (map view (take (i + 1) xs)))
  picked-more test f xs i d within here =
      sym (ap (λ ys. map f (filter test (map view ys))) (taken xs i d within here)
      ∙ ap (λ ys. map f (filter test ys)) (map-append view (take i xs) (d ∷ []))
      ∙ ap (map f) (filter-append test (map view (take i xs)) (view d ∷ []))
      ∙ map-append f (filter test (map view (take i xs))) (filter test (view d ∷ []))
      ∙ ap (λ t. map f (filter test (map view (take i xs))) ++ t) (by (test (view d))))
    where
      by : (t : Bool) → map f (cond t (view d ∷ []) []) ≡ cond t (f (view d) ∷ []) []
      by true = refl
      by false = refl

  pub picked-one : {C : Type 0} (test : B → Bool) (f : B → C) (xs : List A) (i : ℕ) (d : A) → i < length xs → d ≡ get_or xs i d → true ≡ test (view d) →
      map f (filter test (map view (take i xs))) ++ f (view d) ∷ [] ≡ map f (filter test (map view (take (i + 1) xs)))
  picked-one test f xs i d within here is = ap (λ t. map f (filter test (map view (take i xs))) ++ cond t (f (view d) ∷ []) []) is ∙ picked-more test f xs i d within here

  pub picked-none : {C : Type 0} (test : B → Bool) (f : B → C) (xs : List A) (i : ℕ) (d : A) → i < length xs → d ≡ get_or xs i d → false ≡ test (view d) →
      map f (filter test (map view (take i xs))) ≡ map f (filter test (map view (take (i + 1) xs)))
  picked-none test f xs i d within here is =
      sym (append-nil (map f (filter test (map view (take i xs))))) ∙ ap (λ t. map f (filter test (map view (take i xs))) ++ cond t (f (view d) ∷ []) []) is ∙ picked-more test f xs i d within here

  made-more : (gone : List Bytes) (f : B → Option Bytes) (xs : List A) (i : ℕ) (d : A) → i < length xs → d ≡ get_or xs i d →
      without gone (filter_map f (map view (take i xs))) ++ without gone (option_to_list (f (view d))) ≡ without gone (filter_map f (map view (take (i + 1) xs)))
  made-more gone f xs i d within here =
      sym (ap (λ ys. without gone (filter_map f (map view ys))) (taken xs i d within here)
      ∙ ap (λ ys. without gone (filter_map f ys)) (map-append view (take i xs) (d ∷ []))
      ∙ ap (without gone) (filter_map-append f (map view (take i xs)) (view d ∷ []))
      ∙ filter-append (λ k. not (contains_key gone k)) (filter_map f (map view (take i xs))) (filter_map f (view d ∷ []))
      ∙ ap (λ t. without gone (filter_map f (map view (take i xs))) ++ without gone t) (by (f (view d))))
    where
      by : (o : Option Bytes) → cons_option o [] ≡ option_to_list o
      by None = refl
      by (Some k) = refl

  -- one key more after those that are made
  pub made-next : (gone : List Bytes) (f : B → Option Bytes) (xs : List A) (i : ℕ) (d : A) → i < length xs → d ≡ get_or xs i d → (front old new : List Bytes) (o : Option Bytes) →
      SameKeys old (front ++ without gone (filter_map f (map view (take i xs)))) → SameKeys new (old ++ without gone (option_to_list o)) → o ≡ f (view d) → SameKeys new (front ++ without gone (filter_map f (map view (take (i + 1) xs))))
  made-next gone f xs i d within here front old new o so_far step is =
      same-more old (without gone (filter_map f (map view (take i xs)))) new front (without gone (option_to_list o)) (without gone (filter_map f (map view (take (i + 1) xs)))) so_far step
      (ap (λ p. without gone (filter_map f (map view (take i xs))) ++ without gone (option_to_list p)) is ∙ made-more gone f xs i d within here)

  -- what holds of all views holds of that at a place
  pub all-at : (P : B → Type 0) (xs : List A) (i : ℕ) (d : A) → i < length xs → d ≡ get_or xs i d → All P (map view xs) → P (view d)
  all-at P xs i d within here all =
      subst P (get_or-map view xs i d (view d) within ∙ ap view (sym here)) (All-get_or P (map view xs) i (view d) (subst (λ n. i < n) (sym (length-map xs view)) within) all)

  pub whole : (xs : List A) (i : ℕ) → length xs ≤ i → map view (take i xs) ≡ map view xs
  whole xs i past = ap (map view) (take_all i xs past)

module _ {X : Type 0} where
  -- whether a look-up finds a key
  pub looked : (es : List (Bor Bytes × X)) (x key : Bytes) (b : Bool) → b ≡ is_some (lookup (λ k. is_eq (slice_cmp nat_cmp x k.now)) es) → x ≡ key → contains_key (keys_in es) key ≡ b
  looked es x key b is same = ap (contains_key (keys_in es)) (sym same) ∙ sym (lookup-has es x) ∙ sym is

  -- what holds of each key holds of one that is there
  has-all : (P : Bytes → Type 0) (es : List (Bor Bytes × X)) (q : Bytes) → All (λ e. P e.0.now) es → Has (keys_in es) q → P q
  has-all P [] q all h = absurd (cc)
  has-all P (e ∷ es) q all h = elim (Has-either e.0.now (keys_in es) q h) [
    | inl same ↦ subst P same (All-head (λ (u : Bor Bytes × X). P u.0.now) e es all)
    | inr at ↦ has-all P es q (All-tail (λ (u : Bor Bytes × X). P u.0.now) e es all) at
  ]

  pub successor-all : (P : Bytes → Type 0) (es : List (Bor Bytes × X)) (key q : Bytes) → All (λ e. P e.0.now) es → Some q ≡ successor (keys_in es) key → P q
  successor-all P es key q all is = let found = successor-is (keys_in es) key q (sym is) in has-all P es q all found.has

-- keys that are found from one key more
pub found-more : (find : Bytes → Option Bytes) (keys ks more : List Bytes) (k : Bytes) → ks ++ k ∷ [] ≡ more → (keys ++ filter_map find ks) ++ option_to_list (find k) ≡ keys ++ filter_map find more
found-more find keys ks more k is =
    append_assoc keys (filter_map find ks) (option_to_list (find k))
    ∙ ap (λ t. keys ++ t) (ap (λ t. filter_map find ks ++ t) (by (find k)) ∙ sym (filter_map-append find ks (k ∷ [])) ∙ ap (filter_map find) is)
  where
    by : (o : Option Bytes) → option_to_list o ≡ cons_option o []
    by None = refl
    by (Some x) = refl

-- one element more, as it is shown
pub push-shown : {A B : Type 0} (view : A → B) (old more : List A) (d : A) → more ≡ old ++ d ∷ [] → map view more ≡ map view old ++ view d ∷ []
push-shown view old more d is = ap (map view) is ∙ map-append view old (d ∷ [])
