-- Maps by key: which keys they have, and what holds of their entries.
use Rattle.std.proofs.Common.{◌≡◌, ℕ, ◌+◌, ◌<◌, Bool, true, false, cond, List, [], ◌∷◌, ◌++◌, length, map, take, get_or, refl, ap, sym, ◌∙◌, subst, Option, Some, None, ◌||◌, ◌&&◌, Bor, Ordering, Less, Equal, Greater, BTreeMap, inl, inr}
use Rattle.std.specs.Prelude.{All, not, filter, filter_map, option_to_list, is_some, bytes_eq}
use Rattle.std.specs.BTreeMap.{UpdatesBy, insert_entry, get_by}
use Rattle.std.specs.Map.{lookup, remove_entry}
use Rattle.std.specs.List.{cons_option}
use Rattle.std.specs.Cmp.Lexicographic.{slice_cmp}
use Rattle.std.specs.Ordering.{nat_cmp, is_eq, match_ordering}
use Rattle.std.proofs.lemmas.List.{take_more, map-append}
use Rattle.std.proofs.lemmas.List.Elements.{All-nil, All-cons, All-head, All-tail, All-same, filter-append, filter_map-append}
use Rattle.std.proofs.lemmas.Map.Text.{is_eq-slice_cmp, btree_map_updates_str}
use Rattle.qm_model.specs.Operations.{Bytes}
use Rattle.qm_model.specs.Keys.{contains_key, successor}
use Rattle.qm_model.proofs.LastWrites.{equal_keys}
use Rattle.qm_model.proofs.KeyOrder.{Has, Has-either, contains-append, successor-is}
use Rattle.qm_index.proofs.Basics.{bytes-turned}
use Rattle.qm_step.specs.Moves.{has_key}

module _ {X : Type 0} where
  pub has-none : (m : BTreeMap (Bor Bytes) X) (x : Bytes) → m.entries ≡ [] → has_key m x ≡ false
  has-none m x h = ap (λ (es : List (Bor Bytes × X)). is_some (lookup (λ k. is_eq (slice_cmp nat_cmp x k.now)) es)) h

  -- with a key put in
  pub has-put : (m n : BTreeMap (Bor Bytes) X) (k : Bytes) (v : X) → UpdatesBy (λ x y. slice_cmp nat_cmp x.now y.now) (λ b. slice_cmp nat_cmp k b.now) m n (Some v) → (x : Bytes) → has_key n x ≡ (has_key m x || bytes_eq k x)
  has-put m n k v puts x = ap is_some (btree_map_updates_str k m n (Some v) puts x) ∙ by (bytes_eq k x) (get_by (λ b. slice_cmp nat_cmp x b.now) m)
    where
      by : (t : Bool) (o : Option X) → is_some (cond t (Some v) o) ≡ (is_some o || t)
      by true None = refl
      by true (Some y) = refl
      by false None = refl
      by false (Some y) = refl

  -- with a key taken out
  pub has-taken : (m n : BTreeMap (Bor Bytes) X) (k : Bytes) → UpdatesBy (λ x y. slice_cmp nat_cmp x.now y.now) (λ b. slice_cmp nat_cmp k b.now) m n None → (x : Bytes) → has_key n x ≡ (has_key m x && not (bytes_eq k x))
  has-taken m n k takes x = ap is_some (btree_map_updates_str k m n None takes x) ∙ by (bytes_eq k x) (get_by (λ b. slice_cmp nat_cmp x b.now) m)
    where
      by : (t : Bool) (o : Option X) → is_some (cond t None o) ≡ (is_some o && not t)
      by true None = refl
      by true (Some y) = refl
      by false None = refl
      by false (Some y) = refl

  -- the keys that a map has are those of its entries
  pub has-listed : (es : List (Bor Bytes × X)) (x : Bytes) → is_some (lookup (λ k. is_eq (slice_cmp nat_cmp x k.now)) es) ≡ contains_key (map (λ e. e.0.now) es) x
  has-listed [] x = refl
  has-listed (e ∷ es) x =
      ap (λ t. is_some (cond t (Some e.1) (lookup (λ k. is_eq (slice_cmp nat_cmp x k.now)) es))) (is_eq-slice_cmp x e.0.now ∙ bytes-turned x e.0.now) ∙ by (bytes_eq e.0.now x) (has-listed es x)
    where
      by : (t : Bool) → is_some (lookup (λ k. is_eq (slice_cmp nat_cmp x k.now)) es) ≡ contains_key (map (λ e. e.0.now) es) x → is_some (cond t (Some e.1) (lookup (λ k. is_eq (slice_cmp nat_cmp x k.now)) es)) ≡ (t || contains_key (map (λ e. e.0.now) es) x)
      by true later = refl
      by false later = later

  -- what holds of each entry, and of one more
  module _ (P : Bytes → X → Type 0) where
    abbrev Fine : Bor Bytes × X → Type 0
    Fine e = P e.0.now e.1

    pub all-put : (es : List (Bor Bytes × X)) (k : Bor Bytes) (v : X) → P k.now v → All Fine es → All Fine (insert_entry (λ a b. slice_cmp nat_cmp a.now b.now) es k v)
    all-put [] k v here all = All-cons Fine (k, v) [] here (All-nil Fine)
    all-put (e ∷ es) k v here all = by (slice_cmp nat_cmp k.now e.0.now) refl (all-put es k v here (All-tail Fine e es all))
      where
        by : (o : Ordering) → slice_cmp nat_cmp k.now e.0.now ≡ o → All Fine (insert_entry (λ a b. slice_cmp nat_cmp a.now b.now) es k v) →
            All Fine (match_ordering o ((k, v) ∷ e ∷ es) ((e.0, v) ∷ es) (e ∷ insert_entry (λ a b. slice_cmp nat_cmp a.now b.now) es k v))
        by Less is later = All-cons Fine (k, v) (e ∷ es) here all
        by Equal is later = All-cons Fine (e.0, v) es (subst (λ b. P b v) (equal_keys k.now e.0.now is) here) (All-tail Fine e es all)
        by Greater is later = All-cons Fine e (insert_entry (λ a b. slice_cmp nat_cmp a.now b.now) es k v) (All-head Fine e es all) later

    pub all-taken : (test : Bor Bytes → Bool) (es : List (Bor Bytes × X)) → All Fine es → All Fine (remove_entry test es)
    all-taken test [] all = all
    all-taken test (e ∷ es) all = by (test e.0) (all-taken test es (All-tail Fine e es all))
      where
        by : (t : Bool) → All Fine (remove_entry test es) → All Fine (cond t es (e ∷ remove_entry test es))
        by true later = All-tail Fine e es all
        by false later = All-cons Fine e (remove_entry test es) (All-head Fine e es all) later

    pub all-more : (es new : List (Bor Bytes × X)) (k : Bor Bytes) (v : X) → new ≡ insert_entry (λ a b. slice_cmp nat_cmp a.now b.now) es k v → P k.now v → All Fine es → All Fine new
    all-more es new k v puts here all = All-same Fine new (insert_entry (λ a b. slice_cmp nat_cmp a.now b.now) es k v) puts (all-put es k v here all)

    pub all-fewer : (es new : List (Bor Bytes × X)) (test : Bor Bytes → Bool) → new ≡ remove_entry test es → All Fine es → All Fine new
    all-fewer es new test takes all = All-same Fine new (remove_entry test es) takes (all-taken test es all)

    pub all-none : (es : List (Bor Bytes × X)) → es ≡ [] → All Fine es
    all-none es none = All-same Fine es [] none (All-nil Fine)

  -- the successor among the keys is one of them
  pub next-known : (P : Bytes → Type 0) (es : List (Bor Bytes × X)) (key next : Bytes) → All (λ e. P e.0.now) es → Some next ≡ successor (map (λ e. e.0.now) es) key → P next
  next-known P es key next all is = within es all (successor-is (map (λ e. e.0.now) es) key next (sym is)).has
    where
      within : (es : List (Bor Bytes × X)) → All (λ e. P e.0.now) es → Has (map (λ e. e.0.now) es) next → P next
      within [] all h = cc
      within (e ∷ es) all h = elim (Has-either e.0.now (map (λ e. e.0.now) es) next h) [
        | inl at ↦ subst P at (All-head (λ (e : Bor Bytes × X). P e.0.now) e es all)
        | inr at ↦ within es (All-tail (λ (e : Bor Bytes × X). P e.0.now) e es all) at
      ]

-- one more element of a list that is gone over, and which keys come with it
module _ {A : Type 0} (xs : List A) (i : ℕ) (d : A) (within : i < length xs) (here : d ≡ get_or xs i d) where
  taken : take (i + 1) xs ≡ take i xs ++ d ∷ []
  taken = take_more xs i d within ∙ ap (λ y. take i xs ++ y ∷ []) (sym here)

  pub more-named : (h : A → Option Bytes) (x : Bytes) → contains_key (filter_map h (take (i + 1) xs)) x ≡ (contains_key (filter_map h (take i xs)) x || contains_key (option_to_list (h d)) x)
  more-named h x =
      ap (λ ys. contains_key (filter_map h ys) x) taken ∙ ap (λ ks. contains_key ks x) (filter_map-append h (take i xs) (d ∷ [])) ∙ contains-append (filter_map h (take i xs)) (cons_option (h d) []) x
      ∙ ap (λ ks. contains_key (filter_map h (take i xs)) x || contains_key ks x) (by (h d))
    where
      by : (o : Option Bytes) → cons_option o [] ≡ option_to_list o
      by None = refl
      by (Some k) = refl

  pub more-keys : (f : A → Bytes) (x : Bytes) → contains_key (map f (take (i + 1) xs)) x ≡ (contains_key (map f (take i xs)) x || bytes_eq (f d) x)
  more-keys f x =
      ap (λ ys. contains_key (map f ys) x) taken ∙ ap (λ ks. contains_key ks x) (map-append f (take i xs) (d ∷ [])) ∙ contains-append (map f (take i xs)) (f d ∷ []) x
      ∙ ap (λ t. contains_key (map f (take i xs)) x || t) (by (bytes_eq (f d) x))
    where
      by : (t : Bool) → (t || false) ≡ t
      by true = refl
      by false = refl

  pub more-passing : (f : A → Bytes) (p : A → Bool) (x : Bytes) → contains_key (map f (filter p (take (i + 1) xs))) x ≡ (contains_key (map f (filter p (take i xs))) x || (p d && bytes_eq (f d) x))
  more-passing f p x =
      ap (λ ys. contains_key (map f (filter p ys)) x) taken ∙ ap (λ ys. contains_key (map f ys) x) (filter-append p (take i xs) (d ∷ [])) ∙ ap (λ ks. contains_key ks x) (map-append f (filter p (take i xs)) (filter p (d ∷ [])))
      ∙ contains-append (map f (filter p (take i xs))) (map f (filter p (d ∷ []))) x ∙ ap (λ t. contains_key (map f (filter p (take i xs))) x || t) (by (p d) (bytes_eq (f d) x) refl)
    where
      by : (t u : Bool) → bytes_eq (f d) x ≡ u → contains_key (map f (cond t (d ∷ []) [])) x ≡ (t && u)
      by true true is = ap (λ b. b || false) is
      by true false is = ap (λ b. b || false) is
      by false u is = refl

-- without some keys, and without one more
pub and-more : (a b c d : Bool) → a ≡ (b && not c) → (a && not d) ≡ (b && not (c || d))
and-more a b true d h = ap (λ t. t && not d) (h ∙ none b) ∙ sym (none b)
  where
    none : (t : Bool) → (t && false) ≡ false
    none true = refl
    none false = refl
and-more a b false d h = ap (λ t. t && not d) (h ∙ one b)
  where
    one : (t : Bool) → (t && true) ≡ t
    one true = refl
    one false = refl
