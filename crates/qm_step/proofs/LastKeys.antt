-- The greatest of keys, before a limit.
use Rattle.std.proofs.Common.{◌≡◌, ◌∙◌, refl, sym, ap, subst, ℕ, ◌<◌, ◌≤◌, ◌+◌, arith, length, Bool, true, false, cond, List, [], ◌∷◌, ◌++◌, map, take, get_or, append-nil, Option, Some, None, ◌&&◌, inl, inr}
use Rattle.std.specs.Prelude.{filter, IfSome, if◌then◌else◌, fold}
use Rattle.std.specs.List.{AllByRecursion as Each}
use Rattle.std.specs.Option.{option_or}
use Rattle.std.proofs.lemmas.List.{map-append, take_more}
use Rattle.std.proofs.lemmas.List.Concat.{flat_map-append}
use Rattle.std.proofs.lemmas.List.Elements.{filter-append}
use Rattle.qm_model.specs.Operations.{Bytes}
use Rattle.qm_model.specs.Keys.{key_lt, greatest, greater, predecessor, contains_key}
use Rattle.qm_model.specs.Ranges.{Limit, included, excluded, unlimited, is_before}
use Rattle.qm_model.proofs.KeyOrder.{Has, Has-first, Has-either, IsFront, SameKeys, rises, falls, upto, lt-irrefl, lt-trans, lt-total, lt-back, greatest-is, is-greatest, greatest-front, front-none, contains-append, contains-filter, and-true, and-both, or-left, or-right, or-either, false-not, not-true, not-false, apart}
use Rattle.qm_chain.proofs.KeyOrder.{Ascends}
use Rattle.qm_step.specs.Changes.{Change}
use Rattle.qm_step.specs.Layers.{Layer}
use Rattle.qm_step.specs.Nearest.{changed_keys, last_key, later_key}

none-some : {X : Type 0} {x : X} → None ≡ Some x → ⊥
none-some h = cc

pub greatest-none : (keys : List Bytes) → greatest keys ≡ None → (x : Bytes) → contains_key keys x ≡ false
greatest-none keys h = front-none falls keys (sym (greatest-front keys) ∙ h)

-- of two lists the greater one
pub greatest-append : (xs ys : List Bytes) → greatest (xs ++ ys) ≡ later_key (greatest xs) (greatest ys)
greatest-append [] ys = refl
greatest-append (x ∷ xs) [] = ap greatest (append-nil (x ∷ xs))
greatest-append (x ∷ xs) (y ∷ ys) = cases (key_lt (fold greater x xs) (fold greater y ys)) refl
  where
    p : IsFront (λ a b. key_lt b a) (x ∷ xs) (fold greater x xs)
    p = greatest-is (x ∷ xs) (fold greater x xs) refl

    q : IsFront (λ a b. key_lt b a) (y ∷ ys) (fold greater y ys)
    q = greatest-is (y ∷ ys) (fold greater y ys) refl

    cases : (t : Bool) → key_lt (fold greater x xs) (fold greater y ys) ≡ t → greatest ((x ∷ xs) ++ y ∷ ys) ≡ Some (if key_lt (fold greater x xs) (fold greater y ys) then fold greater y ys else fold greater x xs)
    cases true e =
        is-greatest ((x ∷ xs) ++ y ∷ ys) (fold greater y ys) (record {
          has = contains-append (x ∷ xs) (y ∷ ys) (fold greater y ys) ∙ or-right (contains_key (x ∷ xs) (fold greater y ys)) (contains_key (y ∷ ys) (fold greater y ys)) q.has;
          low = λ k h. elim (or-either (contains_key (x ∷ xs) k) (contains_key (y ∷ ys) k) (sym (contains-append (x ∷ xs) (y ∷ ys) k) ∙ h)) [
            | inl in_xs ↦ upto rises k (fold greater x xs) (fold greater y ys) (p.low k in_xs) (lt-back rises (fold greater x xs) (fold greater y ys) e)
            | inr in_ys ↦ q.low k in_ys
          ];
        }) ∙ ap (λ t. Some (if t then fold greater y ys else fold greater x xs)) (sym e)
    cases false e =
        is-greatest ((x ∷ xs) ++ y ∷ ys) (fold greater x xs) (record {
          has = contains-append (x ∷ xs) (y ∷ ys) (fold greater x xs) ∙ or-left (contains_key (x ∷ xs) (fold greater x xs)) (contains_key (y ∷ ys) (fold greater x xs)) p.has;
          low = λ k h. elim (or-either (contains_key (x ∷ xs) k) (contains_key (y ∷ ys) k) (sym (contains-append (x ∷ xs) (y ∷ ys) k) ∙ h)) [
            | inl in_xs ↦ p.low k in_xs
            | inr in_ys ↦ upto rises k (fold greater y ys) (fold greater x xs) (q.low k in_ys) e
          ];
        }) ∙ ap (λ t. Some (if t then fold greater y ys else fold greater x xs)) (sym e)

-- of the same keys the same one
pub greatest-same : (xs ys : List Bytes) → SameKeys xs ys → greatest xs ≡ greatest ys
greatest-same xs ys same = cases (greatest xs) (greatest ys) refl refl
  where
    cases : (a b : Option Bytes) → greatest xs ≡ a → greatest ys ≡ b → greatest xs ≡ greatest ys
    cases None None p q = p ∙ sym q
    cases None (Some t) p q = absurd (apart (contains_key ys t) (greatest-is ys t q).has (sym (same t) ∙ greatest-none xs p t))
    cases (Some s) b p q =
        let is = greatest-is xs s p in
        p ∙ sym (is-greatest ys s (record { has = sym (same s) ∙ is.has; low = λ x h. is.low x (same x ∙ h) }))

-- before a limit

pub last-append : (limit : Limit) (xs ys : List Bytes) → last_key limit (xs ++ ys) ≡ later_key (last_key limit xs) (last_key limit ys)
last-append limit xs ys = ap greatest (filter-append (is_before limit) xs ys) ∙ greatest-append (filter (is_before limit) xs) (filter (is_before limit) ys)

pub last-is : (limit : Limit) (keys : List Bytes) (k : Bytes) → last_key limit keys ≡ Some k → Has keys k × (is_before limit k ≡ true)
last-is limit keys k h =
    and-true (contains_key keys k) (is_before limit k) (sym (contains-filter (is_before limit) keys k) ∙ (greatest-is (filter (is_before limit) keys) k h).has)

pub last-none : (limit : Limit) (keys : List Bytes) → last_key limit keys ≡ None → (x : Bytes) → Has keys x → is_before limit x ≡ true → ⊥
last-none limit keys h x at before =
    apart (contains_key (filter (is_before limit) keys) x) (contains-filter (is_before limit) keys x ∙ and-both (contains_key keys x) (is_before limit x) at before) (greatest-none (filter (is_before limit) keys) h x)

pub filter-same : (p q : Bytes → Bool) (xs ys : List Bytes) → ((x : Bytes) → contains_key xs x && p x ≡ contains_key ys x && q x) → SameKeys (filter p xs) (filter q ys)
filter-same p q xs ys same x = contains-filter p xs x ∙ same x ∙ sym (contains-filter q ys x)

pub last-same : (limit : Limit) (xs ys : List Bytes) → SameKeys xs ys → last_key limit xs ≡ last_key limit ys
last-same limit xs ys same = greatest-same (filter (is_before limit) xs) (filter (is_before limit) ys) (filter-same (is_before limit) (is_before limit) xs ys (λ x. ap (λ t. t && is_before limit x) (same x)))

all-pass : (keys : List Bytes) → filter (is_before unlimited) keys ≡ keys
all-pass [] = refl
all-pass (k ∷ keys) = ap (λ ks. k ∷ ks) (all-pass keys)

pub last-unlimited : (keys : List Bytes) → last_key unlimited keys ≡ greatest keys
last-unlimited keys = ap greatest (all-pass keys)

-- the key before another, around the ring
pub predecessor-last : (keys : List Bytes) (key : Bytes) → predecessor keys key ≡ option_or (last_key (excluded key) keys) (last_key unlimited keys)
predecessor-last keys key = ap (option_or (last_key (excluded key) keys)) (sym (last-unlimited keys))

-- what is below a key before a limit comes before it
pub before-closed : (limit : Limit) (x k : Bytes) → key_lt x k ≡ true → is_before limit k ≡ true → is_before limit x ≡ true
before-closed (included m) x k lt h = not-true (key_lt m x) (false-not (key_lt m x) (λ over. apart (key_lt m k) (lt-trans m x k over lt) (not-false (key_lt m k) h)))
before-closed (excluded m) x k lt h = lt-trans x k m lt h
before-closed unlimited x k lt h = refl

-- the halves of keys that ascend

later-none : (a : Option Bytes) → later_key a None ≡ a
later-none None = refl
later-none (Some a) = refl

later-above : (a : Option Bytes) (c : Bytes) → IfSome a (λ x. key_lt x c ≡ true) → later_key a (Some c) ≡ Some c
later-above None c h = refl
later-above (Some a) c h = ap (λ t. Some (if t then c else a)) h

each-of : (P : Bytes → Type 0) (ks : List Bytes) (x : Bytes) → Each P ks → Has ks x → P x
each-of P [] x h at = absurd (cc)
each-of P (k ∷ ks) x h at = elim (Has-either k ks x at) [ inl e ↦ subst P e h.0 | inr e ↦ each-of P ks x h.1 e ]

front-below : (front behind : List Bytes) (m x : Bytes) → Ascends (front ++ m ∷ behind) → Has front x → key_lt x m ≡ true
front-below [] behind m x asc h = absurd (cc)
front-below (k ∷ front) behind m x asc h = elim (Has-either k front x h) [ inl e ↦ subst (λ z. key_lt z m ≡ true) e (each-of (λ later. key_lt k later ≡ true) (front ++ m ∷ behind) m asc.0 there) | inr e ↦ front-below front behind m x asc.1 e ]
  where
    there : Has (front ++ m ∷ behind) m
    there = contains-append front (m ∷ behind) m ∙ or-right (contains_key front m) (contains_key (m ∷ behind) m) (Has-first m behind)

pub front-ascends : (front back : List Bytes) → Ascends (front ++ back) → Ascends front
front-ascends [] back h = tt
front-ascends (k ∷ front) back h = (first front h.0, front-ascends front back h.1)
  where
    first : (front : List Bytes) → Each (λ later. key_lt k later ≡ true) (front ++ back) → Each (λ later. key_lt k later ≡ true) front
    first [] h = tt
    first (u ∷ front) h = (h.0, first front h.1)

pub back-ascends : (front back : List Bytes) → Ascends (front ++ back) → Ascends back
back-ascends [] back h = h
back-ascends (k ∷ front) back h = back-ascends front back h.1

module _ (limit : Limit) (front behind : List Bytes) (m : Bytes) (asc : Ascends (front ++ m ∷ behind)) where
  over : (x : Bytes) → Has behind x → key_lt m x ≡ true
  over x h = each-of (λ later. key_lt m later ≡ true) behind x (back-ascends front (m ∷ behind) asc).0 h

  -- if the middle is before the limit, the last key is after it, or else it is the middle
  pub last-behind : is_before limit m ≡ true → last_key limit (front ++ m ∷ behind) ≡ option_or (last_key limit behind) (Some m)
  last-behind before = last-append limit front (m ∷ behind) ∙ ap (later_key (last_key limit front)) (last-append limit (m ∷ []) behind ∙ ap (λ o. later_key o (last_key limit behind)) alone) ∙ cases (last_key limit behind) refl (last_key limit front) refl
    where
      alone : last_key limit (m ∷ []) ≡ Some m
      alone = ap (λ t. greatest (cond t (m ∷ []) [])) before

      lower : (f : Option Bytes) → last_key limit front ≡ f → IfSome f (λ x. key_lt x m ≡ true)
      lower None e = tt
      lower (Some f) e = front-below front behind m f asc (last-is limit front f e).0

      raised : (f : Option Bytes) (b : Bytes) → key_lt m b ≡ true → IfSome f (λ x. key_lt x m ≡ true) → IfSome f (λ x. key_lt x b ≡ true)
      raised None b up h = tt
      raised (Some f) b up h = lt-trans f m b h up

      cases : (o : Option Bytes) → last_key limit behind ≡ o → (f : Option Bytes) → last_key limit front ≡ f → later_key f (later_key (Some m) o) ≡ option_or o (Some m)
      cases None e f g = later-above f m (lower f g)
      cases (Some b) e f g =
          let up = over b (last-is limit behind b e).0 in
          ap (later_key f) (ap (λ t. Some (if t then b else m)) up) ∙ later-above f b (raised f b up (lower f g))

  -- if it is not, the last key is in front of it
  pub last-front : is_before limit m ≡ false → last_key limit (front ++ m ∷ behind) ≡ last_key limit front
  last-front past = last-append limit front (m ∷ behind) ∙ ap (later_key (last_key limit front)) (cases (last_key limit (m ∷ behind)) refl) ∙ later-none (last_key limit front)
    where
      cases : (o : Option Bytes) → last_key limit (m ∷ behind) ≡ o → o ≡ None
      cases None e = refl
      cases (Some b) e =
          let is = last-is limit (m ∷ behind) b e in
          absurd (elim (Has-either m behind b is.0) [
            | inl here ↦ apart (is_before limit m) (subst (λ z. is_before limit z ≡ true) (sym here) is.1) past
            | inr later ↦ apart (is_before limit m) (before-closed limit m b (over b later) is.1) past
          ])

-- of keys that pass a test, going down from key to key

module _ (limit : Limit) (test : Bytes → Bool) (keys : List Bytes) where
  pub last-passes : (k : Bytes) → last_key limit keys ≡ Some k → test k ≡ true → last_key limit (filter test keys) ≡ Some k
  last-passes k h passes =
      let is = last-is limit keys k h in
      let front = greatest-is (filter (is_before limit) keys) k h in
      is-greatest (filter (is_before limit) (filter test keys)) k (record {
        has = contains-filter (is_before limit) (filter test keys) k ∙ and-both (contains_key (filter test keys) k) (is_before limit k) (contains-filter test keys k ∙ and-both (contains_key keys k) (test k) is.0 passes) is.1;
        low = λ x at.
            let outer = and-true (contains_key (filter test keys) x) (is_before limit x) (sym (contains-filter (is_before limit) (filter test keys) x) ∙ at) in
            let inner = and-true (contains_key keys x) (test x) (sym (contains-filter test keys x) ∙ outer.0) in
            front.low x (contains-filter (is_before limit) keys x ∙ and-both (contains_key keys x) (is_before limit x) inner.0 outer.1);
      })

  pub last-fails : (k : Bytes) → last_key limit keys ≡ Some k → test k ≡ false → last_key limit (filter test keys) ≡ last_key (excluded k) (filter test keys)
  last-fails k h fails = greatest-same (filter (is_before limit) (filter test keys)) (filter (is_before (excluded k)) (filter test keys)) (filter-same (is_before limit) (is_before (excluded k)) (filter test keys) (filter test keys) (λ x. cases x (contains_key (filter test keys) x) refl))
    where
      below : (x : Bytes) → Has (filter test keys) x → is_before limit x ≡ key_lt x k
      below x at = by (is_before limit x) (key_lt x k) refl refl
        where
          inner : Has keys x × (test x ≡ true)
          inner = and-true (contains_key keys x) (test x) (sym (contains-filter test keys x) ∙ at)

          by : (a b : Bool) → is_before limit x ≡ a → key_lt x k ≡ b → a ≡ b
          by true true p q = refl
          by false false p q = refl
          by false true p q = absurd (apart (is_before limit x) (before-closed limit x k q (last-is limit keys k h).1) p)
          by true false p q =
              let low = (greatest-is (filter (is_before limit) keys) k h).low x (contains-filter (is_before limit) keys x ∙ and-both (contains_key keys x) (is_before limit x) inner.0 p) in
              absurd (apart (test k) (ap test (lt-total k x low q) ∙ inner.1) fails)

      cases : (x : Bytes) (t : Bool) → contains_key (filter test keys) x ≡ t → t && is_before limit x ≡ t && key_lt x k
      cases x false e = refl
      cases x true e = below x e

  pub last-ends : last_key limit keys ≡ None → last_key limit (filter test keys) ≡ None
  last-ends h = cases (last_key limit (filter test keys)) refl
    where
      cases : (o : Option Bytes) → last_key limit (filter test keys) ≡ o → o ≡ None
      cases None e = refl
      cases (Some x) e =
          let is = last-is limit (filter test keys) x e in
          absurd (last-none limit keys h x (and-true (contains_key keys x) (test x) (sym (contains-filter test keys x) ∙ is.0)).0 is.1)

-- fewer keys pass a harder test, if one passes the other alone
fewer-pass : (p q : Bytes → Bool) → ((x : Bytes) → q x ≡ true → p x ≡ true) → (keys : List Bytes) → length (filter q keys) ≤ length (filter p keys)
fewer-pass p q harder [] = omega arith
fewer-pass p q harder (k ∷ keys) = cases (p k) (q k) refl refl (fewer-pass p q harder keys)
  where
    cases : (a b : Bool) → p k ≡ a → q k ≡ b → length (filter q keys) ≤ length (filter p keys) → length (cond b (k ∷ filter q keys) (filter q keys)) ≤ length (cond a (k ∷ filter p keys) (filter p keys))
    cases true true x y h = omega (arith, h)
    cases true false x y h = omega (arith, h)
    cases false true x y h = absurd (apart (p k) (harder k y) x)
    cases false false x y h = h

less-pass : (p q : Bytes → Bool) → ((x : Bytes) → q x ≡ true → p x ≡ true) → (keys : List Bytes) (k : Bytes) → Has keys k → p k ≡ true → q k ≡ false → length (filter q keys) < length (filter p keys)
less-pass p q harder [] k at passes fails = absurd (cc)
less-pass p q harder (u ∷ keys) k at passes fails =
    elim (Has-either u keys k at) [ inl e ↦ first (p u) (q u) (ap p e ∙ passes) (ap q e ∙ fails) (fewer-pass p q harder keys) | inr e ↦ later (p u) (q u) refl refl (less-pass p q harder keys k e passes fails) ]
  where
    first : (a b : Bool) → a ≡ true → b ≡ false → length (filter q keys) ≤ length (filter p keys) → length (cond b (u ∷ filter q keys) (filter q keys)) < length (cond a (u ∷ filter p keys) (filter p keys))
    first true false x y h = omega (arith, h)
    first true true x y h = cc
    first false b x y h = cc

    later : (a b : Bool) → p u ≡ a → q u ≡ b → length (filter q keys) < length (filter p keys) → length (cond b (u ∷ filter q keys) (filter q keys)) < length (cond a (u ∷ filter p keys) (filter p keys))
    later true true x y h = omega (arith, h)
    later true false x y h = omega (arith, h)
    later false true x y h = absurd (apart (p u) (harder u y) x)
    later false false x y h = h

-- so going down ends
pub last-fewer : (limit : Limit) (keys : List Bytes) (k : Bytes) → last_key limit keys ≡ Some k → length (filter (is_before (excluded k)) keys) < length (filter (is_before limit) keys)
last-fewer limit keys k h =
    let is = last-is limit keys k h in
    less-pass (is_before limit) (λ x. key_lt x k) (λ x lt. before-closed limit x k lt is.1) keys k is.0 is.1 (lt-irrefl k)

-- looked for by halves
module _ {X : Type 0} (f : X → Bytes) (limit : Limit) (rest front back behind : List X) (m : X) (whole : front ++ back ≡ rest) (is : back ≡ m ∷ behind) (asc : Ascends (map f rest)) where
  parts : map f rest ≡ map f front ++ f m ∷ map f behind
  parts = ap (map f) (sym whole ∙ ap (λ b. front ++ b) is) ∙ map-append f front (m ∷ behind)

  whole_rises : Ascends (map f front ++ f m ∷ map f behind)
  whole_rises = subst Ascends parts asc

  pub go-behind : (sought last : Option Bytes) → is_before limit (f m) ≡ true → sought ≡ option_or (last_key limit (map f rest)) last → Ascends (map f behind) × (sought ≡ option_or (last_key limit (map f behind)) (Some (f m)))
  go-behind sought last before h = (
    (back-ascends (map f front) (f m ∷ map f behind) whole_rises).1,
    h ∙ ap (λ o. option_or o last) (ap (last_key limit) parts ∙ last-behind limit (map f front) (map f behind) (f m) whole_rises before) ∙ by (last_key limit (map f behind)),
  )
    where
      by : (o : Option Bytes) → option_or (option_or o (Some (f m))) last ≡ option_or o (Some (f m))
      by None = refl
      by (Some k) = refl

  pub go-front : (sought last : Option Bytes) → is_before limit (f m) ≡ false → sought ≡ option_or (last_key limit (map f rest)) last → Ascends (map f front) × (sought ≡ option_or (last_key limit (map f front)) last)
  go-front sought last past h = (
    front-ascends (map f front) (f m ∷ map f behind) whole_rises,
    h ∙ ap (λ o. option_or o last) (ap (last_key limit) parts ∙ last-front limit (map f front) (map f behind) (f m) whole_rises past),
  )

-- the key of a change
abbrev pub change-key : Bytes × Change → Bytes
change-key c = c.0

-- one more layer
pub changed-more : {L : Type 0} (view : L → Layer) (limit : Limit) (layers : List L) (i : ℕ) (d : L) (last : Option Bytes) → i < length layers → d ≡ get_or layers i d → last ≡ last_key limit (changed_keys (map view (take i layers))) →
    later_key last (last_key limit (map change-key (view d).changes)) ≡ last_key limit (changed_keys (map view (take (i + 1) layers)))
changed-more view limit layers i d last within is so_far =
    ap (λ o. later_key o (last_key limit (map change-key (view d).changes))) so_far
    ∙ ap (λ l. later_key (last_key limit (changed_keys (map view (take i layers)))) (last_key limit (map change-key (view l).changes))) is
    ∙ sym (last-append limit (changed_keys (map view (take i layers))) (map change-key (view (get_or layers i d)).changes)) ∙ ap (last_key limit) (sym split)
  where
    split : changed_keys (map view (take (i + 1) layers)) ≡ changed_keys (map view (take i layers)) ++ map change-key (view (get_or layers i d)).changes
    split =
        ap (λ ls. changed_keys (map view ls)) (take_more layers i d within) ∙ ap changed_keys (map-append view (take i layers) (get_or layers i d ∷ []))
        ∙ flat_map-append (λ l. map change-key l.changes) (map view (take i layers)) (view (get_or layers i d) ∷ [])
        ∙ ap (λ ks. changed_keys (map view (take i layers)) ++ ks) (append-nil (map change-key (view (get_or layers i d)).changes))
