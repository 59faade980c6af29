-- The order of keys, sets of keys, and the nearest key round a ring.
use Rattle.std.proofs.Common.{◌≡◌, Bool, true, false, cond, List, [], ◌∷◌, ◌++◌, refl, ap, sym, ◌∙◌, Option, Some, None, ◌||◌, ◌&&◌, ◌⊎◌, inl, inr, subst}
use Rattle.std.specs.Prelude.{not, filter, fold, if◌then◌else◌, bytes_eq}
use Rattle.std.specs.Cmp.Lexicographic.{slice_cmp}
use Rattle.std.specs.Ordering.{nat_cmp, is_lt, ordering_reverse, ordering_then}
use Rattle.std.specs.Option.{option_or}
use Rattle.std.specs.declared.cmp.Ordering.{Ordering}
use Rattle.std.specs.declared.cmp.Ordering.TheVariants.{Less, Equal, Greater}
use Rattle.std.proofs.lemmas.Cmp.{nat_cmp_total, nat_list_cmp_total, tied_itself}
use Rattle.std.proofs.lemmas.List.Folds.{list_any-append}
use Rattle.qm_model.specs.Operations.{Bytes}
use Rattle.qm_model.specs.Keys.{key_lt, least, greatest, successor, predecessor, contains_key, without, between, IsNext, IsPrevious}
use Rattle.qm_model.proofs.LastWrites.{bytes_same, equal_keys}
use Rattle.qm_model.proofs.Maps.{same_key}

pub less : (o : Ordering) → is_lt o ≡ true → o ≡ Less
less Less h = refl
less Equal h = cc
less Greater h = cc

pub lt-irrefl : (a : Bytes) → key_lt a a ≡ false
lt-irrefl a = ap is_lt (tied_itself nat_list_cmp_total a)

pub lt-trans : (a b c : Bytes) → key_lt a b ≡ true → key_lt b c ≡ true → key_lt a c ≡ true
lt-trans a b c p q = ap is_lt (nat_list_cmp_total.trans a b c (less (slice_cmp nat_cmp a b) p) (less (slice_cmp nat_cmp b c) q))

-- of two keys that are not one, one is below the other
pub lt-total : (a b : Bytes) → key_lt a b ≡ false → key_lt b a ≡ false → a ≡ b
lt-total a b p q = cases (slice_cmp nat_cmp a b) refl
  where
    cases : (o : Ordering) → slice_cmp nat_cmp a b ≡ o → a ≡ b
    cases Less h = let t : key_lt a b ≡ true = ap is_lt h in cc
    cases Equal h = equal_keys a b h
    cases Greater h = let t : key_lt b a ≡ true = ap is_lt (nat_list_cmp_total.antisymm b a ∙ ap ordering_reverse h) in cc

-- a key is below all that it begins
pub lt-prefix : (a : Bytes) (c : Bytes) → (c ≡ [] → ⊥) → key_lt a (a ++ c) ≡ true
lt-prefix [] [] h = absurd (h refl)
lt-prefix [] (y ∷ c) h = refl
lt-prefix (x ∷ a) c h = cases (nat_cmp x x) (tied_itself nat_cmp_total x) (lt-prefix a c h)
  where
    cases : (o : Ordering) → o ≡ Equal → is_lt (slice_cmp nat_cmp a (a ++ c)) ≡ true → is_lt (ordering_then o (slice_cmp nat_cmp a (a ++ c))) ≡ true
    cases Less e later = refl
    cases Equal e later = later
    cases Greater e later = cc

-- a strict total order
pub record IsOrder (lt : Bytes → Bytes → Bool) : Type 0 where
  pub irrefl : (a : Bytes) → lt a a ≡ false
  pub trans : (a b c : Bytes) → lt a b ≡ true → lt b c ≡ true → lt a c ≡ true
  pub total : (a b : Bytes) → lt a b ≡ false → lt b a ≡ false → a ≡ b

-- the keys rise, or fall
pub rises : IsOrder key_lt
rises = record { irrefl = lt-irrefl; trans = lt-trans; total = lt-total }

pub falls : IsOrder (λ a b. key_lt b a)
falls = record { irrefl = lt-irrefl; trans = λ a b c p q. lt-trans c b a q p; total = λ a b p q. lt-total a b q p }

-- tests

pub or-false : (a b : Bool) → (a || b) ≡ false → (a ≡ false) × (b ≡ false)
or-false false b h = (refl, h)
or-false true b h = (cc, cc)

pub or-none : (a b : Bool) → a ≡ false → b ≡ false → (a || b) ≡ false
or-none false b p q = q
or-none true b p q = p

pub or-left : (a b : Bool) → a ≡ true → (a || b) ≡ true
or-left true b p = refl
or-left false b p = cc

pub or-right : (a b : Bool) → b ≡ true → (a || b) ≡ true
or-right true b p = refl
or-right false b p = p

pub or-either : (a b : Bool) → (a || b) ≡ true → (a ≡ true) ⊎ (b ≡ true)
or-either true b p = inl refl
or-either false b p = inr p

pub and-true : (a b : Bool) → (a && b) ≡ true → (a ≡ true) × (b ≡ true)
and-true true b h = (refl, h)
and-true false b h = (cc, cc)

pub and-both : (a b : Bool) → a ≡ true → b ≡ true → (a && b) ≡ true
and-both true b p q = q
and-both false b p q = p

pub and-left : (a b : Bool) → a ≡ false → (a && b) ≡ false
and-left false b p = refl
and-left true b p = cc

pub and-right : (a b : Bool) → b ≡ false → (a && b) ≡ false
and-right false b p = refl
and-right true b p = p

pub and-false : (a b : Bool) → a ≡ true → (a && b) ≡ false → b ≡ false
and-false true b p h = h
and-false false b p h = cc

pub false-not : (a : Bool) → (a ≡ true → ⊥) → a ≡ false
false-not false h = refl
false-not true h = absurd (h refl)

pub not-true : (a : Bool) → a ≡ false → not a ≡ true
not-true false p = refl
not-true true p = cc

pub not-false : (a : Bool) → not a ≡ true → a ≡ false
not-false false p = refl
not-false true p = cc

pub apart : (a : Bool) → a ≡ true → a ≡ false → ⊥
apart a p q = cc

-- sets of keys

abbrev pub Has : List Bytes → Bytes → Type 0
Has keys key = contains_key keys key ≡ true

pub Has-first : (k : Bytes) (ks : List Bytes) → Has (k ∷ ks) k
Has-first k ks = or-left (bytes_eq k k) (contains_key ks k) (bytes_same k)

pub Has-later : (k : Bytes) (ks : List Bytes) (x : Bytes) → Has ks x → Has (k ∷ ks) x
Has-later k ks x h = or-right (bytes_eq k x) (contains_key ks x) h

pub Has-either : (k : Bytes) (ks : List Bytes) (x : Bytes) → Has (k ∷ ks) x → (k ≡ x) ⊎ Has ks x
Has-either k ks x h = elim (or-either (bytes_eq k x) (contains_key ks x) h) [ inl e ↦ inl (same_key k x e) | inr e ↦ inr e ]

pub contains-append : (xs ys : List Bytes) (k : Bytes) → contains_key (xs ++ ys) k ≡ (contains_key xs k || contains_key ys k)
contains-append xs ys k = list_any-append (λ x. bytes_eq x k) xs ys

pub contains-filter : (p : Bytes → Bool) (keys : List Bytes) (k : Bytes) → contains_key (filter p keys) k ≡ (contains_key keys k && p k)
contains-filter p [] k = refl
contains-filter p (x ∷ xs) k = cases (p x) (bytes_eq x k) refl refl (contains-filter p xs k)
  where
    cases : (t u : Bool) → p x ≡ t → bytes_eq x k ≡ u → contains_key (filter p xs) k ≡ (contains_key xs k && p k) →
        contains_key (cond t (x ∷ filter p xs) (filter p xs)) k ≡ ((u || contains_key xs k) && p k)
    cases true true at is later = ap (λ b. b || contains_key (filter p xs) k) is ∙ sym (ap p (sym (same_key x k is)) ∙ at)
    cases true false at is later = ap (λ b. b || contains_key (filter p xs) k) is ∙ later
    cases false true at is later =
        let gone : p k ≡ false = ap p (sym (same_key x k is)) ∙ at in
        later ∙ and-right (contains_key xs k) (p k) gone ∙ sym gone
    cases false false at is later = later

pub contains-without : (gone keys : List Bytes) (k : Bytes) → contains_key (without gone keys) k ≡ (contains_key keys k && not (contains_key gone k))
contains-without gone keys k = contains-filter (λ x. not (contains_key gone x)) keys k

-- the first of some keys, and the nearest of them to a key, in either direction

module _ (lt : Bytes → Bytes → Bool) where
  abbrev pub ahead : Bytes → Bytes → Bytes
  ahead a b = if lt b a then b else a

  abbrev pub front : List Bytes → Option Bytes
  front [] = None
  front (k ∷ ks) = Some (fold ahead k ks)

  abbrev pub nearest : List Bytes → Bytes → Option Bytes
  nearest keys key = option_or (front (filter (λ k. lt key k) keys)) (front keys)

  -- on the way round from a key to s, neither of them
  abbrev pub amid : Bytes → Bytes → Bytes → Bool
  amid key s x = if lt key s then lt key x && lt x s else lt key x || lt x s

  -- s is the next of the keys on the way round
  pub record IsNear (keys : List Bytes) (key s : Bytes) : Type 0 where
    pub has : Has keys s
    pub near : (x : Bytes) → Has keys x → amid key s x ≡ false

  pub record IsFront (keys : List Bytes) (m : Bytes) : Type 0 where
    pub has : Has keys m
    pub low : (x : Bytes) → Has keys x → lt x m ≡ false

module _ {lt : Bytes → Bytes → Bool} (o : IsOrder lt) where
  pub lt-back : (a b : Bytes) → lt a b ≡ true → lt b a ≡ false
  lt-back a b p = false-not (lt b a) (λ q. apart (lt a a) (o.trans a b a p q) (o.irrefl a))

  -- a is not above b, nor b above c
  pub upto : (a b c : Bytes) → lt b a ≡ false → lt c b ≡ false → lt c a ≡ false
  upto a b c p q = cases (lt a b) refl
    where
      cases : (t : Bool) → lt a b ≡ t → lt c a ≡ false
      cases true e = false-not (lt c a) (λ r. apart (lt c b) (o.trans c a b r e) q)
      cases false e = subst (λ x. lt c x ≡ false) (sym (o.total a b e p)) q

  ahead-first : (a b : Bytes) → lt a (ahead lt a b) ≡ false
  ahead-first a b = cases (lt b a) refl
    where
      cases : (t : Bool) → lt b a ≡ t → lt a (if t then b else a) ≡ false
      cases true e = lt-back b a e
      cases false e = o.irrefl a

  ahead-second : (a b : Bytes) → lt b (ahead lt a b) ≡ false
  ahead-second a b = cases (lt b a) refl
    where
      cases : (t : Bool) → lt b a ≡ t → lt b (if t then b else a) ≡ false
      cases true e = o.irrefl b
      cases false e = e

  fold-has : (k : Bytes) (ks : List Bytes) → Has (k ∷ ks) (fold (ahead lt) k ks)
  fold-has k [] = Has-first k []
  fold-has k (x ∷ ks) = cases (lt x k) (fold-has (ahead lt k x) ks)
    where
      cases : (t : Bool) → Has ((if t then x else k) ∷ ks) (fold (ahead lt) (if t then x else k) ks) → Has (k ∷ x ∷ ks) (fold (ahead lt) (if t then x else k) ks)
      cases true h = Has-later k (x ∷ ks) (fold (ahead lt) x ks) h
      cases false h =
          let m = fold (ahead lt) k ks in
          elim (Has-either k ks m h) [ inl e ↦ or-left (bytes_eq k m) (contains_key (x ∷ ks) m) (ap (bytes_eq k) (sym e) ∙ bytes_same k) | inr e ↦ Has-later k (x ∷ ks) m (Has-later x ks m e) ]

  fold-low : (k : Bytes) (ks : List Bytes) (y : Bytes) → Has (k ∷ ks) y → lt y (fold (ahead lt) k ks) ≡ false
  fold-low k [] y h = elim (Has-either k [] y h) [ inl e ↦ subst (λ z. lt z k ≡ false) e (o.irrefl k) | inr e ↦ absurd (cc) ]
  fold-low k (x ∷ ks) y h =
      let a = ahead lt k x in
      let m = fold (ahead lt) a ks in
      let low : lt a m ≡ false = fold-low a ks a (Has-first a ks) in
      let rest : (z : Bytes) → Has (a ∷ ks) z → lt z m ≡ false = fold-low a ks in
      elim (Has-either k (x ∷ ks) y h) [
        | inl e ↦ subst (λ z. lt z m ≡ false) e (upto m a k low (ahead-first k x))
        | inr e ↦ elim (Has-either x ks y e) [ inl f ↦ subst (λ z. lt z m ≡ false) f (upto m a x low (ahead-second k x)) | inr f ↦ rest y (Has-later a ks y f) ]
      ]

  pub front-is : (keys : List Bytes) (m : Bytes) → front lt keys ≡ Some m → IsFront lt keys m
  front-is [] m h = absurd (cc)
  front-is (k ∷ ks) m h =
      let same : fold (ahead lt) k ks ≡ m = cc in
      record { has = subst (λ z. Has (k ∷ ks) z) same (fold-has k ks); low = λ x h. subst (λ z. lt x z ≡ false) same (fold-low k ks x h) }

  pub front-none : (keys : List Bytes) → front lt keys ≡ None → (x : Bytes) → contains_key keys x ≡ false
  front-none [] h x = refl
  front-none (k ∷ ks) h x = absurd (cc)

  pub is-front : (keys : List Bytes) (m : Bytes) → IsFront lt keys m → front lt keys ≡ Some m
  is-front keys m is = cases (front lt keys) refl
    where
      cases : (f : Option Bytes) → front lt keys ≡ f → f ≡ Some m
      cases None h = absurd (apart (contains_key keys m) is.has (front-none keys h m))
      cases (Some n) h =
          let other = front-is keys n h in
          ap (λ x. Some x) (o.total n m (is.low n other.has) (other.low m is.has))

  -- what is nearest is next
  pub nearest-is : (keys : List Bytes) (key s : Bytes) → nearest lt keys key ≡ Some s → IsNear lt keys key s
  nearest-is keys key s h = cases (front lt (filter (λ k. lt key k) keys)) refl h
    where
      above : List Bytes
      above = filter (λ k. lt key k) keys

      in_above : (x : Bytes) → Has keys x → lt key x ≡ true → Has (filter (λ k. lt key k) keys) x
      in_above x a b = contains-filter (λ k. lt key k) keys x ∙ and-both (contains_key keys x) (lt key x) a b

      cases : (f : Option Bytes) → front lt (filter (λ k. lt key k) keys) ≡ f → option_or f (front lt keys) ≡ Some s → IsNear lt keys key s
      cases (Some m) is e =
          let first = front-is (filter (λ k. lt key k) keys) m is in
          let same : m ≡ s = cc in
          let both = and-true (contains_key keys m) (lt key m) (sym (contains-filter (λ k. lt key k) keys m) ∙ first.has) in
          let near : (x : Bytes) → Has keys x → amid lt key m x ≡ false =
          λ x at. ap (λ t. if t then lt key x && lt x m else lt key x || lt x m) both.1 ∙ false-not (lt key x && lt x m) (λ r. let parts = and-true (lt key x) (lt x m) r in apart (lt x m) parts.1 (first.low x (in_above x at parts.0))) in
          subst (IsNear lt keys key) same (record { has = both.0; near = near })
      cases None is e =
          let first = front-is keys s e in
          let none : (x : Bytes) → Has keys x → lt key x ≡ false =
          λ x at. false-not (lt key x) (λ r. apart (contains_key (filter (λ k. lt key k) keys) x) (in_above x at r) (front-none (filter (λ k. lt key k) keys) is x)) in
          record {
            has = first.has;
            near = λ x at. ap (λ t. if t then lt key x && lt x s else lt key x || lt x s) (none s first.has) ∙ or-none (lt key x) (lt x s) (none x at) (first.low x at);
          }

  -- if there are keys, one is nearest
  pub nearest-some : (keys : List Bytes) (key k : Bytes) → Has keys k → (s : Bytes) × (nearest lt keys key ≡ Some s)
  nearest-some [] key k h = absurd (cc)
  nearest-some (x ∷ xs) key k h = cases (front lt (filter (λ k. lt key k) (x ∷ xs)))
    where
      cases : (f : Option Bytes) → (s : Bytes) × (option_or f (Some (fold (ahead lt) x xs)) ≡ Some s)
      cases None = (fold (ahead lt) x xs, refl)
      cases (Some m) = (m, refl)

  -- only one is next
  pub next-one : (keys : List Bytes) (key s t : Bytes) → IsNear lt keys key s → IsNear lt keys key t → s ≡ t
  next-one keys key s t p q = cases (lt key s) (lt key t) refl refl (p.near t q.has) (q.near s p.has)
    where
      cases : (a b : Bool) → lt key s ≡ a → lt key t ≡ b → (if a then lt key t && lt t s else lt key t || lt t s) ≡ false → (if b then lt key s && lt s t else lt key s || lt s t) ≡ false → s ≡ t
      cases true true x y h k = o.total s t (and-false (lt key s) (lt s t) x k) (and-false (lt key t) (lt t s) y h)
      cases true false x y h k = absurd (apart (lt key s) x (or-false (lt key s) (lt s t) k).0)
      cases false true x y h k = absurd (apart (lt key t) y (or-false (lt key t) (lt t s) h).0)
      cases false false x y h k = o.total s t (or-false (lt key s) (lt s t) k).1 (or-false (lt key t) (lt t s) h).1

  -- what is next is nearest
  pub is-nearest : (keys : List Bytes) (key s : Bytes) → IsNear lt keys key s → nearest lt keys key ≡ Some s
  is-nearest keys key s is =
      let found = nearest-some keys key s is.has in
      found.1 ∙ ap (λ x. Some x) (next-one keys key found.0 s (nearest-is keys key found.0 found.1) is)

  -- among fewer keys, of which it is one, the next key stays the next
  pub near-fewer : (keys fewer : List Bytes) (key s : Bytes) → ((x : Bytes) → Has fewer x → Has keys x) → Has fewer s → IsNear lt keys key s → IsNear lt fewer key s
  near-fewer keys fewer key s part at is = record { has = at; near = λ x h. is.near x (part x h) }

  -- what is not amid the way to s is not amid that to a key on the way
  nearer : (key s c x : Bytes) → amid lt key s c ≡ true → amid lt key s x ≡ false → amid lt key c x ≡ false
  nearer key s c x h k = cases (lt key s) refl h k
    where
      cases : (t : Bool) → lt key s ≡ t → (if t then lt key c && lt c s else lt key c || lt c s) ≡ true → (if t then lt key x && lt x s else lt key x || lt x s) ≡ false → amid lt key c x ≡ false
      cases true e h k =
          let on = and-true (lt key c) (lt c s) h in
          ap (λ t. if t then lt key x && lt x c else lt key x || lt x c) on.0
          ∙ false-not (lt key x && lt x c) (λ r. let both = and-true (lt key x) (lt x c) r in apart (lt key x && lt x s) (and-both (lt key x) (lt x s) both.0 (o.trans x c s both.1 on.1)) k)
      cases false e h k =
          let out = or-false (lt key x) (lt x s) k in
          inner (lt key c) refl out.0 out.1
        where
          inner : (t : Bool) → lt key c ≡ t → lt key x ≡ false → lt x s ≡ false → (if t then lt key x && lt x c else lt key x || lt x c) ≡ false
          inner true f p q = and-left (lt key x) (lt x c) p
          inner false f p q =
              or-none (lt key x) (lt x c) p (false-not (lt x c) (λ r. elim (or-either (lt key c) (lt c s) h) [ inl g ↦ apart (lt key c) g f | inr g ↦ apart (lt x s) (o.trans x c s r g) q ]))

  -- nor is what is not amid the way to t amid that to s, if t is not amid that
  farther : (key s t x : Bytes) → amid lt key s t ≡ false → amid lt key t x ≡ false → amid lt key s x ≡ false
  farther key s t x h k = cases (lt key s) (lt key t) refl refl h k
    where
      cases : (a b : Bool) → lt key s ≡ a → lt key t ≡ b → (if a then lt key t && lt t s else lt key t || lt t s) ≡ false → (if b then lt key x && lt x t else lt key x || lt x t) ≡ false →
          (if a then lt key x && lt x s else lt key x || lt x s) ≡ false
      cases true true p q h k =
          let past : lt t s ≡ false = and-false (lt key t) (lt t s) q h in
          false-not (lt key x && lt x s) (λ r.
          let both = and-true (lt key x) (lt x s) r in
          let stops : lt x t ≡ false = and-false (lt key x) (lt x t) both.0 k in
          apart (lt x s) both.1 (upto s t x past stops))
      cases true false p q h k = and-left (lt key x) (lt x s) (or-false (lt key x) (lt x t) k).0
      cases false true p q h k = absurd (apart (lt key t) q (or-false (lt key t) (lt t s) h).0)
      cases false false p q h k =
          let out = or-false (lt key x) (lt x t) k in
          or-none (lt key x) (lt x s) out.0 (upto s t x (or-false (lt key t) (lt t s) h).1 out.1)

  amid-end : (key s : Bytes) → amid lt key s s ≡ false
  amid-end key s = cases (lt key s) refl
    where
      cases : (t : Bool) → lt key s ≡ t → (if t then lt key s && lt s s else lt key s || lt s s) ≡ false
      cases true e = and-right (lt key s) (lt s s) (o.irrefl s)
      cases false e = or-none (lt key s) (lt s s) e (o.irrefl s)

  -- among the keys of two lists, the nearer of the next ones
  pub near-append : (xs ys : List Bytes) (key s t : Bytes) → IsNear lt xs key s → IsNear lt ys key t → IsNear lt (xs ++ ys) key (if amid lt key s t then t else s)
  near-append xs ys key s t p q = cases (amid lt key s t) refl
    where
      split : (x : Bytes) → Has (xs ++ ys) x → Has xs x ⊎ Has ys x
      split x h = or-either (contains_key xs x) (contains_key ys x) (sym (contains-append xs ys x) ∙ h)

      cases : (b : Bool) → amid lt key s t ≡ b → IsNear lt (xs ++ ys) key (if b then t else s)
      cases true e = record {
        has = contains-append xs ys t ∙ or-right (contains_key xs t) (contains_key ys t) q.has;
        near = λ x h. elim (split x h) [ inl in_xs ↦ nearer key s t x e (p.near x in_xs) | inr in_ys ↦ q.near x in_ys ];
      }
      cases false e = record {
        has = contains-append xs ys s ∙ or-left (contains_key xs s) (contains_key ys s) p.has;
        near = λ x h. elim (split x h) [ inl in_xs ↦ p.near x in_xs | inr in_ys ↦ farther key s t x e (q.near x in_ys) ];
      }

  -- among one key it is next
  pub near-only : (c key : Bytes) → IsNear lt (c ∷ []) key c
  near-only c key = record {
    has = Has-first c [];
    near = λ x h. elim (Has-either c [] x h) [ inl e ↦ subst (λ z. amid lt key c z ≡ false) e (amid-end key c) | inr e ↦ absurd (cc) ];
  }

  -- a new key is next if it is on the way to what was next
  pub near-new : (keys : List Bytes) (key s c : Bytes) → IsNear lt keys key s → IsNear lt (c ∷ keys) key (if amid lt key s c then c else s)
  near-new keys key s c is = swap (near-append keys (c ∷ []) key s c is (near-only c key))
    where
      swap : {t : Bytes} → IsNear lt (keys ++ c ∷ []) key t → IsNear lt (c ∷ keys) key t
      swap {t} near = record {
        has = there t near.has;
        near = λ x h. near.near x (back x h);
      }
        where
          there : (x : Bytes) → Has (keys ++ c ∷ []) x → Has (c ∷ keys) x
          there x h = elim (or-either (contains_key keys x) (contains_key (c ∷ []) x) (sym (contains-append keys (c ∷ []) x) ∙ h)) [
            | inl e ↦ Has-later c keys x e
            | inr e ↦ elim (Has-either c [] x e) [ inl f ↦ or-left (bytes_eq c x) (contains_key keys x) (ap (bytes_eq c) (sym f) ∙ bytes_same c) | inr f ↦ absurd (cc) ]
          ]

          back : (x : Bytes) → Has (c ∷ keys) x → Has (keys ++ c ∷ []) x
          back x h =
              contains-append keys (c ∷ []) x
              ∙ elim (or-either (bytes_eq c x) (contains_key keys x) h) [
                | inl e ↦ or-right (contains_key keys x) (contains_key (c ∷ []) x) (or-left (bytes_eq c x) false e)
                | inr e ↦ or-left (contains_key keys x) (contains_key (c ∷ []) x) e
              ]

  has-rest : (keys : List Bytes) (d x : Bytes) → Has keys x → bytes_eq x d ≡ false → Has (without (d ∷ []) keys) x
  has-rest keys d x at other =
      contains-without (d ∷ []) keys x ∙ and-both (contains_key keys x) (not (contains_key (d ∷ []) x)) at (not-true (contains_key (d ∷ []) x) (or-none (bytes_eq d x) false (false-not (bytes_eq d x) (λ e. apart (bytes_eq x d) (ap (bytes_eq x) (same_key d x e) ∙ bytes_same x) other)) refl))

  in-rest : (keys : List Bytes) (d x : Bytes) → Has (without (d ∷ []) keys) x → Has keys x × (bytes_eq d x ≡ false)
  in-rest keys d x h =
      let both = and-true (contains_key keys x) (not (contains_key (d ∷ []) x)) (sym (contains-without (d ∷ []) keys x) ∙ h) in
      (both.0, (or-false (bytes_eq d x) false (not-false (contains_key (d ∷ []) x) both.1)).0)

  -- without another key it stays
  pub near-other : (keys : List Bytes) (key s d : Bytes) → IsNear lt keys key s → bytes_eq s d ≡ false → IsNear lt (without (d ∷ []) keys) key s
  near-other keys key s d is other = near-fewer keys (without (d ∷ []) keys) key s (λ x h. (in-rest keys d x h).0) (has-rest keys d s is.has other) is

  -- what differs from d and is not below it is above it
  above : (d x : Bytes) → bytes_eq d x ≡ false → lt x d ≡ false → lt d x ≡ true
  above d x other low = cases (lt d x) refl
    where
      cases : (t : Bool) → lt d x ≡ t → lt d x ≡ true
      cases true e = e
      cases false e = absurd (apart (bytes_eq d x) (ap (bytes_eq d) (sym (o.total d x e low)) ∙ bytes_same d) other)

  below : (d x : Bytes) → bytes_eq d x ≡ false → lt d x ≡ false → lt x d ≡ true
  below d x other high = cases (lt x d) refl
    where
      cases : (t : Bool) → lt x d ≡ t → lt x d ≡ true
      cases true e = e
      cases false e = absurd (apart (bytes_eq d x) (ap (bytes_eq d) (sym (o.total d x high e)) ∙ bytes_same d) other)

  -- without the next key the one after it is next
  beyond : (key d t x : Bytes) → amid lt key d t ≡ false → amid lt key d x ≡ false → amid lt d t x ≡ false → bytes_eq d t ≡ false → bytes_eq d x ≡ false → amid lt key t x ≡ false
  beyond key d t x h k m dt dx = cases (lt key d) (lt d t) refl refl h k m
    where
      cases : (a b : Bool) → lt key d ≡ a → lt d t ≡ b → (if a then lt key t && lt t d else lt key t || lt t d) ≡ false → (if a then lt key x && lt x d else lt key x || lt x d) ≡ false →
          (if b then lt d x && lt x t else lt d x || lt x t) ≡ false → amid lt key t x ≡ false
      cases true true p q h k m =
          ap (λ b. if b then lt key x && lt x t else lt key x || lt x t) (o.trans key d t p q)
          ∙ false-not (lt key x && lt x t) (λ r.
          let both = and-true (lt key x) (lt x t) r in
          let up : lt d x ≡ true = above d x dx (and-false (lt key x) (lt x d) both.0 k) in
          apart (lt d x && lt x t) (and-both (lt d x) (lt x t) up both.1) m)
      cases true false p q h k m =
          let out = or-false (lt d x) (lt x t) m in
          let down : lt t d ≡ true = below d t dt q in
          let low : lt key t ≡ false = false-not (lt key t) (λ r. apart (lt key t && lt t d) (and-both (lt key t) (lt t d) r down) h) in
          let down_x : lt x d ≡ true = below d x dx out.0 in
          let low_x : lt key x ≡ false = false-not (lt key x) (λ r. apart (lt key x && lt x d) (and-both (lt key x) (lt x d) r down_x) k) in
          ap (λ b. if b then lt key x && lt x t else lt key x || lt x t) low ∙ or-none (lt key x) (lt x t) low_x out.1
      cases false true p q h k m =
          let low = (or-false (lt key t) (lt t d) h).0 in
          let out = or-false (lt key x) (lt x d) k in
          let up : lt d x ≡ true = above d x dx out.1 in
          ap (λ b. if b then lt key x && lt x t else lt key x || lt x t) low ∙ or-none (lt key x) (lt x t) out.0 (and-false (lt d x) (lt x t) up m)
      cases false false p q h k m =
          let out = or-false (lt key t) (lt t d) h in
          absurd (apart (lt d t) (above d t dt out.1) q)

  turned_eq : (a b : Bytes) → bytes_eq a b ≡ false → bytes_eq b a ≡ false
  turned_eq a b h = false-not (bytes_eq b a) (λ e. apart (bytes_eq a b) (ap (bytes_eq a) (same_key b a e) ∙ bytes_same a) h)

  pub near-gone : (keys : List Bytes) (key d t : Bytes) → IsNear lt keys key d → IsNear lt keys d t → bytes_eq t d ≡ false → IsNear lt (without (d ∷ []) keys) key t
  near-gone keys key d t first second other = record {
    has = has-rest keys d t second.has other;
    near = λ x h. let rest = in-rest keys d x h in beyond key d t x (first.near t second.has) (first.near x rest.0) (second.near x rest.0) (turned_eq t d other) rest.1;
  }

  -- among fewer keys, without the next one, the one after it is next
  pub near-skips : (keys fewer : List Bytes) (key d t : Bytes) → ((x : Bytes) → Has fewer x → Has keys x) → IsNear lt keys key d → contains_key fewer d ≡ false → IsNear lt fewer d t → IsNear lt fewer key t
  near-skips keys fewer key d t part first gone second = record {
    has = second.has;
    near = λ x h. beyond key d t x (first.near t (part t second.has)) (first.near x (part x h)) (second.near x h) (differs t second.has) (differs x h);
  }
    where
      differs : (x : Bytes) → Has fewer x → bytes_eq d x ≡ false
      differs x h = false-not (bytes_eq d x) (λ e. apart (contains_key fewer d) (ap (contains_key fewer) (same_key d x e) ∙ h) gone)

-- successors and predecessors

pub least-front : (keys : List Bytes) → least keys ≡ front key_lt keys
least-front [] = refl
least-front (k ∷ ks) = refl

pub greatest-front : (keys : List Bytes) → greatest keys ≡ front (λ a b. key_lt b a) keys
greatest-front [] = refl
greatest-front (k ∷ ks) = refl

pub successor-nearest : (keys : List Bytes) (key : Bytes) → successor keys key ≡ nearest key_lt keys key
successor-nearest keys key =
    ap (λ f. option_or f (least keys)) (least-front (filter (λ k. key_lt key k) keys)) ∙ ap (option_or (front key_lt (filter (λ k. key_lt key k) keys))) (least-front keys)

pub predecessor-nearest : (keys : List Bytes) (key : Bytes) → predecessor keys key ≡ nearest (λ a b. key_lt b a) keys key
predecessor-nearest keys key =
    ap (λ f. option_or f (greatest keys)) (greatest-front (filter (λ k. key_lt k key) keys)) ∙ ap (option_or (front (λ a b. key_lt b a) (filter (λ k. key_lt k key) keys))) (greatest-front keys)

turned : (t a b : Bool) → (if t then a && b else a || b) ≡ (if t then b && a else b || a)
turned true true true = refl
turned true true false = refl
turned true false true = refl
turned true false false = refl
turned false true true = refl
turned false true false = refl
turned false false true = refl
turned false false false = refl

-- the way down from a key
amid-turned : (key p x : Bytes) → amid (λ a b. key_lt b a) key p x ≡ between p key x
amid-turned key p x = turned (key_lt p key) (key_lt x key) (key_lt p x)

to_next : {keys : List Bytes} {key s : Bytes} → IsNear key_lt keys key s → IsNext keys key s
to_next is = record { has = is.has; near = is.near }

from_next : {keys : List Bytes} {key s : Bytes} → IsNext keys key s → IsNear key_lt keys key s
from_next is = record { has = is.has; near = is.near }

to_previous : {keys : List Bytes} {key p : Bytes} → IsNear (λ a b. key_lt b a) keys key p → IsPrevious keys key p
to_previous {keys} {key} {p} is = record { has = is.has; near = λ x h. sym (amid-turned key p x) ∙ is.near x h }

from_previous : {keys : List Bytes} {key p : Bytes} → IsPrevious keys key p → IsNear (λ a b. key_lt b a) keys key p
from_previous {keys} {key} {p} is = record { has = is.has; near = λ x h. amid-turned key p x ∙ is.near x h }

pub successor-is : (keys : List Bytes) (key s : Bytes) → successor keys key ≡ Some s → IsNext keys key s
successor-is keys key s h = to_next (nearest-is rises keys key s (sym (successor-nearest keys key) ∙ h))

pub is-successor : (keys : List Bytes) (key s : Bytes) → IsNext keys key s → successor keys key ≡ Some s
is-successor keys key s is = successor-nearest keys key ∙ is-nearest rises keys key s (from_next is)

pub successor-some : (keys : List Bytes) (key k : Bytes) → Has keys k → (s : Bytes) × (successor keys key ≡ Some s)
successor-some keys key k h = let found = nearest-some rises keys key k h in (found.0, successor-nearest keys key ∙ found.1)

pub predecessor-is : (keys : List Bytes) (key p : Bytes) → predecessor keys key ≡ Some p → IsPrevious keys key p
predecessor-is keys key p h = to_previous (nearest-is falls keys key p (sym (predecessor-nearest keys key) ∙ h))

pub is-predecessor : (keys : List Bytes) (key p : Bytes) → IsPrevious keys key p → predecessor keys key ≡ Some p
is-predecessor keys key p is = predecessor-nearest keys key ∙ is-nearest falls keys key p (from_previous is)

pub predecessor-some : (keys : List Bytes) (key k : Bytes) → Has keys k → (p : Bytes) × (predecessor keys key ≡ Some p)
predecessor-some keys key k h = let found = nearest-some falls keys key k h in (found.0, predecessor-nearest keys key ∙ found.1)

-- if there is none there are no keys
pub successor-none : (keys : List Bytes) (key : Bytes) → successor keys key ≡ None → (x : Bytes) → contains_key keys x ≡ false
successor-none keys key h x = false-not (contains_key keys x) (λ at. let found = successor-some keys key x at in absurd (some (sym h ∙ found.1)))
  where
    some : {s : Bytes} → None ≡ Some s → ⊥
    some e = cc

pub predecessor-none : (keys : List Bytes) (key : Bytes) → predecessor keys key ≡ None → (x : Bytes) → contains_key keys x ≡ false
predecessor-none keys key h x = false-not (contains_key keys x) (λ at. let found = predecessor-some keys key x at in absurd (some (sym h ∙ found.1)))
  where
    some : {s : Bytes} → None ≡ Some s → ⊥
    some e = cc

-- among fewer keys, of which it is one, the next key stays the next
pub after-fewer : (keys fewer : List Bytes) (key s : Bytes) → ((x : Bytes) → Has fewer x → Has keys x) → Has fewer s → IsNext keys key s → IsNext fewer key s
after-fewer keys fewer key s part at is = record { has = at; near = λ x h. is.near x (part x h) }

pub before-fewer : (keys fewer : List Bytes) (key p : Bytes) → ((x : Bytes) → Has fewer x → Has keys x) → Has fewer p → IsPrevious keys key p → IsPrevious fewer key p
before-fewer keys fewer key p part at is = record { has = at; near = λ x h. is.near x (part x h) }

-- a key whose next is s stands next before s, among any of those keys that have it
pub after-before : (keys fewer : List Bytes) (key s : Bytes) → ((x : Bytes) → Has fewer x → Has keys x) → Has fewer key → IsNext keys key s → IsPrevious fewer s key
after-before keys fewer key s part at is = record { has = at; near = λ x h. is.near x (part x h) }

pub before-after : (keys fewer : List Bytes) (key p : Bytes) → ((x : Bytes) → Has fewer x → Has keys x) → Has fewer key → IsPrevious keys key p → IsNext fewer p key
before-after keys fewer key p part at is = record { has = at; near = λ x h. is.near x (part x h) }

-- of two keys that are there, one is the successor of the other if that is its predecessor
pub successor-predecessor : (keys : List Bytes) (key s : Bytes) → Has keys key → successor keys key ≡ Some s → predecessor keys s ≡ Some key
successor-predecessor keys key s at h = is-predecessor keys s key (after-before keys keys key s (λ x h. h) at (successor-is keys key s h))

pub predecessor-successor : (keys : List Bytes) (key p : Bytes) → Has keys key → predecessor keys key ≡ Some p → successor keys p ≡ Some key
predecessor-successor keys key p at h = is-successor keys p key (before-after keys keys key p (λ x h. h) at (predecessor-is keys key p h))

-- which key is next depends on which keys there are alone
abbrev pub SameKeys : List Bytes → List Bytes → Type 0
SameKeys xs ys = (x : Bytes) → contains_key xs x ≡ contains_key ys x

pub successor-same : (xs ys : List Bytes) (key : Bytes) → SameKeys xs ys → successor xs key ≡ successor ys key
successor-same xs ys key same = cases (successor xs key) (successor ys key) refl refl
  where
    cases : (a b : Option Bytes) → successor xs key ≡ a → successor ys key ≡ b → a ≡ b
    cases None None p q = refl
    cases None (Some t) p q =
        let is = successor-is ys key t q in
        absurd (apart (contains_key ys t) is.has (sym (same t) ∙ successor-none xs key p t))
    cases (Some s) b p q =
        let is = successor-is xs key s p in
        sym (is-successor ys key s (after-fewer xs ys key s (λ x h. same x ∙ h) (sym (same s) ∙ is.has) is)) ∙ q

pub predecessor-same : (xs ys : List Bytes) (key : Bytes) → SameKeys xs ys → predecessor xs key ≡ predecessor ys key
predecessor-same xs ys key same = cases (predecessor xs key) (predecessor ys key) refl refl
  where
    cases : (a b : Option Bytes) → predecessor xs key ≡ a → predecessor ys key ≡ b → a ≡ b
    cases None None p q = refl
    cases None (Some t) p q =
        let is = predecessor-is ys key t q in
        absurd (apart (contains_key ys t) is.has (sym (same t) ∙ predecessor-none xs key p t))
    cases (Some s) b p q =
        let is = predecessor-is xs key s p in
        sym (is-predecessor ys key s (before-fewer xs ys key s (λ x h. same x ∙ h) (sym (same s) ∙ is.has) is)) ∙ q

-- if no key that is gone, nor one that is new, has the key as the one before it among those kept, its next key stays
pub successor-kept : (all kept : List Bytes) (key : Bytes) → ((x : Bytes) → Has kept x → Has all x) → Has kept key
    → ((x : Bytes) → Has all x → contains_key kept x ≡ false → predecessor kept x ≡ Some key → ⊥) → successor all key ≡ successor kept key
successor-kept all kept key part at clear = cases (contains_key kept found.0) refl
  where
    found : (s : Bytes) × (successor all key ≡ Some s)
    found = successor-some all key key (part key at)

    cases : (t : Bool) → contains_key kept found.0 ≡ t → successor all key ≡ successor kept key
    cases true h = found.1 ∙ sym (is-successor kept key found.0 (after-fewer all kept key found.0 part h (successor-is all key found.0 found.1)))
    cases false h =
        let is = successor-is all key found.0 found.1 in
        absurd (clear found.0 is.has h (is-predecessor kept found.0 key (after-before all kept key found.0 part at is)))

-- one key

pub successor-only : (c key : Bytes) → successor (c ∷ []) key ≡ Some c
successor-only c key = is-successor (c ∷ []) key c (to_next (near-only rises c key))

pub predecessor-only : (c key : Bytes) → predecessor (c ∷ []) key ≡ Some c
predecessor-only c key = is-predecessor (c ∷ []) key c (to_previous (near-only falls c key))

-- a new key is the next if it is on the way

pub successor-new : (keys : List Bytes) (key s c : Bytes) → successor keys key ≡ Some s → successor (c ∷ keys) key ≡ Some (if between key s c then c else s)
successor-new keys key s c h = is-successor (c ∷ keys) key (if between key s c then c else s) (to_next (near-new rises keys key s c (from_next (successor-is keys key s h))))

pub predecessor-new : (keys : List Bytes) (key p c : Bytes) → predecessor keys key ≡ Some p → predecessor (c ∷ keys) key ≡ Some (if between p key c then c else p)
predecessor-new keys key p c h =
    is-predecessor (c ∷ keys) key (if amid (λ a b. key_lt b a) key p c then c else p) (to_previous (near-new falls keys key p c (from_previous (predecessor-is keys key p h))))
    ∙ ap (λ t. Some (if t then c else p)) (amid-turned key p c)

-- among the keys of two lists the nearer of the next ones

pub successor-append : (xs ys : List Bytes) (key s t : Bytes) → successor xs key ≡ Some s → successor ys key ≡ Some t → successor (xs ++ ys) key ≡ Some (if between key s t then t else s)
successor-append xs ys key s t h k =
    is-successor (xs ++ ys) key (if between key s t then t else s) (to_next (near-append rises xs ys key s t (from_next (successor-is xs key s h)) (from_next (successor-is ys key t k))))

pub predecessor-append : (xs ys : List Bytes) (key p q : Bytes) → predecessor xs key ≡ Some p → predecessor ys key ≡ Some q → predecessor (xs ++ ys) key ≡ Some (if between p key q then q else p)
predecessor-append xs ys key p q h k =
    is-predecessor (xs ++ ys) key (if amid (λ a b. key_lt b a) key p q then q else p)
    (to_previous (near-append falls xs ys key p q (from_previous (predecessor-is xs key p h)) (from_previous (predecessor-is ys key q k))))
    ∙ ap (λ t. Some (if t then q else p)) (amid-turned key p q)

-- if a key goes that is not the next one, that one stays; if the next one goes, the one after it is next

pub successor-other : (keys : List Bytes) (key s d : Bytes) → successor keys key ≡ Some s → bytes_eq s d ≡ false → successor (without (d ∷ []) keys) key ≡ Some s
successor-other keys key s d h other = is-successor (without (d ∷ []) keys) key s (to_next (near-other rises keys key s d (from_next (successor-is keys key s h)) other))

pub predecessor-other : (keys : List Bytes) (key p d : Bytes) → predecessor keys key ≡ Some p → bytes_eq p d ≡ false → predecessor (without (d ∷ []) keys) key ≡ Some p
predecessor-other keys key p d h other = is-predecessor (without (d ∷ []) keys) key p (to_previous (near-other falls keys key p d (from_previous (predecessor-is keys key p h)) other))

pub successor-gone : (keys : List Bytes) (key d t : Bytes) → successor keys key ≡ Some d → successor keys d ≡ Some t → bytes_eq t d ≡ false → successor (without (d ∷ []) keys) key ≡ Some t
successor-gone keys key d t h k other =
    is-successor (without (d ∷ []) keys) key t (to_next (near-gone rises keys key d t (from_next (successor-is keys key d h)) (from_next (successor-is keys d t k)) other))

pub predecessor-gone : (keys : List Bytes) (key d t : Bytes) → predecessor keys key ≡ Some d → predecessor keys d ≡ Some t → bytes_eq t d ≡ false → predecessor (without (d ∷ []) keys) key ≡ Some t
predecessor-gone keys key d t h k other =
    is-predecessor (without (d ∷ []) keys) key t (to_previous (near-gone falls keys key d t (from_previous (predecessor-is keys key d h)) (from_previous (predecessor-is keys d t k)) other))

-- so the next of fewer keys is found by going on from one key to the next

pub successor-skips : (keys fewer : List Bytes) (key d : Bytes) → ((x : Bytes) → Has fewer x → Has keys x) → successor keys key ≡ Some d → contains_key fewer d ≡ false → successor fewer key ≡ successor fewer d
successor-skips keys fewer key d part h gone = cases (successor fewer d) (successor fewer key) refl refl
  where
    cases : (a b : Option Bytes) → successor fewer d ≡ a → successor fewer key ≡ b → b ≡ a
    cases (Some t) b p q =
        sym q ∙ is-successor fewer key t (to_next (near-skips rises keys fewer key d t part (from_next (successor-is keys key d h)) gone (from_next (successor-is fewer d t p))))
    cases None None p q = refl
    cases None (Some t) p q = let is = successor-is fewer key t q in absurd (apart (contains_key fewer t) is.has (successor-none fewer d p t))

pub predecessor-skips : (keys fewer : List Bytes) (key d : Bytes) → ((x : Bytes) → Has fewer x → Has keys x) → predecessor keys key ≡ Some d → contains_key fewer d ≡ false → predecessor fewer key ≡ predecessor fewer d
predecessor-skips keys fewer key d part h gone = cases (predecessor fewer d) (predecessor fewer key) refl refl
  where
    cases : (a b : Option Bytes) → predecessor fewer d ≡ a → predecessor fewer key ≡ b → b ≡ a
    cases (Some t) b p q =
        sym q ∙ is-predecessor fewer key t (to_previous (near-skips falls keys fewer key d t part (from_previous (predecessor-is keys key d h)) gone (from_previous (predecessor-is fewer d t p))))
    cases None None p q = refl
    cases None (Some t) p q = let is = predecessor-is fewer key t q in absurd (apart (contains_key fewer t) is.has (predecessor-none fewer d p t))

-- least and greatest

pub least-is : (keys : List Bytes) (m : Bytes) → least keys ≡ Some m → IsFront key_lt keys m
least-is keys m h = front-is rises keys m (sym (least-front keys) ∙ h)

pub is-least : (keys : List Bytes) (m : Bytes) → IsFront key_lt keys m → least keys ≡ Some m
is-least keys m is = least-front keys ∙ is-front rises keys m is

pub greatest-is : (keys : List Bytes) (m : Bytes) → greatest keys ≡ Some m → IsFront (λ a b. key_lt b a) keys m
greatest-is keys m h = front-is falls keys m (sym (greatest-front keys) ∙ h)

pub is-greatest : (keys : List Bytes) (m : Bytes) → IsFront (λ a b. key_lt b a) keys m → greatest keys ≡ Some m
is-greatest keys m is = greatest-front keys ∙ is-front falls keys m is
