-- Keys in key order, and keys once.
use Rattle.std.proofs.Common.{◌+◌, Some, ◌&&◌, ◌⊎◌, ◌≡◌, ℕ, Bool, true, false, List, [], ◌∷◌, ◌++◌, length, get_or, zero, suc, ◌<◌, add-one, refl, ap, sym, ◌∙◌, ◌||◌, inl, inr, subst, arith, append-nil}
use Rattle.std.specs.Prelude.{filter, not, cond, fold, if◌then◌else◌, bytes_eq, IsPermutation}
use Rattle.std.specs.List.{AllByRecursion as Each, IsDistinct, list_any}
use Rattle.std.specs.List.Sorted.{IsStrictlySortedBy, IsSortedBy}
use Rattle.std.specs.Cmp.{IsEquivalence}
use Rattle.std.specs.Cmp.Lexicographic.{slice_cmp}
use Rattle.std.specs.Ordering.{nat_cmp, is_lt}
use Rattle.std.specs.declared.cmp.Ordering.TheVariants.{Less}
use Rattle.std.proofs.lemmas.Cmp.{nat_list_eq_equiv}
use Rattle.std.proofs.lemmas.List.Sorted.{IsPermutation-refl, IsPermutation-cons, IsPermutation-trans, IsPermutation-sym, length_permutation, IsPermutation-middle, IsPermutation-append_right, IsPermutation-swap}
use Rattle.std.proofs.lemmas.Map.Keys.{IsDistinct-push, IsDistinct-IsPermutation, sorted_head, sorted_tail}
use Rattle.qm_model.specs.Operations.{Bytes}
use Rattle.qm_model.specs.Keys.{key_lt, successor, predecessor, contains_key, once, put_key, by_key}
use Rattle.qm_model.proofs.LastWrites.{bytes_same}
use Rattle.qm_model.proofs.Maps.{same_key}
use Rattle.qm_model.proofs.KeyOrder.{Has, Has-first, Has-later, Has-either, SameKeys, less, lt-irrefl, lt-trans, lt-total, rises, lt-back, or-false, or-either, or-right, or-none, and-left, and-right, false-not, apart, contains-append, is-successor, is-predecessor}
use Rattle.qm_model.proofs.OrderedLists.{Each-all, Each-filter, Each-append, contains-once}
use Rattle.qm_model.proofs.OrderedMoves.{contains-by_key}

-- the keys do not fall
abbrev pub NeverFalls : List Bytes → Type 0
NeverFalls [] = Unit {0}
NeverFalls (k ∷ ks) = Each (λ x. key_lt x k ≡ false) ks × NeverFalls ks

put_key-each : (Q : Bytes → Type 0) (ks : List Bytes) (key : Bytes) → Q key → Each Q ks → Each Q (put_key ks key)
put_key-each Q [] key here all = (here, tt)
put_key-each Q (k ∷ ks) key here all = cases (key_lt key k) (put_key-each Q ks key here all.1)
  where
    cases : (t : Bool) → Each Q (put_key ks key) → Each Q (if t then key ∷ k ∷ ks else k ∷ put_key ks key)
    cases true later = (here, all)
    cases false later = (all.0, later)

put_key-up : (ks : List Bytes) (key : Bytes) → NeverFalls ks → NeverFalls (put_key ks key)
put_key-up [] key up = (tt, tt)
put_key-up (k ∷ ks) key up = cases (key_lt key k) refl (put_key-up ks key up.1)
  where
    cases : (t : Bool) → key_lt key k ≡ t → NeverFalls (put_key ks key) → NeverFalls (if t then key ∷ k ∷ ks else k ∷ put_key ks key)
    cases true at later =
        ((lt-back rises key k at, Each-all (λ x. key_lt x k ≡ false) (λ x. key_lt x key ≡ false) (λ x h. false-not (key_lt x key) (λ r. apart (key_lt x k) (lt-trans x key k r at) h)) ks up.0), up)
    cases false at later = (put_key-each (λ x. key_lt x k ≡ false) ks key at up.0, later)

fold-up : (ks seen : List Bytes) → NeverFalls seen → NeverFalls (fold put_key seen ks)
fold-up [] seen up = up
fold-up (k ∷ ks) seen up = fold-up ks (put_key seen k) (put_key-up seen k up)

-- keys in key order do not fall
pub by_key-up : (keys : List Bytes) → NeverFalls (by_key keys)
by_key-up keys = fold-up keys [] tt

up-at : (ks : List Bytes) → NeverFalls ks → (k : ℕ) (d : Bytes) → suc k < length ks → key_lt (get_or ks (suc k) d) (get_or ks k d) ≡ false
up-at [] up k d h = absurd (omega (arith, h))
up-at (x ∷ []) up k d h = absurd (omega (arith, h))
up-at (x ∷ y ∷ ks) up zero d h = up.0.0
up-at (x ∷ y ∷ ks) up (suc k) d h = up-at (y ∷ ks) up.1 k d (omega (arith, h))

pub by_key-sorted_by : (keys : List Bytes) → IsSortedBy key_lt (by_key keys)
by_key-sorted_by keys = λ k d low high. rw add-one (up-at (by_key keys) (by_key-up keys) k d (omega (arith, high)))

-- and are the same keys in another order
put_key-permutation : (ks : List Bytes) (key : Bytes) → IsPermutation (key ∷ ks) (put_key ks key)
put_key-permutation [] key = IsPermutation-refl (key ∷ [])
put_key-permutation (k ∷ ks) key = cases (key_lt key k) (put_key-permutation ks key)
  where
    two : IsPermutation (key ∷ k ∷ ks) (k ∷ key ∷ ks)
    two = IsPermutation-swap (key ∷ k ∷ ks) (k ∷ key ∷ ks) 0 1 (omega arith) (omega arith) refl

    cases : (t : Bool) → IsPermutation (key ∷ ks) (put_key ks key) → IsPermutation (key ∷ k ∷ ks) (if t then key ∷ k ∷ ks else k ∷ put_key ks key)
    cases true later = IsPermutation-refl (key ∷ k ∷ ks)
    cases false later = IsPermutation-trans (key ∷ k ∷ ks) (k ∷ key ∷ ks) (k ∷ put_key ks key) two (IsPermutation-cons k (key ∷ ks) (put_key ks key) later)

fold-permutation : (ks seen : List Bytes) → IsPermutation (ks ++ seen) (fold put_key seen ks)
fold-permutation [] seen = IsPermutation-refl seen
fold-permutation (k ∷ ks) seen =
    IsPermutation-trans (k ∷ (ks ++ seen)) (ks ++ k ∷ seen) (fold put_key (put_key seen k) ks)
    (IsPermutation-sym (ks ++ k ∷ seen) (k ∷ (ks ++ seen)) (IsPermutation-middle ks k seen))
    (IsPermutation-trans (ks ++ k ∷ seen) (ks ++ put_key seen k) (fold put_key (put_key seen k) ks)
    (IsPermutation-append_right ks (k ∷ seen) (put_key seen k) (put_key-permutation seen k)) (fold-permutation ks (put_key seen k)))

pub by_key-permutation : (keys : List Bytes) → IsPermutation keys (by_key keys)
by_key-permutation keys = subst (λ t. IsPermutation t (by_key keys)) (append-nil keys) (fold-permutation keys [])

same_laws : IsEquivalence bytes_eq
same_laws = nat_list_eq_equiv

-- keys that differ rise
up-rises : (ks : List Bytes) → NeverFalls ks → IsDistinct bytes_eq ks → IsStrictlySortedBy (slice_cmp nat_cmp) ks
unfolding IsDistinct IsStrictlySortedBy
up-rises [] up distinct = tt
up-rises (k ∷ ks) up distinct = (each ks up.0 distinct.0, up-rises ks up.1 distinct.1)
  where
    below : (x : Bytes) → key_lt x k ≡ false → bytes_eq k x ≡ false → slice_cmp nat_cmp k x ≡ Less
    below x low other = less (slice_cmp nat_cmp k x) (cases (key_lt k x) refl)
      where
        cases : (t : Bool) → key_lt k x ≡ t → key_lt k x ≡ true
        cases true e = e
        cases false e = absurd (apart (bytes_eq k x) (ap (bytes_eq k) (sym (lt-total k x e low)) ∙ bytes_same k) other)

    each : (xs : List Bytes) → Each (λ x. key_lt x k ≡ false) xs → Each (λ x. bytes_eq k x ≡ false) xs → Each (λ x. slice_cmp nat_cmp k x ≡ Less) xs
    each [] p q = tt
    each (x ∷ xs) p q = (below x p.0 q.0, each xs p.1 q.1)

pub by_key-sorted : (keys : List Bytes) → IsDistinct bytes_eq keys → IsStrictlySortedBy (slice_cmp nat_cmp) (by_key keys)
by_key-sorted keys distinct = up-rises (by_key keys) (by_key-up keys) (IsDistinct-IsPermutation bytes_eq same_laws.symm keys (by_key keys) (by_key-permutation keys) distinct)

-- each key once

turned_any : (key : Bytes) (ks : List Bytes) → list_any (bytes_eq key) ks ≡ contains_key ks key
turned_any key [] = refl
turned_any key (k ∷ ks) = ap (λ t. t || list_any (bytes_eq key) ks) (same_laws.symm key k) ∙ ap (λ t. bytes_eq k key || t) (turned_any key ks)

fold-distinct : (keys seen : List Bytes) → IsDistinct bytes_eq seen → IsDistinct bytes_eq (fold (λ seen k. if contains_key seen k then seen else seen ++ k ∷ []) seen keys)
fold-distinct [] seen h = h
fold-distinct (k ∷ ks) seen h = cases (contains_key seen k) refl (fold-distinct ks)
  where
    cases : (t : Bool) → contains_key seen k ≡ t →
        ((s : List Bytes) → IsDistinct bytes_eq s → IsDistinct bytes_eq (fold (λ seen k. if contains_key seen k then seen else seen ++ k ∷ []) s ks)) →
        IsDistinct bytes_eq (fold (λ seen k. if contains_key seen k then seen else seen ++ k ∷ []) (if t then seen else seen ++ k ∷ []) ks)
    cases true at later = later seen h
    cases false at later = later (seen ++ k ∷ []) (IsDistinct-push same_laws seen k h (turned_any k seen ∙ at))

pub once-distinct : (keys : List Bytes) → IsDistinct bytes_eq (once keys)
unfolding IsDistinct
once-distinct keys = fold-distinct keys [] tt

-- rising keys are known by which they are

above-all : (k : Bytes) (ks : List Bytes) → Each (λ x. slice_cmp nat_cmp k x ≡ Less) ks → (x : Bytes) → Has ks x → key_lt k x ≡ true
above-all k [] h x at = absurd (cc)
above-all k (y ∷ ks) h x at = elim (Has-either y ks x at) [ inl e ↦ subst (λ z. key_lt k z ≡ true) e (ap is_lt h.0) | inr e ↦ above-all k ks h.1 x e ]

not_among : (k : Bytes) (ks : List Bytes) → Each (λ x. slice_cmp nat_cmp k x ≡ Less) ks → contains_key ks k ≡ false
not_among k ks h = false-not (contains_key ks k) (λ at. apart (key_lt k k) (above-all k ks h k at) (lt-irrefl k))

pub rising-same : (xs ys : List Bytes) → IsStrictlySortedBy (slice_cmp nat_cmp) xs → IsStrictlySortedBy (slice_cmp nat_cmp) ys → SameKeys xs ys → xs ≡ ys
rising-same [] [] p q same = refl
rising-same [] (y ∷ ys) p q same = absurd (apart (contains_key (y ∷ ys) y) (Has-first y ys) (sym (same y)))
rising-same (x ∷ xs) [] p q same = absurd (apart (contains_key (x ∷ xs) x) (Has-first x xs) (same x))
rising-same (x ∷ xs) (y ∷ ys) p q same =
    let up_x = sorted_head (slice_cmp nat_cmp) x xs p in
    let up_y = sorted_head (slice_cmp nat_cmp) y ys q in
    let x_low : key_lt y x ≡ false = low x xs up_x y (same y ∙ Has-first y ys) in
    let y_low : key_lt x y ≡ false = low y ys up_y x (sym (same x) ∙ Has-first x xs) in
    let first : x ≡ y = lt-total x y y_low x_low in
    let rest : xs ≡ ys = rising-same xs ys (sorted_tail (slice_cmp nat_cmp) x xs p) (sorted_tail (slice_cmp nat_cmp) y ys q) (λ z. tail z first up_x up_y) in
    ap (λ k. k ∷ xs) first ∙ ap (λ ks. y ∷ ks) rest
  where
    -- the first is below no other
    low : (k : Bytes) (ks : List Bytes) → Each (λ z. slice_cmp nat_cmp k z ≡ Less) ks → (z : Bytes) → Has (k ∷ ks) z → key_lt z k ≡ false
    low k ks up z at = elim (Has-either k ks z at) [ inl e ↦ subst (λ w. key_lt w k ≡ false) e (lt-irrefl k) | inr e ↦ lt-back rises k z (above-all k ks up z e) ]

    tail : (z : Bytes) → x ≡ y → Each (λ w. slice_cmp nat_cmp x w ≡ Less) xs → Each (λ w. slice_cmp nat_cmp y w ≡ Less) ys → contains_key xs z ≡ contains_key ys z
    tail z first up_x up_y = cases (bytes_eq x z) refl
      where
        cases : (t : Bool) → bytes_eq x z ≡ t → contains_key xs z ≡ contains_key ys z
        cases true e =
            let at : x ≡ z = same_key x z e in
            subst (λ k. contains_key xs k ≡ false) at (not_among x xs up_x) ∙ sym (subst (λ k. contains_key ys k ≡ false) (sym first ∙ at) (not_among y ys up_y))
        cases false e =
            ap (λ t. t || contains_key xs z) (sym e) ∙ same z ∙ ap (λ t. t || contains_key ys z) (ap (λ k. bytes_eq k z) (sym first) ∙ e)

-- so rising keys are the keys of any list with them, once and in key order
pub rising-by_key : (xs keys : List Bytes) → IsStrictlySortedBy (slice_cmp nat_cmp) xs → SameKeys xs keys → xs ≡ by_key (once keys)
rising-by_key xs keys up same =
    rising-same xs (by_key (once keys)) up (by_key-sorted (once keys) (once-distinct keys)) (λ x. same x ∙ sym (contains-once keys x) ∙ sym (contains-by_key (once keys) x))

-- the nearest of rising keys

middle-has : (front : List Bytes) (k : Bytes) (back : List Bytes) → Has (front ++ k ∷ back) k
middle-has front k back = contains-append front (k ∷ back) k ∙ or-right (contains_key front k) (contains_key (k ∷ back) k) (Has-first k back)

-- those in front of one are below it, and those after it above
front-below : (front : List Bytes) (k : Bytes) (back : List Bytes) → IsStrictlySortedBy (slice_cmp nat_cmp) (front ++ k ∷ back) → (x : Bytes) → Has front x → key_lt x k ≡ true
front-below [] k back up x h = absurd (cc)
front-below (y ∷ front) k back up x h = elim (Has-either y front x h) [
  | inl e ↦ subst (λ z. key_lt z k ≡ true) e (above-all y (front ++ k ∷ back) (sorted_head (slice_cmp nat_cmp) y (front ++ k ∷ back) up) k (middle-has front k back))
  | inr e ↦ front-below front k back (sorted_tail (slice_cmp nat_cmp) y (front ++ k ∷ back) up) x e
]

back-above : (front : List Bytes) (k : Bytes) (back : List Bytes) → IsStrictlySortedBy (slice_cmp nat_cmp) (front ++ k ∷ back) → (x : Bytes) → Has back x → key_lt k x ≡ true
back-above [] k back up x h = above-all k back (sorted_head (slice_cmp nat_cmp) k back up) x h
back-above (y ∷ front) k back up x h = back-above front k back (sorted_tail (slice_cmp nat_cmp) y (front ++ k ∷ back) up) x h

-- what stands in such a list
parts : (front : List Bytes) (k : Bytes) (back : List Bytes) (x : Bytes) → Has (front ++ k ∷ back) x → Has front x ⊎ Has (k ∷ back) x
parts front k back x h = or-either (contains_key front x) (contains_key (k ∷ back) x) (sym (contains-append front (k ∷ back) x) ∙ h)

-- the first above a key
pub successor-cut : (front : List Bytes) (key s : Bytes) (back : List Bytes) → IsStrictlySortedBy (slice_cmp nat_cmp) (front ++ s ∷ back) → ((x : Bytes) → Has front x → key_lt key x ≡ false) → key_lt key s ≡ true →
    successor (front ++ s ∷ back) key ≡ Some s
successor-cut front key s back up low high = is-successor (front ++ s ∷ back) key s (record {
  has = middle-has front s back;
  near = λ x h. ap (λ t. if t then key_lt key x && key_lt x s else key_lt key x || key_lt x s) high ∙ elim (parts front s back x h) [
    | inl e ↦ and-left (key_lt key x) (key_lt x s) (low x e)
    | inr e ↦ and-right (key_lt key x) (key_lt x s) (elim (Has-either s back x e) [ inl f ↦ subst (λ z. key_lt z s ≡ false) f (lt-irrefl s) | inr f ↦ lt-back rises s x (back-above front s back up x f) ])
  ];
})

-- the first of all, if none is above
pub successor-wraps : (key s : Bytes) (back : List Bytes) → IsStrictlySortedBy (slice_cmp nat_cmp) (s ∷ back) → ((x : Bytes) → Has (s ∷ back) x → key_lt key x ≡ false) → successor (s ∷ back) key ≡ Some s
successor-wraps key s back up low = is-successor (s ∷ back) key s (record {
  has = Has-first s back;
  near = λ x h. ap (λ t. if t then key_lt key x && key_lt x s else key_lt key x || key_lt x s) (low s (Has-first s back))
      ∙ or-none (key_lt key x) (key_lt x s) (low x h) (elim (Has-either s back x h) [ inl f ↦ subst (λ z. key_lt z s ≡ false) f (lt-irrefl s) | inr f ↦ lt-back rises s x (back-above [] s back up x f) ]);
})

-- the last below a key
pub predecessor-cut : (front : List Bytes) (key p : Bytes) (back : List Bytes) → IsStrictlySortedBy (slice_cmp nat_cmp) (front ++ p ∷ back) → key_lt p key ≡ true → ((x : Bytes) → Has back x → key_lt x key ≡ false) →
    predecessor (front ++ p ∷ back) key ≡ Some p
predecessor-cut front key p back up low high = is-predecessor (front ++ p ∷ back) key p (record {
  has = middle-has front p back;
  near = λ x h. ap (λ t. if t then key_lt p x && key_lt x key else key_lt p x || key_lt x key) low ∙ elim (parts front p back x h) [
    | inl e ↦ and-left (key_lt p x) (key_lt x key) (lt-back rises x p (front-below front p back up x e))
    | inr e ↦ elim (Has-either p back x e) [
      | inl f ↦ and-left (key_lt p x) (key_lt x key) (subst (λ z. key_lt p z ≡ false) f (lt-irrefl p))
      | inr f ↦ and-right (key_lt p x) (key_lt x key) (high x f)
    ]
  ];
})

-- the last of all, if none is below
pub predecessor-wraps : (front : List Bytes) (key p : Bytes) → IsStrictlySortedBy (slice_cmp nat_cmp) (front ++ p ∷ []) → ((x : Bytes) → Has (front ++ p ∷ []) x → key_lt x key ≡ false) → predecessor (front ++ p ∷ []) key ≡ Some p
predecessor-wraps front key p up high = is-predecessor (front ++ p ∷ []) key p (record {
  has = middle-has front p [];
  near = λ x h. ap (λ t. if t then key_lt p x && key_lt x key else key_lt p x || key_lt x key) (high p (middle-has front p []))
      ∙ or-none (key_lt p x) (key_lt x key) (elim (parts front p [] x h) [
        | inl e ↦ lt-back rises x p (front-below front p [] up x e)
        | inr e ↦ elim (Has-either p [] x e) [ inl f ↦ subst (λ z. key_lt p z ≡ false) f (lt-irrefl p) | inr f ↦ absurd (cc) ]
      ]) (high x h);
})

-- lists of keys that differ have as many of the same keys

pub same-length : (xs ys : List Bytes) → IsDistinct bytes_eq xs → IsDistinct bytes_eq ys → SameKeys xs ys → length xs ≡ length ys
same-length xs ys p q same =
    sym (length_permutation xs (by_key xs) (by_key-permutation xs))
    ∙ ap length (rising-same (by_key xs) (by_key ys) (by_key-sorted xs p) (by_key-sorted ys q) (λ x. contains-by_key xs x ∙ same x ∙ sym (contains-by_key ys x)))
    ∙ length_permutation ys (by_key ys) (by_key-permutation ys)

Each-filtered : (P : Bytes → Type 0) (t : Bytes → Bool) (xs : List Bytes) → Each P xs → Each P (filter t xs)
Each-filtered P t xs h = Each-filter P t xs (Each-all P (λ x. t x ≡ true → P x) (λ x k _. k) xs h)

pub filter-distinct : (t : Bytes → Bool) (xs : List Bytes) → IsDistinct bytes_eq xs → IsDistinct bytes_eq (filter t xs)
unfolding IsDistinct
filter-distinct t [] h = tt
filter-distinct t (x ∷ xs) h = cases (t x) (filter-distinct t xs h.1)
  where
    cases : (b : Bool) → IsDistinct bytes_eq (filter t xs) → IsDistinct bytes_eq (cond b (x ∷ filter t xs) (filter t xs))
    cases true later = (Each-filtered (λ y. bytes_eq x y ≡ false) t xs h.0, later)
    cases false later = later

pub append-distinct : (xs ys : List Bytes) → IsDistinct bytes_eq xs → IsDistinct bytes_eq ys → ((x : Bytes) → Has xs x → contains_key ys x ≡ false) → IsDistinct bytes_eq (xs ++ ys)
unfolding IsDistinct
append-distinct [] ys p q apart = q
append-distinct (x ∷ xs) ys p q apart =
    (Each-append (λ y. bytes_eq x y ≡ false) xs ys p.0 (others ys (apart x (Has-first x xs))), append-distinct xs ys p.1 q (λ y h. apart y (Has-later x xs y h)))
  where
    others : (zs : List Bytes) → contains_key zs x ≡ false → Each (λ y. bytes_eq x y ≡ false) zs
    others [] h = tt
    others (z ∷ zs) h = let both = or-false (bytes_eq z x) (contains_key zs x) h in (same_laws.symm x z ∙ both.0, others zs both.1)

-- those that pass, and those that do not
pub filter-length : (t : Bytes → Bool) (xs : List Bytes) → length (filter t xs) + length (filter (λ x. not (t x)) xs) ≡ length xs
filter-length t [] = omega arith
filter-length t (x ∷ xs) = cases (t x) (filter-length t xs)
  where
    cases : (b : Bool) → length (filter t xs) + length (filter (λ x. not (t x)) xs) ≡ length xs →
        length (cond b (x ∷ filter t xs) (filter t xs)) + length (cond (not b) (x ∷ filter (λ x. not (t x)) xs) (filter (λ x. not (t x)) xs)) ≡ suc (length xs)
    cases true later = omega (arith, later)
    cases false later = omega (arith, later)
