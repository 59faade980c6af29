-- Partitions as one index.
use Rattle.std.proofs.Common.{◌≡◌, ◌⊎◌, inl, inr, ℕ, zero, suc, ◌+◌, ◌-◌, ◌*◌, ◌/◌, ◌%◌, ◌^◌, ◌<◌, ◌≤◌, nat_eq, Bool, true, false, true≢false, cond, List, [], ◌∷◌, ◌++◌, length, length-set, set, drop, refl, ap, ap₂, sym, ◌∙◌, subst, Option, Some, None, arith}
use Rattle.std.specs.Prelude.{if◌then◌else◌, unwrap_or, slice_index_or, Result, Ok, Err, OnOk, OnErr, IfSome, IfNone}
use Rattle.std.specs.Option.{option_or}
use Rattle.std.specs.List.{IsDistinct, AllByRecursion as Each, flat_map}
use Rattle.std.specs.Map.{lookup, keys_of, values_of}
use Rattle.std.proofs.lemmas.Bool.{eq-eqb, ne_eqb}
use Rattle.std.specs.Prelude.{◌&&◌, nat_le, nat_lt}
use Rattle.std.proofs.Math.Nat.{div-add-mod, mod-lt}
use Rattle.std.proofs.Common.{get_or-set_same, get_or-set_other}
use Rattle.std.proofs.lemmas.List.{map-append}
use Rattle.std.proofs.lemmas.Grind.{flat_map-append}
use mathlib.Core.Logic.{dite}
use native.Mathlib.Decide.{ℕ_discrete, dec_lt}
use Rattle.std.proofs.lemmas.Bool.Decides.{nat_tests}
use Rattle.qm_index.proofs.Picks.{number_below, number_from}
use Rattle.qm_index.specs.Buckets.{bucket_at, Puts, IsIndex, all_values}
use Rattle.qm_index.specs.Partitioned.{raised, joined, partitioned, partition_of, part_at, IsWithin, AreSmall, AreIndices, AreParts, Changes, Installed}
use Rattle.qm_index.specs.Translated.{capped}
use Rattle.qm_model.specs.Operations.{Bytes}

-- numbers are equal where they are so moved up alike
eq-moved : (m k x : ℕ) → nat_eq (m + k) (m + x) ≡ nat_eq k x
eq-moved m k x = dite (ℕ_discrete k x)
    (λ e. eq-eqb (m + k) (m + x) (ap (λ n. m + n) e) ∙ sym (eq-eqb k x e))
    (λ n. ne_eqb (m + k) (m + x) (λ e. n (omega (arith, e))) ∙ sym (ne_eqb k x n))

apart : (k x : ℕ) → k < x → nat_eq k x ≡ false
apart k x below = ne_eqb k x (λ e. omega (arith, e, below))

from-le : (a b : ℕ) → nat_le a b ≡ true → a ≤ b
from-le a b h = grind (arith, nat_tests, h)

from-not-le : (a b : ℕ) → nat_le a b ≡ false → b < a
from-not-le a b h = grind (arith, nat_tests, h)

abbrev pub Entries : Type 0 → Type 0
Entries V = List (ℕ × List V)

abbrev at : {V : Type 0} → ℕ → Entries V → Option (List V)
at k es = lookup (nat_eq k) es

-- a number is low, or stands in a partition
pub parted : (first k : ℕ) → (k < first * 2 ^ 64) ⊎ ((p : ℕ) × (r : ℕ) × (r < 2 ^ 64) × (k ≡ (first + p) * 2 ^ 64 + r))
parted first k =
    let whole = div-add-mod k (2 ^ 64) in
    let less : k % 2 ^ 64 < 2 ^ 64 = mod-lt k (omega arith) in
    by (k / 2 ^ 64) (k % 2 ^ 64) whole less
  where
    by : (q r : ℕ) → 2 ^ 64 * q + r ≡ k → r < 2 ^ 64 → (k < first * 2 ^ 64) ⊎ ((p : ℕ) × (r : ℕ) × (r < 2 ^ 64) × (k ≡ (first + p) * 2 ^ 64 + r))
    by q r whole less = dite (dec_lt q first)
        (λ low. inl (omega (arith, whole, less, low)))
        (λ high. inr (q - first, r, less, omega (arith, whole, high)))

each-both : (P : ℕ → Type 0) (xs ys : List ℕ) → Each P xs → Each P ys → Each P (xs ++ ys)
each-both P [] ys one two = two
each-both P (x ∷ xs) ys one two = (one.0, each-both P xs ys one.1 two)

-- the index key of a key, from its partition and that of its rest
pub whole-key : (width : ℕ) (index_key : Bytes → ℕ) (key rest : Bytes) (p r w v : ℕ) → p ≡ capped w key → w ≡ width → r ≡ index_key rest → rest ≡ drop v key → v ≡ width → p * 2 ^ 64 + r ≡ partitioned width index_key key
whole-key width index_key key rest p r w v part first last behind second =
    ap₂ (λ p r. p * 2 ^ 64 + r) (part ∙ ap (λ n. capped n key) first) (last ∙ ap index_key (behind ∙ ap (λ n. drop n key) second))

module _ {V : Type 0} where
  -- a look-up in two lists
  lookup-both : (k : ℕ) (xs ys : Entries V) → at k (xs ++ ys) ≡ option_or (at k xs) (at k ys)
  lookup-both k [] ys = refl
  lookup-both k (x ∷ xs) ys = by (nat_eq k x.0) (lookup-both k xs ys)
    where
      by : (t : Bool) → at k (xs ++ ys) ≡ option_or (at k xs) (at k ys) → cond t (Some x.1) (at k (xs ++ ys)) ≡ option_or (cond t (Some x.1) (at k xs)) (at k ys)
      by true later = refl
      by false later = later

  -- a look-up in a partition among others
  lookup-raised : (p k : ℕ) (es : Entries V) → at (p * 2 ^ 64 + k) (raised p es) ≡ at k es
  lookup-raised p k [] = refl
  lookup-raised p k (e ∷ es) = ap₂ (λ (t : Bool) (o : Option (List V)). cond t (Some e.1) o) (eq-moved (p * 2 ^ 64) k e.0) (lookup-raised p k es)

  lookup-low : (p k : ℕ) (es : Entries V) → k < p * 2 ^ 64 → at k (raised p es) ≡ None
  lookup-low p k [] low = refl
  lookup-low p k (e ∷ es) low = ap (λ (t : Bool). cond t (Some e.1) (at k (raised p es))) (apart k (p * 2 ^ 64 + e.0) (omega (arith, low))) ∙ lookup-low p k es low

  -- below the first partition nothing stands
  pub joined-low : (first k : ℕ) (parts : List (Entries V)) → k < first * 2 ^ 64 → at k (joined first parts) ≡ None
  joined-low first k [] low = refl
  joined-low first k (part ∷ parts) low =
      lookup-both k (raised first part) (joined (suc first) parts)
      ∙ ap₂ option_or (lookup-low first k part low) (joined-low (suc first) k parts (omega (arith, low)))

  -- what stands at an index key stands there in its partition
  pub joined-at : (first p r : ℕ) (parts : List (Entries V)) → AreIndices parts → r < 2 ^ 64 → at ((first + p) * 2 ^ 64 + r) (joined first parts) ≡ at r (slice_index_or parts p [])
  joined-at first p r [] are small = refl
  joined-at first zero r (part ∷ parts) are small =
      let k : ℕ = (first + 0) * 2 ^ 64 + r in
      let same : k ≡ first * 2 ^ 64 + r = omega arith in
      lookup-both k (raised first part) (joined (suc first) parts)
      ∙ ap₂ option_or (ap (λ n. at n (raised first part)) same ∙ lookup-raised first r part) (joined-low (suc first) k parts (omega (arith, small)))
      ∙ or-none (at r part)
    where
      or-none : (o : Option (List V)) → option_or o None ≡ o
      or-none None = refl
      or-none (Some x) = refl
  joined-at first (suc p) r (part ∷ parts) are small =
      let k : ℕ = (first + suc p) * 2 ^ 64 + r in
      let high : k ≡ first * 2 ^ 64 + (suc p * 2 ^ 64 + r) = omega arith in
      let next : k ≡ (suc first + p) * 2 ^ 64 + r = omega arith in
      let none : at k (raised first part) ≡ None = ap (λ n. at n (raised first part)) high ∙ lookup-raised first (suc p * 2 ^ 64 + r) part ∙ are.0.1 (suc p * 2 ^ 64 + r) (omega arith) in
      lookup-both k (raised first part) (joined (suc first) parts)
      ∙ ap (λ o. option_or o (at k (joined (suc first) parts))) none
      ∙ ap (λ n. at n (joined (suc first) parts)) next
      ∙ joined-at (suc first) p r parts are.1 small

  -- the same of buckets
  pub bucket-joined : (first p r : ℕ) (parts : List (Entries V)) → AreIndices parts → r < 2 ^ 64 → bucket_at (joined first parts) ((first + p) * 2 ^ 64 + r) ≡ bucket_at (slice_index_or parts p []) r
  bucket-joined first p r parts are small = ap (λ o. unwrap_or o []) (joined-at first p r parts are small)

  pub bucket-low : (first k : ℕ) (parts : List (Entries V)) → k < first * 2 ^ 64 → bucket_at (joined first parts) k ≡ []
  bucket-low first k parts low = ap (λ o. unwrap_or o []) (joined-low first k parts low)

  -- One partition changes.

  -- small index keys stay small
  pub small-put : (old new : Entries V) (r : ℕ) (values : List V) → IsIndex new → AreSmall old → r < 2 ^ 64 → Puts old new r values → AreSmall new
  small-put old new r values is small low puts k high =
      let other : nat_eq r k ≡ false = apart r k (omega (arith, low, high)) in
      let none : bucket_at new k ≡ [] = puts k ∙ ap (λ (t : Bool). if t then values else bucket_at old k) other ∙ ap (λ o. unwrap_or o []) (small k high) in
      by (at k new) refl none
    where
      by : (o : Option (List V)) → at k new ≡ o → unwrap_or (at k new) [] ≡ [] → at k new ≡ None
      by None same none = same
      by (Some b) same none = absurd (is.1 k (same ∙ ap Some (sym (ap (λ o. unwrap_or o []) same) ∙ none)))

  pub set-indices : (parts : List (Entries V)) (p : ℕ) (new : Entries V) → AreIndices parts → IsIndex new → AreSmall new → AreIndices (set parts p new)
  set-indices [] p new are is small = tt
  set-indices (part ∷ parts) zero new are is small = ((is, small), are.1)
  set-indices (part ∷ parts) (suc p) new are is small = (are.0, set-indices parts p new are.1 is small)

  pub index-at : (parts : List (Entries V)) (p : ℕ) → AreIndices parts → IsIndex (slice_index_or parts p []) × AreSmall (slice_index_or parts p [])
  unfolding IsDistinct
  index-at [] p are = ((tt, λ k none. cc), λ k high. refl)
  index-at (part ∷ parts) zero are = are.0
  index-at (part ∷ parts) (suc p) are = index-at parts p are.1

  -- and so does the whole, at the index key that has the partition before it
  pub put-joined : (first p r : ℕ) (parts : List (Entries V)) (new : Entries V) (values : List V) → AreIndices parts → IsIndex new → r < 2 ^ 64 → p < length parts → Puts (slice_index_or parts p []) new r values
      → Puts (joined first parts) (joined first (set parts p new)) ((first + p) * 2 ^ 64 + r) values
  put-joined first p r parts new values are is small there puts q = by (parted first q)
    where
      key : ℕ
      key = (first + p) * 2 ^ 64 + r

      less : AreSmall new
      less = small-put (slice_index_or parts p []) new r values is (index-at parts p are).1 small puts

      now : List (Entries V)
      now = set parts p new

      areNow : AreIndices now
      areNow = set-indices parts p new are is less

      by : (q < first * 2 ^ 64) ⊎ ((p' : ℕ) × (r' : ℕ) × (r' < 2 ^ 64) × (q ≡ (first + p') * 2 ^ 64 + r')) → bucket_at (joined first now) q ≡ (if nat_eq key q then values else bucket_at (joined first parts) q)
      by (inl low) =
          let other : nat_eq key q ≡ false = ne_eqb key q (λ e. omega (arith, e, low)) in
          bucket-low first q now low ∙ sym (ap (λ (t : Bool). if t then values else bucket_at (joined first parts) q) other ∙ bucket-low first q parts low)
      by (inr (p', r', small', whole)) = dite (ℕ_discrete p p')
          (λ e.
          let here : bucket_at (joined first now) q ≡ bucket_at new r' = ap (bucket_at (joined first now)) whole ∙ bucket-joined first p' r' now areNow small' ∙ ap (λ part. bucket_at part r') (ap (λ n. slice_index_or now n []) (sym e) ∙ get_or-set_same parts p new [] there) in
          let was : bucket_at (joined first parts) q ≡ bucket_at (slice_index_or parts p []) r' = ap (bucket_at (joined first parts)) whole ∙ bucket-joined first p' r' parts are small' ∙ ap (λ n. bucket_at (slice_index_or parts n []) r') (sym e) in
          let test : nat_eq key q ≡ nat_eq r r' = ap (nat_eq key) (whole ∙ ap (λ n. (first + n) * 2 ^ 64 + r') (sym e)) ∙ eq-moved ((first + p) * 2 ^ 64) r r' in
          here ∙ puts r' ∙ ap₂ (λ (t : Bool) (b : List V). if t then values else b) (sym test) (sym was))
          (λ n.
          let here : bucket_at (joined first now) q ≡ bucket_at (slice_index_or parts p' []) r' = ap (bucket_at (joined first now)) whole ∙ bucket-joined first p' r' now areNow small' ∙ ap (λ part. bucket_at part r') (get_or-set_other parts p p' new [] (λ e. n (sym e))) in
          let was : bucket_at (joined first parts) q ≡ bucket_at (slice_index_or parts p' []) r' = ap (bucket_at (joined first parts)) whole ∙ bucket-joined first p' r' parts are small' in
          let other : nat_eq key q ≡ false = ne_eqb key q (λ e. n (omega (arith, e, whole, small, small'))) in
          here ∙ sym (ap (λ (t : Bool). if t then values else bucket_at (joined first parts) q) other ∙ was))

  -- An index.

  lookup-some : (k : ℕ) (es : Entries V) → at k es ≡ None → Each (λ j. nat_eq k j ≡ false) (keys_of es)
  lookup-some k [] none = tt
  lookup-some k (e ∷ es) none = by (nat_eq k e.0) refl none (lookup-some k es)
    where
      by : (t : Bool) → nat_eq k e.0 ≡ t → cond t (Some e.1) (at k es) ≡ None → (at k es ≡ None → Each (λ j. nat_eq k j ≡ false) (keys_of es)) → (nat_eq k e.0 ≡ false) × Each (λ j. nat_eq k j ≡ false) (keys_of es)
      by true is none later = cc
      by false is none later = (is, later none)

  raised-apart : (first k : ℕ) (es : Entries V) → Each (λ j. nat_eq k j ≡ false) (keys_of es) → Each (λ j. nat_eq (first * 2 ^ 64 + k) j ≡ false) (keys_of (raised first es))
  raised-apart first k [] h = tt
  raised-apart first k (e ∷ es) h = (eq-moved (first * 2 ^ 64) k e.0 ∙ h.0, raised-apart first k es h.1)

  -- its index keys are below the next partition's
  key-small : (k : ℕ) (b : List V) (es : Entries V) → AreSmall ((k, b) ∷ es) → k < 2 ^ 64
  key-small k b es small = dite (dec_lt k (2 ^ 64)) (λ low. low) (λ high. let none = small k (omega (arith, high)) in absurd (by (nat_eq k k) (eq-eqb k k refl) none))
    where
      by : (t : Bool) → t ≡ true → cond t (Some b) (at k es) ≡ None → ⊥
      by true is none = cc
      by false is none = cc

  small-tail : (e : ℕ × List V) (es : Entries V) → AreSmall (e ∷ es) → AreSmall es
  small-tail e es small k high = by (nat_eq k e.0) (small k high)
    where
      by : (t : Bool) → cond t (Some e.1) (at k es) ≡ None → at k es ≡ None
      by true none = cc
      by false none = none

  distinct-both : (first : ℕ) (es rest : Entries V) → AreSmall es → IsDistinct nat_eq (keys_of es) → ((k : ℕ) → k < (first + 1) * 2 ^ 64 → at k rest ≡ None) → IsDistinct nat_eq (keys_of rest) → IsDistinct nat_eq (keys_of (raised first es ++ rest))
  unfolding IsDistinct
  distinct-both first [] rest small one low two = two
  distinct-both first (e ∷ es) rest small one low two =
      let k : ℕ = first * 2 ^ 64 + e.0 in
      let less = key-small e.0 e.1 es small in
      let own = raised-apart first e.0 es one.0 in
      let other = lookup-some k rest (low k (omega (arith, less))) in (
        subst (λ ks. Each (λ j. nat_eq k j ≡ false) ks) (sym (map-append (λ (u : ℕ × List V). u.0) (raised first es) rest)) (each-both (λ j. nat_eq k j ≡ false) (keys_of (raised first es)) (keys_of rest) own other),
        distinct-both first es rest (small-tail e es small) one.1 low two,
      )

  joined-distinct : (first : ℕ) (parts : List (Entries V)) → AreIndices parts → IsDistinct nat_eq (keys_of (joined first parts))
  unfolding IsDistinct
  joined-distinct first [] are = tt
  joined-distinct first (part ∷ parts) are =
      distinct-both first part (joined (suc first) parts) are.0.1 are.0.0.0 (λ k low. joined-low (suc first) k parts (omega (arith, low))) (joined-distinct (suc first) parts are.1)

  pub joined-index : (first : ℕ) (parts : List (Entries V)) → AreIndices parts → IsIndex (joined first parts)
  joined-index first parts are = (joined-distinct first parts are, λ k none. by k (parted first k) none)
    where
      by : (k : ℕ) → (k < first * 2 ^ 64) ⊎ ((p : ℕ) × (r : ℕ) × (r < 2 ^ 64) × (k ≡ (first + p) * 2 ^ 64 + r)) → at k (joined first parts) ≡ Some [] → ⊥
      by k (inl low) some = let none = joined-low first k parts low in cc
      by k (inr (p, r, small, whole)) some = (index-at parts p are).0.1 r (sym (ap (λ n. at n (joined first parts)) whole ∙ joined-at first p r parts are small) ∙ some)

  -- Partitions that are empty, behind the others.

  append-none : (xs : Entries V) → xs ++ [] ≡ xs
  append-none [] = refl
  append-none (x ∷ xs) = ap (λ ys. x ∷ ys) (append-none xs)

  pub joined-more : (first : ℕ) (parts : List (Entries V)) → joined first (parts ++ [] ∷ []) ≡ joined first parts
  joined-more first [] = refl
  joined-more first (part ∷ parts) = ap (λ es. raised first part ++ es) (joined-more (suc first) parts)

  pub indices-more : (parts : List (Entries V)) → AreIndices parts → AreIndices (parts ++ [] ∷ [])
  unfolding IsDistinct
  indices-more [] are = (((tt, λ k none. cc), λ k high. refl), tt)
  indices-more (part ∷ parts) are = (are.0, indices-more parts are.1)

  -- All values.

  values-raised : (first : ℕ) (es : Entries V) → values_of (raised first es) ≡ values_of es
  values-raised first [] = refl
  values-raised first (e ∷ es) = ap (λ bs. e.1 ∷ bs) (values-raised first es)

  pub values-joined : (first : ℕ) (part : Entries V) (parts : List (Entries V)) → all_values (joined first (part ∷ parts)) ≡ all_values part ++ all_values (joined (suc first) parts)
  values-joined first part parts =
      ap (flat_map (λ b. b)) (map-append (λ (u : ℕ × List V). u.1) (raised first part) (joined (suc first) parts) ∙ ap (λ bs. bs ++ values_of (joined (suc first) parts)) (values-raised first part))
      ∙ flat_map-append (λ b. b) (values_of part) (values_of (joined (suc first) parts))

  -- By a partition and an index key in it.

  pub behind-last : (parts : List (Entries V)) (p : ℕ) → length parts ≤ p → slice_index_or parts p [] ≡ []
  behind-last [] p past = refl
  behind-last (part ∷ parts) zero past = absurd (omega (arith, past))
  behind-last (part ∷ parts) (suc p) past = behind-last parts p (omega (arith, past))

  pub part-low : (first : ℕ) (parts : List (Entries V)) (p : ℕ) → p < first → part_at first parts p ≡ []
  part-low first parts p low = by (nat_lt p first) refl
    where
      by : (t : Bool) → nat_lt p first ≡ t → (if nat_lt p first then [] else slice_index_or parts (p - first) []) ≡ []
      by true is = ap (λ (t : Bool). if t then [] else slice_index_or parts (p - first) []) is
      by false is = let from = number_from p first is in absurd (omega (arith, from, low))

  pub part-in : (first : ℕ) (parts : List (Entries V)) (p : ℕ) → first ≤ p → part_at first parts p ≡ slice_index_or parts (p - first) []
  part-in first parts p up = by (nat_lt p first) refl
    where
      by : (t : Bool) → nat_lt p first ≡ t → (if nat_lt p first then [] else slice_index_or parts (p - first) []) ≡ slice_index_or parts (p - first) []
      by true is = let low = number_below p first is in absurd (omega (arith, up, low))
      by false is = ap (λ (t : Bool). if t then [] else slice_index_or parts (p - first) []) is

  -- what stands in a partition is an index, and the whole has its buckets
  pub part-index : (first : ℕ) (parts : List (Entries V)) (p : ℕ) → AreIndices parts → IsIndex (part_at first parts p) × AreSmall (part_at first parts p)
  part-index first parts p are = dite (dec_lt p first)
      (λ low. subst (λ (es : Entries V). IsIndex es × AreSmall es) (sym (part-low first parts p low)) (index-at [] 0 tt))
      (λ high. let up : first ≤ p = omega (arith, high) in subst (λ (es : Entries V). IsIndex es × AreSmall es) (sym (part-in first parts p up)) (index-at parts (p - first) are))

  pub part-joined : (first : ℕ) (parts : List (Entries V)) (p r k : ℕ) → AreIndices parts → r < 2 ^ 64 → p * 2 ^ 64 + r ≡ k → bucket_at (joined first parts) k ≡ bucket_at (part_at first parts p) r
  part-joined first parts p r k are small whole = dite (dec_lt p first)
      (λ low. bucket-low first k parts (omega (arith, low, small, whole)) ∙ sym (ap (λ (es : Entries V). bucket_at es r) (part-low first parts p low)))
      (λ high.
      let up : first ≤ p = omega (arith, high) in
      let here : k ≡ (first + (p - first)) * 2 ^ 64 + r = omega (arith, whole, up) in
      ap (bucket_at (joined first parts)) here ∙ bucket-joined first (p - first) r parts are small ∙ sym (ap (λ (es : Entries V). bucket_at es r) (part-in first parts p up)))

  module _ (first partition r key : ℕ) (parts : List (Entries V)) (are : AreIndices parts) (small : r < 2 ^ 64) (whole : partition * 2 ^ 64 + r ≡ key) where
    here : first ≤ partition → key ≡ (first + (partition - first)) * 2 ^ 64 + r
    here up = omega (arith, up, whole)

    pub part-bucket : first ≤ partition → bucket_at (joined first parts) key ≡ bucket_at (slice_index_or parts (partition - first) []) r
    part-bucket up = ap (bucket_at (joined first parts)) (here up) ∙ bucket-joined first (partition - first) r parts are small

    pub low-bucket : partition < first → bucket_at (joined first parts) key ≡ []
    low-bucket low = bucket-low first key parts (omega (arith, low, small, whole))

    pub none-bucket : (first ≤ partition → length parts ≤ partition - first) → bucket_at (joined first parts) key ≡ []
    none-bucket past = dite (dec_lt partition first) low-bucket
        (λ up. let from : first ≤ partition = omega (arith, up) in part-bucket from ∙ ap (λ es. bucket_at es r) (behind-last parts (partition - first) (past from)))

    part-put : (new : Entries V) (values : List V → List V) → first ≤ partition → partition - first < length parts → IsIndex new
        → Puts (slice_index_or parts (partition - first) []) new r (values (bucket_at (slice_index_or parts (partition - first) []) r))
        → Puts (joined first parts) (joined first (set parts (partition - first) new)) key (values (bucket_at (joined first parts) key))
    part-put new values up there is puts =
        subst (λ k. Puts (joined first parts) (joined first (set parts (partition - first) new)) k (values (bucket_at (joined first parts) key))) (sym (here up))
        (subst (λ vs. Puts (joined first parts) (joined first (set parts (partition - first) new)) ((first + (partition - first)) * 2 ^ 64 + r) vs) (ap values (sym (part-bucket up)))
        (put-joined first (partition - first) r parts new (values (bucket_at (slice_index_or parts (partition - first) []) r)) are is small there puts))

    -- a change of a partition is one of the whole
    pub changes-put : (new : List (Entries V)) (values : List V → List V) → first ≤ partition → partition - first < length parts → Changes parts new (partition - first) r values
        → Puts (joined first parts) (joined first new) key (values (bucket_at (joined first parts) key))
    changes-put new values up there changes = subst (λ parts'. Puts (joined first parts) (joined first parts') key (values (bucket_at (joined first parts) key))) (sym changes.is) (part-put changes.part values up there changes.index changes.puts)

-- where a partition changed all are indices, as many as before
module _ {V : Type 0} (old new : List (Entries V)) (place r : ℕ) (values : List V → List V) (changes : Changes old new place r values) where
  pub changes-indices : AreIndices old → r < 2 ^ 64 → AreIndices new
  changes-indices are small = subst AreIndices (sym changes.is) (set-indices old place changes.part are changes.index (small-put (slice_index_or old place []) changes.part r (values (bucket_at (slice_index_or old place []) r)) changes.index (index-at old place are).1 small changes.puts))

  pub changes-parts : (count : ℕ) → AreParts count old → r < 2 ^ 64 → AreParts count new
  changes-parts count are small = record { few = subst (λ n. n ≤ count) (sym (ap length changes.is ∙ length-set old place changes.part)) are.few; indices = changes-indices are.indices small }

-- a partition with a value is there
pub place-there : {V : Type 0} (parts : List (Entries V)) (p i r : ℕ) → i < length (bucket_at (slice_index_or parts p []) r) → p < length parts
place-there {V} parts p i r some = dite (dec_lt p (length parts)) (λ low. low) (λ high.
    let none : i < 0 = subst (λ (es : Entries V). i < length (bucket_at es r)) (behind-last parts p (omega (arith, high))) some in
    absurd (omega (arith, none)))

-- what an insert leaves are partitions, whether or not it was refused
pub insert-parts : {V X E : Type 0} (old new : List (Entries V)) (p r : ℕ) (values : List V → List V) (result : Result X E) (count : ℕ) → AreParts count old → r < 2 ^ 64 → OnOk result (Changes old new p r values) → OnErr result (new ≡ old) → AreParts count new
insert-parts old new p r values (Ok x) count are small ok err = changes-parts old new p r values ok count are small
insert-parts old new p r values (Err e) count are small ok err = subst (AreParts count) (sym err) are

-- the partition of an index key
pub partition-whole : (p r : ℕ) → r < 2 ^ 64 → partition_of (p * 2 ^ 64 + r) ≡ p
partition-whole p r small =
    let whole = div-add-mod (p * 2 ^ 64 + r) (2 ^ 64) in
    let less : (p * 2 ^ 64 + r) % 2 ^ 64 < 2 ^ 64 = mod-lt (p * 2 ^ 64 + r) (omega arith) in
    by (partition_of (p * 2 ^ 64 + r)) ((p * 2 ^ 64 + r) % 2 ^ 64) whole less
  where
    by : (q s : ℕ) → 2 ^ 64 * q + s ≡ p * 2 ^ 64 + r → s < 2 ^ 64 → q ≡ p
    by q s whole less = omega (arith, whole, less, small)

-- what holds of a value that may be there
pub if-some : {X : Type 0} {P Q : X → Type 0} (o : Option X) → ((x : X) → P x → Q x) → IfSome o P → IfSome o Q
if-some None f h = tt
if-some (Some x) f h = f x h

pub if-none : {X P Q : Type 0} (o : Option X) → (P → Q) → IfNone o P → IfNone o Q
if-none None f h = f h
if-none (Some x) f h = tt

-- all but the last, and the last
pub front-at : {X : Type 0} (xs : List X) (x : X) (i : ℕ) (d : X) → i < length xs → slice_index_or (xs ++ x ∷ []) i d ≡ slice_index_or xs i d
front-at [] x i d there = absurd (omega (arith, there))
front-at (y ∷ ys) x zero d there = refl
front-at (y ∷ ys) x (suc i) d there = front-at ys x i d (omega (arith, there))

pub last-at : {X : Type 0} (xs : List X) (x d : X) → slice_index_or (xs ++ x ∷ []) (length xs) d ≡ x
last-at [] x d = refl
last-at (y ∷ ys) x d = last-at ys x d

-- each partition's values, one after another
pub values-all : {V : Type 0} (first : ℕ) (parts : List (Entries V)) → all_values (joined first parts) ≡ flat_map all_values parts
values-all first [] = refl
values-all first (part ∷ parts) = values-joined first part parts ∙ ap (λ vs. all_values part ++ vs) (values-all (suc first) parts)

-- A range in the place of its partitions.

module _ {V : Type 0} where
  -- partitions that are indices one by one
  indices-from : (parts : List (Entries V)) → ((i : ℕ) → i < length parts → IsIndex (slice_index_or parts i []) × AreSmall (slice_index_or parts i [])) → AreIndices parts
  indices-from [] each = tt
  indices-from (part ∷ parts) each = (each 0 (omega arith), indices-from parts (λ i there. each (suc i) (omega (arith, there))))

  module _ (base from count first : ℕ) (old range new : List (Entries V)) (are : AreIndices old) (own : AreIndices range) (up : base ≤ from) (same : length new ≡ length old)
      (inside : (i : ℕ) → i < count → slice_index_or new ((from - base) + i) [] ≡ part_at first range (from + i))
      (outside : (i : ℕ) → (i < from - base) ⊎ ((from - base) + count ≤ i) → slice_index_or new i [] ≡ slice_index_or old i []) where
    at-range : (p : ℕ) → from ≤ p → p < from + count → part_at base new p ≡ part_at first range p
    at-range p low high =
        let place : p - base ≡ (from - base) + (p - from) = omega (arith, low, up) in
        let back : from + (p - from) ≡ p = omega (arith, low) in
        part-in base new p (omega (arith, low, up)) ∙ ap (λ n. slice_index_or new n []) place ∙ inside (p - from) (omega (arith, low, high)) ∙ ap (part_at first range) back

    at-others : (p : ℕ) → (p < from) ⊎ (from + count ≤ p) → part_at base new p ≡ part_at base old p
    at-others p out = dite (dec_lt p base)
        (λ low. part-low base new p low ∙ sym (part-low base old p low))
        (λ high. let here : base ≤ p = omega (arith, high) in part-in base new p here ∙ outside (p - base) (moved here out) ∙ sym (part-in base old p here))
      where
        moved : base ≤ p → (p < from) ⊎ (from + count ≤ p) → (p - base < from - base) ⊎ ((from - base) + count ≤ p - base)
        moved here (inl low) = inl (omega (arith, low, here, up))
        moved here (inr past) = inr (omega (arith, past, here, up))

    pub installed-indices : AreIndices new
    installed-indices = indices-from new (λ i there. dite (dec_lt i (from - base))
        (λ low. subst (λ (es : Entries V). IsIndex es × AreSmall es) (sym (outside i (inl low))) (index-at old i are))
        (λ high. dite (dec_lt i ((from - base) + count))
        (λ in_range_of.
        let place : i ≡ (from - base) + (i - (from - base)) = omega (arith, high) in
        let is = ap (λ n. slice_index_or new n []) place ∙ inside (i - (from - base)) (omega (arith, high, in_range_of)) in
        subst (λ (es : Entries V). IsIndex es × AreSmall es) (sym is) (part-index first range (from + (i - (from - base))) own))
        (λ past. subst (λ (es : Entries V). IsIndex es × AreSmall es) (sym (outside i (inr (omega (arith, past))))) (index-at old i are))))

    pub installed : Installed (joined base old) (joined base new) (joined first range) (record { first = from; count = count })
    installed k = by (nat_le from (k / 2 ^ 64)) refl (nat_lt (k / 2 ^ 64) (from + count)) refl
      where
        p : ℕ
        p = k / 2 ^ 64

        r : ℕ
        r = k % 2 ^ 64

        less : r < 2 ^ 64
        less = mod-lt k (omega arith)

        whole : p * 2 ^ 64 + r ≡ k
        whole = let w = div-add-mod k (2 ^ 64) in omega (arith, w)

        now_at : bucket_at (joined base new) k ≡ bucket_at (part_at base new p) r
        now_at = part-joined base new p r k installed-indices less whole

        other : (p < from) ⊎ (from + count ≤ p) → bucket_at (joined base new) k ≡ bucket_at (joined base old) k
        other out = now_at ∙ ap (λ (es : Entries V). bucket_at es r) (at-others p out) ∙ sym (part-joined base old p r k are less whole)

        by : (a : Bool) → nat_le from p ≡ a → (b : Bool) → nat_lt p (from + count) ≡ b → bucket_at (joined base new) k ≡ (if nat_le from p && nat_lt p (from + count) then bucket_at (joined first range) k else bucket_at (joined base old) k)
        by true isa true isb =
            now_at ∙ ap (λ (es : Entries V). bucket_at es r) (at-range p (from-le from p isa) (number_below p (from + count) isb))
            ∙ sym (part-joined first range p r k own less whole)
            ∙ sym (ap₂ (λ (x y : Bool). if x && y then bucket_at (joined first range) k else bucket_at (joined base old) k) isa isb)
        by true isa false isb =
            other (inr (number_from p (from + count) isb)) ∙ sym (ap₂ (λ (x y : Bool). if x && y then bucket_at (joined first range) k else bucket_at (joined base old) k) isa isb)
        by false isa b isb =
            other (inl (from-not-le from p isa)) ∙ sym (ap (λ (x : Bool). if x && nat_lt p (from + count) then bucket_at (joined first range) k else bucket_at (joined base old) k) isa)

  -- no bucket stands outside of the partitions that may be there
  pub within : (first count : ℕ) (parts : List (Entries V)) → AreParts count parts → IsWithin (joined first parts) (record { first = first; count = count })
  within first count parts are k out = by (nat_le first p) refl (nat_lt p (first + count)) refl
    where
      p : ℕ
      p = k / 2 ^ 64

      r : ℕ
      r = k % 2 ^ 64

      less : r < 2 ^ 64
      less = mod-lt k (omega arith)

      whole : 2 ^ 64 * p + r ≡ k
      whole = div-add-mod k (2 ^ 64)

      by : (a : Bool) → nat_le first p ≡ a → (b : Bool) → nat_lt p (first + count) ≡ b → bucket_at (joined first parts) k ≡ []
      by true isa true isb = absurd (true≢false (sym (ap₂ (λ (x y : Bool). x && y) isa isb) ∙ out))
      by true isa false isb =
          let low = from-le first p isa in
          let past = number_from p (first + count) isb in
          let w = whole in
          let here : k ≡ (first + (p - first)) * 2 ^ 64 + r = omega (arith, w, low) in
          let few = are.few in
          ap (bucket_at (joined first parts)) here ∙ bucket-joined first (p - first) r parts are.indices less ∙ ap (λ (es : Entries V). bucket_at es r) (behind-last parts (p - first) (omega (arith, low, past, few)))
      by false isa b isb =
          let low = from-not-le first p isa in
          let w = whole in
          let l = less in
          bucket-low first k parts (omega (arith, w, low, l))
