-- Bits where keys stand: those of a list, and what becomes of them when a key moves.
use Rattle.std.proofs.Common.{◌≡◌, ◌≢◌, ℕ, suc, ◌-◌, ◌<◌, ◌≤◌, Bool, true, false, List, [], ◌∷◌, ◌++◌, length, map, set, get_or, replicate, refl, ap, sym, ◌∙◌, Option, Some, None, arith, ⊎_elim, ◌||◌, true≢false}
use Rattle.std.specs.Prelude.{◌==◌, Contains, IfSome, bytes_eq, option_map}
use Rattle.std.specs.List.{list_any}
use Rattle.std.proofs.Math.Bool.{or-false}
use Rattle.std.proofs.lemmas.Bool.{cases_lt, cases_eq, eq-eqb, eqb-true}
use Rattle.std.proofs.lemmas.Bool.Decides.{nat_tests}
use Rattle.std.proofs.lemmas.List.{ext_get_or, length-append, length-replicate, length-set, get_or-append_right, get_or_append_left, get_or-replicate, get_or_past, get_or-set_same, get_or-set_other}
use Rattle.std.proofs.lemmas.List.Elements.{All-contains, All-from_recursion}
use Rattle.std.proofs.lemmas.List.Folds.{Any-from_list_any, list_any-from_Any, list_any-append}
use Rattle.std.proofs.lemmas.Option.{get_or_from_slice_get, slice_get-get_or, same_Some}
use Rattle.qm_model.specs.Operations.{Bytes, Operation, update, delete, commit, IsCommitEnded}
use Rattle.qm_model.specs.Live.{Live, live, live_from, live_of, active, touched}
use Rattle.qm_model.specs.Bits.{bits}
use Rattle.qm_model.proofs.BitLemmas.{length-bits}
use Rattle.qm_model.proofs.GraftedLemmas.{bit_is_active}
use Rattle.qm_model.proofs.LastWrites.{bytes_same}
use Rattle.qm_model.proofs.Maps.{same_key}
use Rattle.qm_model.proofs.Pushes.{Within, live_from-within}
use Rattle.qm_step.specs.Changes.{place_in, update_at}
use Rattle.qm_overlay.specs.Marks.{AreMarked, cleared, marked}
use Rattle.qm_step.proofs.Appends.{own-live}
use Rattle.qm_index.proofs.Basics.{or-later}
use Rattle.qm_index.proofs.Members.{from_image, in_image}
use Rattle.qm_step.proofs.Standing.{live-stands, live-of_key, of_key-within}

-- Where the keys of a list stand.

-- the live update of a key that stands at a location
found_of : (es : List Live) (key : Bytes) (i : ℕ) → option_map (λ (p : ℕ × Bytes). p.0) (option_map (λ (e : Live). (e.location, e.value)) (live_of es key)) ≡ Some i
    → (e : Live) × Contains es e × (e.key ≡ key) × (e.location ≡ i)
found_of es key i at = by (live_of es key) refl at
  where
    by : (o : Option Live) → live_of es key ≡ o → option_map (λ (p : ℕ × Bytes). p.0) (option_map (λ (e : Live). (e.location, e.value)) o) ≡ Some i → (e : Live) × Contains es e × (e.key ≡ key) × (e.location ≡ i)
    by None is at = cc
    by (Some e) is at = let within = of_key-within es key e is in (e, within.0, within.1, same_Some e.location i at)

found_live : (list : List Operation) (key : Bytes) (i : ℕ) → place_in list key ≡ Some i → (e : Live) × Contains (live list) e × (e.key ≡ key) × (e.location ≡ i)
found_live list key i at = found_of (live list) key i at

-- a key stands in the list
pub place-within : (list : List Operation) (key : Bytes) (i : ℕ) → place_in list key ≡ Some i → i < length list
place-within list key i at =
    let e = found_live list key i at in
    let within = All-contains (Within 0 (length list)) (live list) e.0 (All-from_recursion (Within 0 (length list)) (live list) (live_from-within 0 list)) e.1 in
    let high = within.1 in
    let place = e.3 in
    omega (arith, high, place)

-- a key that more operations touch stands after the list
pub place-behind : (list made : List Operation) (key : Bytes) (i : ℕ) → touched key made ≡ true → place_in (list ++ made) key ≡ Some i → length list ≤ i
place-behind list made key i again at =
    let own = ap (λ o. option_map (λ (p : ℕ × Bytes). p.0) (option_map (λ (e : Live). (e.location, e.value)) o)) (own-live list made key again) in
    let e = found_of (live_from (length list) made) key i (sym own ∙ at) in
    let within = All-contains (Within (length list) (length made)) (live_from (length list) made) e.0 (All-from_recursion (Within (length list) (length made)) (live_from (length list) made) (live_from-within (length list) made)) e.1 in
    let low = within.0 in
    let place = e.3 in
    omega (arith, low, place)

update-stands : (list : List Operation) (key : Bytes) (i : ℕ) → place_in list key ≡ Some i → (v : Bytes) × (n : Option Bytes) × (update_at list i ≡ Some (update key v n))
update-stands list key i at =
    let e = found_live list key i at in
    ((e.0).value, (e.0).next, ap (update_at list) (sym e.3) ∙ live-stands list e.0 e.1 ∙ ap (λ k. Some (update k (e.0).value (e.0).next)) e.2)

-- no two keys stand at one location
pub place-once : (list : List Operation) (key other : Bytes) (i : ℕ) → place_in list key ≡ Some i → place_in list other ≡ Some i → key ≡ other
place-once list key other i at there =
    let a = update-stands list key i at in
    let b = update-stands list other i there in
    let same : update key a.0 a.1 ≡ update other b.0 b.1 = same_Some (update key a.0 a.1) (update other b.0 b.1) (sym a.2 ∙ b.2) in
    cc

-- a live update stands at a location
abbrev is_live_at : List Operation → ℕ → Bool
is_live_at list i = list_any (λ k. k == i) (map (λ e. e.location) (live list))

key-there : (list : List Operation) (i : ℕ) → is_live_at list i ≡ true → (key : Bytes) × (place_in list key ≡ Some i)
key-there list i is =
    let any = Any-from_list_any (λ k. k == i) (map (λ e. e.location) (live list)) is in
    let e = from_image (λ (e : Live). e.location) (live list) any.1 (any.0, any.2, any.3) in
    let place : (e.0).location ≡ i = e.2 ∙ eqb-true any.1 i any.4 in
    ((e.0).key, ap (λ o. option_map (λ (p : ℕ × Bytes). p.0) (option_map (λ (e : Live). (e.location, e.value)) o)) (live-of_key list e.0 e.1) ∙ ap Some place)

there-key : (list : List Operation) (key : Bytes) (i : ℕ) → place_in list key ≡ Some i → is_live_at list i ≡ true
there-key list key i at =
    let e = found_live list key i at in
    let within = in_image (λ (e : Live). e.location) (live list) e.0 e.1 in
    list_any-from_Any (λ k. k == i) (map (λ e. e.location) (live list)) (within.0, (e.0).location, within.1, within.2, eq-eqb (e.0).location i e.3)

-- the bit of a location
bit-there : (list : List Operation) (i : ℕ) → i < length list → get_or (bits list) i false ≡ (is_live_at list i || (length list - 1 == i))
bit-there list i low =
    let op = get_or list i (commit None 0) in
    get_or_from_slice_get (bits list) i (list_any (λ k. k == i) (active list)) false (bit_is_active list i op (slice_get-get_or list i (commit None 0) low))
    ∙ list_any-append (λ k. k == i) (map (λ e. e.location) (live list)) ((length list - 1) ∷ [])
    ∙ ap (λ t. is_live_at list i || t) (or-false (length list - 1 == i))

differ : (m n : ℕ) → m ≢ n → (m == n) ≡ false
differ m n apart = grind (arith, nat_tests)

bit-before : (list : List Operation) (i : ℕ) → i < length list → i ≢ length list - 1 → get_or (bits list) i false ≡ is_live_at list i
bit-before list i low apart =
    bit-there list i low ∙ ap (λ t. is_live_at list i || t) (differ (length list - 1) i (λ same. apart (sym same))) ∙ or-false (is_live_at list i)

pub bit-last : (list : List Operation) → 0 < length list → get_or (bits list) (length list - 1) false ≡ true
bit-last list some =
    let last : length list - 1 < length list = omega arith in
    bit-there list (length list - 1) last ∙ ap (λ t. is_live_at list (length list - 1) || t) (eq-eqb (length list - 1) (length list - 1) refl) ∙ or-later (is_live_at list (length list - 1)) true refl

-- A list that ends with a commit.

pub ended-some : (list : List Operation) → IsCommitEnded list → 0 < length list
ended-some [] ended = absurd ended
ended-some (op ∷ rest) ended = omega arith

ended-none : (list : List Operation) → IsCommitEnded list → update_at list (length list - 1) ≡ None
ended-none [] ended = refl
ended-none (update k v n ∷ []) ended = absurd ended
ended-none (delete k ∷ []) ended = refl
ended-none (commit m f ∷ []) ended = refl
ended-none (x ∷ y ∷ list) ended =
    let here : length (x ∷ y ∷ list) - 1 ≡ suc (length (y ∷ list) - 1) = omega arith in
    ap (update_at (x ∷ y ∷ list)) here ∙ ended-none (y ∷ list) ended

no-bit : (n k : ℕ) → get_or (replicate n false) k false ≡ false
no-bit n k = ⊎_elim
    (λ (low : k < n). get_or-replicate n k false false low)
    (λ (past : n ≤ k). let long = length-replicate {A = Bool} n false in get_or_past (replicate n false) k false (omega arith))
    (cases_lt k n)

-- its bits, without that of the commit, and with clear ones after them
module _ (list : List Operation) (n : ℕ) (ended : IsCommitEnded list) where
  abbrev all : List Bool
  all = bits list ++ replicate n false

  abbrev last : ℕ
  last = length list - 1

  low-bit : (i : ℕ) → i < length list → i ≢ last → get_or (set all last false) i false ≡ is_live_at list i
  low-bit i low apart =
      let long = length-bits list in
      get_or-set_other all last i false false apart ∙ get_or_append_left (bits list) (replicate n false) false i (omega arith) ∙ bit-before list i low apart

  last-bit : get_or (set all last false) last false ≡ false
  last-bit =
      let some = ended-some list ended in
      let long = length-bits list in
      let both = length-append (bits list) (replicate n false) in
      get_or-set_same all last false false (omega arith)

  past-bit : (i : ℕ) → length list ≤ i → get_or (set all last false) i false ≡ false
  past-bit i past =
      let some = ended-some list ended in
      let apart : i ≢ last = λ same. absurd (omega arith) in
      get_or-set_other all last i false false apart ∙ get_or-append_right (bits list) (replicate n false) (length list) i false (length-bits list) past ∙ no-bit n (i - length list)

  pub begun : AreMarked (set all last false) (place_in list)
  begun = record {
    found = λ i is. ⊎_elim
        (λ (low : i < length list). ⊎_elim
        (λ (same : i ≡ last). absurd (true≢false (sym is ∙ ap (λ j. get_or (set all last false) j false) same ∙ last-bit)))
        (λ (apart : i ≢ last). key-there list i (sym (low-bit i low apart) ∙ is))
        (cases_eq i last))
        (λ (past : length list ≤ i). absurd (true≢false (sym is ∙ past-bit i past)))
        (cases_lt i (length list));
    stands = λ key i at.
        let u = update-stands list key i at in
        low-bit i (place-within list key i at) (λ same. none (update key u.0 u.1) (sym u.2 ∙ ap (update_at list) same ∙ ended-none list ended)) ∙ there-key list key i at;
  }
    where
      none : (op : Operation) → Some op ≡ None → ⊥
      none op e = cc

-- a bit of either two lists
same-bit : (a b : Bool) → (a ≡ true → b ≡ true) → (b ≡ true → a ≡ true) → a ≡ b
same-bit true b to from = sym (to refl)
same-bit false true to from = from refl
same-bit false false to from = refl

-- with that of the last operation, they are the list's bits
pub done : (list : List Operation) (now : List Bool) → AreMarked now (place_in list) → length now ≡ length list → set now (length list - 1) true ≡ bits list
done list now are long =
    let same = length-bits list in
    let as_long = length-set now (length list - 1) true in
    ext_get_or false (set now (length list - 1) true) (bits list) (omega arith) (λ i lt.
    let low : i < length list = omega arith in
    ⊎_elim
    (λ (here : i ≡ length list - 1).
    let some : 0 < length list = omega arith in
    let within : length list - 1 < length now = omega arith in
    ap (λ j. get_or (set now (length list - 1) true) j false) here ∙ get_or-set_same now (length list - 1) true false within
    ∙ sym (ap (λ j. get_or (bits list) j false) here ∙ bit-last list some))
    (λ (apart : i ≢ length list - 1).
    get_or-set_other now (length list - 1) i true false apart
    ∙ same-bit (get_or now i false) (is_live_at list i) (λ is. let key = are.found i is in there-key list key.0 i key.1) (λ is. let key = key-there list i is in are.stands key.0 i key.1)
    ∙ sym (bit-before list i low apart))
    (cases_eq i (length list - 1)))

-- A key that moves.

module _ (old : List Bool) (place next : Bytes → Option ℕ) (key : Bytes) (are : AreMarked old place) (others : (k : Bytes) → bytes_eq key k ≡ false → next k ≡ place k) where
  -- a key that stands elsewhere is another one
  other-key : (k : Bytes) (i : ℕ) → place k ≡ Some i → place key ≢ Some i → bytes_eq key k ≡ false
  other-key k i at not = by (bytes_eq key k) refl
    where
      by : (t : Bool) → bytes_eq key k ≡ t → bytes_eq key k ≡ false
      by true is = absurd (not (ap place (same_key key k is) ∙ at))
      by false is = is

  -- the same from what comes of it
  was : (k : Bytes) (i : ℕ) → next k ≡ Some i → next key ≢ Some i → (place k ≡ Some i) × (bytes_eq key k ≡ false)
  was k i at not = by (bytes_eq key k) refl
    where
      by : (t : Bool) → bytes_eq key k ≡ t → (place k ≡ Some i) × (bytes_eq key k ≡ false)
      by true is = absurd (not (ap next (same_key key k is) ∙ at))
      by false is = (sym (others k is) ∙ at, is)

  nowhere : (o : Option ℕ) → o ≡ None → (i : ℕ) → o ≢ Some i
  nowhere o none i some = cc

  -- to nowhere
  pub key-cleared : (before : Option ℕ) → place key ≡ before → next key ≡ None → ((k : Bytes) (i : ℕ) → place k ≡ Some i → before ≡ Some i → k ≡ key) → AreMarked (cleared old before) next
  key-cleared None at gone once = record {
    found = λ i is. let k = are.found i is in (k.0, others k.0 (other-key k.0 i k.1 (nowhere (place key) at i)) ∙ k.1);
    stands = λ k i there. are.stands k i (was k i there (nowhere (next key) gone i)).0;
  }
  key-cleared (Some b) at gone once = record { found = found; stands = stands }
    where
      clear : get_or (set old b false) b false ≡ false
      clear = ⊎_elim
          (λ (low : b < length old). get_or-set_same old b false false low)
          (λ (past : length old ≤ b). let long = length-set old b false in get_or_past (set old b false) b false (omega arith))
          (cases_lt b (length old))

      found : (i : ℕ) → get_or (set old b false) i false ≡ true → (k : Bytes) × (next k ≡ Some i)
      found i is = ⊎_elim
          (λ (same : i ≡ b). absurd (true≢false (sym is ∙ ap (λ j. get_or (set old b false) j false) same ∙ clear)))
          (λ (apart : i ≢ b).
          let k = are.found i (sym (get_or-set_other old b i false false apart) ∙ is) in
          (k.0, others k.0 (other-key k.0 i k.1 (λ there. apart (sym (same_Some b i (sym at ∙ there))))) ∙ k.1))
          (cases_eq i b)

      stands : (k : Bytes) (i : ℕ) → next k ≡ Some i → get_or (set old b false) i false ≡ true
      stands k i there =
          let stood = was k i there (nowhere (next key) gone i) in
          let apart : i ≢ b = λ same. true≢false (sym (ap (bytes_eq key) (once k i stood.0 (ap Some (sym same))) ∙ bytes_same key) ∙ stood.1) in
          get_or-set_other old b i false false apart ∙ are.stands k i stood.0

  -- from nowhere
  pub key-marked : (now : Option ℕ) → place key ≡ None → next key ≡ now → IfSome now (λ i. i < length old) → AreMarked (marked old now) next
  key-marked None gone at within = record {
    found = λ i is. let k = are.found i is in (k.0, others k.0 (other-key k.0 i k.1 (nowhere (place key) gone i)) ∙ k.1);
    stands = λ k i there. are.stands k i (was k i there (nowhere (next key) at i)).0;
  }
  key-marked (Some n) gone at within = record { found = found; stands = stands }
    where
      here : get_or (set old n true) n false ≡ true
      here = get_or-set_same old n true false within

      found : (i : ℕ) → get_or (set old n true) i false ≡ true → (k : Bytes) × (next k ≡ Some i)
      found i is = ⊎_elim
          (λ (same : i ≡ n). (key, at ∙ ap Some (sym same)))
          (λ (apart : i ≢ n).
          let k = are.found i (sym (get_or-set_other old n i true false apart) ∙ is) in
          (k.0, others k.0 (other-key k.0 i k.1 (nowhere (place key) gone i)) ∙ k.1))
          (cases_eq i n)

      stands : (k : Bytes) (i : ℕ) → next k ≡ Some i → get_or (set old n true) i false ≡ true
      stands k i there = ⊎_elim
          (λ (same : i ≡ n). ap (λ j. get_or (set old n true) j false) same ∙ here)
          (λ (apart : i ≢ n). get_or-set_other old n i true false apart ∙ are.stands k i (was k i there (λ too. apart (sym (same_Some n i (sym at ∙ too))))).0)
          (cases_eq i n)

-- places that are the same
pub marked-same : (now : List Bool) (place next : Bytes → Option ℕ) → ((key : Bytes) → place key ≡ next key) → AreMarked now place → AreMarked now next
marked-same now place next same are = record {
  found = λ i is. let key = are.found i is in (key.0, sym (same key.0) ∙ key.1);
  stands = λ key i at. are.stands key i (same key ∙ at);
}
