-- How the leaves of the grafted tree follow a step.
use Rattle.std.proofs.Common.{◌≡◌, ◌⊎◌, inl, inr, ◌≢◌, ◌+◌, ◌-◌, ◌*◌, ◌^◌, ◌<◌, ◌≤◌, ℕ, zero, suc, List, [], ◌∷◌, ◌++◌, length, map, get_or, le_refl, Option, Some, None, IfSome, arith, ap, ap₂, sym, ◌∙◌, refl, subst, ⊎_elim, Ordering, Less, Equal, Greater}
use Rattle.std.specs.Prelude.{Bool, All, Contains, slice_set, if◌then◌else◌, IsSome}
use Rattle.std.specs.Option.{option_map_or}
use Rattle.std.specs.Ordering.{nat_cmp, match_ordering}
use Rattle.std.specs.BTreeMap.{insert_entry}
use Rattle.std.proofs.Math.Nat.{mul-suc}
use Rattle.std.proofs.lemmas.Bool.{cases_lt, lt-ltb}
use Rattle.std.proofs.lemmas.Nat.{mul-le}
use Rattle.std.proofs.Math.ListN.{get_or-append}
use Rattle.std.proofs.lemmas.List.{append-nil, append_assoc, map-append, length-set, length-append, get_or-append_right, get_or-set_same, get_or-set_other, ext_get_or}
use Rattle.std.proofs.lemmas.List.Elements.{Contains-append_left, Contains-append_right, Contains-append_cases}
use Rattle.qm_model.specs.Operations.{Bytes}
use Rattle.qm_model.specs.Trees.{Shape, digest}
use Rattle.qm_model.specs.Bits.{chunk}
use Rattle.qm_model.specs.Grafted.{chunk_values, value_over}
use Rattle.qm_model.proofs.GraftedLemmas.{length-chunk_values, chunk_value_at}
use Rattle.qm_merkle.specs.Batches.{Draft, updated, drafted, replaced_from}
use Rattle.qm_merkle.specs.Mems.{more}
use Rattle.qm_merkle.proofs.Drafting.{All-inserted}
use Rattle.qm_merkle.proofs.Growth.{digest-append}
use Rattle.qm_graft.specs.Grafting.{IsRedrafted, grafting, node_over, made_value, made_values, AreMade, IsStep, TellsNodes}

-- Few leaves are replaced.

length-inserted : {D : Type 0} (entries : List (ℕ × D)) (n : ℕ) (d : D) → length (insert_entry nat_cmp entries n d) ≤ length entries + 1
length-inserted [] n d = omega arith
length-inserted (e ∷ es) n d = at (length-inserted es n d) (nat_cmp n e.0)
  where
    at : length (insert_entry nat_cmp es n d) ≤ length es + 1 → (o : Ordering) → length (match_ordering o ((n, d) ∷ e ∷ es) ((e.0, d) ∷ es) (e ∷ insert_entry nat_cmp es n d)) ≤ suc (length es) + 1
    at few Less = omega arith
    at few Equal = omega arith
    at few Greater = omega (arith, few)

pub updated-few : {D : Type 0} (draft : Draft D) (location : ℕ) (d : D) → location < draft.base → length (updated draft location d).replaced ≤ length draft.replaced + 1
updated-few draft location d low =
    subst (λ (n : Draft _). length n.replaced ≤ length draft.replaced + 1)
    (sym (ap (λ b. if b then record draft { replaced = insert_entry nat_cmp draft.replaced location d } else record draft { added = slice_set draft.added (location - draft.base) d }) (lt-ltb location draft.base low)))
    (length-inserted draft.replaced location d)

pub updated-same : {D : Type 0} (draft : Draft D) (location : ℕ) (d : D) → location < draft.base → IsRedrafted draft (updated draft location d)
updated-same draft location d low =
    subst (λ (n : Draft _). IsRedrafted draft n)
    (sym (ap (λ b. if b then record draft { replaced = insert_entry nat_cmp draft.replaced location d } else record draft { added = slice_set draft.added (location - draft.base) d }) (lt-ltb location draft.base low)))
    (record { start = refl; base = refl; layers = refl; added = refl })

pub updated-above : {D : Type 0} (draft : Draft D) (location : ℕ) (d : D) (least : ℕ) → location < draft.base → All (λ e. least ≤ e.0) draft.replaced → least ≤ location → All (λ e. least ≤ e.0) (updated draft location d).replaced
updated-above draft location d least low each high =
    subst (λ (n : Draft _). All (λ e. least ≤ e.0) n.replaced)
    (sym (ap (λ b. if b then record draft { replaced = insert_entry nat_cmp draft.replaced location d } else record draft { added = slice_set draft.added (location - draft.base) d }) (lt-ltb location draft.base low)))
    (All-inserted (λ n. least ≤ n) draft.replaced location d each high)

-- What following costs: a value for each of the chunks that changed, of which so many leaves are replaced, and the nodes over them.
pub follow-cost : (changed values leaves nodes added born k before middle after : ℕ) → values ≤ changed → leaves ≤ changed → nodes ≤ leaves * suc k →
    middle ≡ more before (values + added) → after ≡ more middle ((born - added) + (nodes - leaves)) → after ≤ before + (changed * suc k + added + (born - added))
follow-cost changed values leaves nodes added born k before middle after few fewer most first last =
    let row = mul-suc leaves k in
    let whole = mul-suc changed k in
    let rows = mul-le leaves k changed k fewer (le_refl k) in
    omega (arith, few, fewer, most, first, last, row, whole, rows)

-- Chunks made one by one.

equal_or : (a b : ℕ) → (a ≡ b) ⊎ (a ≢ b)
equal_or a b = ⊎_elim
    (λ (less : a < b). inr (λ same. omega (arith, less, same)))
    (λ (more : b ≤ a). ⊎_elim (λ (above : b < a). inr (λ same. omega (arith, above, same))) (λ (most : a ≤ b). inl (omega (arith, more, most))) (cases_lt b a))
    (cases_lt a b)

only-one : (x c : ℕ) → Contains (x ∷ []) c → c ≡ x
only-one x c (zero, within, is) = sym is
only-one x c (suc i, within, is) = absurd (omega (arith, within))

module _ (made : ℕ → Bytes) where
  pub none-made : (old : List Bytes) → AreMade made [] old old
  none-made old = record { long = refl; put = λ c found low. absurd (nothing c found); others = λ c apart. refl }
    where
      nothing : (c : ℕ) → Contains [] c → ⊥
      nothing c (i, within, is) = omega (arith, within)

  -- with one more, which is among the leaves
  pub one-made : (changed next : List ℕ) (c : ℕ) (old mid new : List Bytes) → next ≡ changed ++ c ∷ [] → AreMade made changed old mid → c < length old → new ≡ slice_set mid c (made c) → AreMade made next old new
  one-made changed next c old mid new is are low put = record {
    long = ap length put ∙ length-set mid c (made c) ∙ are.long;
    put = λ i found within. ⊎_elim
        (λ (same : i ≡ c). ap₂ (λ l j. get_or l j []) put same ∙ get_or-set_same mid c (made c) [] (omega (arith, low, are.long)) ∙ ap made (sym same))
        (λ (apart : i ≢ c). ap (λ l. get_or l i []) put ∙ get_or-set_other mid c i (made c) [] apart ∙ are.put i (earlier i apart (subst (λ l. Contains l i) is found)) within)
        (equal_or i c);
    others = λ i apart.
        ap (λ l. get_or l i []) put
        ∙ get_or-set_other mid c i (made c) [] (λ same. apart (subst (λ l. Contains l i) (sym is) (Contains-append_right changed (c ∷ []) i (0, omega arith, sym same))))
        ∙ are.others i (λ found. apart (subst (λ l. Contains l i) (sym is) (Contains-append_left changed (c ∷ []) i found)));
  }
    where
      earlier : (i : ℕ) → i ≢ c → Contains (changed ++ c ∷ []) i → Contains changed i
      earlier i apart found = ⊎_elim (λ (is : Contains changed i). is) (λ (last : Contains (c ∷ []) i). absurd (apart (only-one c i last))) (Contains-append_cases changed (c ∷ []) i found)

  -- with one more, which is not
  pub one-past : (changed next : List ℕ) (c : ℕ) (old new : List Bytes) → next ≡ changed ++ c ∷ [] → AreMade made changed old new → length old ≤ c → AreMade made next old new
  one-past changed next c old new is are past = record {
    long = are.long;
    put = λ i found within. ⊎_elim
        (λ (before : Contains changed i). are.put i before within)
        (λ (last : Contains (c ∷ []) i). absurd (omega (arith, only-one c i last, within, past)))
        (Contains-append_cases changed (c ∷ []) i (subst (λ l. Contains l i) is found));
    others = λ i apart. are.others i (λ found. apart (subst (λ l. Contains l i) (sym is) (Contains-append_left changed (c ∷ []) i found)));
  }

-- Values from a chunk on.
module _ {D : Type 0} (bytes : D → Bytes) (hash : Bytes → Bytes) (held : ℕ → Option D) (shape : Shape) (size : ℕ) (bits : List Bool) where
  abbrev value : ℕ → Bytes
  value = made_value bytes hash held shape size bits

  abbrev values : ℕ → ℕ → List Bytes
  values = made_values bytes hash held shape size bits

  pub length-values : (c n : ℕ) → length (values c n) ≡ n
  length-values c zero = refl
  length-values c (suc n) = let rest = length-values (suc c) n in omega (arith, rest)

  value-at : (c n i : ℕ) → i < n → get_or (values c n) i [] ≡ value (c + i)
  value-at c zero i low = absurd (omega (arith, low))
  value-at c (suc n) zero low = let same : c ≡ c + 0 = omega arith in ap value same
  value-at c (suc n) (suc i) low = let same : suc c + i ≡ c + suc i = omega arith in value-at (suc c) n i (omega (arith, low)) ∙ ap value same

  pub one-value : (c n : ℕ) → values c (suc n) ≡ values c n ++ value (c + n) ∷ []
  one-value c zero = let same : c ≡ c + 0 = omega arith in ap (λ k. value k ∷ []) same
  one-value c (suc n) = let same : suc c + n ≡ c + suc n = omega arith in ap (λ l. value c ∷ l) (one-value (suc c) n ∙ ap (λ k. values (suc c) n ++ value k ∷ []) same)

  -- after other values
  pub more-values : (first : List Bytes) (from at : ℕ) (old new : List D) (v : D) → from ≤ at → map bytes old ≡ first ++ values from (at - from) → new ≡ old ++ v ∷ [] → bytes v ≡ value at →
      map bytes new ≡ first ++ values from (at + 1 - from)
  more-values first from at old new v low is put made =
      let next : suc (at - from) ≡ at + 1 - from = omega (arith, low) in
      let here : from + (at - from) ≡ at = omega (arith, low) in
      ap (map bytes) put ∙ map-append bytes old (v ∷ [])
      ∙ ap₂ (λ l x. l ++ x ∷ []) is (made ∙ ap value (sym here))
      ∙ append_assoc first (values from (at - from)) (value (from + (at - from)) ∷ [])
      ∙ ap (λ l. first ++ l) (sym (one-value from (at - from)) ∙ ap (values from) next)

  -- what is held of a node is its digest
  told : (o : Option D) (x : Bytes) → IsSome o → IfSome o (λ d. bytes d ≡ x) → option_map_or bytes o [] ≡ x
  told None x some tells = absurd (cc)
  told (Some d) x some tells = tells

-- A list of which no leaf was replaced, and none added.
untouched : {D : Type 0} (bytes : D → Bytes) (i : ℕ) (leaves : List Bytes) → replaced_from bytes [] i leaves ≡ leaves
untouched bytes i [] = refl
untouched bytes i (leaf ∷ leaves) = ap (λ l. leaf ∷ l) (untouched bytes (suc i) leaves)

pub fresh-drafted : {D : Type 0} (bytes : D → Bytes) (draft : Draft D) (leaves : List Bytes) → draft.replaced ≡ [] → draft.added ≡ [] → drafted bytes draft leaves ≡ leaves
fresh-drafted bytes draft leaves none bare = ap₂ (λ r a. replaced_from bytes r 0 leaves ++ map bytes a) none bare ∙ append-nil (replaced_from bytes [] 0 leaves) ∙ untouched bytes 0 leaves

contains_or : (xs : List ℕ) (i : ℕ) → Contains xs i ⊎ (Contains xs i → ⊥)
contains_or [] i = inr (λ found. omega (arith, found.1))
contains_or (x ∷ xs) i = ⊎_elim
    (λ (same : i ≡ x). inl (0, omega arith, sym same))
    (λ (apart : i ≢ x). ⊎_elim
    (λ (found : Contains xs i). inl (suc found.0, omega (arith, found.1), found.2))
    (λ (none : Contains xs i → ⊥). inr (λ found. later found.0 found.1 found.2 none apart))
    (contains_or xs i))
    (equal_or i x)
  where
    later : (k : ℕ) → k < length (x ∷ xs) → get_or (x ∷ xs) k i ≡ i → (Contains xs i → ⊥) → i ≢ x → ⊥
    later zero within is none apart = apart (sym is)
    later (suc k) within is none apart = none (k, omega (arith, within), is)

-- A step.
module _ {D : Type 0} (bytes : D → Bytes) (hash : Bytes → Bytes) (held : ℕ → Option D) (shape : Shape) (size : ℕ) (bits : List Bool) where
  abbrev g : ℕ
  g = grafting size

  abbrev behind : ℕ → Bytes
  behind = chunk size bits

  abbrev made : ℕ → Bytes
  made = made_value bytes hash held shape size bits

  module _ (count base : ℕ) (changed : List ℕ) (old new : List Bytes) (before : ℕ → Bytes) (step : IsStep g base changed old new before behind) (tells : TellsNodes bytes hash held shape g new count) where
    made-right : (c : ℕ) → c < count → IsSome (node_over held shape g c) → made c ≡ value_over hash shape g new behind zero c
    made-right c low some = ap (λ d. hash (behind c ++ d)) (told bytes hash held shape size bits (node_over held shape g c) (digest hash shape new g c) some (tells c low))

    kept-right : (c : ℕ) → c < base → (Contains changed c → ⊥) → value_over hash shape g old before zero c ≡ value_over hash shape g new behind zero c
    kept-right c low apart =
        let inside = mul-le (suc c) (2 ^ g) base (2 ^ g) (omega (arith, low)) (le_refl (2 ^ g)) in
        let whole = step.complete in
        let same : digest hash shape new g c ≡ digest hash shape old g c = ap (λ l. digest hash shape l g c) step.onward ∙ digest-append hash shape old step.added g c (omega (arith, inside, whole)) in
        ap₂ (λ b d. hash (b ++ d)) (step.same c low apart) (sym same)

    pub followed : (list : List Bytes) → base ≤ count → AreMade made changed (chunk_values hash shape g old before 0 base) list →
        ((c : ℕ) → Contains changed c → c < base → IsSome (node_over held shape g c)) → ((c : ℕ) → base ≤ c → c < count → IsSome (node_over held shape g c)) →
        list ++ made_values bytes hash held shape size bits base (count - base) ≡ chunk_values hash shape g new behind 0 count
    followed list order are some more = ext_get_or [] _ _ (omega (arith, long, here, there)) each
      where
        here : length list ≡ base
        here = are.long ∙ length-chunk_values hash shape g old before 0 base

        long : length (list ++ made_values bytes hash held shape size bits base (count - base)) ≡ length list + (count - base)
        long = length-append list _ ∙ ap (λ n. length list + n) (length-values bytes hash held shape size bits base (count - base))

        there : length (chunk_values hash shape g new behind 0 count) ≡ count
        there = length-chunk_values hash shape g new behind 0 count

        wanted : (i : ℕ) → i < count → value_over hash shape g new behind zero i ≡ get_or (chunk_values hash shape g new behind 0 count) i []
        wanted i low = let same : i ≡ 0 + i = omega arith in ap (value_over hash shape g new behind zero) same ∙ sym (chunk_value_at hash shape g new behind 0 count i [] low)

        first : (i : ℕ) → i < base → get_or list i [] ≡ value_over hash shape g new behind zero i
        first i low = ⊎_elim
            (λ (found : Contains changed i). are.put i found (omega (arith, low, length-chunk_values hash shape g old before 0 base)) ∙ made-right i (omega (arith, low, order)) (some i found low))
            (λ (apart : Contains changed i → ⊥).
            let same : 0 + i ≡ i = omega arith in
            are.others i apart ∙ chunk_value_at hash shape g old before 0 base i [] low ∙ ap (value_over hash shape g old before zero) same ∙ kept-right i low apart)
            (contains_or changed i)

        each : (i : ℕ) → i < length (list ++ made_values bytes hash held shape size bits base (count - base)) →
            get_or (list ++ made_values bytes hash held shape size bits base (count - base)) i [] ≡ get_or (chunk_values hash shape g new behind 0 count) i []
        each i low = ⊎_elim
            (λ (inside : i < base). get_or-append list _ [] i (omega (arith, inside, here)) ∙ first i inside ∙ wanted i (omega (arith, inside, order)))
            (λ (past : base ≤ i).
            let less : i < count = omega (arith, low, long, here, order) in
            let at : base + (i - base) ≡ i = omega (arith, past) in
            get_or-append_right list (made_values bytes hash held shape size bits base (count - base)) base i [] here past
            ∙ value-at bytes hash held shape size bits base (count - base) (i - base) (omega (arith, less, past)) ∙ ap made at ∙ made-right i less (more i past less) ∙ wanted i less)
            (cases_lt i base)
