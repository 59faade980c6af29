-- The nodes above replaced leaves, row by row.
use Rattle.std.proofs.Common.{◌≡◌, ◌≢◌, ℕ, zero, suc, ◌+◌, ◌-◌, ◌*◌, ◌/◌, ◌%◌, ◌^◌, ◌<◌, ◌≤◌, ◌↔◌, ◌⊎◌, true, false, List, [], ◌∷◌, ◌++◌, length, get_or, arith, ap, sym, ◌∙◌, refl, Option, Some, None, IsSome, IfSome, Contains, All, ⊎_elim, inl, inr, subst, Less, Equal, Greater, le_refl}
use Rattle.std.specs.Prelude.{is_some, ◌==◌}
use Rattle.std.specs.Cmp.{ranks}
use Rattle.std.proofs.lemmas.Cmp.{by_ranked}
use Rattle.std.specs.Option.{option_or, option_map, unwrap_or}
use Rattle.std.specs.Ordering.{nat_cmp, is_eq}
use Rattle.std.proofs.Math.Nat.{pow-suc}
use Rattle.std.proofs.lemmas.Nat.{pow_pos, pow-add, mul-le}
use Rattle.std.proofs.lemmas.List.{get_or_default}
use Rattle.std.proofs.lemmas.Bool.{cases_lt}
use Rattle.std.proofs.lemmas.Bool.Decides.{eqb_tells}
use Rattle.std.specs.List.{AllByRecursion}
use Rattle.std.specs.List.Sorted.{IsStrictlySortedBy}
use Rattle.std.specs.Map.{keys_of}
use Rattle.std.proofs.lemmas.Map.Keys.{sorted_head, sorted_tail}
use Rattle.std.proofs.lemmas.List.Elements.{All-nil, All-cons, Contains-append_left, Contains-append_right, Contains-append_cases}
use Rattle.std.proofs.lemmas.Map.Entries.{lookup_tail}
use Rattle.std.proofs.lemmas.List.{length-append}
use Rattle.qm_model.specs.Operations.{Bytes}
use Rattle.qm_model.specs.Trees.{Shape, Node, digest, node_digest, digest_of, end_of, leaf}
use Rattle.qm_model.specs.Families.{Births, IsFamily, over}
use Rattle.qm_merkle.specs.Mems.{Kept, left_of, right_of}
use Rattle.qm_merkle.specs.Batches.{Layer, found_at, replaced_from, IsOver, AreRead, AreRight, AreOver, IsRow, seen_at}
use Rattle.qm_merkle.proofs.Drafting.{length-replaced_from, untouched}
use Rattle.qm_merkle.proofs.Numbering.{over_later, same_place, birth-born}

node_path : (h a k b : ℕ) → h ≡ k → a ≡ b → ◌≡◌ {A = Node} (record { height = h; index = a }) (record { height = k; index = b })
node_path h a k b eh ea = λ t. record { height = eh t; index = ea t }

-- the node of a height and an index
abbrev pub node_of : ℕ → ℕ → Node
node_of h a = record { height = h; index = a }

pub not_some : false ≡ true → ⊥
not_some e = cc

equal_or : (a b : ℕ) → (a ≡ b) ⊎ (a ≢ b)
equal_or a b = ⊎_elim (λ (same : ((a == b) ≡ true) × (a ≡ b)). inl same.1) (λ (other : ((a == b) ≡ false) × (a ≢ b)). inr other.1) (eqb_tells a b)

only : (a b : ℕ) → Contains (a ∷ []) b → b ≡ a
only a b found = go found.0 found.1 found.2
  where
    go : (k : ℕ) → k < 1 → get_or (a ∷ []) k b ≡ b → b ≡ a
    go zero lt is = sym is
    go (suc k) lt is = absurd (omega arith)

pub is_none : {D : Type 0} (o : Option D) → false ≡ is_some o → o ≡ None
is_none None none = refl
is_none (Some d) none = absurd (not_some none)

module _ {D : Type 0} where
  -- the first entry, and the others
  at_key : (n : ℕ) (e : ℕ × D) → ((is_eq (nat_cmp n e.0) ≡ true) × (n ≡ e.0)) ⊎ ((is_eq (nat_cmp n e.0) ≡ false) × (n ≢ e.0))
  at_key n e = by_ranked (n < e.0) (n ≡ e.0) (e.0 < n) (nat_cmp n e.0) (ranks n e.0)
      (λ (is : nat_cmp n e.0 ≡ Less) (lt : n < e.0). inr (ap is_eq is, λ (same : n ≡ e.0). absurd (omega arith)))
      (λ (is : nat_cmp n e.0 ≡ Equal) (same : n ≡ e.0). inl (ap is_eq is, same))
      (λ (is : nat_cmp n e.0 ≡ Greater) (gt : e.0 < n). inr (ap is_eq is, λ (same : n ≡ e.0). absurd (omega arith)))

  -- a key is none of those above it
  rising : (k : ℕ) (es : List (ℕ × D)) → AllByRecursion (λ n. nat_cmp k n ≡ Less) (keys_of es) → All (λ e. k ≢ e.0) es
  rising k [] less = All-nil (λ (e : ℕ × D). k ≢ e.0)
  rising k (e ∷ es) less = All-cons (λ (e : ℕ × D). k ≢ e.0) e es
      (⊎_elim
      (λ (equal : (is_eq (nat_cmp k e.0) ≡ true) × (k ≡ e.0)). absurd (not_some (sym (ap is_eq less.0) ∙ equal.0)))
      (λ (other : (is_eq (nat_cmp k e.0) ≡ false) × (k ≢ e.0)). other.1)
      (at_key k e))
      (rising k es less.1)

  -- what holds of each number among the entries holds of one that is found
  pub found-all : (P : ℕ → Type 0) (entries : List (ℕ × D)) (n : ℕ) → All (λ e. P e.0) entries → IsSome (found_at entries n) → P n
  found-all P [] n all some = cc
  found-all P (e ∷ es) n all some = ⊎_elim
      (λ (here : (is_eq (nat_cmp n e.0) ≡ true) × (n ≡ e.0)). subst P (sym here.1) (all 0 e (omega arith)))
      (λ (other : (is_eq (nat_cmp n e.0) ≡ false) × (n ≢ e.0)). found-all P es n (λ k d lt. all (suc k) d (omega arith)) (ap is_some (sym (lookup_tail (λ k. is_eq (nat_cmp n k)) e es other.0)) ∙ some))
      (at_key n e)

  module _ (bytes : D → Bytes) (replaced : List (ℕ × D)) where
    pub replaced_leaf : (i k : ℕ) (list : List Bytes) (d : D) → k < length list → found_at replaced (i + k) ≡ Some d → bytes d ≡ get_or (replaced_from bytes replaced i list) k []
    replaced_leaf i k [] d lt is = absurd (omega arith)
    replaced_leaf i zero (x ∷ list) d lt is = let at : i + 0 ≡ i = omega arith in sym (ap (λ o. unwrap_or (option_map bytes o) x) (sym (ap (found_at replaced) at) ∙ is))
    replaced_leaf i (suc k) (x ∷ list) d lt is = let at : i + suc k ≡ suc i + k = omega arith in replaced_leaf (suc i) k list d (omega arith) (sym (ap (found_at replaced) at) ∙ is)

  module _ (replaced : List (ℕ × D)) where
    -- a node over a replaced leaf ends past it
    over_past : (start : ℕ) → All (λ e. start ≤ e.0) replaced → (h a : ℕ) → IsOver replaced h a → start < suc a * 2 ^ h
    over_past start past zero a some = omega (arith, found-all (λ n. start ≤ n) replaced a past some)
    over_past start past (suc h) a is =
        let halves : suc a * 2 ^ suc h ≡ suc a * (2 ^ h * 2) = ap (λ z. suc a * z) (pow-suc 2 h) in
        ⊎_elim
        (λ (l : IsOver replaced h (2 * a)). omega (arith, over_past start past h (2 * a) l))
        (λ (r : IsOver replaced h (2 * a + 1)). omega (arith, over_past start past h (2 * a + 1) r))
        is

    -- the node over a node that is over a replaced leaf is over it too, and has such a half
    pub over_up : (h index : ℕ) → IsOver replaced h index → IsOver replaced (suc h) (index / 2)
    over_up h index is = ⊎_elim
        (λ (even : index % 2 < 1). let at : index ≡ 2 * (index / 2) = omega arith in inl (subst (IsOver replaced h) at is))
        (λ (odd : 1 ≤ index % 2). let at : index ≡ 2 * (index / 2) + 1 = omega arith in inr (subst (IsOver replaced h) at is))
        (cases_lt (index % 2) 1)

    pub over_down : (h a : ℕ) → IsOver replaced (suc h) a → (index : ℕ) × (index / 2 ≡ a) × IsOver replaced h index
    over_down h a = ⊎_elim
        (λ (l : IsOver replaced h (2 * a)). (2 * a, omega arith, l))
        (λ (r : IsOver replaced h (2 * a + 1)). (2 * a + 1, omega arith, r))

-- a node is over its halves, and has its digest from theirs
pub over_left : (x : Node) → 0 < x.height → over (left_of x) ≡ x
over_left x high = node_path (suc (x.height - 1)) (2 * x.index / 2) x.height x.index (omega arith) (omega arith)

pub over_right : (x : Node) → 0 < x.height → over (right_of x) ≡ x
over_right x high = node_path (suc (x.height - 1)) ((2 * x.index + 1) / 2) x.height x.index (omega arith) (omega arith)

pub digest-halves : (hash : Bytes → Bytes) (shape : Shape) (list : List Bytes) (h a : ℕ) → 0 < h →
    digest hash shape list h a ≡ node_digest hash (shape.number (record { height = h; index = a })) (digest hash shape list (h - 1) (2 * a)) (digest hash shape list (h - 1) (2 * a + 1))
digest-halves hash shape list zero a high = absurd (omega arith)
digest-halves hash shape list (suc h) a high =
    let level : h ≡ suc h - 1 = omega arith in
    ap (λ k. node_digest hash (shape.number (record { height = suc h; index = a })) (digest hash shape list k (2 * a)) (digest hash shape list k (2 * a + 1))) level

-- a half of a node over a replaced leaf
pub record Half (shape : Shape) (start base : ℕ) (half : Node) : Type 0 where
  pub born : shape.birth half ≤ base
  pub bare : start < shape.birth (over half)
  pub within : end_of half ≤ 2 ^ 62

pub half_is : (shape : Shape) (births : Births) (family : IsFamily shape births) {D : Type 0} (replaced : List (ℕ × D)) (base start : ℕ) (x half : Node) → over half ≡ x → base ≤ 2 ^ 62 → All (λ e. start ≤ e.0) replaced →
    shape.birth x ≤ base → IsOver replaced x.height x.index → Half shape start base half
half_is shape births family replaced base start x half is few past below above =
    let birth : shape.birth (over half) ≡ shape.birth x = ap shape.birth is in
    let later = over_later shape births family half in
    record {
      born = omega arith;
      bare = omega (arith, over_past replaced start past x.height x.index above, family.inside x);
      within = omega (arith, family.inside half);
    }

module _ (shape : Shape) {D : Type 0} (replaced : List (ℕ × D)) (layers : List (Layer D)) (mem : Kept D) (base : ℕ) where
  -- of a node with a digest after the nodes were replaced, the one over the list with its leaves replaced
  pub digest_is : (bytes : D → Bytes) (hash : Bytes → Bytes) (entries : List (ℕ × D)) (list : List Bytes) (y : Node) (found : Option D) (d : D) → length list ≡ base → shape.birth y ≤ base → mem.start < shape.birth (over y) →
      found ≡ found_at entries (shape.position y) → (IsSome found ↔ IsOver replaced y.height y.index) → AreRead shape bytes hash layers mem list → AreRight shape bytes hash entries (replaced_from bytes replaced 0 list) →
      option_or found (seen_at shape layers mem y) ≡ Some d → bytes d ≡ digest_of hash shape (replaced_from bytes replaced 0 list) y
  digest_is bytes hash entries list y (Some e) d long born bare at own read right is =
      let here : bytes e ≡ digest_of hash shape (replaced_from bytes replaced 0 list) y = subst (λ o. IfSome o (λ e. bytes e ≡ digest_of hash shape (replaced_from bytes replaced 0 list) y)) (sym at) (right y (omega (arith, length-replaced_from bytes replaced 0 list))) in
      let same : e ≡ d = cc in
      ap bytes (sym same) ∙ here
  digest_is bytes hash entries list y None d long born bare at own read right is =
      let seen : seen_at shape layers mem y ≡ Some d = is in
      let old : ◌≡◌ {A = Option Bytes} (Some (bytes d)) (Some (digest_of hash shape list y)) = ap (option_map bytes) (sym seen) ∙ read y (omega arith) bare in
      let same : bytes d ≡ digest_of hash shape list y = cc in
      same ∙ sym (untouched bytes hash shape replaced list y.height y.index (λ above. not_some (own.1 above)))

-- a node that is there is no wider than the tree
pub too_high : {shape : Shape} {births : Births} → IsFamily shape births → {x : Node} {h i base : ℕ} → x ≡ record { height = h; index = i } → shape.birth x ≤ base → 2 ^ h ≤ base
too_high {shape} family {x} {h} {i} {base} is born =
    let inside : end_of (record { height = h; index = i }) ≤ base = subst (λ y. end_of y ≤ base) is (omega (arith, family.inside x, born)) in
    omega (arith, inside)

-- replaced leaves so far, if these entries are left: the nodes that were put, and their row
pub record Taken (shape : Shape) {D : Type 0} (replaced left nodes : List (ℕ × D)) (row : List ℕ) : Type 0 where
  pub rest : All (λ e. found_at replaced e.0 ≡ Some e.1) left
  pub same : (i : ℕ) → IsSome (found_at nodes (shape.position (leaf i))) → found_at nodes (shape.position (leaf i)) ≡ found_at replaced i
  pub all : (i : ℕ) → IsSome (found_at replaced i) → IsSome (found_at left i) ⊎ IsSome (found_at nodes (shape.position (leaf i)))
  pub low : (x : Node) → 0 < x.height → found_at nodes (shape.position x) ≡ None
  pub among : (i : ℕ) → Contains row i ↔ IsSome (found_at nodes (shape.position (leaf i)))
  pub fresh : All (λ e. found_at nodes (shape.position (leaf e.0)) ≡ None) left
  pub ordered : IsStrictlySortedBy nat_cmp (keys_of left)
  pub count : length nodes + length left ≡ length replaced
  pub rows : length row ≡ length nodes

module _ {shape : Shape} {D : Type 0} {replaced : List (ℕ × D)} where
  pub taken-start : {left nodes : List (ℕ × D)} {row : List ℕ} → left ≡ replaced → All (λ e. found_at replaced e.0 ≡ Some e.1) replaced → IsStrictlySortedBy nat_cmp (keys_of replaced) → nodes ≡ [] → row ≡ [] → Taken shape replaced left nodes row
  taken-start {left = left} is rest ordered fresh none = record {
    rest = subst (All (λ e. found_at replaced e.0 ≡ Some e.1)) (sym is) rest;
    same = λ i some. absurd (not_some (sym (ap (λ es. is_some (found_at es (shape.position (leaf i)))) fresh) ∙ some));
    all = λ i some. inl (subst (λ es. IsSome (found_at es i)) (sym is) some);
    low = λ x high. ap (λ es. found_at es (shape.position x)) fresh;
    among = λ i. (
      λ found. absurd (omega (arith, found.1, ap length none)),
      λ some. absurd (not_some (sym (ap (λ es. is_some (found_at es (shape.position (leaf i)))) fresh) ∙ some)),
    );
    fresh = λ j e lt. ap (λ es. found_at es (shape.position (leaf (get_or left j e).0))) fresh;
    ordered = subst (λ es. IsStrictlySortedBy nat_cmp (keys_of es)) (sym is) ordered;
    count = omega (arith, ap length fresh, ap length is);
    rows = omega (arith, ap length fresh, ap length none);
  }

  module _ {births : Births} (family : IsFamily shape births) where
    -- the next leaf is not put yet
    pub taken-absent : {left rest nodes : List (ℕ × D)} {row : List ℕ} {k p : ℕ} {d : D} → Taken shape replaced left nodes row → left ≡ (k, d) ∷ rest → p ≡ shape.position (leaf k) → found_at nodes p ≡ None
    taken-absent {nodes = nodes} {k = k} {d = d} taken is at = ap (found_at nodes) at ∙ subst (All (λ e. found_at nodes (shape.position (leaf e.0)) ≡ None)) is taken.fresh 0 (k, d) (omega arith)

    -- a leaf that is left was there before
    pub taken-before : {left rest nodes : List (ℕ × D)} {row : List ℕ} {k : ℕ} {d : D} → Taken shape replaced left nodes row → left ≡ (k, d) ∷ rest → (base : ℕ) → All (λ e. e.0 < base) replaced → k < base
    taken-before {k = k} {d = d} taken is base below =
        found-all (λ n. n < base) replaced k below (ap is_some (subst (All (λ e. found_at replaced e.0 ≡ Some e.1)) is taken.rest 0 (k, d) (omega arith)))

    pub taken-more : {left rest nodes more : List (ℕ × D)} {row next : List ℕ} {k p : ℕ} {d : D} → Taken shape replaced left nodes row → left ≡ (k, d) ∷ rest → p ≡ shape.position (leaf k) →
        found_at more p ≡ Some d → ((n : ℕ) → n ≢ p → found_at more n ≡ found_at nodes n) → next ≡ row ++ k ∷ [] → length more ≡ length nodes + 1 → Taken shape replaced rest more next
    taken-more {left} {rest} {nodes} {more} {row} {next} {k} {p} {d} taken is at here others longer one =
        let all : All (λ e. found_at replaced e.0 ≡ Some e.1) ((k, d) ∷ rest) = subst (All (λ e. found_at replaced e.0 ≡ Some e.1)) is taken.rest in
        let first : found_at replaced k ≡ Some d = all 0 (k, d) (omega arith) in
        let put : found_at more (shape.position (leaf k)) ≡ Some d = ap (found_at more) (sym at) ∙ here in
        record {
          rest = λ j e lt. all (suc j) e (omega arith);
          same = λ i some. ⊎_elim
              (λ (equal : i ≡ k). ap (λ j. found_at more (shape.position (leaf j))) equal ∙ put ∙ sym first ∙ ap (found_at replaced) (sym equal))
              (λ (apart : i ≢ k). keeps i apart ∙ taken.same i (sym (ap is_some (keeps i apart)) ∙ some))
              (equal_or i k);
          all = λ i some. ⊎_elim
              (λ (equal : i ≡ k). inr (ap (λ j. is_some (found_at more (shape.position (leaf j)))) equal ∙ ap is_some put))
              (λ (apart : i ≢ k). ⊎_elim
              (λ (late : IsSome (found_at left i)). inl (sym (ap is_some (ap (λ es. found_at es i) is ∙ later i apart)) ∙ late))
              (λ (old : IsSome (found_at nodes (shape.position (leaf i)))). inr (ap is_some (keeps i apart) ∙ old))
              (taken.all i some))
              (equal_or i k);
          low = λ x high. others (shape.position x) (λ e. absurd (omega (arith, ap (λ (y : Node). y.height) (same_place shape births family x (leaf k) (e ∙ at))))) ∙ taken.low x high;
          among = λ i. (
            λ found. ⊎_elim
                (λ (old : Contains row i). ⊎_elim
                (λ (equal : i ≡ k). ap (λ j. is_some (found_at more (shape.position (leaf j)))) equal ∙ ap is_some put)
                (λ (apart : i ≢ k). ap is_some (keeps i apart) ∙ (taken.among i).0 old)
                (equal_or i k))
                (λ (new : Contains (k ∷ []) i). ap (λ j. is_some (found_at more (shape.position (leaf j)))) (only k i new) ∙ ap is_some put)
                (Contains-append_cases row (k ∷ []) i (subst (λ xs. Contains xs i) longer found)),
            λ some. subst (λ xs. Contains xs i) (sym longer) (⊎_elim
                (λ (equal : i ≡ k). Contains-append_right row (k ∷ []) i (0, omega arith, sym equal))
                (λ (apart : i ≢ k). Contains-append_left row (k ∷ []) i ((taken.among i).1 (sym (ap is_some (keeps i apart)) ∙ some)))
                (equal_or i k)),
          );
          fresh = λ j e lt. keeps (get_or rest j e).0 (λ same. differs j e lt (sym same)) ∙ subst (All (λ e. found_at nodes (shape.position (leaf e.0)) ≡ None)) is taken.fresh (suc j) e (omega arith);
          ordered = sorted_tail nat_cmp k (keys_of rest) ordered;
          count = omega (arith, one, ap length is, taken.count);
          rows = omega (arith, one, ap length longer, length-append row (k ∷ []), taken.rows);
        }
      where
        ordered : IsStrictlySortedBy nat_cmp (k ∷ keys_of rest)
        ordered = subst (λ es. IsStrictlySortedBy nat_cmp (keys_of es)) is taken.ordered

        differs : All (λ e. k ≢ e.0) rest
        differs = rising k rest (sorted_head nat_cmp k (keys_of rest) ordered)

        keeps : (i : ℕ) → i ≢ k → found_at more (shape.position (leaf i)) ≡ found_at nodes (shape.position (leaf i))
        keeps i apart = others (shape.position (leaf i)) (λ e. apart (ap (λ (y : Node). y.index) (same_place shape births family (leaf i) (leaf k) (e ∙ at))))

        later : (i : ℕ) → i ≢ k → found_at ((k, d) ∷ rest) i ≡ found_at rest i
        later i apart = ⊎_elim
            (λ (equal : (is_eq (nat_cmp i k) ≡ true) × (i ≡ k)). absurd (apart equal.1))
            (λ (other : (is_eq (nat_cmp i k) ≡ false) × (i ≢ k)). lookup_tail (λ n. is_eq (nat_cmp i n)) (k, d) rest other.0)
            (at_key i (k, d))

    module _ {left nodes : List (ℕ × D)} {row : List ℕ} (taken : Taken shape replaced left nodes row) (done : left ≡ []) (base : ℕ) (below : All (λ e. e.0 < base) replaced) where
      is_put : (i : ℕ) → IsSome (found_at replaced i) → IsSome (found_at nodes (shape.position (leaf i)))
      is_put i some = ⊎_elim
          (λ (late : IsSome (found_at left i)). absurd (not_some (sym (ap (λ es. is_some (found_at es i)) done) ∙ late)))
          (λ (is : IsSome (found_at nodes (shape.position (leaf i)))). is)
          (taken.all i some)

      at_leaf : (x : Node) → x.height ≤ 0 → leaf x.index ≡ x
      at_leaf x low = node_path 0 x.index x.height x.index (omega arith) refl

      pub taken-over : AreOver shape replaced base 0 nodes
      taken-over x born = (
        λ low. subst (λ y. IsSome (found_at nodes (shape.position y)) ↔ IsOver replaced y.height y.index) (at_leaf x low)
            (λ some. sym (ap is_some (taken.same x.index some)) ∙ some, is_put x.index),
        taken.low x,
      )

      pub taken-row : IsRow shape base 0 nodes row
      taken-row i = (
        λ found.
            let some = (taken.among i).0 found in
            let early : i < base = found-all (λ n. n < base) replaced i below (sym (ap is_some (taken.same i some)) ∙ some) in
            (omega (arith, ap shape.birth (family.first i), birth-born shape births family i 0 (family.some i)), some),
        λ r. (taken.among i).1 r.1,
      )

      pub taken-right : (bytes : D → Bytes) (hash : Bytes → Bytes) (list : List Bytes) → length list ≡ base → AreRight shape bytes hash nodes (replaced_from bytes replaced 0 list)
      taken-right bytes hash list long x born = ⊎_elim
          (λ (low : x.height < 1). subst (λ y. IfSome (found_at nodes (shape.position y)) (λ d. bytes d ≡ digest_of hash shape (replaced_from bytes replaced 0 list) y)) (at_leaf x (omega arith))
          (right x.index (found_at nodes (shape.position (leaf x.index))) refl))
          (λ (high : 1 ≤ x.height). subst (λ o. IfSome o (λ d. bytes d ≡ digest_of hash shape (replaced_from bytes replaced 0 list) x)) (sym (taken.low x high)) tt)
          (cases_lt x.height 1)
        where
          right : (i : ℕ) (o : Option D) → found_at nodes (shape.position (leaf i)) ≡ o → IfSome o (λ d. bytes d ≡ digest_of hash shape (replaced_from bytes replaced 0 list) (leaf i))
          right i None is = tt
          right i (Some d) is =
              let some : IsSome (found_at nodes (shape.position (leaf i))) = ap is_some is in
              let found : found_at replaced i ≡ Some d = sym (taken.same i some) ∙ is in
              let early : i < base = found-all (λ n. n < base) replaced i below (ap is_some found) in
              let at : 0 + i ≡ i = omega arith in
              replaced_leaf bytes replaced 0 i list d (omega arith) (ap (found_at replaced) at ∙ found)

-- the node over a node within 2 ^ 62 leaves is within them too
up_within : (h index : ℕ) → suc index * 2 ^ h ≤ 2 ^ 62 → suc h < 63 → suc (index / 2) * 2 ^ suc h ≤ 2 ^ 62
up_within h index within low =
    let r = 61 - h in
    let split : suc h + r ≡ 62 = omega arith in
    let all : 2 ^ suc h * 2 ^ r ≡ 2 ^ 62 = sym (pow-add 2 (suc h) r) ∙ ap (λ k. 2 ^ k) split in
    let double : 2 ^ suc h * 2 ^ r ≡ 2 ^ h * 2 * 2 ^ r = ap (λ k. k * 2 ^ r) (pow-suc 2 h) in
    let few : suc index ≤ 2 * 2 ^ r = ⊎_elim
    (λ (lt : 2 * 2 ^ r < suc index). absurd (omega (arith, mul-le (suc (2 * 2 ^ r)) (2 ^ h) (suc index) (2 ^ h) (omega arith) (le_refl (2 ^ h)), pow_pos h)))
    (λ (le : suc index ≤ 2 * 2 ^ r). le)
    (cases_lt (2 * 2 ^ r) (suc index)) in
    let half : suc (index / 2) ≤ 2 ^ r = omega arith in
    omega (arith, mul-le (suc (index / 2)) (2 ^ suc h) (2 ^ r) (2 ^ suc h) half (le_refl (2 ^ suc h)))

up : (height : ℕ) → 0 < height → suc (height - 1) ≡ height
up height high = omega arith

-- the nodes of a height over the first i nodes of the row below: which were put, and their row
pub record Raised (shape : Shape) {D : Type 0} (replaced : List (ℕ × D)) (base height : ℕ) (old : List (ℕ × D)) (row : List ℕ) (i : ℕ) (nodes : List (ℕ × D)) (above : List ℕ) : Type 0 where
  pub others : (x : Node) → x.height ≢ height → found_at nodes (shape.position x) ≡ found_at old (shape.position x)
  pub here : (a : ℕ) → shape.birth (node_of height a) ≤ base → IsSome (found_at nodes (shape.position (node_of height a))) ↔ Contains above a
  pub came : (a : ℕ) → Contains above a → (shape.birth (node_of height a) ≤ base) × IsOver replaced height a
  pub gone : (j : ℕ) → j < i → shape.birth (node_of height (get_or row j 0 / 2)) ≤ base → Contains above (get_or row j 0 / 2)

module _ {shape : Shape} {D : Type 0} {replaced : List (ℕ × D)} {base height : ℕ} {old : List (ℕ × D)} {row : List ℕ} where
  pub raised-start : {above : List ℕ} → 0 < height → AreOver shape replaced base (height - 1) old → above ≡ [] → Raised shape replaced base height old row 0 old above
  raised-start high own none = record {
    others = λ x apart. refl;
    here = λ a born. (
      λ some. absurd (not_some (sym (ap is_some ((own (node_of height a) born).1 (omega arith))) ∙ some)),
      λ found. absurd (omega (arith, found.1, ap length none)),
    );
    came = λ a found. absurd (omega (arith, found.1, ap length none));
    gone = λ j lt born. absurd (omega arith);
  }

  module _ {i : ℕ} {nodes : List (ℕ × D)} {above : List ℕ} (raised : Raised shape replaced base height old row i nodes above) where
    skipped : (shape.birth (node_of height (get_or row i 0 / 2)) ≤ base → Contains above (get_or row i 0 / 2)) → Raised shape replaced base height old row (i + 1) nodes above
    skipped there = record {
      others = raised.others;
      here = raised.here;
      came = raised.came;
      gone = λ j lt born. ⊎_elim
          (λ (before : j < i). raised.gone j before born)
          (λ (last : i ≤ j). let at : i ≡ j = omega arith in subst (λ k. Contains above (get_or row k 0 / 2)) at (there (subst (λ k. shape.birth (node_of height (get_or row k 0 / 2)) ≤ base) (sym at) born)))
          (cases_lt j i);
    }

    -- the node is there already, or is not there before the batch's own leaves come
    pub raised-skip : {more : List (ℕ × D)} {next : List ℕ} {x : Node} → more ≡ nodes → next ≡ above → x ≡ node_of height (get_or row i 0 / 2) → (shape.birth x ≤ base → Contains above x.index) → Raised shape replaced base height old row (i + 1) more next
    raised-skip {more} {next} {x} same kept is there =
        subst (λ es. Raised shape replaced base height old row (i + 1) es next) (sym same)
        (subst (λ xs. Raised shape replaced base height old row (i + 1) nodes xs) (sym kept)
        (skipped (subst (λ (y : Node). shape.birth y ≤ base → Contains above y.index) is there)))

    -- a node of this height that is there is in the row
    pub raised-there : {x : Node} → x ≡ node_of height (get_or row i 0 / 2) → shape.birth x ≤ base → true ≡ is_some (found_at nodes (shape.position x)) → Contains above x.index
    raised-there {x} is = subst (λ (y : Node). shape.birth y ≤ base → true ≡ is_some (found_at nodes (shape.position y)) → Contains above y.index) (sym is)
        (λ born some. (raised.here (get_or row i 0 / 2) born).0 (sym some))

    pub raised-row : IsRow shape base height nodes above
    raised-row a = (λ found. let r = raised.came a found in (r.0, (raised.here a r.0).1 found), λ r. (raised.here a r.0).0 r.1)

    -- the nodes below are as they were
    pub raised-below : AreOver shape replaced base (height - 1) old → (x : Node) → shape.birth x ≤ base → x.height < height → IsSome (found_at nodes (shape.position x)) ↔ IsOver replaced x.height x.index
    raised-below own x born low =
        let e = raised.others x (λ (same : x.height ≡ height). absurd (omega arith)) in
        let was = (own x born).0 (omega arith) in
        (λ some. was.0 (sym (ap is_some e) ∙ some), λ over. ap is_some e ∙ was.1 over)

    module _ {births : Births} (family : IsFamily shape births) where
      put_at : (more : List (ℕ × D)) (next : List ℕ) (k p : ℕ) (d : D) → k ≡ get_or row i 0 / 2 → shape.birth (node_of height k) ≤ base → IsOver replaced height k → p ≡ shape.position (node_of height k) →
          found_at more p ≡ Some d → ((n : ℕ) → n ≢ p → found_at more n ≡ found_at nodes n) → next ≡ above ++ k ∷ [] → Raised shape replaced base height old row (i + 1) more next
      put_at more next k p d is born over at put same longer = record {
        others = λ x apart. same (shape.position x) (λ e. apart (ap (λ (y : Node). y.height) (same_place shape _ family x (node_of height k) (e ∙ at)))) ∙ raised.others x apart;
        here = λ a early. ⊎_elim
            (λ (equal : a ≡ k). (
              λ some. subst (Contains next) (sym equal) last,
              λ found. ap (λ b. is_some (found_at more (shape.position (node_of height b)))) equal ∙ ap is_some (ap (found_at more) (sym at) ∙ put),
            ))
            (λ (apart : a ≢ k). (
              λ some. subst (λ xs. Contains xs a) (sym longer) (Contains-append_left above (k ∷ []) a ((raised.here a early).0 (sym (ap is_some (keeps a apart)) ∙ some))),
              λ found. ap is_some (keeps a apart) ∙ (raised.here a early).1 (⊎_elim (λ (before : Contains above a). before) (λ (new : Contains (k ∷ []) a). absurd (apart (only k a new))) (Contains-append_cases above (k ∷ []) a (subst (λ xs. Contains xs a) longer found))),
            ))
            (equal_or a k);
        came = λ a found. ⊎_elim
            (raised.came a)
            (λ (new : Contains (k ∷ []) a). subst (λ b. (shape.birth (node_of height b) ≤ base) × IsOver replaced height b) (sym (only k a new)) (born, over))
            (Contains-append_cases above (k ∷ []) a (subst (λ xs. Contains xs a) longer found));
        gone = λ j lt early. ⊎_elim
            (λ (before : j < i). subst (λ xs. Contains xs (get_or row j 0 / 2)) (sym longer) (Contains-append_left above (k ∷ []) (get_or row j 0 / 2) (raised.gone j before early)))
            (λ (at_last : i ≤ j). let equal : i ≡ j = omega arith in subst (Contains next) (is ∙ ap (λ m. get_or row m 0 / 2) equal) last)
            (cases_lt j i);
      }
        where
          last : Contains next k
          last = subst (λ xs. Contains xs k) (sym longer) (Contains-append_right above (k ∷ []) k (0, omega arith, refl))

          keeps : (a : ℕ) → a ≢ k → found_at more (shape.position (node_of height a)) ≡ found_at nodes (shape.position (node_of height a))
          keeps a apart = same (shape.position (node_of height a)) (λ e. apart (ap (λ (y : Node). y.index) (same_place shape _ family (node_of height a) (node_of height k) (e ∙ at))))

      pub raised-put : {more : List (ℕ × D)} {next : List ℕ} {x : Node} {k p : ℕ} {d : D} → x ≡ node_of height (get_or row i 0 / 2) → k ≡ x.index → shape.birth x ≤ base → IsOver replaced x.height x.index → p ≡ shape.position x →
          found_at more p ≡ Some d → ((n : ℕ) → n ≢ p → found_at more n ≡ found_at nodes n) → next ≡ above ++ k ∷ [] → Raised shape replaced base height old row (i + 1) more next
      raised-put {more} {next} {x} {k} {p} {d} is index born over_it at put_it same longer =
          let which : k ≡ get_or row i 0 / 2 = index ∙ ap (λ (y : Node). y.index) is in
          let whole : x ≡ node_of height k = is ∙ ap (node_of height) (sym which) in
          put_at more next k p d which (subst (λ (y : Node). shape.birth y ≤ base) whole born) (subst (λ (y : Node). IsOver replaced y.height y.index) whole over_it) (at ∙ ap shape.position whole) put_it same longer

    pub raised-over : {births : Births} → IsFamily shape births → 0 < height → AreOver shape replaced base (height - 1) old → IsRow shape base (height - 1) old row → length row ≤ i → AreOver shape replaced base height nodes
    raised-over family high own is_row all x born = (
      λ low. ⊎_elim
          (λ (less : x.height < height). raised-below own x born less)
          (λ (level : height ≤ x.height).
          let is : node_of height x.index ≡ x = node_path height x.index x.height x.index (omega arith) refl in
          subst (λ y. IsSome (found_at nodes (shape.position y)) ↔ IsOver replaced y.height y.index) is (level_is x.index (subst (λ y. shape.birth y ≤ base) (sym is) born)))
          (cases_lt x.height height),
      λ above_it. raised.others x (λ (same : x.height ≡ height). absurd (omega arith)) ∙ (own x born).1 (omega arith),
    )
      where
        level_is : (a : ℕ) → shape.birth (node_of height a) ≤ base → IsSome (found_at nodes (shape.position (node_of height a))) ↔ IsOver replaced height a
        level_is a early = (
          λ some. (raised.came a ((raised.here a early).0 some)).1,
          λ over_it.
              let half = over_down replaced (height - 1) a (subst (λ h. IsOver replaced h a) (sym (up height high)) over_it) in
              let y : Node = node_of (height - 1) half.0 in
              let y_over : over y ≡ node_of height a = node_path (suc (height - 1)) (half.0 / 2) height a (up height high) half.1 in
              let y_born : shape.birth y ≤ base = omega (arith, over_later shape _ family y, ap shape.birth y_over) in
              let found = (is_row half.0).1 (y_born, ((own y y_born).0 (le_refl (height - 1))).1 half.2) in
              let at : get_or row found.0 0 ≡ half.0 = get_or_default row found.0 0 half.0 found.1 ∙ found.2 in
              let index : get_or row found.0 0 / 2 ≡ a = ap (λ n. n / 2) at ∙ half.1 in
              (raised.here a early).1 (subst (Contains above) index (raised.gone found.0 (omega (arith, found.1)) (subst (λ b. shape.birth (node_of height b) ≤ base) (sym index) early))),
        )

module _ (shape : Shape) {D : Type 0} (replaced : List (ℕ × D)) (base height : ℕ) (high : 0 < height) (old : List (ℕ × D)) (row : List ℕ) (is_row : IsRow shape base (height - 1) old row) (i : ℕ) (lt : i < length row) where
  -- the node over a node of the row
  pub row_over : AreOver shape replaced base (height - 1) old → IsOver replaced height (get_or row i 0 / 2)
  row_over own =
      let index = get_or row i 0 in
      let found = (is_row index).0 (i, lt, get_or_default row i index 0 lt) in
      subst (λ h. IsOver replaced h (index / 2)) (up height high) (over_up replaced (height - 1) index (((own (node_of (height - 1) index) found.0).0 (le_refl (height - 1))).0 found.1))

  pub row_within : {births : Births} → IsFamily shape births → base ≤ 2 ^ 62 → height < 63 → end_of (node_of height (get_or row i 0 / 2)) ≤ 2 ^ 62
  row_within family few low =
      let index = get_or row i 0 in
      let found = (is_row index).0 (i, lt, get_or_default row i index 0 lt) in
      let inside : suc index * 2 ^ (height - 1) ≤ shape.birth (node_of (height - 1) index) = family.inside (node_of (height - 1) index) in
      subst (λ h. suc (index / 2) * 2 ^ h ≤ 2 ^ 62) (up height high) (up_within (height - 1) index (omega (arith, found.0)) (omega arith))

-- one more node with its digest
pub right-put : {shape : Shape} {births : Births} → IsFamily shape births → {D : Type 0} (bytes : D → Bytes) (hash : Bytes → Bytes) (list : List Bytes) (nodes more : List (ℕ × D)) {x : Node} {p : ℕ} {d : D} → AreRight shape bytes hash nodes list →
    p ≡ shape.position x → found_at more p ≡ Some d → ((n : ℕ) → n ≢ p → found_at more n ≡ found_at nodes n) → bytes d ≡ digest_of hash shape list x → AreRight shape bytes hash more list
right-put {shape} family bytes hash list nodes more {x} {p} right at put same is y born = ⊎_elim
    (λ (equal : shape.position y ≡ p).
    let whole : y ≡ x = same_place shape _ family y x (equal ∙ at) in
    subst (λ o. IfSome o (λ e. bytes e ≡ digest_of hash shape list y)) (sym (ap (found_at more) equal ∙ put)) (is ∙ ap (digest_of hash shape list) (sym whole)))
    (λ (apart : shape.position y ≢ p). subst (λ o. IfSome o (λ e. bytes e ≡ digest_of hash shape list y)) (sym (same (shape.position y) apart)) (right y born))
    (equal_or (shape.position y) p)
