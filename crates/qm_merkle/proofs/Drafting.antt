-- What a draft makes of a list and of its nodes.
use Rattle.std.proofs.Common.{◌≡◌, ◌≢◌, ◌⊎◌, ◌↔◌, ℕ, zero, suc, ◌+◌, ◌-◌, ◌*◌, ◌^◌, ◌<◌, ◌≤◌, true, false, List, [], ◌∷◌, ◌++◌, length, map, get_or, arith, ap, ap₂, sym, ◌∙◌, refl, Option, Some, None, IsSome, IfSome, MatchOption, All, ⊎_elim, inl, inr, subst}
use Rattle.std.specs.Prelude.{slice_set, is_some, if◌then◌else◌}
use Rattle.std.proofs.lemmas.Bool.{cases_lt, lt-ltb, le-ltb}
use Rattle.std.specs.Option.{unwrap_or, option_map, option_or}
use Rattle.std.specs.Ordering.{nat_cmp}
use Rattle.std.specs.BTreeMap.{insert_entry}
use Rattle.std.proofs.lemmas.List.Elements.{All-map}
use Rattle.std.proofs.lemmas.Map.Views.{All-keys-insert_entry}
use Rattle.std.proofs.lemmas.List.{set-append_left, set-append_right, map-set, get_or-map, length-map}
use Rattle.qm_model.specs.Operations.{Bytes}
use Rattle.qm_model.specs.Trees.{Shape, Node, peaks, peak_positions, node_digest, digest, digest_of}
use Rattle.qm_model.specs.Families.{Births, IsFamily, HasPeaks, over}
use Rattle.qm_merkle.specs.Mems.{Kept, IsWhole, Gives, Stands}
use Rattle.qm_merkle.specs.Batches.{Layer, layer_at, Leads, Draft, found_at, replaced_from, drafted, updated, IsOver, seen_at, made_at, AreThere, AreRead, AreRight, HaveOver}
use Rattle.qm_merkle.proofs.Numbering.{stands_below}
use Rattle.qm_merkle.proofs.Growth.{digest-append}
use Rattle.qm_merkle.proofs.Histories.{is_some-other, layer_at-before, layer_added}

-- what holds of the numbers of entries, when one more comes
pub All-inserted : {D : Type 0} (P : ℕ → Type 0) (entries : List (ℕ × D)) (n : ℕ) (d : D) → All (λ e. P e.0) entries → P n → All (λ e. P e.0) (insert_entry nat_cmp entries n d)
All-inserted P entries n d all here i e lt =
    let next = insert_entry nat_cmp entries n d in
    let keys = All-keys-insert_entry nat_cmp n d P entries (All-map P (λ e. e.0) entries all) here in
    subst P (get_or-map (λ e. e.0) next i e e.0 lt) (keys i e.0 (omega (arith, lt, length-map next (λ e. e.0))))

-- the draft with another digest for a leaf of those before it, and for one of its own
module _ {D : Type 0} (old now : Draft D) where
  pub updated-replaced : (place n : ℕ) (d : D) (entries : List (ℕ × D)) → entries ≡ insert_entry nat_cmp old.replaced place d → place ≡ n → old ≡ now → place < old.base → record old { replaced = entries } ≡ updated now n d
  updated-replaced place n d entries is at same lt =
      ap (λ (es : List (ℕ × D)). record old { replaced = es }) is
      ∙ sym (ap (λ t. if t then record old { replaced = insert_entry nat_cmp old.replaced place d } else record old { added = slice_set old.added (place - old.base) d }) (lt-ltb place old.base lt))
      ∙ ap₂ (λ b m. updated b m d) same at

  pub updated-added : (index n : ℕ) (d : D) → old ≡ now → old.base ≤ n → index ≡ n - old.base → record old { added = slice_set old.added index d } ≡ updated now n d
  updated-added index n d same le at =
      ap (λ i. record old { added = slice_set old.added i d }) at
      ∙ sym (ap (λ t. if t then record old { replaced = insert_entry nat_cmp old.replaced n d } else record old { added = slice_set old.added (n - old.base) d }) (le-ltb n old.base le))
      ∙ ap (λ b. updated b n d) same

module _ {D : Type 0} (bytes : D → Bytes) where
  pub length-replaced_from : (replaced : List (ℕ × D)) (i : ℕ) (leaves : List Bytes) → length (replaced_from bytes replaced i leaves) ≡ length leaves
  length-replaced_from replaced i [] = refl
  length-replaced_from replaced i (leaf ∷ leaves) = ap suc (length-replaced_from replaced (suc i) leaves)

  module _ (old new : List (ℕ × D)) (n : ℕ) (d : D) (here : found_at new n ≡ Some d) (other : (m : ℕ) → m ≢ n → found_at new m ≡ found_at old m) where
    past : (i : ℕ) (leaves : List Bytes) → n < i → replaced_from bytes new i leaves ≡ replaced_from bytes old i leaves
    past i [] lt = refl
    past i (leaf ∷ leaves) lt = ap₂ (λ a b. a ∷ b) (ap (λ o. unwrap_or (option_map bytes o) leaf) (other i (λ e. omega (arith, e, lt)))) (past (suc i) leaves (omega arith))

    pub replaced_from-set : (i k : ℕ) (leaves : List Bytes) → i + k ≡ n → k < length leaves → replaced_from bytes new i leaves ≡ slice_set (replaced_from bytes old i leaves) k (bytes d)
    replaced_from-set i k [] is lt = absurd (omega arith)
    replaced_from-set i zero (leaf ∷ leaves) is lt =
        let at : n ≡ i = omega arith in
        ap₂ (λ a b. a ∷ b) (ap (λ o. unwrap_or (option_map bytes o) leaf) (ap (found_at new) (sym at) ∙ here)) (past (suc i) leaves (omega arith))
    replaced_from-set i (suc k) (leaf ∷ leaves) is lt =
        ap₂ (λ a b. a ∷ b) (ap (λ o. unwrap_or (option_map bytes o) leaf) (other i (λ e. omega (arith, e, is)))) (replaced_from-set (suc i) k leaves (omega arith) (omega arith))

  -- a leaf of those before the draft
  pub drafted-replaced : (old new : Draft D) (n : ℕ) (d : D) (leaves : List Bytes) → found_at new.replaced n ≡ Some d → ((m : ℕ) → m ≢ n → found_at new.replaced m ≡ found_at old.replaced m) → new.added ≡ old.added → n < length leaves →
      drafted bytes new leaves ≡ slice_set (drafted bytes old leaves) n (bytes d)
  drafted-replaced old new n d leaves here other added lt =
      ap₂ (λ a b. a ++ map bytes b) (replaced_from-set old.replaced new.replaced n d here other 0 n leaves (omega arith) lt) added
      ∙ sym (set-append_left (replaced_from bytes old.replaced 0 leaves) (map bytes old.added) n (bytes d) (omega (arith, lt, length-replaced_from old.replaced 0 leaves)))

  -- a leaf of the draft's own
  pub drafted-added : (old new : Draft D) (n : ℕ) (d : D) (leaves : List Bytes) → new.replaced ≡ old.replaced → length leaves ≤ n → new.added ≡ slice_set old.added (n - length leaves) d →
      drafted bytes new leaves ≡ slice_set (drafted bytes old leaves) n (bytes d)
  drafted-added old new n d leaves replaced le added =
      ap₂ (λ a b. replaced_from bytes a 0 leaves ++ map bytes b) replaced added
      ∙ ap (λ b. replaced_from bytes old.replaced 0 leaves ++ b) (map-set bytes old.added (n - length leaves) d)
      ∙ sym (set-append_right (replaced_from bytes old.replaced 0 leaves) (map bytes old.added) (length leaves) n (bytes d) (length-replaced_from old.replaced 0 leaves) le)

-- a leaf that is replaced has the other digest, and each other leaf its own
pub replaced_from-at : {D : Type 0} (bytes : D → Bytes) (replaced : List (ℕ × D)) (i k : ℕ) (leaves : List Bytes) → found_at replaced (i + k) ≡ None → get_or (replaced_from bytes replaced i leaves) k [] ≡ get_or leaves k []
replaced_from-at bytes replaced i k [] none = refl
replaced_from-at bytes replaced i zero (leaf ∷ leaves) none = ap (λ o. unwrap_or (option_map bytes o) leaf) (ap (found_at replaced) (omega arith) ∙ none)
replaced_from-at bytes replaced i (suc k) (leaf ∷ leaves) none = replaced_from-at bytes replaced (suc i) k leaves (ap (found_at replaced) (omega arith) ∙ none)

missing : {D : Type 0} (found : Option D) → (IsSome found → ⊥) → found ≡ None
missing None not = refl
missing (Some d) not = absurd (not refl)

-- a node that is over no replaced leaf keeps its digest
pub untouched : {D : Type 0} (bytes : D → Bytes) (hash : Bytes → Bytes) (shape : Shape) (replaced : List (ℕ × D)) (leaves : List Bytes) (h a : ℕ) → (IsOver replaced h a → ⊥) →
    digest hash shape (replaced_from bytes replaced 0 leaves) h a ≡ digest hash shape leaves h a
untouched bytes hash shape replaced leaves zero a not = replaced_from-at bytes replaced 0 a leaves (ap (found_at replaced) (omega arith) ∙ missing (found_at replaced a) not)
untouched bytes hash shape replaced leaves (suc h) a not =
    ap₂ (node_digest hash (shape.number (record { height = suc h; index = a })))
    (untouched bytes hash shape replaced leaves h (2 * a) (λ left. not (inl left)))
    (untouched bytes hash shape replaced leaves h (2 * a + 1) (λ right. not (inr right)))

module _ (shape : Shape) (peaked : HasPeaks shape) {D : Type 0} (mem : Kept D) (layers : List (Layer D)) (entries : List (ℕ × D)) where
  -- the peaks before the draft's own leaves are there
  pub peaks_there : (base : ℕ) → base ≤ 2 ^ 62 → mem.start ≤ base → AreThere shape layers mem base → All (λ p. IsSome (made_at shape entries layers mem p)) (peak_positions shape base)
  peaks_there base few low there k d lt =
      let xs = peaks shape base in
      let within : k < length xs = omega (arith, length-map xs shape.position) in
      let e : Node = record { height = 0; index = 0 } in
      let x = get_or xs k e in
      let born : shape.birth x ≤ base = peaked.born base few k e within in
      let bare : base < shape.birth (over x) = peaked.bare base few k e within in
      subst (λ p. IsSome (made_at shape entries layers mem p)) (sym (get_or-map shape.position xs k e d within)) (is_some-other (found_at entries (shape.position x)) (seen_at shape layers mem x) (there x born (omega arith)))

  module _ (bytes : D → Bytes) (hash : Bytes → Bytes) (replaced : List (ℕ × D)) (base : ℕ) (leaves : List Bytes) (count : length leaves ≡ base)
      (own : HaveOver shape replaced base entries) (read : AreRead shape bytes hash layers mem leaves) (right : AreRight shape bytes hash entries (replaced_from bytes replaced 0 leaves)) where
    -- a node has its digest over the list with these leaves replaced
    pub made_gives : (x : Node) → shape.birth x ≤ base → mem.start < shape.birth (over x) → Gives bytes (made_at shape entries layers mem (shape.position x)) (digest_of hash shape (replaced_from bytes replaced 0 leaves) x)
    made_gives x born bare =
        chosen_gives (found_at entries (shape.position x)) (seen_at shape layers mem x) (digest_of hash shape (replaced_from bytes replaced 0 leaves) x) (digest_of hash shape leaves x) (IsOver replaced x.height x.index)
        (own x born).1 (right x (omega (arith, count, length-replaced_from bytes replaced 0 leaves))) (read x (omega (arith, count)) bare) (untouched bytes hash shape replaced leaves x.height x.index)
      where
        chosen_gives : (found other : Option D) (new old : Bytes) (touched : Type 0) → (touched → IsSome found) → IfSome found (λ d. bytes d ≡ new) → Gives bytes other old → ((touched → ⊥) → new ≡ old) → Gives bytes (option_or found other) new
        chosen_gives None other new old touched to is at same = at ∙ ap Some (sym (same (λ t. no (to t))))
          where
            no : false ≡ true → ⊥
            no e = cc
        chosen_gives (Some d) other new old touched to is at same = ap Some is

    -- the tree of the peaks before the draft's own leaves
    pub stands-fresh : (tree : Kept D) → tree.start ≡ base → tree.leaves ≡ base → base ≤ 2 ^ 62 → mem.start ≤ base → map Some tree.pins ≡ map (made_at shape entries layers mem) (peak_positions shape base) →
        Stands shape bytes hash tree (replaced_from bytes replaced 0 leaves)
    stands-fresh tree start full few low same = record {
      count = full ∙ sym (length-replaced_from bytes replaced 0 leaves ∙ count);
      pins = given (peaks shape base) tree.pins same (λ k e lt. made_gives (get_or (peaks shape base) k e) (peaked.born base few k e lt) (omega (arith, peaked.bare base few k e lt)))
          ∙ ap (λ n. map (digest_of hash shape (replaced_from bytes replaced 0 leaves)) (peaks shape n)) (sym start);
      nodes = λ x new born. absurd (omega arith);
    }
      where
        given : (xs : List Node) (ds : List D) → map Some ds ≡ map (made_at shape entries layers mem) (map shape.position xs) →
            All (λ x. Gives bytes (made_at shape entries layers mem (shape.position x)) (digest_of hash shape (replaced_from bytes replaced 0 leaves) x)) xs → map bytes ds ≡ map (digest_of hash shape (replaced_from bytes replaced 0 leaves)) xs
        given [] [] same gives = refl
        given [] (d ∷ ds) same gives = cc
        given (x ∷ xs) [] same gives = cc
        given (x ∷ xs) (d ∷ ds) same gives =
            let head : Some d ≡ made_at shape entries layers mem (shape.position x) = cc in
            let tail : map Some ds ≡ map (made_at shape entries layers mem) (map shape.position xs) = cc in
            let is : ◌≡◌ {A = Option Bytes} (Some (bytes d)) (Some (digest_of hash shape (replaced_from bytes replaced 0 leaves) x)) = ap (option_map bytes) head ∙ gives 0 x (omega arith) in
            let digest : bytes d ≡ digest_of hash shape (replaced_from bytes replaced 0 leaves) x = cc in
            ap₂ (λ a b. a ∷ b) digest (given xs ds tail (λ k e lt. gives (suc k) e (omega arith)))

module _ (shape : Shape) (births : Births) (family : IsFamily shape births) {D : Type 0} (layer : Layer D) (replaced : List (ℕ × D)) (base : ℕ) (start : layer.tree.start ≡ base) (own : HaveOver shape replaced base layer.replaced) where
  -- a layer has the nodes that it adds, the leaves that it replaces, and the nodes above these
  pub own_nodes : IsWhole shape layer.tree → (x : Node) → shape.birth x ≤ layer.tree.leaves → IsSome (layer_at shape layer (shape.position x)) ↔ ((base < shape.birth x) ⊎ IsOver replaced x.height x.index)
  own_nodes whole x born = ⊎_elim
      (λ (late : base < shape.birth x). ((λ some. inl late), (λ either. layer_added shape births family layer whole x (omega arith) born)))
      (λ (early : shape.birth x ≤ base).
      let before = layer_at-before shape layer (shape.position x) (stands_below shape births family x layer.tree.start (omega arith)) in
      let is = own x early in (
        (λ some. inr (is.0 (sym (ap is_some before) ∙ some))),
        ⊎_elim (λ (late : base < shape.birth x). absurd (omega arith)) (λ above. ap is_some before ∙ is.1 above),
      ))
      (cases_lt base (shape.birth x))

  -- it leads from the list that the draft stands on to the draft's
  pub drafted_leads : (bytes : D → Bytes) (hash : Bytes → Bytes) (leaves added : List Bytes) → length leaves ≡ base → Stands shape bytes hash layer.tree (replaced_from bytes replaced 0 leaves ++ added) →
      AreRight shape bytes hash layer.replaced (replaced_from bytes replaced 0 leaves) → Leads shape bytes hash layer leaves (replaced_from bytes replaced 0 leaves ++ added)
  drafted_leads bytes hash leaves added count stands right = record {
    start = start ∙ sym count;
    stands = stands;
    replaced = λ x born.
        let changed = replaced_from bytes replaced 0 leaves in
        let long = length-replaced_from bytes replaced 0 leaves in
        let same : digest_of hash shape (changed ++ added) x ≡ digest_of hash shape changed x = digest-append hash shape changed added x.height x.index (omega (arith, family.inside x, born, long)) in
        told (found_at layer.replaced (shape.position x)) (digest_of hash shape leaves x) (digest_of hash shape changed x) (digest_of hash shape (changed ++ added) x) (IsOver replaced x.height x.index)
        (own x (omega arith)).1 (right x (omega (arith, born, long))) (untouched bytes hash shape replaced leaves x.height x.index) same;
  }
    where
      told : (found : Option D) (old changed new : Bytes) (touched : Type 0) → (touched → IsSome found) → IfSome found (λ d. bytes d ≡ changed) → ((touched → ⊥) → changed ≡ old) → new ≡ changed → MatchOption found (old ≡ new) (λ d. bytes d ≡ new)
      told None old changed new touched to is kept same = sym (kept (λ t. no (to t))) ∙ sym same
        where
          no : false ≡ true → ⊥
          no e = cc
      told (Some d) old changed new touched to is kept same = is ∙ sym same
