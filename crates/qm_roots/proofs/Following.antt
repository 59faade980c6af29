-- What a batch keeps leads to its list through what its parent kept.
use Rattle.std.proofs.Common.{◌≡◌, ◌∙◌, ◌*◌, ◌^◌, ℕ, zero, suc, ◌<◌, ◌≤◌, List, [], ◌∷◌, length, map, take, get_or, arith, ap, sym, subst, refl}
use Rattle.std.specs.Prelude.{All, Contains}
use Rattle.std.proofs.lemmas.List.{take-map, get_or-map, get_or-take, length-map, length-take}
use Rattle.qm_model.specs.Operations.{Bytes, Operation}
use Rattle.qm_model.specs.Batches.{Begins}
use Rattle.qm_model.specs.Forms.{Form}
use Rattle.qm_model.specs.Trees.{Shape, leaves_from}
use Rattle.qm_model.specs.Families.{Births, IsFamily}
use Rattle.qm_model.specs.Grafted.{chunk_node, chunk_of, grafted_chunks}
use Rattle.qm_model.proofs.Chains.{Begins-self, Begins-through}
use Rattle.qm_model.proofs.GraftedLemmas.{length-chunk_values}
use Rattle.qm_merkle.specs.Batches.{lists_since}
use Rattle.qm_merkle.proofs.Since.{list-since}
use Rattle.qm_step.specs.Changes.{Changes, LeadTo}
use Rattle.qm_overlay.specs.Layers.{Overlay}
use Rattle.qm_graft.specs.Grafting.{grafting}
use Rattle.qm_roots.specs.Steps.{IsOverlay, AreOverlays, AreRising}
use Rattle.qm_roots.specs.Canonical.{values_of}
use Rattle.qm_roots.specs.Kept.{Kept, AreFalling, IsGrown, IsKept, boundary_of, sizes_of}
use Rattle.qm_roots.proofs.Sizes.{length-sizes}
use Rattle.qm_roots.proofs.Chunks.{chunks-rise}

-- a list begins with the one from which steps lead to it
pub lead-begins : (changes : List Changes) (base tip : List Operation) → LeadTo changes base tip → Begins base tip
lead-begins [] base tip lead = subst (Begins base) lead (Begins-self base)
lead-begins (newest ∷ older) base tip lead = Begins-through base lead.0 tip (lead-begins older base lead.0 lead.2) lead.1.begins

-- the newest of the steps lead through the newest of the lists
take-overlays : (size keep : ℕ) (overlays : List Overlay) (tip : List Operation) (bases : List (List Operation)) → AreOverlays size overlays tip bases → AreOverlays size (take keep overlays) tip (take keep bases)
take-overlays size zero overlays tip bases are = tt
take-overlays size (suc k) [] tip [] are = tt
take-overlays size (suc k) [] tip (b ∷ bs) are = absurd are
take-overlays size (suc k) (o ∷ os) tip [] are = absurd are
take-overlays size (suc k) (o ∷ os) tip (b ∷ bs) are = (are.0, take-overlays size k os b bs are.1)

later : {A : Type 0} (x y : A) (xs : List A) → Contains xs y → Contains (x ∷ xs) y
later x y xs (k, lt, at) = (suc k, omega (arith, lt), at)

take_among : {A : Type 0} (P : A → Type 0) (keep : ℕ) (xs : List A) → All P xs → All P (take keep xs)
take_among P zero xs all = λ i x lt. absurd (omega (arith, lt))
take_among P (suc k) [] all = λ i x lt. absurd (omega (arith, lt))
take_among P (suc k) (y ∷ ys) all = by (take_among P k ys (λ j z less. all (suc j) z (omega (arith, less))))
  where
    by : All P (take k ys) → All P (y ∷ take k ys)
    by rest zero x lt = all 0 x (omega arith)
    by rest (suc i) x lt = rest i x (omega (arith, lt))

take-rising : (keep : ℕ) (tip : List Operation) (bases : List (List Operation)) → AreRising tip bases → AreRising tip (take keep bases)
take-rising zero tip bases are = tt
take-rising (suc k) tip [] are = tt
take-rising (suc k) tip (b ∷ bs) are = (are.0, take-rising k b bs are.1)

module _ {D : Type 0} (bytes : D → Bytes) (hash : Bytes → Bytes) (shape : Shape) (births : Births) (family : IsFamily shape births) (size : ℕ) (some : 0 < 8 * size) (span : 2 ^ grafting size ≡ 8 * size)
    (prompt : (c : ℕ) → shape.birth (chunk_node (grafting size) c) ≤ suc (suc c) * 2 ^ grafting size) (form : Form) where
  abbrev values : List Operation → List Bytes
  values ops = values_of hash shape (grafting size) form ops

  pub length-values : (ops : List Operation) → length (values ops) ≡ grafted_chunks shape (grafting size) (length ops)
  length-values ops = length-chunk_values hash shape (grafting size) (leaves_from hash shape form 0 ops) (chunk_of (grafting size) ops) 0 (grafted_chunks shape (grafting size) (length ops))

  -- one of the lists, by its number, and its size
  pub size-at : (kept : Kept D) (tip : List Operation) (bases : List (List Operation)) → sizes_of kept ≡ map length (tip ∷ bases) → (i : ℕ) (d : List Operation) → i ≤ length kept.overlays → get_or (sizes_of kept) i 0 ≡ length (get_or (tip ∷ bases) i d)
  size-at kept tip bases sizes i d within =
      let long = ap length sizes ∙ length-map (tip ∷ bases) (λ (l : List Operation). length l) in
      ap (λ ns. get_or ns i 0) sizes ∙ get_or-map length (tip ∷ bases) i d 0 (omega (arith, within, long, length-sizes kept.overlays kept.base))

  -- it is no smaller than the one before so many steps
  pub above : (kept : Kept D) (tip : List Operation) (bases : List (List Operation)) → sizes_of kept ≡ map length (tip ∷ bases) → AreFalling (sizes_of kept) → (keep i : ℕ) (d : List Operation) → i ≤ keep → keep ≤ length kept.overlays
      → boundary_of shape (grafting size) kept keep ≤ length (values (get_or (tip ∷ bases) i d))
  above kept tip bases sizes falling keep i d low within =
      let here = size-at kept tip bases sizes i d (omega (arith, low, within)) in
      let down = falling i keep low (omega (arith, within, length-sizes kept.overlays kept.base)) in
      let list = get_or (tip ∷ bases) i d in
      let rise = chunks-rise shape births family size some span prompt (get_or (sizes_of kept) keep 0) (length list) (omega (arith, here, down)) in
      omega (arith, rise, length-values list)

  pub follows : (kept next : Kept D) (own : Overlay) (keep : ℕ) (base ops : List Operation) (bases : List (List Operation)) (is : IsKept bytes hash shape size form kept base bases)
      → AreFalling (sizes_of kept) → keep ≤ length kept.overlays → next.overlays ≡ own ∷ take keep kept.overlays → sizes_of next ≡ length ops ∷ take (suc keep) (sizes_of kept) → Begins base ops → IsOverlay size own base ops
      → IsGrown bytes hash shape size form (boundary_of shape (grafting size) kept keep) next.layers next.start next.root ops base is.lists
      → IsKept bytes hash shape size form next ops (base ∷ take keep bases)
  follows kept next own keep base ops bases is falling within overlays sizes begins one grown = record {
    rising = (begins, take-rising keep base bases is.rising);
    sizes = sizes ∙ ap (λ ns. length ops ∷ take (suc keep) ns) is.sizes ∙ ap (λ ns. length ops ∷ ns) (take-map length (suc keep) (base ∷ bases));
    overlays = subst (λ os. AreOverlays size os ops (base ∷ take keep bases)) (sym overlays) (one, take-overlays size keep kept.overlays base bases is.overlays);
    clear = grown.clear;
    lists = lists_since boundary (values base ∷ is.lists);
    history = grown.history;
    through = through;
    root = grown.root_is;
  }
    where
      boundary : ℕ
      boundary = boundary_of shape (grafting size) kept keep

      all : List (List Bytes)
      all = values base ∷ is.lists

      kept_on : (b : List Operation) → Contains all (values b) → boundary ≤ length (values b) → Contains (values ops ∷ lists_since boundary all) (values b)
      kept_on b among high = later (values ops) (values b) (lists_since boundary all) (list-since boundary all (values b) among high)

      first : boundary ≤ length (values base)
      first = above kept base bases is.sizes falling keep 0 base (omega arith) within

      other : (i : ℕ) (b : List Operation) → i < length (take keep bases) → boundary ≤ length (values (get_or (take keep bases) i b))
      other i b lt =
          let few = length-take keep bases in
          let low : i < keep = omega (arith, lt, few) in
          subst (λ l. boundary ≤ length (values l)) (sym (get_or-take keep bases i b low)) (above kept base bases is.sizes falling keep (suc i) b (omega (arith, low)) within)

      through : All (λ b. Contains (values ops ∷ lists_since boundary all) (values b)) (base ∷ take keep bases)
      through zero b lt = kept_on base (0, omega arith, refl) first
      through (suc i) b lt =
          let among = take_among (λ l. Contains all (values l)) keep bases is.through in
          let inside : i < length (take keep bases) = omega (arith, lt) in
          kept_on (get_or (take keep bases) i b) (among i b inside) (other i b inside)
