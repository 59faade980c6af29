-- What a child's step does to the grafted tree, by lists.
use Rattle.std.proofs.Common.{◌≡◌, ◌⊎◌, ◌∙◌, ◌*◌, ◌^◌, ◌<◌, ◌≤◌, ⊎_elim, ℕ, suc, List, [], ◌∷◌, length, map, get_or, arith, ap, sym, subst}
use Rattle.std.specs.Prelude.{Contains, Option, filter, nat_le}
use Rattle.std.proofs.lemmas.List.{length-map}
use Rattle.qm_model.specs.Operations.{Bytes, Operation}
use Rattle.qm_model.specs.Batches.{Begins}
use Rattle.qm_model.specs.Forms.{Form}
use Rattle.qm_model.specs.Trees.{Shape, leaves_from}
use Rattle.qm_model.specs.Families.{Births, IsFamily}
use Rattle.qm_model.specs.Bits.{bits, chunk}
use Rattle.qm_model.specs.Grafted.{chunk_node, chunk_of, chunk_values, grafted_chunks}
use Rattle.qm_bits.specs.Bitmaps.{Bitmap, all_bits}
use Rattle.qm_merkle.specs.Batches.{Layer, lists_since, IsHistory}
use Rattle.qm_merkle.proofs.Since.{first-since, list-since}
use Rattle.qm_overlay.specs.Layers.{Overlay, IsFrom}
use Rattle.qm_graft.specs.Grafting.{grafting, kept_shape, IsStep}
use Rattle.qm_roots.specs.Steps.{IsOverlay}
use Rattle.qm_roots.specs.Canonical.{Canonical, values_of}
use Rattle.qm_roots.specs.Kept.{Kept, AreAgreed, AreInactive, CanFollow, IsKept, boundary_of}
use Rattle.qm_roots.proofs.Chunks.{clear-chunk, clear-onward, clear-pruned, grafted-within, step-of}
use Rattle.qm_roots.proofs.Overlays.{same-chunk}
use Rattle.qm_roots.proofs.Sizes.{length-sizes}
use Rattle.qm_roots.proofs.Following.{above, size-at}
use Rattle.qm_roots.proofs.Resting.{among}

module _ {D E : Type 0} (bytes : D → Bytes) (hash : Bytes → Bytes) (shape : Shape) (births : Births) (family : IsFamily shape births) (size : ℕ) (some : 0 < 8 * size) (span : 2 ^ grafting size ≡ 8 * size)
    (prompt : (c : ℕ) → shape.birth (chunk_node (grafting size) c) ≤ suc (suc c) * 2 ^ grafting size) (form : Form)
    (kept : Kept D) (agreed : AreAgreed shape (grafting size) kept) (own : Canonical D) (map_of : Bitmap) (held : ℕ → Option E) (lacking keep n : ℕ) (can : CanFollow shape size kept own map_of held lacking keep n)
    (base ops : List Operation) (bases : List (List Operation)) (is : IsKept bytes hash shape size form kept base bases) (begins : Begins base ops) (leaves : ℕ) (at : leaves ≡ kept.leaves) where
  abbrev values : List Operation → List Bytes
  values list = values_of hash shape (grafting size) form list

  -- the values before the step
  abbrev old : List Bytes
  old = chunk_values hash shape (grafting size) (leaves_from hash shape form 0 base) (chunk_of (grafting size) base) 0 leaves

  abbrev boundary : ℕ
  boundary = boundary_of shape (grafting size) kept keep

  base-leaves : kept.leaves ≡ grafted_chunks shape (grafting size) (length base)
  base-leaves = agreed.leaves ∙ ap (grafted_chunks shape (grafting size)) (size-at bytes hash shape births family size some span prompt form kept base bases is.sizes 0 base (omega arith))

  old-is : old ≡ values base
  old-is = ap (chunk_values hash shape (grafting size) (leaves_from hash shape form 0 base) (chunk_of (grafting size) base) 0) (at ∙ base-leaves)

  whole : (k : ℕ) → k ≤ kept.leaves → k * (8 * size) ≤ length base
  whole k low = grafted-within shape births family size some span prompt (length base) k (omega (arith, low, base-leaves))

  first : lists_since boundary (values base ∷ is.lists) ≡ values base ∷ lists_since boundary is.lists
  first = first-since boundary (values base) is.lists (above bytes hash shape births family size some span prompt form kept base bases is.sizes agreed.falling keep 0 base (omega arith) can.keeps)

  -- the draft, before the step
  pub drafted-history : (layers : List (Layer D)) → IsHistory (kept_shape shape (grafting size)) bytes hash layers (lists_since boundary (values base ∷ is.lists)) → IsHistory (kept_shape shape (grafting size)) bytes hash layers (old ∷ lists_since boundary is.lists)
  drafted-history layers history = subst (λ v. IsHistory (kept_shape shape (grafting size)) bytes hash layers (v ∷ lists_since boundary is.lists)) (sym old-is) (subst (IsHistory (kept_shape shape (grafting size)) bytes hash layers) first history)

  -- the batch, after it
  pub grown-history : (layers : List (Layer D)) → IsHistory (kept_shape shape (grafting size)) bytes hash layers (values ops ∷ old ∷ lists_since boundary is.lists)
      → IsHistory (kept_shape shape (grafting size)) bytes hash layers (values ops ∷ lists_since boundary (values base ∷ is.lists))
  grown-history layers history =
      subst (λ vs. IsHistory (kept_shape shape (grafting size)) bytes hash layers (values ops ∷ vs)) (sym first)
      (subst (λ v. IsHistory (kept_shape shape (grafting size)) bytes hash layers (values ops ∷ v ∷ lists_since boundary is.lists)) old-is history)

  -- the database's list is one of those that the layers lead through
  pub list-found : Contains (values base ∷ is.lists) (values (get_or (base ∷ bases) lacking []))
  list-found =
      let long = ap length is.sizes ∙ length-map (base ∷ bases) (λ (l : List Operation). length l) in
      among bytes hash shape size form kept base bases is lacking [] (omega (arith, can.between, can.keeps, long, length-sizes kept.overlays kept.base))

  pub drafted-found : Contains (old ∷ lists_since boundary is.lists) (values (get_or (base ∷ bases) lacking []))
  drafted-found =
      let high = above bytes hash shape births family size some span prompt form kept base bases is.sizes agreed.falling keep lacking [] can.between can.keeps in
      subst (λ v. Contains (v ∷ lists_since boundary is.lists) (values (get_or (base ∷ bases) lacking []))) (sym old-is)
      (subst (λ vs. Contains vs (values (get_or (base ∷ bases) lacking []))) first (list-since boundary (values base ∷ is.lists) (values (get_or (base ∷ bases) lacking [])) list-found high))

  module _ (start : ℕ) (begun : (start ≡ kept.start) ⊎ (start ≡ own.tree.start)) where
    -- the step changes none of the chunks that are forgotten
    pub grown-step : (overlay : Overlay) → IsOverlay size overlay base ops → IsFrom map_of.pruned overlay
        → IsStep (grafting size) leaves (filter (nat_le start) (map (λ e. e.0) overlay.changed)) (leaves_from hash shape form 0 base) (leaves_from hash shape form 0 ops) (chunk_of (grafting size) base) (chunk_of (grafting size) ops)
    grown-step overlay one from = step-of shape births family size some span prompt hash form overlay base ops leaves start one begins (whole leaves (omega (arith, at))) before
      where
        before : (c : ℕ) → c < start → chunk size (bits base) c ≡ chunk size (bits ops) c
        before c low = ⊎_elim
            (λ (here : start ≡ kept.start).
            clear-chunk size base ops kept.start c is.clear (clear-onward size base ops kept.start begins (whole kept.start agreed.start) is.clear) (omega (arith, low, here)))
            (λ (there : start ≡ own.tree.start). same-chunk size some overlay base ops c one (from c (omega (arith, low, there, can.forgotten))))
            begun

    pub grown-clear : (seen : Bitmap) → seen.pruned ≡ map_of.pruned → all_bits size seen ≡ bits ops → AreInactive size start ops
    grown-clear seen pruned same = ⊎_elim
        (λ (here : start ≡ kept.start). subst (λ k. AreInactive size k ops) (sym here) (clear-onward size base ops kept.start begins (whole kept.start agreed.start) is.clear))
        (λ (there : start ≡ own.tree.start). clear-pruned size seen ops start same (omega (arith, there, can.forgotten, pruned)))
        begun
