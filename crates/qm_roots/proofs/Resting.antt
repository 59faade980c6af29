-- What a database at rest keeps as a batch that does nothing, and which of a batch's lists a tree stands for.
use Rattle.std.proofs.Common.{◌≡◌, ◌∙◌, ◌^◌, ◌<◌, ◌≤◌, ℕ, zero, suc, List, [], ◌∷◌, ◌++◌, length, map, get_or, arith, ap, ap₂, sym, subst, refl}
use Rattle.std.specs.Prelude.{All, Contains}
use Rattle.std.proofs.Math.Seq.{take-length}
use Rattle.qm_model.specs.Operations.{Bytes, Operation}
use Rattle.qm_model.specs.Forms.{Form}
use Rattle.qm_model.specs.Trees.{Shape}
use Rattle.qm_model.specs.Grafted.{grafted_chunks}
use Rattle.qm_merkle.specs.Batches.{IsHistory}
use Rattle.qm_graft.specs.Grafting.{grafting, kept_shape}
use Rattle.qm_overlay.specs.Layers.{Overlay}
use Rattle.qm_roots.specs.Steps.{IsOverlay, AreOverlays}
use Rattle.qm_roots.specs.Canonical.{Canonical, IsCanonical, values_of}
use Rattle.qm_roots.specs.Kept.{Kept, AreAgreed, AreInactive, IsKept, sizes_of}

-- a step that changes nothing
abbrev pub still : ℕ → Overlay
still n = record { count = n; changed = [] }

stays : (size n : ℕ) (list : List Operation) → n ≡ length list → IsOverlay size (still n) list list
stays size n list count = record {
  count = count;
  clear = λ c bits found i low behind. absurd (cc found);
  bits = λ i. refl;
}

module _ {D : Type 0} (bytes : D → Bytes) (hash : Bytes → Bytes) (shape : Shape) (size : ℕ) (form : Form) where
  pub rests : (own : Canonical D) (kept : Kept D) (list : List Operation) → IsCanonical bytes hash shape size form own list
      → kept.overlays ≡ still (length list) ∷ [] → kept.base ≡ length list → kept.start ≡ 0 → kept.layers ≡ [] → kept.root ≡ own.root
      → IsKept bytes hash shape size form kept list (list ∷ [])
  rests own kept list is overlays base start layers root = record {
    rising = (take-length list, tt);
    sizes = ap₂ (λ os b. map (λ (o : Overlay). o.count) os ++ b ∷ []) overlays base;
    overlays = subst (λ os. AreOverlays size os list (list ∷ [])) (sym overlays) (stays size (length list) list refl, tt);
    clear = subst (λ n. AreInactive size n list) (sym start) (λ i low. absurd (omega (arith, low)));
    lists = [];
    history = subst (λ ls. IsHistory (kept_shape shape (grafting size)) bytes hash ls (values_of hash shape (grafting size) form list ∷ [])) (sym layers) tt;
    through = through;
    root = root ∙ is.root;
  }
    where
      through : All (λ b. Contains (values_of hash shape (grafting size) form list ∷ []) (values_of hash shape (grafting size) form b)) (list ∷ [])
      through zero d lt = (0, omega arith, refl)
      through (suc i) d lt = absurd (omega (arith, lt))

  -- the values of one of the lists are among those that the layers lead through
  pub among : (kept : Kept D) (tip : List Operation) (bases : List (List Operation)) (is : IsKept bytes hash shape size form kept tip bases) (i : ℕ) (d : List Operation) → i < suc (length bases)
      → Contains (values_of hash shape (grafting size) form tip ∷ is.lists) (values_of hash shape (grafting size) form (get_or (tip ∷ bases) i d))
  among kept tip bases is zero d lt = (0, omega arith, refl)
  among kept tip bases is (suc i) d lt = is.through i d (omega (arith, lt))

  pub among-list : (kept : Kept D) (tip : List Operation) (bases : List (List Operation)) (is : IsKept bytes hash shape size form kept tip bases) (list : List Operation) → Contains (tip ∷ bases) list
      → Contains (values_of hash shape (grafting size) form tip ∷ is.lists) (values_of hash shape (grafting size) form list)
  among-list kept tip bases is list found =
      subst (λ l. Contains (values_of hash shape (grafting size) form tip ∷ is.lists) (values_of hash shape (grafting size) form l)) found.2 (among kept tip bases is found.0 list found.1)

  -- the newest size is that of its list
  pub first-size : (kept : Kept D) (tip : List Operation) (bases : List (List Operation)) → IsKept bytes hash shape size form kept tip bases → get_or (sizes_of kept) 0 0 ≡ length tip
  first-size kept tip bases is = ap (λ ns. get_or ns 0 0) is.sizes

-- its numbers agree
pub rest-agreed : {D : Type 0} (shape : Shape) (g n leaves : ℕ) (overlays : List Overlay) (root : Bytes) → overlays ≡ still n ∷ [] → n ≤ 2 ^ 62 → leaves ≡ grafted_chunks shape g n
    → AreAgreed {D = D} shape g (record { overlays = overlays; base = n; start = 0; leaves = leaves; layers = []; root = root })
rest-agreed {D} shape g n leaves overlays root is few count = subst (λ os. AreAgreed {D = D} shape g (record { overlays = os; base = n; start = 0; leaves = leaves; layers = []; root = root })) (sym is) (record {
  few = few;
  falling = λ i j order within. omega (arith, both i (omega (arith, order, within)), both j within);
  leaves = count;
  reached = reached;
  start = omega arith;
})
  where
    both : (i : ℕ) → i < 2 → get_or (n ∷ n ∷ []) i 0 ≡ n
    both zero low = refl
    both (suc zero) low = refl
    both (suc (suc i)) low = absurd (omega (arith, low))

    reached : All (λ m. Contains (leaves ∷ []) (grafted_chunks shape g m)) (n ∷ n ∷ [])
    reached zero d low = (0, omega arith, count)
    reached (suc zero) d low = (0, omega arith, count)
    reached (suc (suc i)) d low = absurd (omega (arith, low))
