-- The lists that a batch and its child lead through, and what a child can be made of.
use Rattle.std.proofs.Common.{◌≡◌, ◌∙◌, ◌+◌, ◌*◌, ◌^◌, ◌≤◌, ◌<◌, ℕ, zero, suc, true, List, [], ◌∷◌, ◌++◌, length, map, take, get_or, arith, ap, ap₂, sym, subst, refl}
use Rattle.std.specs.Prelude.{Contains}
use Rattle.std.proofs.lemmas.List.{get_or-map, get_or-take, length-append, length-map, length-take, take-map, take_all, take_more}
use Rattle.qm_model.specs.Operations.{Operation}
use Rattle.qm_model.specs.Batches.{Begins, Chain, Commitment, IsOnChain}
use Rattle.qm_model.specs.Families.{Births, IsFamily, HasPeaks}
use Rattle.qm_model.specs.Grafted.{chunk_node}
use Rattle.qm_model.specs.Trees.{Shape}
use Rattle.qm_model.proofs.Chains.{Begins-self, Begins-through}
use Rattle.qm_model.proofs.Speaking.{get_or_default}
use Rattle.qm_merkle.specs.Batches.{AreLinked, stops}
use Rattle.qm_merkle.specs.Mems.{IsWhole}
use Rattle.qm_chain.specs.Bounds.{is_at}
use Rattle.qm_store.specs.KeptTrees.{held_at}
use Rattle.qm_store.specs.declared.Store as store
use Rattle.qm_graft.specs.Grafting.{grafting}
use Rattle.qm_roots.specs.Steps.{AreRising}
use Rattle.qm_roots.specs.Kept.{Kept, CanFollow, IsKept, IsPlace, sizes_of}
use Rattle.qm_roots.proofs.Holding.{chunks-held, peaks-held}
use Rattle.qm_roots.proofs.Sizes.{length-sizes}
use Rattle.qm_any.specs.Databases as anys
use Rattle.qm_any.specs.Layouts.{Layout}
use Rattle.qm_any.proofs.Agreed.{fits-among, fits-reached, start-within}
use Rattle.qm_any.proofs.Unmade.{child-on}
use Rattle.qm_current.specs.Databases.{Database, AreSized, IsDatabase, IsJoined}

-- each list begins with those from which it comes
rising-in : (tip : List Operation) (bases : List (List Operation)) → AreRising tip bases → (x : List Operation) → Contains (tip ∷ bases) x → Begins x tip
rising-in tip [] rising x (zero, within, is) = subst (λ l. Begins l tip) is (Begins-self tip)
rising-in tip [] rising x (suc k, within, is) = absurd (omega (arith, within))
rising-in tip (base ∷ bases) rising x (zero, within, is) = subst (λ l. Begins l tip) is (Begins-self tip)
rising-in tip (base ∷ bases) rising x (suc k, within, is) = Begins-through x base tip (rising-in base bases rising.1 x (k, omega (arith, within), is)) rising.0

-- a beginning that is as long is the whole
whole-same : (first whole : List Operation) → Begins first whole → length first ≡ length whole → first ≡ whole
whole-same first whole begins long = sym begins ∙ take_all (length first) whole (omega (arith, long))

-- of these lists, two that are equally long are equal
pub rising-same : (tip : List Operation) (bases : List (List Operation)) → AreRising tip bases → (a b : List Operation) → Contains (tip ∷ bases) a → Contains (tip ∷ bases) b → length a ≡ length b → a ≡ b
rising-same tip [] rising a b (zero, within, is) (zero, low, at) same = sym is ∙ at
rising-same tip [] rising a b (suc k, within, is) (j, low, at) same = absurd (omega (arith, within))
rising-same tip [] rising a b (zero, within, is) (suc j, low, at) same = absurd (omega (arith, low))
rising-same tip (base ∷ bases) rising a b (zero, within, is) (j, low, at) same =
    sym is ∙ sym (whole-same b tip (rising-in tip (base ∷ bases) rising b (j, low, at)) (sym same ∙ ap length (sym is)))
rising-same tip (base ∷ bases) rising a b (suc k, within, is) (zero, low, at) same =
    whole-same a tip (rising-in tip (base ∷ bases) rising a (suc k, within, is)) (same ∙ ap length (sym at)) ∙ at
rising-same tip (base ∷ bases) rising a b (suc k, within, is) (suc j, low, at) same =
    rising-same base bases rising.1 a b (k, omega (arith, within), is) (j, omega (arith, low), at) same

module _ {D : Type 0} (parent : anys.Made D) (keep : ℕ) (few : keep ≤ suc (length parent.bounds.ancestors)) (batch : anys.Made D) (child : anys.IsChild parent keep batch) where
  -- the sizes of the lists at which the parent can be read
  abbrev known : List ℕ
  known = map (λ (c : Commitment). c.size) (anys.states parent.bounds)

  kept-sizes : map (λ (c : Commitment). c.size) (batch.bounds.ancestors ++ batch.bounds.db ∷ []) ≡ take (suc keep) known
  kept-sizes =
      let size : Commitment → ℕ = λ c. c.size in
      let all = anys.states parent.bounds in
      let within : keep < length all = omega (arith, few, length-append parent.bounds.ancestors (parent.bounds.db ∷ [])) in
      let one : keep + 1 ≡ suc keep = omega arith in
      ap₂ (λ tips db. map size (tips ++ db ∷ [])) child.ancestors child.db
      ∙ ap (map size) (sym (take_more all keep parent.bounds.db within))
      ∙ ap (λ n. map size (take n all)) one
      ∙ sym (take-map size (suc keep) all)

  -- a child leads through its own list, and through its parent's that it keeps
  pub child-sizes : map (λ (c : Commitment). c.size) (anys.states batch.bounds) ≡ batch.bounds.tip.size ∷ take (suc keep) known
  child-sizes = ap (λ ns. batch.bounds.tip.size ∷ ns) kept-sizes

  known-length : length known ≡ suc (suc (length parent.bounds.ancestors))
  known-length =
      let both = length-append parent.bounds.ancestors (parent.bounds.db ∷ []) in
      let long = length-map (anys.states parent.bounds) (λ (c : Commitment). c.size) in
      omega (arith, both, long)

  -- a state at which the child can be applied is as long as one of these
  placed : anys.AreAgreed batch → (current : Commitment) → is_at current batch.bounds.db batch.bounds.ancestors ≡ true → (n : ℕ) × (n ≤ keep) × (get_or known n 0 ≡ current.size)
  placed agreed current on =
      let among = subst (λ ns. Contains ns current.size) (agreed.starts ∙ kept-sizes) (fits-among batch agreed current on) in
      let long = length-take (suc keep) known in
      let low : among.0 < suc keep = omega (arith, among.1, long) in
      let within : among.0 < length known = omega (arith, among.1, long) in
      (among.0, omega (arith, low), sym (get_or_default known among.0 current.size 0 within) ∙ sym (get_or-take (suc keep) known among.0 current.size low) ∙ among.2)

  -- no list shrinks
  pub child-grows : anys.AreAgreed batch → parent.bounds.tip.size ≤ batch.bounds.tip.size
  child-grows agreed =
      let from = start-within batch agreed in
      let base = ap (λ (c : Commitment). c.size) child.base in
      omega (arith, from, base, agreed.leaves)

  module _ {C : Type 0} (kept : Kept D) (sized : AreSized parent kept) (agreed : anys.AreAgreed batch) (chunk : ℕ) (db : Database C D) (joined : IsJoined chunk db)
      (on : is_at db.any.commitment batch.bounds.db batch.bounds.ancestors ≡ true) (lacking : ℕ)
      (least : (n : ℕ) → n < length (sizes_of kept) → get_or (sizes_of kept) n 0 ≡ db.any.commitment.size → (lacking ≤ n) × (get_or (sizes_of kept) lacking 0 ≡ db.any.commitment.size)) where
    found : (lacking ≤ keep) × (get_or (sizes_of kept) lacking 0 ≡ db.any.commitment.size)
    found =
        let at = placed agreed db.any.commitment on in
        let long = ap length sized in
        let place = least at.0 (omega (arith, at.1, few, long, known-length)) (ap (λ ns. get_or ns at.0 0) sized ∙ at.2) in
        (omega (arith, place.0, at.1), place.1)

    keeps : keep ≤ length kept.overlays
    keeps = omega (arith, few, ap length sized, known-length, length-sizes kept.overlays kept.base)

    -- a child can be made of what its parent keeps
    pub can-follow : (shape : Shape) (births : Births) (family : IsFamily shape births) (peaked : HasPeaks shape) (span : 2 ^ grafting chunk ≡ 8 * chunk)
        (prompt : (c : ℕ) → shape.birth (chunk_node (grafting chunk) c) ≤ suc (suc c) * 2 ^ grafting chunk)
        → db.canonical.tree.start ≤ db.canonical.tree.leaves → IsWhole shape db.any.log.tree → db.any.log.tree.leaves ≡ db.any.commitment.size → AreLinked shape batch.tree.leaves batch.tree.layers
        → CanFollow shape chunk kept db.canonical db.any.activity (held_at shape batch.tree db.any.log.tree) lacking keep batch.bounds.tip.size
    can-follow shape births family peaked span prompt kept_from whole leaves linked =
        let mem = db.any.log.tree in
        let layers = batch.tree.layers in
        let held = held_at shape batch.tree mem in
        let stop : Contains (stops batch.tree.leaves layers) mem.leaves = subst (Contains (stops batch.tree.leaves layers)) (sym leaves) (fits-reached batch agreed db.any.commitment on) in
        let stop_at = subst (λ n. Contains (stops n layers) mem.leaves) agreed.leaves stop in
        let linked_at = subst (λ n. AreLinked shape n layers) agreed.leaves linked in
        let first = ap (λ ns. get_or ns 0 0) sized in
        record {
          few = agreed.few;
          grows = omega (arith, first, child-grows agreed);
          keeps = keeps;
          between = found.0;
          at = joined.size_is ∙ sym found.1;
          bits = joined.bits ∙ sym joined.size_is;
          forgotten = omega (arith, joined.forgotten);
          pruned = omega (arith, joined.forgotten, kept_from);
          chunks = λ c from to. chunks-held shape births family peaked chunk span prompt mem whole layers batch.bounds.tip.size linked_at stop_at held (λ x. refl) db.any.activity.pruned c joined.over from to;
          peaks = λ x born bare. peaks-held shape births family peaked chunk span prompt mem whole layers batch.bounds.tip.size linked_at stop_at held (λ x. refl) x born bare;
        }

    -- the list before the steps that the database lacks is the one that it stands for
    pub at-place : {members : store.Ghosts C} {layout : Layout D} → layout.chunk ≡ chunk → (list : List Operation) (chain above : Chain) → IsDatabase members layout db list → anys.IsMade layout.hashing parent above chain.base
        → IsKept layout.hashing.bytes layout.hashing.hash layout.hashing.shape layout.chunk layout.hashing.form kept chain.base (anys.bases_of above) → chain.kept ≡ anys.kept_by keep above chain.base → IsOnChain list chain
        → IsPlace layout.hashing.bytes layout.hashing.hash layout.hashing.shape layout.chunk layout.hashing.form db.canonical db.any.activity (get_or (chain.base ∷ anys.bases_of above) lacking [])
    at-place {members = members} {layout = layout} same list chain above is made held by_keep on_chain =
        let lists = chain.base ∷ anys.bases_of above in
        let there = get_or lists lacking [] in
        let long : length lists ≡ length (sizes_of kept) = sym (length-map lists (λ (l : List Operation). length l)) ∙ sym (ap length held.sizes) in
        let within : lacking < length lists = omega (arith, found.0, keeps, long, length-sizes kept.overlays kept.base) in
        let size : length there ≡ length list =
        sym (get_or-map (λ (l : List Operation). length l) lists lacking [] 0 within) ∙ sym (ap (λ ns. get_or ns lacking 0) held.sizes) ∙ found.1 ∙ ap (λ (c : Commitment). c.size) is.any.commitment in
        let one = rising-same chain.base (anys.bases_of above) held.rising there list (lacking, within, get_or_default lists lacking there [] within) (child-on parent keep chain above few made by_keep list on_chain) size in
        subst (λ l. IsPlace layout.hashing.bytes layout.hashing.hash layout.hashing.shape layout.chunk layout.hashing.form db.canonical db.any.activity l) (sym one)
        (record { active = is.any.active; canonical = is.canonical })
