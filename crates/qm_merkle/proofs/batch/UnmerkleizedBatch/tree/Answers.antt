use Rattle.std.proofs.Common.{◌≡◌, ◌∙◌, ◌^◌, ◌≤◌, ◌+◌, ◌-◌, ◌++◌, [], ℕ, List, Some, IsSome, All, ap, ap₂, refl, sym, subst, subst₂, arith, map, length}
use Rattle.std.proofs.lemmas.Result.{err_from_is_err_and}
use Rattle.qm_model.specs.Trees.{Shape, peak_positions}
use Rattle.qm_merkle.specs.Mems.{Kept, IsWhole, Stands, more}
use Rattle.qm_merkle.specs.Batches.{made_at, replaced_from}
use Rattle.qm_merkle.proofs.Drafting.{peaks_there, stands-fresh}
use Rattle.qm_merkle.proofs.PeakCounts.{counted}
use Rattle.qm_merkle.proofs.batch.UnmerkleizedBatch.tree.Goals as goal

below-few : (n more limit : ℕ) → n + more ≤ limit → n ≤ limit
below-few n more limit few = omega (arith, few)

-- no nodes are no more than a size
no-more : {X : Type 0} (size : ℕ) (nodes : List X) → nodes ≡ [] → size ≡ size + length nodes
no-more size nodes none = omega (arith, ap length none)

nodes-made : {D : Type 0} (tree : Kept D) (shape : Shape) (base count made : ℕ) → tree.start ≡ base → shape.size tree.start + length tree.nodes ≡ shape.size tree.leaves → made ≡ shape.size tree.leaves - shape.size base - count → made ≡ length tree.nodes - count
nodes-made tree shape base count made start full is = omega (arith, is, full, ap shape.size start)

pub digests-requires : goal.digests-requires
digests-requires g c =
    let shape = g.F.Family.shape in
    let is = ap (λ b. b.base) c.self.view_is in
    subst (λ ps. All (λ p. IsSome (made_at shape c.args.nodes.now.entries c.args.self.now.layers c.args.mem.now p)) ps)
    (sym (c.deref.ensures.value ∙ c.in_ok-positions.ensures ∙ ap (peak_positions shape) is))
    (peaks_there shape g.met.F.Family.peaked c.args.mem.now c.args.self.now.layers c.args.nodes.now.entries c.args.self.now.base (subst (λ n. n ≤ 2 ^ 62) is (below-few _ _ _ c.self.invariant.1)) c.requires.start c.requires.there)

pub of_parts-tree-requires-clause-pins : goal.of_parts-tree-requires-clause-pins
of_parts-tree-requires-clause-pins g c =
    let shape = g.F.Family.shape in
    counted shape (made_at shape c.args.nodes.now.entries c.args.self.now.layers c.args.mem.now) c.in_ok-pins.pins.items c.deref.result.now c.self.inside.base c.in_ok-pins.ensures (c.deref.ensures.value ∙ c.in_ok-positions.ensures)

pub of_parts-tree-requires-clause-size : goal.of_parts-tree-requires-clause-size
of_parts-tree-requires-clause-size g c = (c.self.inside.base, below-few _ _ _ c.self.invariant.1, no-more _ c.new.result.items c.new.ensures.items)

pub add_all-requires : goal.add_all-requires
add_all-requires g c =
    let tree = c.of_parts-tree.ensures c.self.inside.base (no-more _ c.new.result.items c.new.ensures.items) in
    subst₂ (λ n k. n + k ≤ 2 ^ 62) (sym (ap (λ t. t.leaves) tree)) (sym (ap length c.deref-2.ensures.value)) c.self.invariant.1

pub returns : goal.returns
returns g c =
    let shape = g.F.Family.shape in
    let is = ap (λ b. b.base) c.self.view_is in
    let tree = c.of_parts-tree.ensures c.self.inside.base (no-more _ c.new.result.items c.new.ensures.items) in
    let start = ap (λ t. t.start) tree ∙ is in
    let leaves = ap (λ t. t.leaves) tree ∙ is in
    let added = c.deref-2.ensures.value ∙ ap (λ b. b.added) c.self.view_is in
    let done = c.in_ok-add_all.ensures in
    let whole = subst (IsWhole shape) c.tree.view_is c.tree.invariant.1 in
    record {
      start = done.bounds.0 ∙ start;
      leaves = done.bounds.1 ∙ ap₂ ◌+◌ leaves (ap length added);
      whole = whole;
      stands = λ list count read right.
          let bytes = g.D.Digest.bytes in
          let hash = g.H.Hasher.hash in
          let base = c.args.self.now.base in
          let few : base ≤ 2 ^ 62 = subst (λ n. n ≤ 2 ^ 62) is (below-few _ _ _ c.self.invariant.1) in
          let made = made_at shape c.args.nodes.now.entries c.args.self.now.layers c.args.mem.now in
          let pins : map Some c.of_parts-tree.result.pins ≡ map made (peak_positions shape base) =
          ap (λ t. map Some t.pins) tree ∙ c.in_ok-pins.ensures ∙ ap (map made) (c.deref.ensures.value ∙ c.in_ok-positions.ensures ∙ ap (peak_positions shape) is) in
          let fresh = stands-fresh shape g.met.F.Family.peaked c.args.mem.now c.args.self.now.layers c.args.nodes.now.entries bytes hash c.args.self.now.replaced base list count c.requires.own read right
          c.of_parts-tree.result start leaves few c.requires.start pins in
          subst (λ added. Stands shape bytes hash c.add_all.new.self (replaced_from bytes c.args.self.now.replaced 0 list ++ map bytes added)) added
          (done.stands (replaced_from bytes c.args.self.now.replaced 0 list) fresh);
      made =
          done.made
          ∙ ap (more c.args.hasher.now) (nodes-made c.add_all.new.self shape c.of_parts-tree.result.leaves (length c.deref-2.result.now) _ (done.bounds.0 ∙ start ∙ sym leaves) whole.full refl ∙ ap (λ n. length c.add_all.new.self.nodes - n) (ap length added));
    }

pub returns-in_err-positions : goal.returns-in_err-positions
returns-in_err-positions g c =
    let exit = err_from_is_err_and c.from_residual.result c.from_residual.ensures.1 in
    record {
      start = rw exit.1 tt;
      leaves = rw exit.1 tt;
      whole = rw exit.1 tt;
      stands = λ list count read right. rw exit.1 tt;
      made = rw exit.1 tt;
    }

pub returns-in_err-pins : goal.returns-in_err-pins
returns-in_err-pins g c =
    let exit = err_from_is_err_and c.from_residual-in_err-pins.result c.from_residual-in_err-pins.ensures.1 in
    record {
      start = rw exit.1 tt;
      leaves = rw exit.1 tt;
      whole = rw exit.1 tt;
      stands = λ list count read right. rw exit.1 tt;
      made = rw exit.1 tt;
    }

pub returns-in_err-add_all : goal.returns-in_err-add_all
returns-in_err-add_all g c =
    let exit = err_from_is_err_and c.from_residual-in_err-add_all.result c.from_residual-in_err-add_all.ensures.1 in
    record {
      start = rw exit.1 tt;
      leaves = rw exit.1 tt;
      whole = rw exit.1 tt;
      stands = λ list count read right. rw exit.1 tt;
      made = rw exit.1 tt;
    }
