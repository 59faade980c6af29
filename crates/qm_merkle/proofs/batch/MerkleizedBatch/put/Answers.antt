use Rattle.std.proofs.Common.{◌≡◌, ◌≤◌, ◌<◌, ◌∙◌, ◌+◌, ◌-◌, ◌∷◌, suc, refl, length, map, take, drop, ap, sym, subst, arith}
use Rattle.std.specs.Prelude.{slice_get}
use Rattle.std.specs.Option.{option_or}
use Rattle.std.proofs.lemmas.List.{drop_all, length-map, length-take}
use Rattle.qm_merkle.specs.Batches.{all_layers, layers_at, layers_since}
use Rattle.qm_merkle.proofs.Numbering.{sizes}
use Rattle.qm_merkle.proofs.Putting.{ArePut, none_since, none_put, top_of, one_put, none_next, newest_next, older_next}
use Rattle.qm_merkle.proofs.batch.MerkleizedBatch.put.Goals as goal

pub put-requires : goal.put-requires
put-requires g c =
    let shape = g.F.Family.shape in
    let from : c.args.leaves ≤ c.self.inside.newest.value.tree.start = omega (arith, c.if-get.false, c.get.ensures, c.base.ensures.start, c.get-2.ensures, ap (λ l. l.tree.start) c.deref.ensures) in
    let layer = c.deref-in-loop-count.result.now in
    let turn = older_next shape (λ r. r.value) c.self.inside.start c.self.inside.newest.value c.self.inside.older.items c.args.self.now c.self.view_is c.args.leaves c.self.invariant.1 c.requires.reach (c.loop-count.count - 1) c.index.result.now layer
    from (omega (arith, c.loop-count.invariant.within, c.loop-count-test.true)) c.index.ensures c.deref-in-loop-count.ensures in
    let last : suc (c.loop-count.count - 1) ≡ c.loop-count.count = omega (arith, c.loop-count-test.true) in
    let put = c.loop-count.invariant.put in
    let start : layer.tree.start ≡ top_of shape c.args.leaves (drop c.loop-count.count (layers_since c.args.leaves (map (λ r. r.value) c.self.inside.older.items))) =
    turn.0.start ∙ ap (λ k. top_of shape c.args.leaves (drop k (layers_since c.args.leaves (map (λ r. r.value) c.self.inside.older.items)))) last in
    record {
      whole = turn.0.whole;
      pins = put.pinned ∙ c.requires.pins;
      low = λ k d lt. omega (arith, c.requires.low k d lt, c.requires.size, sizes shape g.F.Family.births g.met.F.Family.numbered c.args.leaves layer.tree.start turn.0.low);
      size = put.full ∙ ap shape.size (sym start);
      room = omega (arith, sizes shape g.F.Family.births g.met.F.Family.numbered layer.tree.leaves c.self.inside.newest.value.tree.leaves turn.1, c.requires.room, c.loop-count.invariant.capacity, ap (λ b. shape.size b.newest.tree.leaves) c.self.view_is);
    }

pub loop-count-preserved : goal.loop-count-preserved
loop-count-preserved g c =
    let shape = g.F.Family.shape in
    let from : c.args.leaves ≤ c.self.inside.newest.value.tree.start = omega (arith, c.if-get.false, c.get.ensures, c.base.ensures.start, c.get-2.ensures, ap (λ l. l.tree.start) c.deref.ensures) in
    let layer = c.deref-in-loop-count.result.now in
    let turn = older_next shape (λ r. r.value) c.self.inside.start c.self.inside.newest.value c.self.inside.older.items c.args.self.now c.self.view_is c.args.leaves c.self.invariant.1 c.requires.reach (c.loop-count.count - 1) c.index.result.now layer
    from (omega (arith, c.loop-count.invariant.within, c.loop-count-test.true)) c.index.ensures c.deref-in-loop-count.ensures in
    let last : suc (c.loop-count.count - 1) ≡ c.loop-count.count = omega (arith, c.loop-count-test.true) in
    let layers = layers_since c.args.leaves (map (λ r. r.value) c.self.inside.older.items) in
    record {
      within = omega (arith, c.loop-count.invariant.within, c.loop-count-test.true);
      put = one_put shape c.args.leaves c.args.positions.now c.args.size c.args.pins.now c.args.nodes.now.items (drop (c.loop-count.count - 1) layers) (drop c.loop-count.count layers) layer
          c.loop-count.pins c.loop-count.nodes.items c.put.new.pins c.put.new.nodes.items (turn.0.is ∙ ap (λ k. layer ∷ drop k layers) last)
          c.loop-count.invariant.put c.put.ensures.length c.put.ensures.size c.put.ensures.pins c.put.ensures.nodes;
      capacity = c.put.ensures.capacity ∙ c.loop-count.invariant.capacity;
    }

pub put-requires-2 : goal.put-requires-2
put-requires-2 g c =
    let shape = g.F.Family.shape in
    let layer = c.deref-3.result.now in
    let from : c.args.leaves ≤ layer.tree.start = omega (arith, c.if-get.false, c.get.ensures, c.base.ensures.start, c.get-2.ensures, ap (λ l. l.tree.start) c.deref.ensures, ap (λ l. l.tree.start) c.deref-3.ensures) in
    let turn = newest_next shape (λ r. r.value) c.self.inside.start c.self.inside.newest.value c.self.inside.older.items c.args.self.now c.self.view_is c.args.leaves c.self.invariant.1 c.requires.reach layer c.deref-3.ensures from in
    let none : c.loop-count.count ≡ 0 = omega (arith, c.loop-count-test.false) in
    let layers = layers_since c.args.leaves (map (λ r. r.value) c.self.inside.older.items) in
    let put = subst (λ k. ArePut shape c.args.leaves c.args.positions.now c.args.size c.args.pins.now c.args.nodes.now.items (drop k layers) c.loop-count.pins c.loop-count.nodes.items) none c.loop-count.invariant.put in
    record {
      whole = turn.whole;
      pins = put.pinned ∙ c.requires.pins;
      low = λ k d lt. omega (arith, c.requires.low k d lt, c.requires.size, sizes shape g.F.Family.births g.met.F.Family.numbered c.args.leaves layer.tree.start turn.low);
      size = put.full ∙ ap shape.size (sym turn.start);
      room = omega (arith, ap (λ l. shape.size l.tree.leaves) c.deref-3.ensures, c.requires.room, c.loop-count.invariant.capacity, ap (λ b. shape.size b.newest.tree.leaves) c.self.view_is);
    }

pub returns : goal.returns
returns g c = record {
  pins = λ i p at.
      let shape = g.F.Family.shape in
      let layer = c.deref-3.result.now in
      let from : c.args.leaves ≤ layer.tree.start = omega (arith, c.if-get.false, c.get.ensures, c.base.ensures.start, c.get-2.ensures, ap (λ l. l.tree.start) c.deref.ensures, ap (λ l. l.tree.start) c.deref-3.ensures) in
      let turn = newest_next shape (λ r. r.value) c.self.inside.start c.self.inside.newest.value c.self.inside.older.items c.args.self.now c.self.view_is c.args.leaves c.self.invariant.1 c.requires.reach layer c.deref-3.ensures from in
      let none : c.loop-count.count ≡ 0 = omega (arith, c.loop-count-test.false) in
      let layers = layers_since c.args.leaves (map (λ r. r.value) c.self.inside.older.items) in
      let put = subst (λ k. ArePut shape c.args.leaves c.args.positions.now c.args.size c.args.pins.now c.args.nodes.now.items (drop k layers) c.loop-count.pins c.loop-count.nodes.items) none c.loop-count.invariant.put in
      (one_put shape c.args.leaves c.args.positions.now c.args.size c.args.pins.now c.args.nodes.now.items (layers_since c.args.leaves (c.self.inside.newest.value ∷ map (λ r. r.value) c.self.inside.older.items)) layers layer
      c.loop-count.pins c.loop-count.nodes.items c.put-2.new.pins c.put-2.new.nodes.items turn.is put c.put-2.ensures.length c.put-2.ensures.size c.put-2.ensures.pins c.put-2.ensures.nodes).pins_at i p at
      ∙ ap (λ b. option_or (layers_at shape (layers_since c.args.leaves (all_layers b)) p) (slice_get c.args.pins.now i)) c.self.view_is;
  nodes = λ i.
      let shape = g.F.Family.shape in
      let layer = c.deref-3.result.now in
      let from : c.args.leaves ≤ layer.tree.start = omega (arith, c.if-get.false, c.get.ensures, c.base.ensures.start, c.get-2.ensures, ap (λ l. l.tree.start) c.deref.ensures, ap (λ l. l.tree.start) c.deref-3.ensures) in
      let turn = newest_next shape (λ r. r.value) c.self.inside.start c.self.inside.newest.value c.self.inside.older.items c.args.self.now c.self.view_is c.args.leaves c.self.invariant.1 c.requires.reach layer c.deref-3.ensures from in
      let none : c.loop-count.count ≡ 0 = omega (arith, c.loop-count-test.false) in
      let layers = layers_since c.args.leaves (map (λ r. r.value) c.self.inside.older.items) in
      let put = subst (λ k. ArePut shape c.args.leaves c.args.positions.now c.args.size c.args.pins.now c.args.nodes.now.items (drop k layers) c.loop-count.pins c.loop-count.nodes.items) none c.loop-count.invariant.put in
      (one_put shape c.args.leaves c.args.positions.now c.args.size c.args.pins.now c.args.nodes.now.items (layers_since c.args.leaves (c.self.inside.newest.value ∷ map (λ r. r.value) c.self.inside.older.items)) layers layer
      c.loop-count.pins c.loop-count.nodes.items c.put-2.new.pins c.put-2.new.nodes.items turn.is put c.put-2.ensures.length c.put-2.ensures.size c.put-2.ensures.pins c.put-2.ensures.nodes).nodes_at i
      ∙ ap (λ b. option_or (layers_at shape (layers_since c.args.leaves (all_layers b)) (c.args.size + i)) (slice_get c.args.nodes.now.items i)) c.self.view_is;
  length = c.put-2.ensures.length ∙ c.loop-count.invariant.put.pinned;
  size =
      let shape = g.F.Family.shape in
      c.put-2.ensures.size ∙ ap (λ l. shape.size l.tree.leaves) c.deref-3.ensures ∙ ap (λ b. shape.size b.newest.tree.leaves) c.self.view_is;
}

pub returns-then-get : goal.returns-then-get
returns-then-get g c = record {
  size =
      let shape = g.F.Family.shape in
      let before : c.self.inside.newest.value.tree.start < c.args.leaves = omega (arith, c.if-get.true, c.get.ensures, c.base.ensures.start, c.get-2.ensures, ap (λ l. l.tree.start) c.deref.ensures) in
      c.requires.size ∙ ap shape.size (none_next shape (λ r. r.value) c.self.inside.start c.self.inside.newest.value c.self.inside.older.items c.args.self.now c.self.view_is c.args.leaves c.self.invariant.1 c.requires.reach before) ∙ ap (λ b. shape.size b.newest.tree.leaves) c.self.view_is;
  length = refl;
  pins = λ i p at.
      ap (λ ls. option_or (layers_at g.F.Family.shape ls p) (slice_get c.args.pins.now i)) (sym (none_since g.F.Family.shape c.args.leaves c.args.self.now (omega (arith, c.if-get.true, c.get.ensures, c.base.ensures.start, c.get-2.ensures, ap (λ l. l.tree.start) c.deref.ensures, ap (λ b. b.newest.tree.start) c.self.view_is))));
  nodes = λ i.
      ap (λ ls. option_or (layers_at g.F.Family.shape ls (c.args.size + i)) (slice_get c.args.nodes.now.items i)) (sym (none_since g.F.Family.shape c.args.leaves c.args.self.now (omega (arith, c.if-get.true, c.get.ensures, c.base.ensures.start, c.get-2.ensures, ap (λ l. l.tree.start) c.deref.ensures, ap (λ b. b.newest.tree.start) c.self.view_is))));
}

pub loop-count-init : goal.loop-count-init
loop-count-init g c =
    let all = map (λ r. r.value) c.self.inside.older.items in
    let layers = layers_since c.args.leaves all in
    let count = c.count_since-count.result in
    let since : take count all ≡ layers = ap (λ rs. take count (map (λ r. r.value) rs)) (sym c.deref-2.ensures.value) ∙ c.count_since-count.ensures.since ∙ ap (λ rs. layers_since c.args.leaves (map (λ r. r.value) rs)) c.deref-2.ensures.value in
    let long : length layers ≡ count = omega (arith, ap length since, length-take count all, length-map c.self.inside.older.items (λ r. r.value), c.count_since-count.ensures.within, ap length c.deref-2.ensures.value) in
    record {
      within = omega (arith, long);
      put = none_put g.F.Family.shape c.args.leaves c.args.positions.now c.args.size c.args.pins.now c.args.nodes.now.items (drop count layers) (drop_all count layers (omega (arith, long))) c.requires.size;
      capacity = refl;
    }
