use Rattle.std.proofs.Common.{◌≡◌, ◌∙◌, ◌++◌, Contains, length, take, drop, get_or, ap, sym, subst, refl, arith}
use Rattle.std.proofs.lemmas.List.Elements.{Contains-get_or}
use Rattle.std.proofs.lemmas.List.{length-map}
use Rattle.qm_model.specs.Trees.{peaks, peak_positions}
use Rattle.qm_merkle.specs.Mems.{Kept, Stands}
use Rattle.qm_merkle.specs.Batches.{all_layers, stops, layers_since}
use Rattle.qm_merkle.proofs.Lookups.{pins_below}
use Rattle.qm_merkle.proofs.Putting.{ArePut, chained, stops-below, written, same_put, history-count, stands-put}
use Rattle.qm_merkle.proofs.mem.Mem.apply_batch.Given
use Rattle.qm_merkle.proofs.mem.Mem.apply_batch.Goals as goal

pub room-requires : goal.room-requires
room-requires g c = subst (λ k. Contains (stops c.args.batch.now.newest.tree.leaves (all_layers c.args.batch.now)) k.leaves) (sym c.self.view_is) c.requires.reach

pub put-requires-clause-reach : goal.put-requires-clause-reach
put-requires-clause-reach g c = subst (λ k. Contains (stops c.args.batch.now.newest.tree.leaves (all_layers c.args.batch.now)) k.leaves) (sym c.self.view_is) c.requires.reach

pub put-requires-clause-pins : goal.put-requires-clause-pins
put-requires-clause-pins g c =
    let shape = g.F.Family.shape in
    ap length c.deref_mut.ensures.value ∙ c.self.invariant.1.pinned
    ∙ sym (ap length (c.deref.ensures.value ∙ c.self.invariant.0) ∙ length-map (peaks shape c.self.inside.start) shape.position)

pub put-requires-clause-size : goal.put-requires-clause-size
put-requires-clause-size g c = omega (arith, c.self.invariant.1.full, c.get-size.ensures, c.location_to_position.ensures.size, ap length c.reserve.ensures.items)

pub put-requires-clause-low : goal.put-requires-clause-low
put-requires-clause-low g c = λ k d lt.
    let shape = g.F.Family.shape in
    let kept : Kept g.row.D.Denot = record { start = c.self.inside.start; leaves = c.self.inside.leaves; pins = c.self.inside.pins.items; nodes = c.self.inside.nodes.items } in
    let positions : c.deref.result.now ≡ peak_positions shape kept.start = c.deref.ensures.value ∙ c.self.invariant.0 in
    let found = subst (λ ps. Contains ps (get_or c.deref.result.now k d)) positions (Contains-get_or c.deref.result.now k d lt) in
    omega (arith, c.get-size.ensures, c.location_to_position.ensures.size, pins_below shape g.F.Family.births g.met.F.Family.numbered g.met.F.Family.peaked kept c.self.invariant.1 (get_or c.deref.result.now k d) found)

reach : (g : Given.Over) (c : goal.After-self-2-1 g) → Contains (stops c.args.batch.now.newest.tree.leaves (all_layers c.args.batch.now)) c.self.inside.leaves
reach g c = subst (λ k. Contains (stops c.args.batch.now.newest.tree.leaves (all_layers c.args.batch.now)) k.leaves) (sym c.self.view_is) c.requires.reach

written_pins : (g : Given.Over) (c : goal.After-self-2-1 g) → take c.self.inside.pins.len (c.put.new.pins ++ drop (length c.put.new.pins) c.self.inside.pins.items) ≡ c.put.new.pins
written_pins g c = written c.put.new.pins c.self.inside.pins.items c.self.inside.pins.len (c.put.ensures.length ∙ ap length c.deref_mut.ensures.value) (omega (arith, c.self.inside.pins.ok.0))

pub invariant_of-self-2 : goal.invariant_of-self-2
invariant_of-self-2 g c =
    let shape = g.F.Family.shape in
    let batch = c.args.batch.now in
    let whole = c.self.invariant.1 in
    let below = stops-below shape batch.newest.tree.leaves (all_layers batch) c.self.inside.leaves c.room.ensures.linked (reach g c) in (
      c.self.invariant.0,
      record {
        order = omega (arith, whole.order, below, c.leaves-self-inside.ensures.count);
        few = omega (arith, c.room.ensures.linked.1.few, c.leaves-self-inside.ensures.count);
        pinned = ap length (written_pins g c) ∙ c.put.ensures.length ∙ ap length c.deref_mut.ensures.value ∙ whole.pinned;
        full = omega (arith, c.put.ensures.size, c.get-size.ensures, c.location_to_position.ensures.size, ap shape.size c.leaves-self-inside.ensures.count);
      },
    )

pub returns-clause-bounds : goal.returns-clause-bounds
returns-clause-bounds g c = (ap (λ k. k.start) c.self.view_is, c.leaves-self-inside.ensures.count)

pub returns-clause-stands : goal.returns-clause-stands
returns-clause-stands g c = λ hash list new lists history found stands.
    let shape = g.F.Family.shape in
    let batch = c.args.batch.now in
    let bytes = g.D.Digest.bytes in
    let kept : Kept g.row.D.Denot = record { start = c.self.inside.start; leaves = c.self.inside.leaves; pins = c.self.inside.pins.items; nodes = c.self.inside.nodes.items } in
    let lack = layers_since kept.leaves (all_layers batch) in
    let top = chained shape kept.leaves batch.newest.tree.leaves (all_layers batch) c.room.ensures.linked (reach g c) in
    let below = stops-below shape batch.newest.tree.leaves (all_layers batch) kept.leaves c.room.ensures.linked (reach g c) in
    let put : ArePut shape kept.leaves c.deref.result.now c.get-size.result c.deref_mut.result.now c.reserve.new.self.items lack c.put.new.pins c.put.new.nodes.items = record {
      pinned = c.put.ensures.length;
      full = c.put.ensures.size ∙ sym (ap shape.size top.1);
      pins_at = c.put.ensures.pins;
      nodes_at = c.put.ensures.nodes;
    } in
    let next : Kept g.row.D.Denot = record { start = c.self.inside.start; leaves = c.leaves-self-inside.result; pins = take c.self.inside.pins.len (c.put.new.pins ++ drop (length c.put.new.pins) c.self.inside.pins.items); nodes = c.put.new.nodes.items } in
    stands-put shape g.F.Family.births g.met.F.Family.numbered g.met.F.Family.peaked bytes hash kept c.self.invariant.1 batch.newest.tree.leaves (all_layers batch) c.room.ensures.linked new lists list history found
    (subst (λ k. Stands shape bytes hash k list) (sym c.self.view_is) stands) next refl (c.leaves-self-inside.ensures.count ∙ history-count shape g.F.Family.births g.met.F.Family.numbered g.met.F.Family.peaked bytes hash batch.newest batch.older new lists history) (omega (arith, below, c.leaves-self-inside.ensures.count))
    (same_put shape kept.leaves lack next.nodes c.deref.result.now (peak_positions shape kept.start) c.get-size.result (shape.size kept.start) c.deref_mut.result.now kept.pins c.reserve.new.self.items kept.nodes c.put.new.pins next.pins
    (c.deref.ensures.value ∙ c.self.invariant.0) (c.get-size.ensures ∙ c.location_to_position.ensures.size) c.deref_mut.ensures.value c.reserve.ensures.items (sym (written_pins g c)) put)
