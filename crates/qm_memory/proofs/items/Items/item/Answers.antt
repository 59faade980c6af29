use Rattle.std.proofs.Common.{◌≤◌, length, ap, arith}
use Rattle.qm_memory.proofs.Cuts.{length-cut, item-between}
use Rattle.qm_memory.proofs.items.Items.item.Goals as goal

pub place-start-requires : goal.place-start-requires
place-start-requires c = omega (arith, c.deref.ensures.len, c.self.inside.ends.ok.0, c.requires, ap length c.self.view_is, length-cut 0 c.self.inside.ends.items c.self.inside.bytes.items)

range : (c : goal.After-deref-2) → (c.place-start.result.0 ≤ c.place-start.result.1) × (c.place-start.result.1 ≤ length c.deref-2.result.now)
range c =
    let between = item-between c.deref.result.now c.deref-2.result.now c.args.self.now c.args.at c.place-start.result.0 c.place-start.result.1
    (rw (c.deref.ensures.value, c.deref-2.ensures.value) c.self.invariant) (rw (c.deref.ensures.value, c.deref-2.ensures.value) c.self.view_is) c.requires c.place-start.ensures.start c.place-start.ensures.end in
    (between.0, between.1)

pub slice_bounds-result-count : goal.slice_bounds-result-count
slice_bounds-result-count c = (range c).0

pub slice_bounds-result-start : goal.slice_bounds-result-start
slice_bounds-result-start c = omega (arith, (range c).0, (range c).1)

pub slice_bounds-result-end : goal.slice_bounds-result-end
slice_bounds-result-end c = omega (arith, (range c).1)

pub returns : goal.returns
returns c = (item-between c.deref.result.now c.deref-2.result.now c.args.self.now c.args.at c.place-start.result.0 c.place-start.result.1
    (rw (c.deref.ensures.value, c.deref-2.ensures.value) c.self.invariant) (rw (c.deref.ensures.value, c.deref-2.ensures.value) c.self.view_is) c.requires c.place-start.ensures.start c.place-start.ensures.end).2
