use Rattle.std.proofs.Common.{◌≡◌, ◌∙◌, length, ap, arith, subst, None, Some}
use Rattle.std.proofs.lemmas.List.{length-map}
use Rattle.qm_merkle.specs.Mems.{IsWhole, node_at, pin_at}
use Rattle.qm_merkle.proofs.Lookups.{held, found_pin, found_past, missing_past}
use Rattle.qm_model.specs.Trees.{peaks, peak_positions}
use Rattle.qm_merkle.proofs.mem.Mem.get_node.Given
use Rattle.qm_merkle.proofs.mem.Mem.get_node.Goals as goal

pub returns-then-get-size : goal.returns-then-get-size
returns-then-get-size g c = record {
  value =
      let shape = g.F.Family.shape in
      found_pin shape c.args.self.now c.args.position c.get-size.result c.deref.result.now c.deref-then-get-size.result.now c.pin.result
      (c.deref.ensures.value ∙ c.self.invariant.0 ∙ ap (λ k. peak_positions shape k.start) c.self.view_is) (c.deref-then-get-size.ensures.value ∙ ap (λ k. k.pins) c.self.view_is)
      (c.get-size.ensures ∙ c.location_to_position.ensures.size ∙ ap (λ k. shape.size k.start) c.self.view_is) (omega arith)
      (c.pin.ensures ∙ ap (pin_at c.deref.result.now c.deref-then-get-size.result.now) c.get-then-get-size.ensures);
  held =
      let shape = g.F.Family.shape in
      let kept = c.args.self.now in
      held shape g.F.Family.births g.met.F.Family.numbered g.met.F.Family.peaked kept (subst (IsWhole shape) c.self.view_is c.self.invariant.1) c.args.position c.pin.result
      (found_pin shape kept c.args.position c.get-size.result c.deref.result.now c.deref-then-get-size.result.now c.pin.result
      (c.deref.ensures.value ∙ c.self.invariant.0 ∙ ap (λ k. peak_positions shape k.start) c.self.view_is) (c.deref-then-get-size.ensures.value ∙ ap (λ k. k.pins) c.self.view_is)
      (c.get-size.ensures ∙ c.location_to_position.ensures.size ∙ ap (λ k. shape.size k.start) c.self.view_is) (omega arith)
      (c.pin.ensures ∙ ap (pin_at c.deref.result.now c.deref-then-get-size.result.now) c.get-then-get-size.ensures));
}

pub returns-then-index-len-clause-value : goal.returns-then-index-len-clause-value
returns-then-index-len-clause-value g c =
    let shape = g.F.Family.shape in
    found_past shape c.args.self.now c.args.position c.get-size.result c.self.inside.nodes.items c.index.result.now
    (ap (λ k. k.nodes) c.self.view_is) (c.get-size.ensures ∙ c.location_to_position.ensures.size ∙ ap (λ k. shape.size k.start) c.self.view_is)
    (omega arith) (omega (arith, c.self.inside.nodes.ok.0)) (rw (← c.get-2.ensures) c.index.ensures)

none_is : (g : Given.Over) (c : goal.Else-index-len g) → None ≡ node_at g.F.Family.shape c.args.self.now c.args.position
none_is g c =
    missing_past g.F.Family.shape c.args.self.now c.args.position c.get-size.result c.self.inside.nodes.items
    (ap (λ k. k.nodes) c.self.view_is) (c.get-size.ensures ∙ c.location_to_position.ensures.size ∙ ap (λ k. g.F.Family.shape.size k.start) c.self.view_is)
    (omega arith) (omega (arith, c.self.inside.nodes.ok.0))

pub returns-else-index-len : goal.returns-else-index-len
returns-else-index-len g c = record {
  value = none_is g c;
  held = held g.F.Family.shape g.F.Family.births g.met.F.Family.numbered g.met.F.Family.peaked c.args.self.now (subst (IsWhole g.F.Family.shape) c.self.view_is c.self.invariant.1) c.args.position None (none_is g c);
}

pub pin-requires : goal.pin-requires
pin-requires g c = omega (arith, ap length c.deref.ensures.value, ap length c.deref-then-get-size.ensures.value, ap length c.self.invariant.0, length-map (peaks g.F.Family.shape c.self.inside.start) g.F.Family.shape.position, c.self.invariant.1.pinned)

pub location_to_position-requires : goal.location_to_position-requires
location_to_position-requires g c = omega (arith, c.self.invariant.1.order, c.self.invariant.1.few)

pub returns-then-index-len-clause-held : goal.returns-then-index-len-clause-held
returns-then-index-len-clause-held g c =
    held g.F.Family.shape g.F.Family.births g.met.F.Family.numbered g.met.F.Family.peaked c.args.self.now (subst (IsWhole g.F.Family.shape) c.self.view_is c.self.invariant.1) c.args.position (Some c.index.result.now) (returns-then-index-len-clause-value g c)
