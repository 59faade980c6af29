use Rattle.std.proofs.Common.{◌≡◌, ◌∙◌, ◌-◌, ap, sym, subst, refl, arith, length}
use Rattle.std.proofs.lemmas.Option.{slice_get_read}
use Rattle.std.specs.Prelude.{slice_get}
use Rattle.qm_merkle.specs.Mems.{IsWhole, Holds, node_at}
use Rattle.qm_merkle.proofs.Numbering.{birth_below, stands_below}
use Rattle.qm_merkle.proofs.Standing.{node_held}
use Rattle.qm_merkle.proofs.Growth.{made_index}
use Rattle.qm_merkle.proofs.mem.Mem.half.Goals as goal

pub node-requires : goal.node-requires
node-requires g c =
    let shape = g.F.Family.shape in
    let kept = c.args.self.now in
    let leaves : c.self.inside.leaves ≡ kept.leaves = ap (λ k. k.leaves) c.self.view_is in
    let low = birth_below shape g.F.Family.births g.met.F.Family.numbered c.args.node kept.leaves (omega (arith, c.place-position.ensures, c.location_to_position-size.ensures.size, ap shape.size leaves)) in
    subst (Holds shape kept) (sym c.place-position.ensures)
    (node_held shape g.F.Family.births g.met.F.Family.numbered g.met.F.Family.peaked kept (subst (IsWhole shape) c.self.view_is c.self.invariant.1) c.args.node low c.requires.bare)

pub returns-then-get : goal.returns-then-get
returns-then-get g c = record {
  old = λ old. ap (node_at g.F.Family.shape c.args.self.now) (sym c.place-position.ensures) ∙ c.node.ensures;
  new = λ new.
      let shape = g.F.Family.shape in
      let kept = c.args.self.now in
      let leaves : c.self.inside.leaves ≡ kept.leaves = ap (λ k. k.leaves) c.self.view_is in
      absurd (omega (arith, birth_below shape g.F.Family.births g.met.F.Family.numbered c.args.node kept.leaves (omega (arith, c.place-position.ensures, c.location_to_position-size.ensures.size, ap shape.size leaves))));
}

pub bounds-made-get : goal.bounds-made-get
bounds-made-get g c =
    let size : c.location_to_position-size.result ≡ g.F.Family.shape.size c.args.self.now.leaves = c.location_to_position-size.ensures.size ∙ ap (λ k. g.F.Family.shape.size k.leaves) c.self.view_is in
    made_index g.F.Family.shape g.F.Family.births g.met.F.Family.numbered c.args.self.now.leaves (length c.args.made.now) c.args.node (c.get-else-get.result - c.get-else-get-2.result)
    c.requires.room c.requires.held (omega (arith, c.place-position.ensures)) (omega (arith, c.place-position.ensures))

pub offset_bounds-made-get : goal.offset_bounds-made-get
offset_bounds-made-get g c = omega (arith, bounds-made-get g c)

pub returns-else-get : goal.returns-else-get
returns-else-get g c = record {
  old = λ old.
      let size : c.location_to_position-size.result ≡ g.F.Family.shape.size c.args.self.now.leaves = c.location_to_position-size.ensures.size ∙ ap (λ k. g.F.Family.shape.size k.leaves) c.self.view_is in
      absurd (omega (arith, stands_below g.F.Family.shape g.F.Family.births g.met.F.Family.numbered c.args.node c.args.self.now.leaves old, c.place-position.ensures));
  new = λ new.
      let size : c.location_to_position-size.result ≡ g.F.Family.shape.size c.args.self.now.leaves = c.location_to_position-size.ensures.size ∙ ap (λ k. g.F.Family.shape.size k.leaves) c.self.view_is in
      let index = c.get-else-get.result - c.get-else-get-2.result in
      let is : index ≡ g.F.Family.shape.position c.args.node - g.F.Family.shape.size c.args.self.now.leaves = omega (arith, c.place-position.ensures) in
      let lt = made_index g.F.Family.shape g.F.Family.births g.met.F.Family.numbered c.args.self.now.leaves (length c.args.made.now) c.args.node index
      c.requires.room c.requires.held (omega (arith, c.place-position.ensures)) is in
      ap (slice_get c.args.made.now) (sym is) ∙ slice_get_read c.args.made.now (length c.args.made.now) index c.index-made-get.result refl lt c.index-made-get.is;
}
