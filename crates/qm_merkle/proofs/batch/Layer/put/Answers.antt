use Rattle.std.proofs.Common.{◌≡◌, ◌++◌, ◌∙◌, ◌+◌, ◌<◌, length, ap, ap₂, sym, arith}
use Rattle.std.specs.Prelude.{slice_get}
use Rattle.std.specs.Option.{option_or}
use Rattle.std.proofs.lemmas.List.{length-append}
use Rattle.qm_merkle.specs.Batches.{found_at}
use Rattle.qm_merkle.proofs.Histories.{layer_at-before}
use Rattle.qm_merkle.proofs.Putting.{written, all_at, put-nodes}
use Rattle.qm_merkle.proofs.batch.Layer.put.Given
use Rattle.qm_merkle.proofs.batch.Layer.put.Goals as goal

pub append_to-requires : goal.append_to-requires
append_to-requires g c =
    let same : length c.replace_nodes.new.nodes ≡ length c.args.nodes.now.items = c.replace_nodes.ensures.length ∙ ap length c.deref_mut.ensures.value in
    omega (
      arith,
      ap length (written c.replace_nodes.new.nodes c.args.nodes.now.items c.args.nodes.now.len same (omega (arith, c.args.nodes.now.ok.0))),
      c.requires.room,
      c.requires.size,
      c.requires.whole.full,
      ap (λ l. length l.tree.nodes) c.self.view_is,
    )

pub returns-clause-pins : goal.returns-clause-pins
returns-clause-pins g c = λ i p at.
    let shape = g.F.Family.shape in
    let size = shape.size c.args.self.now.tree.start in
    c.replace_pins.ensures.pins i p at
    ∙ ap (λ l. option_or (found_at l.replaced p) (slice_get c.args.pins.now i)) c.self.view_is
    ∙ ap (λ o. option_or o (slice_get c.args.pins.now i)) (sym (layer_at-before shape c.args.self.now p (all_at (λ q. q < size) c.args.positions.now i p c.requires.low at)))

same : (g : Given.Over) (c : goal.After-append_to g) → length c.replace_nodes.new.nodes ≡ length c.args.nodes.now.items
same g c = c.replace_nodes.ensures.length ∙ ap length c.deref_mut.ensures.value

items : (g : Given.Over) (c : goal.After-append_to g) → c.append_to.new.nodes.items ≡ c.replace_nodes.new.nodes ++ c.args.self.now.tree.nodes
items g c =
    c.append_to.ensures.items
    ∙ ap (λ xs. xs ++ c.self.inside.tree.nodes) (written c.replace_nodes.new.nodes c.args.nodes.now.items c.args.nodes.now.len (same g c) (omega (arith, c.args.nodes.now.ok.0)))
    ∙ ap (λ l. c.replace_nodes.new.nodes ++ l.tree.nodes) c.self.view_is

pub returns-clause-size : goal.returns-clause-size
returns-clause-size g c =
    omega (arith, ap length (items g c), length-append c.replace_nodes.new.nodes c.args.self.now.tree.nodes, same g c, c.requires.size, c.requires.whole.full)

pub returns-clause-nodes : goal.returns-clause-nodes
returns-clause-nodes g c =
    let value = c.deref_mut.ensures.value in
    put-nodes g.F.Family.shape c.args.self.now c.args.size c.args.nodes.now.items c.replace_nodes.new.nodes c.append_to.new.nodes.items c.requires.size (same g c)
    (λ i lt. c.replace_nodes.ensures.nodes i (omega (arith, ap length value)) ∙ ap₂ (λ l ys. option_or (found_at l.replaced (c.args.size + i)) (slice_get ys i)) c.self.view_is value) (items g c)
