use Rattle.std.proofs.Common.{◌≡◌, ◌∙◌, ◌≤◌, ◌<◌, ◌^◌, ℕ, All, ap, ap₂, sym, subst, arith, IsSome, Some, refl}
use Rattle.std.specs.Option.{option_or}
use Rattle.qm_model.specs.Trees.{Node, node_digest, digest_of}
use Rattle.qm_model.specs.Families.{over}
use Rattle.qm_merkle.specs.Mems.{node_at}
use Rattle.qm_merkle.specs.Batches.{Draft, found_at, replaced_from, seen_at, layers_at, IsOver}
use Rattle.qm_merkle.proofs.Rows.{Half, half_is, over_left, over_right, digest_is, digest-halves}
use Rattle.qm_merkle.proofs.Histories.{is_some-other}
use Rattle.qm_merkle.proofs.batch.UnmerkleizedBatch.parent.Given
use Rattle.qm_merkle.proofs.batch.UnmerkleizedBatch.parent.Goals as goal

half : (g : Given.Over) (draft : Draft g.row.D.Denot) (start : ℕ) (x y : Node) → over y ≡ x → draft.base ≤ 2 ^ 62 → All (λ e. start ≤ e.0) draft.replaced → g.F.Family.shape.birth x ≤ draft.base → IsOver draft.replaced x.height x.index →
    Half g.F.Family.shape start draft.base y
half g draft start x y is = half_is g.F.Family.shape g.F.Family.births g.met.F.Family.numbered draft.replaced draft.base start x y is

pub halves-left-requires-clause-within : goal.halves-left-requires-clause-within
halves-left-requires-clause-within g c = omega (arith, g.met.F.Family.numbered.inside c.args.node, c.requires.below, c.requires.few)

pub place-requires : goal.place-requires
place-requires g c =
    (half g c.args.self.now c.args.mem.now.start c.args.node c.halves-left.result.0 (ap over c.halves-left.ensures.left ∙ over_left c.args.node c.requires.high) c.requires.few c.requires.start c.requires.below c.requires.above).within

pub digest-left-requires : goal.digest-left-requires
digest-left-requires g c =
    let shape = g.F.Family.shape in
    let x = c.halves-left.result.0 in
    let h = half g c.args.self.now c.args.mem.now.start c.args.node x (ap over c.halves-left.ensures.left ∙ over_left c.args.node c.requires.high) c.requires.few c.requires.start c.requires.below c.requires.above in
    subst (λ p. IsSome (option_or (found_at c.args.nodes.now.entries p) (option_or (layers_at shape c.args.self.now.layers p) (node_at shape c.args.mem.now p)))) (sym c.place.ensures)
    (is_some-other (found_at c.args.nodes.now.entries (shape.position x)) (seen_at shape c.args.self.now.layers c.args.mem.now x) (c.requires.there x h.born h.bare))

pub place-requires-2 : goal.place-requires-2
place-requires-2 g c =
    (half g c.args.self.now c.args.mem.now.start c.args.node c.halves-left.result.1 (ap over c.halves-left.ensures.right ∙ over_right c.args.node c.requires.high) c.requires.few c.requires.start c.requires.below c.requires.above).within

pub digest-right-requires : goal.digest-right-requires
digest-right-requires g c =
    let shape = g.F.Family.shape in
    let x = c.halves-left.result.1 in
    let h = half g c.args.self.now c.args.mem.now.start c.args.node x (ap over c.halves-left.ensures.right ∙ over_right c.args.node c.requires.high) c.requires.few c.requires.start c.requires.below c.requires.above in
    subst (λ p. IsSome (option_or (found_at c.args.nodes.now.entries p) (option_or (layers_at shape c.args.self.now.layers p) (node_at shape c.args.mem.now p)))) (sym c.place-2.ensures)
    (is_some-other (found_at c.args.nodes.now.entries (shape.position x)) (seen_at shape c.args.self.now.layers c.args.mem.now x) (c.requires.there x h.born h.bare))

pub number-requires : goal.number-requires
number-requires g c = omega (arith, g.met.F.Family.numbered.inside c.args.node, c.requires.below, c.requires.few)

pub returns-clause-digest : goal.returns-clause-digest
returns-clause-digest g c = λ list long read right.
    let shape = g.F.Family.shape in
    let bytes = g.D.Digest.bytes in
    let hash = g.H.Hasher.hash in
    let draft = c.args.self.now in
    let mem = c.args.mem.now in
    let entries = c.args.nodes.now.entries in
    let node = c.args.node in
    let new = replaced_from bytes draft.replaced 0 list in
    let x = c.halves-left.result.0 in
    let y = c.halves-left.result.1 in
    let l = half g draft mem.start node x (ap over c.halves-left.ensures.left ∙ over_left node c.requires.high) c.requires.few c.requires.start c.requires.below c.requires.above in
    let r = half g draft mem.start node y (ap over c.halves-left.ensures.right ∙ over_right node c.requires.high) c.requires.few c.requires.start c.requires.below c.requires.above in
    let x_low : x.height < node.height = omega (arith, c.requires.high, ap (λ (z : Node). z.height) c.halves-left.ensures.left) in
    let y_low : y.height < node.height = omega (arith, c.requires.high, ap (λ (z : Node). z.height) c.halves-left.ensures.right) in
    let left : bytes c.digest-left.result ≡ digest_of hash shape new x =
    digest_is shape draft.replaced draft.layers mem draft.base bytes hash entries list x (found_at entries (shape.position x)) c.digest-left.result long l.born l.bare refl (c.requires.own x l.born x_low) read right
    (subst (λ p. option_or (found_at entries p) (option_or (layers_at shape draft.layers p) (node_at shape mem p)) ≡ Some c.digest-left.result) c.place.ensures c.digest-left.ensures) in
    let right_is : bytes c.digest-right.result ≡ digest_of hash shape new y =
    digest_is shape draft.replaced draft.layers mem draft.base bytes hash entries list y (found_at entries (shape.position y)) c.digest-right.result long r.born r.bare refl (c.requires.own y r.born y_low) read right
    (subst (λ p. option_or (found_at entries p) (option_or (layers_at shape draft.layers p) (node_at shape mem p)) ≡ Some c.digest-right.result) c.place-2.ensures c.digest-right.ensures) in
    c.node_digest.ensures.digest
    ∙ ap (λ p. node_digest hash p (bytes c.digest-left.result) (bytes c.digest-right.result)) c.number.ensures
    ∙ ap₂ (node_digest hash (shape.number node)) (left ∙ ap (digest_of hash shape new) c.halves-left.ensures.left) (right_is ∙ ap (digest_of hash shape new) c.halves-left.ensures.right)
    ∙ sym (digest-halves hash shape new node.height node.index c.requires.high)
