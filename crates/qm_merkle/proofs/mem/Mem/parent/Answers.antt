use Rattle.std.proofs.Common.{◌≡◌, ◌∙◌, ◌<◌, ◌≤◌, ◌^◌, ℕ, [], ◌∷◌, ◌++◌, length, ap, ap₂, sym, subst, arith}
use Rattle.qm_model.specs.Trees.{Node, end_of, node_digest, digest_of}
use Rattle.qm_model.specs.Families.{IsHeld, over}
use Rattle.qm_merkle.specs.Mems.{IsWhole, left_of, right_of}
use Rattle.qm_merkle.proofs.Growth.{Halved, born_high, born_within, halved, half_is}
use Rattle.qm_merkle.proofs.mem.Mem.parent.Given
use Rattle.qm_merkle.proofs.mem.Mem.parent.Goals as goal

halves_are : (g : Given.Over) (m n k : ℕ) (node left right : Node) → m ≡ n → 0 < k → k < g.F.Family.births.count n → node ≡ g.F.Family.births.born m k → left ≡ left_of node → right ≡ right_of node →
    Halved g.F.Family.shape g.F.Family.births g.met.F.Family.numbered n k left right
halves_are g m n k node left right same some room is is_left is_right =
    halved g.F.Family.shape g.F.Family.births g.met.F.Family.numbered n k node left right some room (is ∙ ap (λ m. g.F.Family.births.born m k) same) is_left is_right

within : (g : Given.Over) (m n k : ℕ) (node : Node) → m ≡ n → n < 2 ^ 62 → k < g.F.Family.births.count n → node ≡ g.F.Family.births.born m k → end_of node ≤ 2 ^ 62
within g m n k node same few room is =
    let born = born_within g.F.Family.shape g.F.Family.births g.met.F.Family.numbered n k room in
    omega (arith, ap end_of (is ∙ ap (λ m. g.F.Family.births.born m k) same))

pub halves-left-requires-clause-high : goal.halves-left-requires-clause-high
halves-left-requires-clause-high g c =
    let high = born_high g.F.Family.shape g.F.Family.births g.met.F.Family.numbered c.args.self.now.leaves c.args.number c.requires.some c.requires.room in
    omega (arith, ap (λ (x : Node). x.height) (c.born-node.ensures ∙ ap (λ k. g.F.Family.births.born k.leaves c.args.number) c.self.view_is))

pub halves-left-requires-clause-within : goal.halves-left-requires-clause-within
halves-left-requires-clause-within g c =
    within g c.self.inside.leaves c.args.self.now.leaves c.args.number c.born-node.result (ap (λ k. k.leaves) c.self.view_is) c.requires.few c.requires.room c.born-node.ensures

pub half-left-requires-clause-held : goal.half-left-requires-clause-held
half-left-requires-clause-held g c =
    subst (λ k. IsHeld g.F.Family.shape g.F.Family.births c.args.self.now.leaves k c.halves-left.result.0) (sym c.requires.number)
    (halves_are g c.self.inside.leaves c.args.self.now.leaves c.args.number c.born-node.result c.halves-left.result.0 c.halves-left.result.1 (ap (λ k. k.leaves) c.self.view_is) c.requires.some c.requires.room c.born-node.ensures c.halves-left.ensures.left c.halves-left.ensures.right).left_held

pub half-left-requires-clause-bare : goal.half-left-requires-clause-bare
half-left-requires-clause-bare g c =
    let whole = subst (IsWhole g.F.Family.shape) c.self.view_is c.self.invariant.1 in
    let bare = (halves_are g c.self.inside.leaves c.args.self.now.leaves c.args.number c.born-node.result c.halves-left.result.0 c.halves-left.result.1 (ap (λ k. k.leaves) c.self.view_is) c.requires.some c.requires.room c.born-node.ensures c.halves-left.ensures.left c.halves-left.ensures.right).left_bare in
    omega (arith, whole.order)

pub half-left-requires-clause-within : goal.half-left-requires-clause-within
half-left-requires-clause-within g c =
    let within = (halves_are g c.self.inside.leaves c.args.self.now.leaves c.args.number c.born-node.result c.halves-left.result.0 c.halves-left.result.1 (ap (λ k. k.leaves) c.self.view_is) c.requires.some c.requires.room c.born-node.ensures c.halves-left.ensures.left c.halves-left.ensures.right).left_within in
    omega (arith, c.requires.few)

pub half-right-requires-clause-held : goal.half-right-requires-clause-held
half-right-requires-clause-held g c =
    subst (λ k. IsHeld g.F.Family.shape g.F.Family.births c.args.self.now.leaves k c.halves-left.result.1) (sym c.requires.number)
    (halves_are g c.self.inside.leaves c.args.self.now.leaves c.args.number c.born-node.result c.halves-left.result.0 c.halves-left.result.1 (ap (λ k. k.leaves) c.self.view_is) c.requires.some c.requires.room c.born-node.ensures c.halves-left.ensures.left c.halves-left.ensures.right).right_held

pub half-right-requires-clause-bare : goal.half-right-requires-clause-bare
half-right-requires-clause-bare g c =
    let whole = subst (IsWhole g.F.Family.shape) c.self.view_is c.self.invariant.1 in
    let bare = (halves_are g c.self.inside.leaves c.args.self.now.leaves c.args.number c.born-node.result c.halves-left.result.0 c.halves-left.result.1 (ap (λ k. k.leaves) c.self.view_is) c.requires.some c.requires.room c.born-node.ensures c.halves-left.ensures.left c.halves-left.ensures.right).right_bare in
    omega (arith, whole.order)

pub half-right-requires-clause-within : goal.half-right-requires-clause-within
half-right-requires-clause-within g c =
    let within = (halves_are g c.self.inside.leaves c.args.self.now.leaves c.args.number c.born-node.result c.halves-left.result.0 c.halves-left.result.1 (ap (λ k. k.leaves) c.self.view_is) c.requires.some c.requires.room c.born-node.ensures c.halves-left.ensures.left c.halves-left.ensures.right).right_within in
    omega (arith, c.requires.few)

pub number-requires : goal.number-requires
number-requires g c =
    within g c.self.inside.leaves c.args.self.now.leaves c.args.number c.born-node.result (ap (λ k. k.leaves) c.self.view_is) c.requires.few c.requires.room c.born-node.ensures

pub returns-clause-digest : goal.returns-clause-digest
returns-clause-digest g c = λ leaves leaf stands born.
    let shape = g.F.Family.shape in
    let births = g.F.Family.births in
    let bytes = g.D.Digest.bytes in
    let hash = g.H.Hasher.hash in
    let kept = c.args.self.now in
    let now = leaves ++ bytes leaf ∷ [] in
    let halves = halves_are g c.self.inside.leaves c.args.self.now.leaves c.args.number c.born-node.result c.halves-left.result.0 c.halves-left.result.1 (ap (λ k. k.leaves) c.self.view_is) c.requires.some c.requires.room c.born-node.ensures c.halves-left.ensures.left c.halves-left.ensures.right in
    let whole = subst (IsWhole shape) c.self.view_is c.self.invariant.1 in
    let room : length c.args.made.now ≤ births.count kept.leaves = omega (arith, c.requires.number, c.requires.room) in
    let left_bare : kept.start < shape.birth (over c.halves-left.result.0) = omega (arith, whole.order, halves.left_bare) in
    let right_bare : kept.start < shape.birth (over c.halves-left.result.1) = omega (arith, whole.order, halves.right_bare) in
    let left : bytes c.half-left.result ≡ digest_of hash shape now c.halves-left.result.0 =
    half_is shape births g.met.F.Family.numbered g.met.F.Family.peaked bytes hash kept whole leaves stands leaf c.args.made.now c.halves-left.result.0 c.half-left.result room
    (subst (λ k. IsHeld shape births kept.leaves k c.halves-left.result.0) (sym c.requires.number) halves.left_held) left_bare born c.half-left.ensures.old c.half-left.ensures.new in
    let right : bytes c.half-right.result ≡ digest_of hash shape now c.halves-left.result.1 =
    half_is shape births g.met.F.Family.numbered g.met.F.Family.peaked bytes hash kept whole leaves stands leaf c.args.made.now c.halves-left.result.1 c.half-right.result room
    (subst (λ k. IsHeld shape births kept.leaves k c.halves-left.result.1) (sym c.requires.number) halves.right_held) right_bare born c.half-right.ensures.old c.half-right.ensures.new in
    c.node_digest.ensures.digest
    ∙ ap (λ p. node_digest hash p (bytes c.half-left.result) (bytes c.half-right.result)) (c.number.ensures ∙ ap shape.number (c.born-node.ensures ∙ ap (λ k. births.born k.leaves c.args.number) c.self.view_is))
    ∙ ap₂ (node_digest hash (shape.number (births.born kept.leaves c.args.number))) left right ∙ sym (halves.parent hash now)
