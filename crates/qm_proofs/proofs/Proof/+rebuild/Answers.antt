use Rattle.std.proofs.Common.{◌≡◌, ◌∙◌, ◌+◌, ◌-◌, ◌<◌, length, map, drop, arith, ap, ap₂, sym}
use Rattle.std.specs.Prelude.{slice_index_or, []}
use Rattle.qm_model.specs.Trees.{leaf_digest}
use Rattle.qm_proofs.proofs.Halving.{no_left, no_right, both, met, rebuilt_apart, rebuilt_leaf, leaf_within, element_at}
use Rattle.qm_proofs.proofs.Proof.+rebuild.Goals as goal

pub returns-in_err-left-clause-digest : goal.returns-in_err-left-clause-digest
returns-in_err-left-clause-digest g t c =
    let x = c.args.node in
    let items = map g.E.Spelled.spelling c.args.elements.now in
    let high : 0 < x.height = omega (arith, c.height.ensures, c.if-height-eq0.false) in
    let meeting = met g.E.Spelled.spelling c.args.elements.now c.get.result c.args.start (c.get-2.result + length c.args.elements.now) x c.meets.result c.meets.ensures c.if-not-meets.false c.get.ensures (omega (arith, c.get-2.ensures)) in
    rw c.from_residual.ensures
    (no_left g.H.Hasher.hash g.F.Family.shape items c.args.start x c.halves-left.result.0 c.halves-left.result.1 (map g.D.Digest.bytes (drop c.args.used c.args.self.now.digests.items)) high meeting
    c.halves-left.ensures.left c.halves-left.ensures.right c.in_err-left.ensures.digest)

pub returns-in_err-right-clause-digest : goal.returns-in_err-right-clause-digest
returns-in_err-right-clause-digest g t c =
    let x = c.args.node in
    let items = map g.E.Spelled.spelling c.args.elements.now in
    let high : 0 < x.height = omega (arith, c.height.ensures, c.if-height-eq0.false) in
    let meeting = met g.E.Spelled.spelling c.args.elements.now c.get.result c.args.start (c.get-2.result + length c.args.elements.now) x c.meets.result c.meets.ensures c.if-not-meets.false c.get.ensures (omega (arith, c.get-2.ensures)) in
    rw c.from_residual-in_err-right.ensures
    (no_right g.H.Hasher.hash g.F.Family.shape items c.args.start x c.halves-left.result.0 c.halves-left.result.1 (map g.D.Digest.bytes (drop c.args.used c.args.self.now.digests.items)) high meeting
    c.halves-left.ensures.left c.halves-left.ensures.right
    (g.D.Digest.bytes c.in_ok-left.left, map g.D.Digest.bytes (drop c.in_ok-left.used c.args.self.now.digests.items)) c.in_ok-left.ensures.digest c.in_err-right.ensures.digest)

pub returns-clause-digest : goal.returns-clause-digest
returns-clause-digest g t c =
    let x = c.args.node in
    let items = map g.E.Spelled.spelling c.args.elements.now in
    let high : 0 < x.height = omega (arith, c.height.ensures, c.if-height-eq0.false) in
    let meeting = met g.E.Spelled.spelling c.args.elements.now c.get.result c.args.start (c.get-2.result + length c.args.elements.now) x c.meets.result c.meets.ensures c.if-not-meets.false c.get.ensures (omega (arith, c.get-2.ensures)) in
    both g.H.Hasher.hash g.F.Family.shape items c.args.start x c.halves-left.result.0 c.halves-left.result.1 (map g.D.Digest.bytes (drop c.args.used c.args.self.now.digests.items)) high meeting
    c.halves-left.ensures.left c.halves-left.ensures.right
    (g.D.Digest.bytes c.in_ok-left.left, map g.D.Digest.bytes (drop c.in_ok-left.used c.args.self.now.digests.items))
    (g.D.Digest.bytes c.in_ok-right.right, map g.D.Digest.bytes (drop c.in_ok-right.used c.args.self.now.digests.items))
    (g.D.Digest.bytes c.node_digest.result) c.number.result c.in_ok-left.ensures.digest c.in_ok-right.ensures.digest c.node_digest.ensures.digest c.number.ensures

pub overflow_add-get : goal.overflow_add-get
overflow_add-get g t c = omega (arith, c.get-2.ensures, c.requires.within)

pub meets-requires : goal.meets-requires
meets-requires g t c = c.requires.end

pub next_digest-requires : goal.next_digest-requires
next_digest-requires g t c = c.requires.used

pub returns-then-not-meets-clause-used : goal.returns-then-not-meets-clause-used
returns-then-not-meets-clause-used g t c = c.next_digest.ensures.used

pub returns-then-not-meets-clause-digest : goal.returns-then-not-meets-clause-digest
returns-then-not-meets-clause-digest g t c =
    let x = c.args.node in
    let apart = met g.E.Spelled.spelling c.args.elements.now c.get.result c.args.start (c.get-2.result + length c.args.elements.now) x c.meets.result c.meets.ensures c.if-not-meets.true c.get.ensures (omega (arith, c.get-2.ensures)) in
    c.next_digest.ensures.digest
    ∙ rebuilt_apart g.H.Hasher.hash g.F.Family.shape (map g.E.Spelled.spelling c.args.elements.now) c.args.start x (map g.D.Digest.bytes (drop c.args.used c.args.self.now.digests.items)) apart

pub overflow_sub-element : goal.overflow_sub-element
overflow_sub-element g t c =
    let within = leaf_within c.get.result (c.get-2.result + length c.args.elements.now) c.args.node (sym c.height.ensures ∙ c.if-height-eq0.true) (sym c.meets.ensures ∙ c.if-not-meets.false) in
    omega (arith, within.0, c.get.ensures, c.get-then-height-eq0.ensures, c.index.ensures)

pub bounds-elements-index : goal.bounds-elements-index
bounds-elements-index g t c =
    let within = leaf_within c.get.result (c.get-2.result + length c.args.elements.now) c.args.node (sym c.height.ensures ∙ c.if-height-eq0.true) (sym c.meets.ensures ∙ c.if-not-meets.false) in
    omega (arith, within.0, within.1, c.get.ensures, c.get-2.ensures, c.get-then-height-eq0.ensures, c.index.ensures)

pub place-requires : goal.place-requires
place-requires g t c = c.requires.end

pub returns-then-height-eq0-clause-used : goal.returns-then-height-eq0-clause-used
returns-then-height-eq0-clause-used g t c = c.requires.used

pub returns-then-height-eq0-clause-digest : goal.returns-then-height-eq0-clause-digest
returns-then-height-eq0-clause-digest g t c =
    let x = c.args.node in
    let elements = c.args.elements.now in
    let items = map g.E.Spelled.spelling elements in
    let within = leaf_within c.get.result (c.get-2.result + length c.args.elements.now) c.args.node (sym c.height.ensures ∙ c.if-height-eq0.true) (sym c.meets.ensures ∙ c.if-not-meets.false) in
    let meeting = met g.E.Spelled.spelling c.args.elements.now c.get.result c.args.start (c.get-2.result + length c.args.elements.now) x c.meets.result c.meets.ensures c.if-not-meets.false c.get.ensures (omega (arith, c.get-2.ensures)) in
    let at : c.index.result - c.get-then-height-eq0.result ≡ x.index - c.args.start = ap₂ (λ i j. i - j) c.index.ensures c.get-then-height-eq0.ensures in
    let lt : c.index.result - c.get-then-height-eq0.result < length elements = omega (arith, within.0, within.1, c.get.ensures, c.get-2.ensures, c.get-then-height-eq0.ensures, c.index.ensures) in
    let spelled = element_at g.E.Spelled.spelling elements (c.index.result - c.get-then-height-eq0.result) c.index-elements-index.result lt c.index-elements-index.is ∙ ap (λ k. slice_index_or items k []) at in
    rebuilt_leaf g.H.Hasher.hash g.F.Family.shape items c.args.start x (map g.D.Digest.bytes (drop c.args.used c.args.self.now.digests.items)) (g.D.Digest.bytes c.leaf_digest_of.result) (sym c.height.ensures ∙ c.if-height-eq0.true) meeting
    (c.leaf_digest_of.ensures.digest ∙ ap₂ (leaf_digest g.H.Hasher.hash) c.place.ensures spelled)

pub halves-left-requires-clause-high : goal.halves-left-requires-clause-high
halves-left-requires-clause-high g t c = omega (arith, c.height.ensures, c.if-height-eq0.false)

pub halves-left-requires-clause-within : goal.halves-left-requires-clause-within
halves-left-requires-clause-within g t c = c.requires.end

pub rebuild-requires : goal.rebuild-requires
rebuild-requires g t c κs within =
    (omega (arith, c.decreases, c.halves-left.ensures.below), (within.0, (within.1.0, (within.1.1.0, (within.1.1.1, (c.halves-left.ensures.inside.0, (c.requires.within, c.requires.used)))))))

pub returns-in_err-left-clause-used : goal.returns-in_err-left-clause-used
returns-in_err-left-clause-used g t c = rw c.from_residual.ensures tt

pub rebuild-requires-2 : goal.rebuild-requires-2
rebuild-requires-2 g t c κs within =
    (omega (arith, c.decreases, c.halves-left.ensures.below), (within.0, (within.1.0, (within.1.1.0, (within.1.1.1, (c.halves-left.ensures.inside.1, (c.requires.within, c.in_ok-left.ensures.used)))))))

pub returns-in_err-right-clause-used : goal.returns-in_err-right-clause-used
returns-in_err-right-clause-used g t c = rw c.from_residual-in_err-right.ensures tt

pub number-requires : goal.number-requires
number-requires g t c = c.requires.end

pub returns-clause-used : goal.returns-clause-used
returns-clause-used g t c = c.in_ok-right.ensures.used
