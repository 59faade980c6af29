use Rattle.std.proofs.Common.{◌≡◌, ◌∙◌, ◌+◌, ◌-◌, length, map, drop, arith, ap, ap₂, sym}
use Rattle.std.specs.Prelude.{slice_index_or, []}
use Rattle.qm_model.specs.Trees.{leaf_digest}
use Rattle.qm_proofs.proofs.Halving.{leaf_within}
use Rattle.qm_keyproofs.proofs.Descent.{no_left, no_right, both, value_apart, value_leaf}
use Rattle.qm_keyproofs.proofs.range.RangeProof.+rebuild.Goals as goal

pub returns-in_err-left-clause-value : goal.returns-in_err-left-clause-value
returns-in_err-left-clause-value g t c =
    let claim = g.C.Claimed.claim c.args.claim.now in
    rw c.from_residual.ensures
    (no_left g.H.Hasher.hash g.F.Family.shape claim c.args.node c.halves-left.result.0 c.halves-left.result.1 (map g.D.Digest.bytes (drop c.args.used c.args.self.now.proof.digests.items))
    (omega (arith, c.height.ensures, c.if-height-eq0.false)) (sym c.is_claimed.ensures ∙ c.if-not-is_claimed.false)
    c.halves-left.ensures.left c.halves-left.ensures.right c.in_err-left.ensures.value)

pub returns-in_err-right-clause-value : goal.returns-in_err-right-clause-value
returns-in_err-right-clause-value g t c =
    let claim = g.C.Claimed.claim c.args.claim.now in
    let digests = c.args.self.now.proof.digests.items in
    rw c.from_residual-in_err-right.ensures
    (no_right g.H.Hasher.hash g.F.Family.shape claim c.args.node c.halves-left.result.0 c.halves-left.result.1 (map g.D.Digest.bytes (drop c.args.used digests))
    (omega (arith, c.height.ensures, c.if-height-eq0.false)) (sym c.is_claimed.ensures ∙ c.if-not-is_claimed.false)
    c.halves-left.ensures.left c.halves-left.ensures.right
    (g.D.Digest.bytes c.in_ok-left.left, map g.D.Digest.bytes (drop c.in_ok-left.used digests)) c.in_ok-left.ensures.value c.in_err-right.ensures.value)

pub returns-clause-value : goal.returns-clause-value
returns-clause-value g t c =
    let claim = g.C.Claimed.claim c.args.claim.now in
    let digests = c.args.self.now.proof.digests.items in
    both g.H.Hasher.hash g.F.Family.shape claim c.args.node c.halves-left.result.0 c.halves-left.result.1 (map g.D.Digest.bytes (drop c.args.used digests))
    (omega (arith, c.height.ensures, c.if-height-eq0.false)) (sym c.is_claimed.ensures ∙ c.if-not-is_claimed.false)
    c.halves-left.ensures.left c.halves-left.ensures.right
    (g.D.Digest.bytes c.in_ok-left.left, map g.D.Digest.bytes (drop c.in_ok-left.used digests))
    (g.D.Digest.bytes c.in_ok-right.right, map g.D.Digest.bytes (drop c.in_ok-right.used digests))
    (g.D.Digest.bytes c.node_digest-digest.result) (g.D.Digest.bytes c.own.result) c.number.result c.in_ok-left.ensures.value c.in_ok-right.ensures.value
    c.node_digest-digest.ensures.digest c.number.ensures c.own.ensures

pub returns-then-not-is_claimed-clause-value : goal.returns-then-not-is_claimed-clause-value
returns-then-not-is_claimed-clause-value g t c =
    c.next_digest.ensures.digest
    ∙ value_apart g.H.Hasher.hash g.F.Family.shape (g.C.Claimed.claim c.args.claim.now) c.args.node (map g.D.Digest.bytes (drop c.args.used c.args.self.now.proof.digests.items))
    (sym c.is_claimed.ensures ∙ c.if-not-is_claimed.true)

pub overflow_sub-number : goal.overflow_sub-number
overflow_sub-number g t c =
    let claim = g.C.Claimed.claim c.args.claim.now in
    let within = leaf_within claim.start (claim.start + length claim.items) c.args.node (sym c.height.ensures ∙ c.if-height-eq0.true) (sym c.is_claimed.ensures ∙ c.if-not-is_claimed.false) in
    omega (arith, within.0, c.start.ensures, c.index.ensures)

pub leaf_digest-requires : goal.leaf_digest-requires
leaf_digest-requires g t c =
    let claim = g.C.Claimed.claim c.args.claim.now in
    let within = leaf_within claim.start (claim.start + length claim.items) c.args.node (sym c.height.ensures ∙ c.if-height-eq0.true) (sym c.is_claimed.ensures ∙ c.if-not-is_claimed.false) in
    omega (arith, within.0, within.1, c.start.ensures, c.index.ensures)

pub returns-then-height-eq0-clause-value : goal.returns-then-height-eq0-clause-value
returns-then-height-eq0-clause-value g t c =
    let claim = g.C.Claimed.claim c.args.claim.now in
    let at : c.index.result - c.start.result ≡ c.args.node.index - claim.start = ap₂ (λ i j. i - j) c.index.ensures c.start.ensures in
    value_leaf g.H.Hasher.hash g.F.Family.shape claim c.args.node (map g.D.Digest.bytes (drop c.args.used c.args.self.now.proof.digests.items)) (g.D.Digest.bytes c.leaf_digest.result) c.requires.high
    (sym c.height.ensures ∙ c.if-height-eq0.true) (sym c.is_claimed.ensures ∙ c.if-not-is_claimed.false)
    (c.leaf_digest.ensures ∙ ap₂ (leaf_digest g.H.Hasher.hash) c.place.ensures (ap (λ k. slice_index_or claim.items k []) at))

pub rebuild-requires : goal.rebuild-requires
rebuild-requires g t c κs within =
    (omega (arith, c.decreases, c.halves-left.ensures.below), (within.0, (within.1.0, (within.1.1.0, (within.1.1.1, (c.halves-left.ensures.inside.0, (c.requires.within, (c.requires.used, (c.requires.high, c.requires.low)))))))))

pub rebuild-requires-2 : goal.rebuild-requires-2
rebuild-requires-2 g t c κs within =
    (omega (arith, c.decreases, c.halves-left.ensures.below), (within.0, (within.1.0, (within.1.1.0, (within.1.1.1, (c.halves-left.ensures.inside.1, (c.requires.within, (c.in_ok-left.ensures.used, (c.requires.high, c.requires.low)))))))))
