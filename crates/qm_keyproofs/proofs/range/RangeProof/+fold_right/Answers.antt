use Rattle.std.proofs.Common.{◌≡◌, ◌+◌, ◌<◌, ◌∙◌, ◌∷◌, length, map, drop, arith, ap, sym, refl, Some, None, ℕ}
use Rattle.std.specs.Prelude.{slice_get, option_map}
use Rattle.std.proofs.lemmas.List.{length-map, length-drop}
use Rattle.qm_model.specs.Trees.{Node, peaks, fold_right}
use Rattle.qm_proofs.proofs.Halving.{drop_next, peak_within}
use Rattle.qm_keyproofs.proofs.Folding.{none_behind, right_last, right_more}
use Rattle.qm_keyproofs.proofs.range.RangeProof.+fold_right.Given
use Rattle.qm_keyproofs.proofs.range.RangeProof.+fold_right.Goals as goal

-- the peaks that are left begin with this one
left : (g : Given.Over) (m n k : ℕ) (p : Node) → m ≡ n → slice_get (peaks g.F.Family.shape m) k ≡ Some p → drop k (peaks g.F.Family.shape n) ≡ p ∷ drop (k + 1) (peaks g.F.Family.shape n)
left g m n k p same is = drop_next (peaks g.F.Family.shape n) k p (ap (λ i. slice_get (peaks g.F.Family.shape i) k) (sym same) ∙ is)

pub returns-in_err-value : goal.returns-in_err-value
returns-in_err-value g t c =
    let hash = g.H.Hasher.hash in
    let shape = g.F.Family.shape in
    let claim = g.C.Claimed.claim c.args.claim.now in
    let n = c.args.self.now.proof.leaves in
    let k = c.args.number in
    let p = c.peak-peak.result in
    let ds = map g.D.Digest.bytes (drop c.args.used c.args.self.now.proof.digests.items) in
    rw c.from_residual.ensures
    (none_behind hash shape claim (drop k (peaks shape n)) p (drop (k + 1) (peaks shape n)) ds (left g c.new-leaves.result n k p c.new-leaves.ensures c.peak-peak.ensures) (fold_right hash) c.in_err-value.ensures.value)

pub returns-then-number-count : goal.returns-then-number-count
returns-then-number-count g t c =
    let hash = g.H.Hasher.hash in
    let shape = g.F.Family.shape in
    let claim = g.C.Claimed.claim c.args.claim.now in
    let n = c.args.self.now.proof.leaves in
    let k = c.args.number in
    let p = c.peak-peak.result in
    let digests = c.args.self.now.proof.digests.items in
    let ds = map g.D.Digest.bytes (drop c.args.used digests) in
    let rest = drop c.in_ok-value.used digests in
    right_last hash shape claim (drop k (peaks shape n)) p (drop (k + 1) (peaks shape n)) ds (left g c.new-leaves.result n k p c.new-leaves.ensures c.peak-peak.ensures)
    (g.D.Digest.bytes c.in_ok-value.value, map g.D.Digest.bytes rest) c.in_ok-value.ensures.value (option_map g.D.Digest.bytes c.all_used.result)
    (omega (arith, length-drop (k + 1) (peaks shape n), c.peak_count-count.ensures, ap (λ m. length (peaks shape m)) c.new-leaves.ensures, c.if-number-count.true))
    (λ all. ap (option_map g.D.Digest.bytes) (c.all_used.ensures.all (omega (arith, all, length-map rest g.D.Digest.bytes, length-drop c.in_ok-value.used digests, c.in_ok-value.ensures.used))))
    (λ some. ap (option_map g.D.Digest.bytes) (c.all_used.ensures.part (omega (arith, some, length-map rest g.D.Digest.bytes, length-drop c.in_ok-value.used digests))))

pub returns-in_err-rest : goal.returns-in_err-rest
returns-in_err-rest g t c =
    let hash = g.H.Hasher.hash in
    let shape = g.F.Family.shape in
    let claim = g.C.Claimed.claim c.args.claim.now in
    let n = c.args.self.now.proof.leaves in
    let k = c.args.number in
    let p = c.peak-peak.result in
    let digests = c.args.self.now.proof.digests.items in
    let ds = map g.D.Digest.bytes (drop c.args.used digests) in
    let more : 0 < length (drop (k + 1) (peaks shape n)) = omega (arith, length-drop (k + 1) (peaks shape n), c.peak_count-count.ensures, ap (λ m. length (peaks shape m)) c.new-leaves.ensures, c.if-number-count.false, c.requires.number) in
    rw c.from_residual-in_err-rest.ensures
    (right_more hash shape claim (drop k (peaks shape n)) p (drop (k + 1) (peaks shape n)) ds (left g c.new-leaves.result n k p c.new-leaves.ensures c.peak-peak.ensures)
    (g.D.Digest.bytes c.in_ok-value.value, map g.D.Digest.bytes (drop c.in_ok-value.used digests)) c.in_ok-value.ensures.value None None more c.in_err-rest.ensures refl)

pub returns : goal.returns
returns g t c =
    let hash = g.H.Hasher.hash in
    let shape = g.F.Family.shape in
    let claim = g.C.Claimed.claim c.args.claim.now in
    let n = c.args.self.now.proof.leaves in
    let k = c.args.number in
    let p = c.peak-peak.result in
    let digests = c.args.self.now.proof.digests.items in
    let ds = map g.D.Digest.bytes (drop c.args.used digests) in
    let more : 0 < length (drop (k + 1) (peaks shape n)) = omega (arith, length-drop (k + 1) (peaks shape n), c.peak_count-count.ensures, ap (λ m. length (peaks shape m)) c.new-leaves.ensures, c.if-number-count.false, c.requires.number) in
    right_more hash shape claim (drop k (peaks shape n)) p (drop (k + 1) (peaks shape n)) ds (left g c.new-leaves.result n k p c.new-leaves.ensures c.peak-peak.ensures)
    (g.D.Digest.bytes c.in_ok-value.value, map g.D.Digest.bytes (drop c.in_ok-value.used digests)) c.in_ok-value.ensures.value
    (Some (g.D.Digest.bytes c.in_ok-rest.rest)) (Some (g.D.Digest.bytes c.pair_digest.result)) more c.in_ok-rest.ensures (ap Some c.pair_digest.ensures.digest)

pub peak-peak-requires-clause-leaves : goal.peak-peak-requires-clause-leaves
peak-peak-requires-clause-leaves g t c = omega (arith, c.new-leaves.ensures, c.requires.few)

pub peak-peak-requires-clause-number : goal.peak-peak-requires-clause-number
peak-peak-requires-clause-number g t c = omega (arith, ap (λ m. length (peaks g.F.Family.shape m)) c.new-leaves.ensures, c.requires.number)

pub rebuild-requires-clause-end : goal.rebuild-requires-clause-end
rebuild-requires-clause-end g t c =
    omega (arith, c.new-leaves.ensures, c.requires.few, peak_within g.F.Family.shape g.F.Family.births g.met.F.Family.numbered g.met.F.Family.peaked c.new-leaves.result c.args.number c.peak-peak.result (omega (arith, c.new-leaves.ensures, c.requires.few)) c.peak-peak.ensures)

pub rebuild-requires-clause-within : goal.rebuild-requires-clause-within
rebuild-requires-clause-within g t c = omega (arith, c.requires.within, c.requires.few)

pub rebuild-requires-clause-used : goal.rebuild-requires-clause-used
rebuild-requires-clause-used g t c = c.requires.used

pub peak_count-count-requires : goal.peak_count-count-requires
peak_count-count-requires g t c = omega (arith, c.new-leaves.ensures, c.requires.few)

pub overflow_add-number : goal.overflow_add-number
overflow_add-number g t c = omega (arith, c.requires.number, c.peak_count-count.ensures, c.peak_count-count.type_inv, ap (λ m. length (peaks g.F.Family.shape m)) c.new-leaves.ensures)

pub all_used-requires : goal.all_used-requires
all_used-requires g t c = c.in_ok-value.ensures.used

pub overflow_add-number-2 : goal.overflow_add-number-2
overflow_add-number-2 g t c = omega (arith, c.requires.number, c.peak_count-count.ensures, c.peak_count-count.type_inv, ap (λ m. length (peaks g.F.Family.shape m)) c.new-leaves.ensures)

pub fold_right-requires : goal.fold_right-requires
fold_right-requires g t c κs within =
    let later : c.args.number + 1 < length (peaks g.F.Family.shape c.args.self.now.proof.leaves) = omega (arith, c.requires.number, c.if-number-count.false, c.peak_count-count.ensures, ap (λ m. length (peaks g.F.Family.shape m)) c.new-leaves.ensures) in
    (omega (arith, c.decreases, later), (within.0, (within.1.0, (within.1.1.0, (within.1.1.1, (c.requires.few, (c.requires.within, (later, (c.in_ok-value.ensures.used, (c.requires.high, c.requires.low))))))))))
