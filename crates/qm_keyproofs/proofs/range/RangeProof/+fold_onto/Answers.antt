use Rattle.std.proofs.Common.{◌≡◌, ◌+◌, ◌-◌, ◌<◌, ◌≤◌, ◌∙◌, ◌∷◌, length, map, drop, arith, ap, sym, Some, ℕ}
use Rattle.std.specs.Prelude.{slice_get, option_map}
use Rattle.std.proofs.lemmas.List.{length-map, length-drop}
use Rattle.qm_model.specs.Trees.{Node, peaks}
use Rattle.qm_proofs.proofs.Halving.{drop_next, peak_within}
use Rattle.qm_proofs.proofs.Folding.{folded_onto}
use Rattle.qm_keyproofs.proofs.Folding.{none_behind, none_onto, right_onto, onto_last, onto_step}
use Rattle.qm_keyproofs.proofs.range.RangeProof.+fold_onto.Given
use Rattle.qm_keyproofs.proofs.range.RangeProof.+fold_onto.Goals as goal

-- the peaks that are left begin with this one
left : (g : Given.Over) (m n k : ℕ) (p : Node) → m ≡ n → slice_get (peaks g.F.Family.shape m) k ≡ Some p → drop k (peaks g.F.Family.shape n) ≡ p ∷ drop (k + 1) (peaks g.F.Family.shape n)
left g m n k p same is = drop_next (peaks g.F.Family.shape n) k p (ap (λ i. slice_get (peaks g.F.Family.shape i) k) (sym same) ∙ is)

pub rebuild-requires-clause-end : goal.rebuild-requires-clause-end
rebuild-requires-clause-end g t c =
    omega (arith, c.new-leaves.ensures, c.requires.few, peak_within g.F.Family.shape g.F.Family.births g.met.F.Family.numbered g.met.F.Family.peaked c.new-leaves.result c.args.number c.peak-peak.result (omega (arith, c.new-leaves.ensures, c.requires.few)) c.peak-peak.ensures)

pub returns-then-number-peak_count : goal.returns-then-number-peak_count
returns-then-number-peak_count g t c =
    let hash = g.H.Hasher.hash in
    let shape = g.F.Family.shape in
    let claim = g.C.Claimed.claim c.args.claim.now in
    let n = c.args.self.now.proof.leaves in
    let k = c.args.number in
    let digests = c.args.self.now.proof.digests.items in
    let rest = drop c.args.used digests in
    let count = ap (λ m. length (peaks shape m)) c.new-leaves.ensures in
    onto_last hash shape claim (drop k (peaks shape n)) (map g.D.Digest.bytes rest) (g.D.Digest.bytes c.args.folded) (c.args.self.now.proof.inactive_peaks - k) (option_map g.D.Digest.bytes c.all_used.result)
    (omega (arith, length-drop k (peaks shape n), c.peak_count.ensures, count, c.if-number-peak_count.true))
    (omega (arith, c.requires.inactive, c.peak_count.ensures, count, c.if-number-peak_count.true))
    (λ all. ap (option_map g.D.Digest.bytes) (c.all_used.ensures.all (omega (arith, all, length-map rest g.D.Digest.bytes, length-drop c.args.used digests, c.requires.used))))
    (λ some. ap (option_map g.D.Digest.bytes) (c.all_used.ensures.part (omega (arith, some, length-map rest g.D.Digest.bytes, length-drop c.args.used digests))))

pub returns-in_err-value : goal.returns-in_err-value
returns-in_err-value g t c =
    let hash = g.H.Hasher.hash in
    let shape = g.F.Family.shape in
    let claim = g.C.Claimed.claim c.args.claim.now in
    let n = c.args.self.now.proof.leaves in
    let k = c.args.number in
    let p = c.peak-peak.result in
    let ds = map g.D.Digest.bytes (drop c.args.used c.args.self.now.proof.digests.items) in
    rw c.from_residual-in_err-value.ensures
    (none_behind hash shape claim (drop k (peaks shape n)) p (drop (k + 1) (peaks shape n)) ds (left g c.new-leaves.result n k p c.new-leaves.ensures c.peak-peak.ensures)
    (folded_onto hash (g.D.Digest.bytes c.args.folded) (c.args.self.now.proof.inactive_peaks - k)) c.in_err-value.ensures.value)

pub returns : goal.returns
returns g t c =
    let hash = g.H.Hasher.hash in
    let shape = g.F.Family.shape in
    let claim = g.C.Claimed.claim c.args.claim.now in
    let n = c.args.self.now.proof.leaves in
    let k = c.args.number in
    let p = c.peak-peak.result in
    let digests = c.args.self.now.proof.digests.items in
    let ds = map g.D.Digest.bytes (drop c.args.used digests) in
    c.fold_onto.ensures
    ∙ onto_step hash shape claim (drop k (peaks shape n)) p (drop (k + 1) (peaks shape n)) ds (left g c.new-leaves.result n k p c.new-leaves.ensures c.peak-peak.ensures)
    (g.D.Digest.bytes c.in_ok-value.value, map g.D.Digest.bytes (drop c.in_ok-value.used digests)) c.in_ok-value.ensures.value
    (g.D.Digest.bytes c.args.folded) (g.D.Digest.bytes c.pair_digest-folded.result) (c.args.self.now.proof.inactive_peaks - k) (c.args.self.now.proof.inactive_peaks - (k + 1))
    (omega (arith, c.requires.number, c.if-number-self.false)) c.pair_digest-folded.ensures.digest

pub peak_count-requires : goal.peak_count-requires
peak_count-requires g t c = omega (arith, c.new-leaves.ensures, c.requires.few)

pub all_used-requires : goal.all_used-requires
all_used-requires g t c = c.requires.used

pub fold_right-requires-clause-few : goal.fold_right-requires-clause-few
fold_right-requires-clause-few g t c = c.requires.few

pub fold_right-requires-clause-within : goal.fold_right-requires-clause-within
fold_right-requires-clause-within g t c = c.requires.within

pub fold_right-requires-clause-number : goal.fold_right-requires-clause-number
fold_right-requires-clause-number g t c = omega (arith, c.requires.number, c.requires.inactive, c.if-number-peak_count.false, c.peak_count.ensures, ap (λ m. length (peaks g.F.Family.shape m)) c.new-leaves.ensures)

pub fold_right-requires-clause-used : goal.fold_right-requires-clause-used
fold_right-requires-clause-used g t c = c.requires.used

pub returns-in_err-rest : goal.returns-in_err-rest
returns-in_err-rest g t c =
    let hash = g.H.Hasher.hash in
    let shape = g.F.Family.shape in
    let claim = g.C.Claimed.claim c.args.claim.now in
    let n = c.args.self.now.proof.leaves in
    let k = c.args.number in
    let ds = map g.D.Digest.bytes (drop c.args.used c.args.self.now.proof.digests.items) in
    rw c.from_residual.ensures (none_onto hash shape claim (drop k (peaks shape n)) ds (g.D.Digest.bytes c.args.folded) (c.args.self.now.proof.inactive_peaks - k) c.in_err-rest.ensures)

pub returns-then-number-self : goal.returns-then-number-self
returns-then-number-self g t c =
    let hash = g.H.Hasher.hash in
    let shape = g.F.Family.shape in
    let claim = g.C.Claimed.claim c.args.claim.now in
    let n = c.args.self.now.proof.leaves in
    let k = c.args.number in
    let ds = map g.D.Digest.bytes (drop c.args.used c.args.self.now.proof.digests.items) in
    let more : 0 < length (drop k (peaks shape n)) = omega (arith, length-drop k (peaks shape n), c.requires.number, c.requires.inactive, c.if-number-peak_count.false, c.peak_count.ensures, ap (λ m. length (peaks g.F.Family.shape m)) c.new-leaves.ensures) in
    right_onto hash shape claim (drop k (peaks shape n)) ds (g.D.Digest.bytes c.args.folded) (c.args.self.now.proof.inactive_peaks - k) (g.D.Digest.bytes c.in_ok-rest.rest) (g.D.Digest.bytes c.pair_digest.result)
    (omega (arith, c.if-number-self.true)) more c.in_ok-rest.ensures c.pair_digest.ensures.digest

pub peak-peak-requires-clause-leaves : goal.peak-peak-requires-clause-leaves
peak-peak-requires-clause-leaves g t c = omega (arith, c.new-leaves.ensures, c.requires.few)

pub peak-peak-requires-clause-number : goal.peak-peak-requires-clause-number
peak-peak-requires-clause-number g t c = omega (arith, c.requires.number, c.requires.inactive, c.if-number-self.false, ap (λ m. length (peaks g.F.Family.shape m)) c.new-leaves.ensures)

pub rebuild-requires-clause-within : goal.rebuild-requires-clause-within
rebuild-requires-clause-within g t c = omega (arith, c.requires.within, c.requires.few)

pub rebuild-requires-clause-used : goal.rebuild-requires-clause-used
rebuild-requires-clause-used g t c = c.requires.used

pub overflow_add-number : goal.overflow_add-number
overflow_add-number g t c = omega (arith, c.requires.number, c.requires.inactive, c.if-number-self.false, c.peak_count.ensures, c.peak_count.type_inv, ap (λ m. length (peaks g.F.Family.shape m)) c.new-leaves.ensures)

pub fold_onto-requires : goal.fold_onto-requires
fold_onto-requires g t c κs within =
    let later : c.args.number + 1 ≤ c.args.self.now.proof.inactive_peaks = omega (arith, c.requires.number, c.if-number-self.false) in
    (omega (arith, c.decreases, later, c.requires.inactive), (within.0, (within.1.0, (within.1.1.0, (within.1.1.1, (c.requires.few, (c.requires.within, (later, (c.requires.inactive, (c.in_ok-value.ensures.used, (c.requires.high, c.requires.low)))))))))))
