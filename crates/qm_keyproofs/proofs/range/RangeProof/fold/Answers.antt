use Rattle.std.proofs.Common.{◌≡◌, ◌-◌, ◌∙◌, ◌∷◌, map, drop, arith, ap, sym, Some, ℕ}
use Rattle.std.specs.Prelude.{slice_get}
use Rattle.qm_model.specs.Trees.{Node, peaks}
use Rattle.qm_proofs.proofs.Halving.{drop_next, peak_within, some_peak}
use Rattle.qm_proofs.proofs.Folding.{folded}
use Rattle.qm_keyproofs.proofs.Folding.{none_behind, first_step}
use Rattle.qm_keyproofs.proofs.range.RangeProof.fold.Given
use Rattle.qm_keyproofs.proofs.range.RangeProof.fold.Goals as goal

-- the peaks begin with this one
left : (g : Given.Over) (m n : ℕ) (p : Node) → m ≡ n → slice_get (peaks g.F.Family.shape m) 0 ≡ Some p → peaks g.F.Family.shape n ≡ p ∷ drop 1 (peaks g.F.Family.shape n)
left g m n p same is = drop_next (peaks g.F.Family.shape n) 0 p (ap (λ i. slice_get (peaks g.F.Family.shape i) 0) (sym same) ∙ is)

pub fold_right-requires-clause-number : goal.fold_right-requires-clause-number
fold_right-requires-clause-number g c =
    some_peak g.F.Family.shape g.F.Family.births g.met.F.Family.numbered g.met.F.Family.peaked c.args.self.now.proof.leaves c.requires.few (omega (arith, c.requires.some, c.requires.within))

pub rebuild-requires-clause-end : goal.rebuild-requires-clause-end
rebuild-requires-clause-end g c =
    omega (arith, c.new.ensures, c.requires.few, peak_within g.F.Family.shape g.F.Family.births g.met.F.Family.numbered g.met.F.Family.peaked c.new.result 0 c.peak-peak.result (omega (arith, c.new.ensures, c.requires.few)) c.peak-peak.ensures)

pub returns-in_err-first : goal.returns-in_err-first
returns-in_err-first g c =
    let hash = g.H.Hasher.hash in
    let shape = g.F.Family.shape in
    let claim = g.C.Claimed.claim c.args.claim.now in
    let n = c.args.self.now.proof.leaves in
    rw c.from_residual.ensures
    (none_behind hash shape claim (peaks shape n) c.peak-peak.result (drop 1 (peaks shape n)) (map g.D.Digest.bytes c.args.self.now.proof.digests.items) (left g c.new.result n c.peak-peak.result c.new.ensures c.peak-peak.ensures)
    (folded hash c.args.self.now.proof.inactive_peaks) c.in_err-first.ensures.value)

pub returns : goal.returns
returns g c =
    let hash = g.H.Hasher.hash in
    let shape = g.F.Family.shape in
    let claim = g.C.Claimed.claim c.args.claim.now in
    let n = c.args.self.now.proof.leaves in
    let digests = c.args.self.now.proof.digests.items in
    c.fold_onto.ensures
    ∙ first_step hash shape claim (peaks shape n) c.peak-peak.result (drop 1 (peaks shape n)) (map g.D.Digest.bytes digests) (left g c.new.result n c.peak-peak.result c.new.ensures c.peak-peak.ensures)
    (g.D.Digest.bytes c.in_ok-first.first, map g.D.Digest.bytes (drop c.in_ok-first.used digests)) c.in_ok-first.ensures.value c.args.self.now.proof.inactive_peaks (c.args.self.now.proof.inactive_peaks - 1) (omega (arith, c.if-self-eq0.false))
