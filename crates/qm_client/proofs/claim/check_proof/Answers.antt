-- What a yes says.
use Rattle.std.proofs.Common.{ap, sym, ◌∙◌, ℕ, arith, ◌≤◌}
use Rattle.qm_merkle.proofs.Numbering.{birth-born}
use Rattle.qm_graft.specs.Grafting.{grafting}
use Rattle.qm_chunks.proofs.Spans.{power_most}
use Rattle.qm_graft.proofs.Fitting.{grafting-span}
use Rattle.qm_client.specs.Provable.{claim_view}
use Rattle.qm_client.proofs.Checked.{yes_says, if_yes}
use Rattle.qm_client.proofs.claim.check_proof.Goals as goal

pub returns-clause-says : goal.returns-clause-says
returns-clause-says g c = λ ordered ops proof made rooted is.
    let shape = g.F.Family.shape in
    let size = g.N.Chunks.LEN in
    let height = grafting size in
    let power = g.met.N.Chunks.power in
    let span = grafting-span size power.0 power.1 in
    let born = λ (k : ℕ). ap shape.birth (sym (g.met.F.Family.numbered.first k)) ∙ birth-born shape g.F.Family.births g.met.F.Family.numbered k 0 (g.met.F.Family.numbered.some k) in
    if_yes _ _ c.verdict_of.ensures
    (yes_says g.H.Hasher.hash shape height size g.H.Digest.Digest.SIZE (omega (arith, span)) c.args.bytes.now (claim_view c.args.claim.now) (g.H.Digest.Digest.bytes c.args.root.now)
    g.met.H.Hasher.sized g.F.Family.births g.met.F.Family.numbered g.met.F.Family.peaked born g.met.F.Graftable.prompt (power_most 3 height (omega (arith, span, g.met.N.Chunks.least))) ordered ops proof made rooted is c.note_claim.ensures)
