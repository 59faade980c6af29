-- The verdict on what was read.
use Rattle.std.proofs.Common.{arith, ap, sym, ◌∙◌, Option, Some, None}
use Rattle.std.specs.Prelude.{option_map}
use Rattle.qm_graft.specs.Grafting.{grafting}
use Rattle.qm_graft.proofs.Fitting.{grafting-span}
use Rattle.qm_client.specs.Provable.{claim_view}
use Rattle.qm_client.specs.Views.{proof_view}
use Rattle.qm_client.proofs.Checked.{checked-found}
use Rattle.qm_client.proofs.claim.verdict_of.Goals as goal

pub returns-in-Some : goal.returns-in-Some
returns-in-Some g c =
    let size = g.N.Chunks.LEN in
    let power = g.met.N.Chunks.power in
    let view = proof_view g.H.Digest.Digest.bytes in
    ap Some c.shows.ensures ∙ checked-found g.H.Hasher.hash g.F.Family.shape (grafting size) size g.H.Digest.Digest.SIZE (omega (arith, grafting-span size power.0 power.1)) c.args.bytes.now (claim_view c.args.claim.now) (g.H.Digest.Digest.bytes c.args.root.now)
    (Some (view c.in-Some.proof)) (sym (ap (option_map view) c.in-Some.is) ∙ c.in_ok-proof.ensures.decoded)

pub returns-in-None : goal.returns-in-None
returns-in-None g c =
    let size = g.N.Chunks.LEN in
    let power = g.met.N.Chunks.power in
    checked-found g.H.Hasher.hash g.F.Family.shape (grafting size) size g.H.Digest.Digest.SIZE (omega (arith, grafting-span size power.0 power.1)) c.args.bytes.now (claim_view c.args.claim.now) (g.H.Digest.Digest.bytes c.args.root.now)
    None (sym (ap (option_map (proof_view g.H.Digest.Digest.bytes)) c.in-None.is) ∙ c.in_ok-proof.ensures.decoded)
