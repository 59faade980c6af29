use Rattle.std.proofs.Common.{false}
use Rattle.qm_model.specs.Forms.{Form}
use Rattle.qm_model.specs.RangeProofs.{operation_proof}
use Rattle.qm_graft.specs.Grafting.{grafting}
use Rattle.qm_shown.proofs.Keys.{made-at}
use Rattle.qm_shown.proofs.unordered.key_value_proof.Goals as goal

pub returns-in-Ok-clause-proof : goal.returns-in-Ok-clause-proof
returns-in-Ok-clause-proof g c = λ list stands own.
    let form : Form = record { ordered = false; sizes = g.V.ValueEncoding.fixed; is_key = g.K.ByteString.has; is_value = g.V.Value.ByteString.has } in
    made-at list (g.K.ByteString.bytes c.args.key.now) _ _ (operation_proof g.H.Hasher.hash g.F.Family.shape (grafting g.N.Chunks.LEN) form list) _ (c.in-Ok.ensures.update list stands own) (c.in-Ok.ensures.proof list stands own)
